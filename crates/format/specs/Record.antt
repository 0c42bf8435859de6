-- Records: what a body holds, where its parts lie, and a record as such (document 01, "Five kinds", "Header and walk"). Assumes nothing.
use Rattle.std.specs.Prelude.{ℕ, ◌+◌, ◌-◌, ◌^◌, ◌<◌, Bool, List, [], length, drop, get_or}
use Rattle.format.specs.Bytes.{pick, span, part, zero_at}
use Rattle.format.specs.Text.{text_refusal, text_end}
use Rattle.format.specs.Popularimeter.{popularimeter_refusal, rating_in, counter_in}
use Rattle.format.specs.Table.{table_refusal, frames_in, bytes_in, millis_in, byte_bits_in, milli_bits_in, unpack}
use Rattle.format.specs.Chapter.{chapter_refusal, time_in, chapter_run, contents_refusal, names_in, top_level_in, ordered_in, contents_run}
use Rattle.format.specs.declared.Version.{Version}
use Rattle.format.specs.declared.Kind.{Kind}
use Rattle.format.specs.declared.Span.{Span}
use Rattle.format.specs.declared.Fields.{Fields}
use Rattle.format.specs.declared.Parts.{Parts}
use Rattle.format.specs.declared.Heading.{Heading}
use Rattle.format.specs.declared.Given.{Given}
use Rattle.format.specs.declared.Record.{Record}

-- ---- a body of a kind

-- what a body is refused for, before its run of subframes is walked
unfoldable pub body_refusal : Kind → List ℕ → ℕ
body_refusal Kind.Text b = text_refusal b
body_refusal Kind.Popularimeter b = popularimeter_refusal b
body_refusal Kind.Table b = table_refusal b
body_refusal Kind.Chapter b = chapter_refusal b
body_refusal Kind.Contents b = contents_refusal b
body_refusal Kind.Raw b = 0

-- the run of subframes, of those kinds that have one
unfoldable pub run_of : Kind → List ℕ → List ℕ
run_of Kind.Text b = []
run_of Kind.Popularimeter b = []
run_of Kind.Table b = []
run_of Kind.Chapter b = drop (chapter_run b) b
run_of Kind.Contents b = drop (contents_run b) b
run_of Kind.Raw b = []

abbrev pub nowhere : Span
nowhere = span 0 0

-- the fields and the parts of a body that is not refused and lies at a place of its buffer
unfoldable pub parts_of : Version → Kind → ℕ → List ℕ → Parts
parts_of v Kind.Text at b = record {
  fields = Fields.Text (get_or b 0 0);
  name = nowhere;
  names = nowhere;
  rest = span (at + 1) (text_end v (get_or b 0 0) (drop 1 b));
}
parts_of v Kind.Popularimeter at b = record {
  fields = Fields.Popularimeter (rating_in b) (counter_in b);
  name = span at (zero_at b);
  names = nowhere;
  rest = nowhere;
}
parts_of v Kind.Table at b = record {
  fields = Fields.Table (frames_in b) (bytes_in b) (millis_in b) (byte_bits_in b) (milli_bits_in b);
  name = nowhere;
  names = nowhere;
  rest = span (at + 10) (length b - 10);
}
parts_of v Kind.Chapter at b = record {
  fields = Fields.Chapter (time_in 0 b) (time_in 1 b) (time_in 2 b) (time_in 3 b);
  name = span at (zero_at b);
  names = nowhere;
  rest = span (at + chapter_run b) (length b - chapter_run b);
}
parts_of v Kind.Contents at b = record {
  fields = Fields.Contents (top_level_in b) (ordered_in b);
  name = span at (zero_at b);
  names = span (at + (zero_at b + 3)) (names_in b);
  rest = span (at + contents_run b) (length b - contents_run b);
}
parts_of v Kind.Raw at b = record { fields = Fields.Raw; name = nowhere; names = nowhere; rest = span at (length b) }

-- ---- a record as such: what was written and what is read are compared as these

-- a constructor for each kind, with what the kind has and nothing else
pub data Content : Type 0 where
  text : (encoding : ℕ) (bytes : List ℕ) → Content
  popularimeter : (user : List ℕ) (rating counter : ℕ) → Content
  table : (frames bytes millis bitsForBytes bitsForMillis : ℕ) (deviations : List ℕ) → Content
  chapter : (element : List ℕ) (startTime endTime startOffset endOffset : ℕ) (run : List ℕ) → Content
  contents : (element : List ℕ) (topLevel ordered : Bool) (children run : List ℕ) → Content
  raw : (body : List ℕ) → Content

pub record Rec : Type 0 where
  pub id : ℕ
  pub short : Bool
  pub compressed : Bool
  pub content : Content

-- the numbers of a record are of the types that the code has for them
abbrev pub Fits : Content → Type 0
Fits (text e s) = Unit {0}
Fits (popularimeter user rating counter) = counter < 2 ^ 64
Fits (table frames bytes millis v w ds) = frames < 2 ^ 16
Fits (chapter element a b c d run) = (a < 2 ^ 32) × (b < 2 ^ 32) × (c < 2 ^ 32) × (d < 2 ^ 32)
Fits (contents element t o children run) = Unit {0}
Fits (raw body) = Unit {0}

abbrev pub content_of : Fields → List ℕ → List ℕ → List ℕ → List ℕ → Content
content_of (Fields.Text e) name names rest ds = text e rest
content_of (Fields.Popularimeter r c) name names rest ds = popularimeter name r c
content_of (Fields.Table f b m v w) name names rest ds = table f b m v w ds
content_of (Fields.Chapter a b c d) name names rest ds = chapter name a b c d rest
content_of (Fields.Contents t o) name names rest ds = contents name t o names rest
content_of Fields.Raw name names rest ds = raw rest

-- a heading and the bytes given with it: those that the kind lacks are not looked at
abbrev pub rec_of : Heading → List ℕ → List ℕ → List ℕ → List ℕ → Rec
rec_of h name names rest deviations = record {
  id = h.id;
  short = h.short;
  compressed = h.compressed;
  content = content_of h.fields name names rest deviations;
}

-- the same of what is given in one struct
abbrev pub given_content : Fields → Given → Content
given_content fields g = content_of fields g.name.now g.names.now g.rest.now g.deviations.now

abbrev pub given_rec : Heading → Given → Rec
given_rec h g = rec_of h g.name.now g.names.now g.rest.now g.deviations.now

-- the deviations that the packed references of a table hold
abbrev pub deviations_of : Fields → List ℕ → List ℕ
deviations_of (Fields.Text e) rest = []
deviations_of (Fields.Popularimeter r c) rest = []
deviations_of (Fields.Table f b m v w) rest = unpack v w rest
deviations_of (Fields.Chapter a b c d) rest = []
deviations_of (Fields.Contents t o) rest = []
deviations_of Fields.Raw rest = []

-- the record that is shown, its parts taken from the buffers as they stand
abbrev pub buffer_of : Record → List ℕ → List ℕ → List ℕ
buffer_of r tag work = pick r.in_work work tag

unfoldable pub view_of : Record → List ℕ → List ℕ → Rec
view_of r tag work =
    let s = buffer_of r tag work in
    rec_of r.heading (part r.name s) (part r.names s) (part r.rest s) (deviations_of r.heading.fields (part r.rest s))
