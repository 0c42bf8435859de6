-- Headers, readers, records and writers as words, in the places that include/streamvault.h names. Assumes nothing.
use Rattle.std.specs.Prelude.{ℕ, ◌-◌, ◌^◌, ◌≤◌, ◌<◌, min, Bool, true, false, not, ◌&&◌, List, [], ◌∷◌, get_or, ltb, leb, eqb, Option, Some, None}
use Rattle.std.proofs.lemmas.List.Edits.{sets}
use Rattle.format.specs.Bytes.{pick}
use Rattle.format.specs.Header.{version_of}
use Rattle.format.specs.Numbered.{is_version, mode_number, mode_of, version_number}
use Rattle.format.specs.Ids.{kind_number}
use Rattle.format.specs.declared.Kind.{Kind}
use Rattle.format.specs.declared.Fields.{Fields}
use Rattle.format.specs.declared.Heading.{Heading}
use Rattle.format.specs.declared.Record.{Record}
use Rattle.reader.specs.declared.Header.{Header}
use Rattle.reader.specs.declared.Stop.{Stop}
use Rattle.reader.specs.declared.Reader.{Reader}
use Rattle.writer.specs.Writer.{is_known}
use Rattle.writer.specs.declared.Writer.{Writer}
use Rattle.capi.specs.declared.records.Numbers.{Numbers}
use Rattle.format.specs.Refusals.{refusal}

-- ---- a word: 0 where there is none

abbrev pub word : ℕ → List ℕ → ℕ
word i words = get_or words i 0

-- no and yes are 0 and 1
abbrev pub flag : Bool → ℕ
flag false = 0
flag true = 1

abbrev pub is_flag : ℕ → Bool
is_flag n = leb n 1

-- no or yes, if a word says it
abbrev pub flag_in : ℕ → Option Bool
flag_in n = pick (is_flag n) (Some (eqb n 1)) None

-- ---- a header, four words

unfoldable pub header_words : Header → List ℕ → List ℕ
header_words h words = sets words 0 (version_number h.version ∷ h.flags ∷ h.size ∷ h.ext ∷ [])

-- ---- a reader, seven words

-- running, ended, refused are 0, 1, 2
abbrev pub stop_number : Stop → ℕ
stop_number Stop.Running = 0
stop_number Stop.Ended = 1
stop_number (Stop.Failed k) = 2

-- the refusal's number, 0 for none
abbrev pub failure : Stop → ℕ
failure Stop.Running = 0
failure Stop.Ended = 0
failure (Stop.Failed k) = k.number

abbrev pub stop_of : ℕ → ℕ → Stop
stop_of stop number = pick (eqb stop 0) Stop.Running (pick (eqb stop 1) Stop.Ended (Stop.Failed (refusal number)))

-- 2 has a number of 1 to 255, 0 and 1 have 0
abbrev pub is_stop : ℕ → ℕ → Bool
is_stop stop number = pick (eqb stop 2) (leb 1 number && leb number 255) (leb stop 1 && eqb number 0)

-- how a reader has stopped, if two words say it
abbrev pub stop_in : ℕ → ℕ → Option Stop
stop_in stop number = pick (is_stop stop number) (Some (stop_of stop number)) None

abbrev pub reader_list : Reader → List ℕ
reader_list r =
    version_number r.version
    ∷ flag r.in_work
    ∷ r.begin
    ∷ r.at
    ∷ r.end
    ∷ stop_number r.stop
    ∷ failure r.stop
    ∷ []

unfoldable pub reader_words : Reader → List ℕ → List ℕ
reader_words r words = sets words 0 (reader_list r)

abbrev pub is_reader : ℕ → ℕ → ℕ → ℕ → Bool
is_reader version inWork stop number = is_version version && (is_flag inWork && is_stop stop number)

unfoldable pub reader_of : List ℕ → Option Reader
reader_of words =
    pick (is_reader (word 0 words) (word 1 words) (word 5 words) (word 6 words))
    (Some (record {
      version = version_of (word 0 words);
      in_work = eqb (word 1 words) 1;
      begin = word 2 words;
      at = word 3 words;
      end = word 4 words;
      stop = stop_of (word 5 words) (word 6 words);
    }))
    None

-- ---- a writer, four words

abbrev pub writer_list : Writer → List ℕ
writer_list w = version_number w.version ∷ mode_number w.mode ∷ flag w.altered ∷ w.used ∷ []

unfoldable pub writer_words : Writer → List ℕ → List ℕ
writer_words w words = sets words 0 (writer_list w)

unfoldable pub writer_of : List ℕ → Option Writer
writer_of words =
    pick (is_known (word 0 words) (word 1 words) && is_flag (word 2 words))
    (Some (record {
      version = version_of (word 0 words);
      mode = mode_of (word 1 words);
      altered = eqb (word 2 words) 1;
      used = word 3 words;
    }))
    None

-- ---- a record, nineteen words: what it is, nine words; then where it lies

abbrev pub numbers : Kind → ℕ → ℕ → ℕ → ℕ → ℕ → Numbers
numbers kind a b c d e = record { kind = kind_number kind; a = a; b = b; c = c; d = d; e = e }

-- the kind and its five numbers: those that it lacks are 0
abbrev pub numbers_of : Fields → Numbers
numbers_of (Fields.Text encoding) = numbers Kind.Text encoding 0 0 0 0
numbers_of (Fields.Popularimeter rating counter) = numbers Kind.Popularimeter rating counter 0 0 0
numbers_of (Fields.Table frames bytes millis v w) = numbers Kind.Table frames bytes millis v w
numbers_of (Fields.Chapter start end from to) = numbers Kind.Chapter start end from to 0
numbers_of (Fields.Contents topLevel ordered) = numbers Kind.Contents (flag topLevel) (flag ordered) 0 0 0
numbers_of Fields.Raw = numbers Kind.Raw 0 0 0 0 0

abbrev pub heading_list : Heading → List ℕ
heading_list h =
    let n = numbers_of h.fields in
    n.kind ∷ h.id ∷ flag h.short ∷ flag h.compressed ∷ n.a ∷ n.b ∷ n.c ∷ n.d ∷ n.e ∷ []

abbrev pub place_list : Record → List ℕ
place_list r =
    r.at
    ∷ flag r.in_work
    ∷ r.body.start
    ∷ r.body.len
    ∷ r.name.start
    ∷ r.name.len
    ∷ r.names.start
    ∷ r.names.len
    ∷ r.rest.start
    ∷ r.rest.len
    ∷ []

unfoldable pub record_words : Record → List ℕ → List ℕ
record_words r words = sets (sets words 0 (heading_list r.heading)) 9 (place_list r)

-- the fields of each kind: a number that a row of document 01's refusals speaks of counts as the largest of its type where it is
-- beyond it, and is then refused by that row (laws in proofs/Rows.antt); the others have to fit their types
abbrev pub cap8 : ℕ → ℕ
cap8 n = min n (2 ^ 8 - 1)

abbrev pub cap32 : ℕ → ℕ
cap32 n = min n (2 ^ 32 - 1)

abbrev pub fields_if : Bool → Fields → Option Fields
fields_if fit f = pick fit (Some f) None

abbrev pub text_if : ℕ → Option Fields
text_if encoding = Some (Fields.Text (cap8 encoding))

abbrev pub popularimeter_if : ℕ → ℕ → Option Fields
popularimeter_if rating counter = fields_if (ltb rating (2 ^ 8)) (Fields.Popularimeter rating counter)

abbrev pub table_if : ℕ → ℕ → ℕ → ℕ → ℕ → Option Fields
table_if frames bytes millis v w =
    fields_if (ltb frames (2 ^ 16)) (Fields.Table frames (cap32 bytes) (cap32 millis) (cap8 v) (cap8 w))

abbrev pub chapter_if : ℕ → ℕ → ℕ → ℕ → Option Fields
chapter_if start end from to =
    fields_if (ltb start (2 ^ 32) && (ltb end (2 ^ 32) && (ltb from (2 ^ 32) && ltb to (2 ^ 32)))) (Fields.Chapter start end from to)

abbrev pub contents_if : ℕ → ℕ → Option Fields
contents_if topLevel ordered = fields_if (is_flag topLevel && is_flag ordered) (Fields.Contents (eqb topLevel 1) (eqb ordered 1))

-- a kind and five numbers: those that it lacks are not looked at
unfoldable pub fields_of : ℕ → ℕ → ℕ → ℕ → ℕ → ℕ → Option Fields
fields_of kind a b c d e =
    pick (eqb kind 0) (text_if a)
    (pick (eqb kind 1) (popularimeter_if a b)
    (pick (eqb kind 2) (table_if a b c d e)
    (pick (eqb kind 3) (chapter_if a b c d)
    (pick (eqb kind 4) (contents_if a b)
    (pick (eqb kind 5) (Some Fields.Raw)
    None)))))

abbrev pub fields_in : List ℕ → Option Fields
fields_in words = fields_of (word 0 words) (word 4 words) (word 5 words) (word 6 words) (word 7 words) (word 8 words)

abbrev pub heading_with : ℕ → Bool → Bool → Option Fields → Option Heading
heading_with id short compressed (Some f) = Some (record { id = id; short = short; compressed = compressed; fields = f })
heading_with id short compressed None = None

-- a mark is any number but 0
abbrev pub is_mark : ℕ → Bool
is_mark n = not (eqb n 0)

unfoldable pub heading_of : List ℕ → Option Heading
heading_of words =
    pick (ltb (word 1 words) (2 ^ 32)) (heading_with (word 1 words) (is_mark (word 2 words)) (is_mark (word 3 words)) (fields_in words)) None

-- words that are no record stand for one whose id no edition has, so that adding refuses it with 21
abbrev pub heading_else : Option Heading → Heading
heading_else (Some h) = h
heading_else None = record { id = 0; short = false; compressed = false; fields = Fields.Raw }

abbrev pub heading_in : List ℕ → Heading
heading_in words = heading_else (heading_of words)

-- ---- what fits its words: numbers of the types that the code has for them, and no refusal without a number

abbrev pub StopFits : Stop → Type 0
StopFits Stop.Running = Unit {0}
StopFits Stop.Ended = Unit {0}
StopFits (Stop.Failed k) = (1 ≤ k.number) × (k.number ≤ 255)

abbrev pub FieldsFit : Fields → Type 0
FieldsFit (Fields.Text encoding) = encoding < 2 ^ 8
FieldsFit (Fields.Popularimeter rating counter) = rating < 2 ^ 8
FieldsFit (Fields.Table frames bytes millis v w) = (frames < 2 ^ 16) × (bytes < 2 ^ 32) × (millis < 2 ^ 32) × (v < 2 ^ 8) × (w < 2 ^ 8)
FieldsFit (Fields.Chapter start end from to) = (start < 2 ^ 32) × (end < 2 ^ 32) × (from < 2 ^ 32) × (to < 2 ^ 32)
FieldsFit (Fields.Contents topLevel ordered) = Unit {0}
FieldsFit Fields.Raw = Unit {0}

abbrev pub HeadingFits : Heading → Type 0
HeadingFits h = (h.id < 2 ^ 32) × FieldsFit h.fields
