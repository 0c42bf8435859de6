-- What each call returns with a refusal, by its number: no value, count 0, and all as before (document 01, "Refusal numbers"). Assumes nothing.
use Rattle.std.specs.Prelude.{◌≡◌, ℕ, suc, ◌+◌, Bool, List, []}
use Rattle.format.specs.Record.{Rec}
use Rattle.writer.specs.Writer.{begin_of, add_of, finish_of}
use Rattle.writer.specs.Answers.{begun_number, begun_writer, added_number, added_count, added_writer, finished_number, finished_count, finished_writer}
use Rattle.writer.specs.declared.Writer.{Writer}
use Rattle.reader.specs.Reader.{header_of, open_of, step_of}
use Rattle.reader.specs.Answers.{headed_number, headed_fields, opened_number, opened_reader, step_number, step_record}
use Rattle.reader.specs.declared.Reader.{Reader}

-- ---- writing

-- Beginning is refused with 2 alone, and gives no writer then.
abbrev pub RefusedBegin : Type 0
RefusedBegin = (version mode : ℕ) (altered : Bool) (k : ℕ) →
    let o = begin_of version mode altered in
    begun_number o ≡ suc k → (suc k ≡ 2) × (begun_writer o ≡ [])

-- Adding: count 0, and writer and collecting buffer as before.
abbrev pub RefusedAdd : Type 0
RefusedAdd = (w : Writer) (r : Rec) (buffer : List ℕ) (k : ℕ) →
    let o = add_of w r buffer in
    added_number o.0 ≡ suc k → (added_count o.0 ≡ 0) × (added_writer o.0 ≡ w) × (o.1 ≡ buffer)

-- Finishing: count 0, and writer and output as before.
abbrev pub RefusedFinish : Type 0
RefusedFinish = (w : Writer) (padding : ℕ) (buffer output : List ℕ) (k : ℕ) →
    let o = finish_of w padding buffer output in
    finished_number o.0 ≡ suc k → (finished_count o.0 ≡ 0) × (finished_writer o.0 ≡ w) × (o.1 ≡ output)

-- The count that adding reports is what the writer has more in its buffer, refused or not.
abbrev pub AddCounts : Type 0
AddCounts = (w : Writer) (r : Rec) (buffer : List ℕ) →
    let o = (add_of w r buffer).0 in
    (added_writer o).used ≡ w.used + added_count o

-- ---- reading

-- A refused header has no fields.
abbrev pub RefusedHeader : Type 0
RefusedHeader = (tag : List ℕ) (k : ℕ) → headed_number (header_of tag) ≡ suc k → headed_fields (header_of tag) ≡ []

-- Opening: no reader, and the work buffer as before.
abbrev pub RefusedOpen : Type 0
RefusedOpen = (tag work : List ℕ) (k : ℕ) →
    let o = open_of tag work in
    opened_number o.0 ≡ suc k → (opened_reader o.0 ≡ []) × (o.1 ≡ work)

-- A step, of any reader: no record.
abbrev pub RefusedStep : Type 0
RefusedStep = (r : Reader) (tag work : List ℕ) (k : ℕ) →
    let o = (step_of r tag work).0 in
    step_number o ≡ suc k → step_record o ≡ []
