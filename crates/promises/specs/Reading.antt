-- A tag read whole: opening, then steps, each with the work buffer as the call before left it (document 01, "Header and walk"). Assumes nothing.
use Rattle.std.specs.Prelude.{ℕ, zero, suc, List, [], ◌∷◌, length, Result}
use Rattle.format.specs.Record.{Rec, view_of}
use Rattle.format.specs.declared.Record.{Record}
use Rattle.reader.specs.Reader.{open_of, step_of, Step}
use Rattle.reader.specs.Answers.{opened_number, opened_reader, step_number, step_record, step_reader}
use Rattle.reader.specs.declared.Reader.{Reader}
use Rattle.format.specs.declared.refusals.Refusal.{Refusal}

-- how a reading ends: at the end of the tag, with a refusal, or not within the steps allowed
pub data Ending : Type 0 where
  ended : Ending
  refused : ℕ → Ending
  unfinished : Ending

-- by the number of a call that gives nothing: 0 is the end
abbrev pub ending_of : ℕ → Ending
ending_of zero = ended
ending_of (suc k) = refused (suc k)

-- the records, each viewed in the buffers as they stand when its call returns, and the ending
abbrev pub Reading : Type 0
Reading = List Rec × Ending

abbrev pub and_record : Rec → Reading → Reading
and_record r o = (r ∷ o.0, o.1)

-- by a step's number and its none or one record
abbrev pub on_number : (Reader → List ℕ → Reading) → List ℕ → ℕ → List Record → Reader → List ℕ → Reading
on_number go tag k [] r work = ([], ending_of k)
on_number go tag k (rec ∷ l) r work = and_record (view_of rec tag work) (go r work)

abbrev pub on_step : (Reader → List ℕ → Reading) → List ℕ → Step → List ℕ → Reading
on_step go tag s work = on_number go tag (step_number s) (step_record s) (step_reader s) work

-- in at most so many steps
unfoldable pub read_from : ℕ → List ℕ → Reader → List ℕ → Reading
read_from zero tag r work = ([], unfinished)
read_from (suc n) tag r work = on_step (read_from n tag) tag (step_of r tag work).0 (step_of r tag work).1

-- by opening's number and its none or one reader
abbrev pub on_reader : ℕ → List ℕ → ℕ → List Reader → List ℕ → Reading
on_reader n tag k [] work = ([], refused k)
on_reader n tag k (r ∷ l) work = read_from n tag r work

abbrev pub on_open : ℕ → List ℕ → Result Reader Refusal → List ℕ → Reading
on_open n tag o work = on_reader n tag (opened_number o) (opened_reader o) work

unfoldable pub read_for : ℕ → List ℕ → List ℕ → Reading
read_for n tag work = on_open n tag (open_of tag work).0 (open_of tag work).1

-- as many steps as the tag has bytes are enough
abbrev pub read_all : List ℕ → List ℕ → Reading
read_all tag work = read_for (length tag) tag work
