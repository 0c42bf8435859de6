-- A tag that was written, call by call (document 01, "Writing"). Assumes nothing.
use Rattle.std.specs.Prelude.{◌≡◌, ℕ, suc, Bool, false, List, [], ◌∷◌, take}
use Rattle.format.specs.Bytes.{pick}
use Rattle.format.specs.Record.{Rec, Fits}
use Rattle.format.specs.Encode.{is_lost}
use Rattle.format.specs.declared.Version.{Version}
use Rattle.writer.specs.Writer.{begin_of, add_of, finish_of}
use Rattle.writer.specs.Answers.{begun_writer, added_number, added_writer, finished_number, finished_count, finished_writer}
use Rattle.writer.specs.declared.Writer.{Writer}

-- From a writer and a collecting buffer the calls of add answer 0 for just these records, in this order, and leave that writer and that buffer.
-- Between them may stand calls of add that answer a refusal's number, and calls of finish, whatever these answer.
-- Each call takes the writer as the call before left it, and the buffer as the call of add before left it.
pub data Adds : Writer → List ℕ → List Rec → Writer → List ℕ → Type 0 where
  none : {w : Writer} {b : List ℕ} → Adds w b [] w b
  accepted : {w w' : Writer} {b b' : List ℕ} {r : Rec} {rs : List Rec} → Fits r.content → added_number (add_of w r b).0 ≡ 0
      → Adds (added_writer (add_of w r b).0) (add_of w r b).1 rs w' b' → Adds w b (r ∷ rs) w' b'
  declined : {w w' : Writer} {b b' : List ℕ} {rs : List Rec} {k : ℕ} (r : Rec) → added_number (add_of w r b).0 ≡ suc k
      → Adds (added_writer (add_of w r b).0) (add_of w r b).1 rs w' b' → Adds w b rs w' b'
  finished : {w w' : Writer} {b b' : List ℕ} {rs : List Rec} (padding : ℕ) (output : List ℕ)
      → Adds (finished_writer (finish_of w padding b output).0) b rs w' b' → Adds w b rs w' b'

-- A writer is begun, takes the records into a buffer that held anything, and is finished into an output that held anything:
-- the part that the count reports is the tag.
pub record WrittenAs (version mode : ℕ) (altered : Bool) (padding : ℕ) (records : List Rec) (tag : List ℕ) : Type 0 where
  pub first : Writer
  pub last : Writer
  pub collecting : List ℕ
  pub collected : List ℕ
  pub output : List ℕ
  pub begins : begun_writer (begin_of version mode altered) ≡ first ∷ []
  pub adds : Adds first collecting records last collected
  pub done : finished_number (finish_of last padding collected output).0 ≡ 0
  pub reported : tag ≡ take (finished_count (finish_of last padding collected output).0) (finish_of last padding collected output).1

-- with the altered mark off
abbrev pub Written : ℕ → ℕ → ℕ → List Rec → List ℕ → Type 0
Written version mode padding records tag = WrittenAs version mode false padding records tag

-- the records that are kept: all but those that an altered file loses
abbrev pub kept_of : Version → Bool → List Rec → List Rec
kept_of v altered [] = []
kept_of v altered (r ∷ rs) = let more = kept_of v altered rs in pick (is_lost v altered r.id) more (r ∷ more)
