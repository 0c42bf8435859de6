-- Document 01's number and values for every case of each answer: number 0 is no refusal, and a refused call has count 0 (document 01, "Refusal numbers"). Assumes nothing.
use Rattle.std.specs.Prelude.{ℕ, List, [], ◌∷◌, Result, Ok, Err}
use Rattle.writer.specs.declared.Writer.{Writer}
use Rattle.writer.specs.Writer.{Added, Finished}
use Rattle.format.specs.declared.refusals.Refusal.{Refusal}

-- ---- beginning: the number, and none or one writer

abbrev pub begun_number : Result Writer Refusal → ℕ
begun_number (Ok w) = 0
begun_number (Err k) = k.number

abbrev pub begun_writer : Result Writer Refusal → List Writer
begun_writer (Ok w) = w ∷ []
begun_writer (Err k) = []

-- ---- adding: the number, the count and the next writer

abbrev pub added_number : Added → ℕ
added_number (Ok n, w) = 0
added_number (Err k, w) = k.number

abbrev pub added_count : Added → ℕ
added_count (Ok n, w) = n
added_count (Err k, w) = 0

abbrev pub added_writer : Added → Writer
added_writer (Ok n, w) = w
added_writer (Err k, w) = w

-- ---- finishing: the number, the count and the writer

abbrev pub finished_number : Finished → ℕ
finished_number (Ok n, w) = 0
finished_number (Err k, w) = k.number

abbrev pub finished_count : Finished → ℕ
finished_count (Ok n, w) = n
finished_count (Err k, w) = 0

abbrev pub finished_writer : Finished → Writer
finished_writer (Ok n, w) = w
finished_writer (Err k, w) = w
