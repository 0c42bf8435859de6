-- Document 01's number and values for every case of the answer: number 0 is no refusal, and a refused call has count 0 (document 01, "What form each place needs"). Assumes nothing.
use Rattle.std.specs.Prelude.{ℕ, List, [], ◌∷◌}
use Rattle.format.specs.declared.Record.{Record}
use Rattle.std.specs.Prelude.{Result, Option, Ok, Err, Some, None}
use Rattle.format.specs.declared.refusals.Refusal.{Refusal}

-- ---- there and back: the number, the count of the tag, and none or one record; neither a refusal nor a record is a tag that was not read so

abbrev pub back_number : Result (Option (ℕ × Record)) Refusal → ℕ
back_number (Ok (Some (n, rec))) = 0
back_number (Err k) = k.number
back_number (Ok None) = 0

abbrev pub back_count : Result (Option (ℕ × Record)) Refusal → ℕ
back_count (Ok (Some (n, rec))) = n
back_count (Err k) = 0
back_count (Ok None) = 0

abbrev pub back_record : Result (Option (ℕ × Record)) Refusal → List Record
back_record (Ok (Some (n, rec))) = rec ∷ []
back_record (Err k) = []
back_record (Ok None) = []
