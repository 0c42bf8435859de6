-- Document 01's number and values for every case of the answers about a body: number 0 is no refusal (document 01, "What form each place needs"). Assumes nothing.
use Rattle.std.specs.Prelude.{ℕ, List, [], ◌∷◌}
use Rattle.format.specs.declared.Parts.{Parts}
use Rattle.std.specs.Prelude.{Result, Ok, Err}
use Rattle.format.specs.declared.refusals.Refusal.{Refusal}

-- ---- a body: the number, and none or one set of parts

abbrev pub parsed_number : Result Parts Refusal → ℕ
parsed_number (Err k) = k.number
parsed_number (Ok p) = 0

abbrev pub parsed_parts : Result Parts Refusal → List Parts
parsed_parts (Err k) = []
parsed_parts (Ok p) = p ∷ []

-- ---- all deviations: the number, and the count, which a refused call has as 0

abbrev pub put_number : Result ℕ Refusal → ℕ
put_number (Ok n) = 0
put_number (Err k) = k.number

abbrev pub put_count : Result ℕ Refusal → ℕ
put_count (Ok n) = n
put_count (Err k) = 0
