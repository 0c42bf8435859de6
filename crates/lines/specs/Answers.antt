-- Document 01's number and value for every case of the answer: 20 where a buffer is too small, and 0 for no refusal (document 01, "What form each place needs"). Assumes nothing.
use Rattle.std.specs.Prelude.{ℕ, List, [], ◌∷◌}
use Rattle.std.specs.Prelude.{Option, Some, None}

abbrev pub placed_number : Option ℕ → ℕ
placed_number (Some n) = 0
placed_number None = 20

-- none or one place after what was put
abbrev pub placed_upto : Option ℕ → List ℕ
placed_upto (Some n) = n ∷ []
placed_upto None = []
