-- Document 01's number and values for every case of the answers about a frame: number 0 is no refusal (document 01, "What form each place needs"). Assumes nothing.
use Rattle.std.specs.Prelude.{ℕ, List, [], ◌∷◌}
use Rattle.format.specs.Record.{Rec, view_of}
use Rattle.format.specs.declared.Head.{Head}
use Rattle.format.specs.declared.Record.{Record}
use Rattle.format.specs.Walk.{Shown}
use Rattle.std.specs.Prelude.{Result, Option, Ok, Err, Some, None}
use Rattle.format.specs.declared.refusals.Refusal.{Refusal}

abbrev pub head_number : Result (Option Head) Refusal → ℕ
head_number (Ok None) = 0
head_number (Err k) = k.number
head_number (Ok (Some h)) = 0

abbrev pub shown_number : Shown → ℕ
shown_number (Ok None) = 0
shown_number (Err k) = k.number
shown_number (Ok (Some (r, next))) = 0

-- none or one record
abbrev pub shown_record : Shown → List Record
shown_record (Ok None) = []
shown_record (Err k) = []
shown_record (Ok (Some (r, next))) = r ∷ []

-- the same as it is seen in the buffers
abbrev pub shown_view : Shown → List ℕ → List ℕ → List Rec
shown_view (Ok None) tag work = []
shown_view (Err k) tag work = []
shown_view (Ok (Some (r, next))) tag work = view_of r tag work ∷ []
