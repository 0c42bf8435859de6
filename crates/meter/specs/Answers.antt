-- Document 01's number and values for every case of each answer: number 0 is no refusal (document 01, "What form each place needs"). Assumes nothing.
use Rattle.std.specs.Prelude.{ℕ, Result, Ok, Err, Some, None, List, [], ◌∷◌}
use Rattle.format.specs.declared.refusals.Refusal.{Refusal}
use Rattle.meter.specs.declared.Meter.{Meter}
use Rattle.meter.specs.declared.Metered.{Metered}
use Rattle.meter.specs.Meter.{Next}

-- ---- opening: the number, and none or one meter

abbrev pub opened_number : Result Meter Refusal → ℕ
opened_number (Ok m) = 0
opened_number (Err k) = k.number

abbrev pub opened_meter : Result Meter Refusal → List Meter
opened_meter (Ok m) = m ∷ []
opened_meter (Err k) = []

-- ---- the next popularimeter: the number, none or one popularimeter, and the moved meter; neither a refusal nor a popularimeter is the end

abbrev pub next_number : Next → ℕ
next_number (Ok (Some p), m) = 0
next_number (Ok None, m) = 0
next_number (Err k, m) = k.number

abbrev pub next_metered : Next → List Metered
next_metered (Ok (Some p), m) = p ∷ []
next_metered (Ok None, m) = []
next_metered (Err k, m) = []

abbrev pub next_meter : Next → Meter
next_meter (Ok (Some p), m) = m
next_meter (Ok None, m) = m
next_meter (Err k, m) = m
