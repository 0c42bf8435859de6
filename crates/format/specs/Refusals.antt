-- Refusals by their numbers, and what a check answers (document 01, "Refusal numbers"). Assumes nothing.
use Rattle.std.specs.Prelude.{ℕ, Result, Ok, Err, List, eqb}
use Rattle.format.specs.Bytes.{pick}
use Rattle.format.specs.declared.refusals.Refusal.{Refusal}

-- the refusal with a number
abbrev pub refusal : ℕ → Refusal
refusal k = record { number = k }

-- a value, or the refusal of a check's number that is not 0
abbrev pub checked : {A : Type 0} → ℕ → A → Result A Refusal
checked k x = pick (eqb k 0) (Ok x) (Err (refusal k))

-- a check's number alone
abbrev pub passed : ℕ → Result Unit Refusal
passed k = checked k tt

-- the same of a number with the bytes that a call leaves
abbrev pub passed_with : ℕ × List ℕ → Result Unit Refusal × List ℕ
passed_with o = (passed o.0, o.1)

-- document 01's number of an answer: 0 is no refusal
abbrev pub number_in : {A : Type 0} → Result A Refusal → ℕ
number_in (Ok x) = 0
number_in (Err e) = e.number
