-- What putting bytes at a pen does, and what measuring them answers (document 01, "Writing"). Assumes nothing.
use Rattle.std.specs.Prelude.{◌≡◌, ◌⊎◌, ℕ, ◌+◌, ◌^◌, ◌≤◌, List, length}
use Rattle.std.proofs.lemmas.List.Edits.{sets}
use Rattle.format.specs.Unsynch.{guards, unsync, ends_ff}
use Rattle.format.specs.declared.Mode.{Mode}
use Rattle.writer.specs.declared.pens.Pen.{Pen}

-- the pen after the bytes s
abbrev pub pen_after : Mode → Pen → List ℕ → Pen
pen_after m pen s = record { at = pen.at + length (unsync (guards m) pen.prev s); prev = ends_ff pen.prev s }

abbrev pub Putting : Type 0
Putting = Pen × List ℕ

-- the bytes s are put at a pen: the pen after them, and the buffer
abbrev pub put_of : Mode → Pen → List ℕ → List ℕ → Putting
put_of m pen s buffer = (pen_after m pen s, sets buffer pen.at (unsync (guards m) pen.prev s))

-- ---- measuring: the number itself, or, where that is 2^28 or more, any number from 2^28 on

abbrev pub Near : {A : Type 0} → (A → ℕ) → A → A → Type 0
Near size exact r = (r ≡ exact) ⊎ ((2 ^ 28 ≤ size exact) × (2 ^ 28 ≤ size r))

abbrev pub Sized : ℕ → ℕ → Type 0
Sized exact r = Near (λ n. n) exact r

-- a pen by its place
abbrev pub Paced : Pen → Pen → Type 0
Paced exact r = Near (λ pen. pen.at) exact r
