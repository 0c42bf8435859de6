-- The zeros in front of a counter, one by one. Assumes nothing.
use mathlib.Core.Path.{◌≡◌, refl, ap, sym, ◌∙◌}
use Prim.Native.Nat.{ℕ, ◌+◌, ◌-◌, ◌≤◌, ◌<◌}
use native.Mathlib.Omega.{arith}
use mathlib.Core.List.{List, ◌∷◌}
use lib.ListN.{length, take, get_or}
use lib.Seq.{slice, take_all}
use Rattle.laws.proofs.Cuts.{length_cut}
use Rattle.laws.proofs.Slices.{slice_next}
use Rattle.format.specs.Numbers.{onto, number}
use Rattle.format.proofs.Numbers.{number_large}
use Rattle.frame.specs.Bodies.{Begins}

-- the bytes before i are passed: without them it is the same number
pub record Skipped (from to : ℕ) (s : List ℕ) (i : ℕ) : Type 0 where
  pub order : i ≤ to
  pub same : number (slice i to s) ≡ number (slice from to s)

module _ (from to : ℕ) (s : List ℕ) (within : to ≤ length s) where
  module _ (i : ℕ) (h : Skipped from to s i) where
    module _ (more : 8 < to - i) where
      next : slice i to s ≡ get_or s i 0 ∷ slice (i + 1) to s
      next = slice_next i to s (omega arith) within

      pub skip : get_or s i 0 ≡ 0 → Skipped from to s (i + 1)
      unfolding onto
      skip z =
          let e : number (slice i to s) ≡ number (slice (i + 1) to s) = rw (next, z) refl in
          record { order = omega arith; same = sym e ∙ h.same }

      -- a byte other than 0 before eight others
      pub begins_large : (get_or s i 0 ≡ 0 → ⊥) → Begins from to s i
      begins_large some =
          let long : 8 ≤ length (slice (i + 1) to s) = rw length_cut (omega arith) in
          record { within = h.order; same = h.same; large = λ m. rw next (number_large 8 (get_or s i 0) (slice (i + 1) to s) some long) }

    pub begins_last : to - i ≤ 8 → Begins from to s i
    begins_last few = record { within = h.order; same = h.same; large = λ m. absurd (omega arith) }

-- a counter of no more than eight bytes is read whole
pub counter_read : (from to r n : ℕ) (s : List ℕ) → Begins from to s r → to - r ≤ 8 → n ≡ number (take 8 (slice r to s)) → n ≡ number (slice from to s)
counter_read from to r n s b few e =
    e ∙ ap number (take_all 8 (slice r to s) (rw length_cut (omega arith))) ∙ b.same
