-- Whole lines or nothing: what is put into an empty part of a buffer tells its length and changes nothing. Assumes nothing.
use mathlib.Core.Path.{◌≡◌, ap, sym, ◌∙◌}
use mathlib.Core.Bool.{Bool, true, false}
use mathlib.Core.List.{List, [], ◌++◌}
use Prim.Native.Nat.{ℕ, ◌+◌, ◌^◌, ◌<◌}
use native.Mathlib.Omega.{arith}
use lib.ListN.{length}
use lib.Dec.{leb}
use borrow.Author.Tests.{leb-true, lt-leb}
use Rattle.laws.proofs.Chains.{sets_out}
use Rattle.lines.specs.Placed.{placed_of, Room, Wrote}
use Rattle.std.specs.Prelude.{Some, None}

-- a buffer that is shorter than the line
pub no_room : (line : List ℕ) (at : ℕ) (o : List ℕ) → length o < length line → (None, o) ≡ placed_of line at o
unfolding placed_of
no_room line at o h = sym (rw (lt-leb (at + length line) (length o) (omega arith)))

-- a line was put into the empty part in front of o, and f says whether it fits there from a place on
module _ (line : List ℕ) (at : ℕ) (o : List ℕ) {e : List ℕ} {len : ℕ} (w : Wrote [] 0 line e len) {f : Bool} (t : f ≡ leb (at + len) (length o)) where
  kept : e ++ o ≡ o
  kept = ap (λ (l : List ℕ). l ++ o) (w.bytes ∙ sets_out [] 0 line (omega arith))

  test : leb (at + length line) (length o) ≡ f
  test =
      let same : length line ≡ len = omega (arith, w.next) in
      ap (λ (k : ℕ). leb (at + k) (length o)) same ∙ sym t

  pub full : f ≡ false → (None, e ++ o) ≡ placed_of line at o
  unfolding placed_of
  full lacks = sym (rw (test, lacks, kept))

  module _ (room : f ≡ true) where
    pub has : length o < 2 ^ 64 → Room at line
    has h = record { below = omega (arith, leb-true (at + length line) (length o) (test ∙ room)) }

    pub whole : {o' : List ℕ} {r : ℕ} → Wrote (e ++ o) at line o' r → (Some r, o') ≡ placed_of line at o
    unfolding placed_of
    whole v = rw (test, room, v.next, v.bytes, kept)
