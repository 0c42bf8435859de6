-- Laws of the first number of a list of checks that is not 0. Assumes nothing.
use mathlib.Core.Path.{◌≡◌, refl, sym}
use Prim.Native.Nat.{ℕ}
use mathlib.Core.Bool.{Bool, true, false}
use mathlib.Core.List.{List, [], ◌∷◌, ◌++◌}
use lib.Dec.{eqb}
use borrow.Author.Tests.{eq-eqb, ne_eqb, eqb-true}
use Rattle.format.specs.Bytes.{pick, first}

-- the first check refuses
pub refused : (k : ℕ) (l : List ℕ) → (k ≡ 0 → ⊥) → first (k ∷ l) ≡ k
unfolding first
refused k l h = rw (ne_eqb k 0 h)

-- the first check passes
pub passed : (k : ℕ) (l : List ℕ) → k ≡ 0 → first (k ∷ l) ≡ first l
unfolding first
passed k l h = rw (eq-eqb k 0 h)

-- what a list of checks gives stands for the list
pub in_front : (a b : List ℕ) → first (a ++ b) ≡ first (first a ∷ b)
unfolding first
in_front [] b = refl
in_front (k ∷ a) b = by_first (eqb k 0) refl (in_front a b)
  where
    by_first : (t : Bool) → eqb k 0 ≡ t → first (a ++ b) ≡ first (first a ∷ b) → pick t (first (a ++ b)) k ≡ first (pick t (first a) k ∷ b)
    by_first true e i = i
    by_first false e i = rw e

-- what stands after a check counts as what it gives
pub behind : (k : ℕ) (a b : List ℕ) → first a ≡ first b → first (k ∷ a) ≡ first (k ∷ b)
unfolding first
behind k a b e = rw e

-- a single check
pub only : (k : ℕ) → first (k ∷ []) ≡ k
unfolding first
only k = by_first (eqb k 0) refl
  where
    by_first : (t : Bool) → eqb k 0 ≡ t → pick t 0 k ≡ k
    by_first true e = sym (eqb-true k 0 e)
    by_first false e = refl
