-- Bytes that are all zeros, one by one and part by part. Assumes nothing.
use mathlib.Core.Path.{◌≡◌, refl, ap, ◌∙◌}
use Prim.Native.Nat.{ℕ, ◌+◌, ◌≤◌}
use mathlib.Core.Bool.{Bool, true, false, ◌&&◌}
use mathlib.Core.List.{List, [], ◌∷◌, ◌++◌}
use Rattle.std.specs.List.{fold}
use lib.Seq.{slice}
use lib.Dec.{eqb}
use Rattle.laws.proofs.Cuts.{cut_in_two}
use Rattle.format.specs.Bytes.{pick}
use Rattle.format.specs.Looks.{all_zero}

and_next : (a b c : Bool) → ((a && b) && c) ≡ (a && pick b c false)
and_next true true c = refl
and_next true false c = refl
and_next false b c = refl

-- what looks for a byte that is not zero
pub all_found : (l : List ℕ) (all : Bool) → fold (λ a x. a && eqb x 0) all l ≡ (all && all_zero l)
unfolding all_zero
all_found [] true = refl
all_found [] false = refl
all_found (x ∷ l) all = all_found l (all && eqb x 0) ∙ and_next all (eqb x 0) (all_zero l)

-- in two parts
zero_append : (l m : List ℕ) → all_zero (l ++ m) ≡ (all_zero l && all_zero m)
unfolding all_zero
zero_append [] m = refl
zero_append (x ∷ l) m = by (eqb x 0) (zero_append l m)
  where
    by : (t : Bool) → all_zero (l ++ m) ≡ (all_zero l && all_zero m) → pick t (all_zero (l ++ m)) false ≡ (pick t (all_zero l) false && all_zero m)
    by true e = e
    by false e = refl

module _ (s : List ℕ) (at end n : ℕ) (h : at + n ≤ end) where
  pub zero_parts : all_zero (slice at end s) ≡ (all_zero (slice at (at + n) s) && all_zero (slice (at + n) end s))
  zero_parts = ap all_zero (cut_in_two at n end s h) ∙ zero_append (slice at (at + n) s) (slice (at + n) end s)

  -- a part that is not all zeros decides it
  pub zero_not : all_zero (slice at (at + n) s) ≡ false → all_zero (slice at end s) ≡ false
  zero_not e = zero_parts ∙ ap (λ (t : Bool). t && all_zero (slice (at + n) end s)) e

  pub zero_on : all_zero (slice at (at + n) s) ≡ true → all_zero (slice at end s) ≡ all_zero (slice (at + n) end s)
  zero_on e = zero_parts ∙ ap (λ (t : Bool). t && all_zero (slice (at + n) end s)) e
