-- Bytes that are compared one by one. Assumes nothing.
use mathlib.Core.Path.{◌≡◌, refl, ap, ◌∙◌}
use Prim.Native.Nat.{ℕ, ◌+◌, ◌-◌}
use native.Mathlib.Omega.{arith}
use mathlib.Core.Bool.{Bool, ◌&&◌}
use mathlib.Core.List.{List, [], ◌∷◌}
use lib.ListN.{take, drop}
use lib.Seq.{slice}
use lib.Dec.{eqb}
use lib.Pointwise.{pointwise}
use Rattle.laws.proofs.Cuts.{take_drop}
use Rattle.raise.specs.Raise.{same_bytes}

-- what `==` answers
pub same_pointwise : (s t : List ℕ) → pointwise eqb s t ≡ same_bytes s t
same_pointwise [] [] = refl
same_pointwise [] (y ∷ t) = refl
same_pointwise (x ∷ s) [] = refl
same_pointwise (x ∷ s) (y ∷ t) = ap (λ (b : Bool). eqb x y && b) (same_pointwise s t)

pub same_part : (s : List ℕ) (start len : ℕ) (user : List ℕ) (b : Bool) → b ≡ pointwise eqb (take (start + len - start) (drop start s)) user
    → b ≡ same_bytes (slice start (start + len) s) user
same_part s start len user b e =
    let n : start + len - start ≡ len = omega arith in
    e ∙ rw (n, take_drop) (same_pointwise (slice start (start + len) s) user)
