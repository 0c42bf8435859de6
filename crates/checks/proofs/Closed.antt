-- The last byte of the names of children. Assumes nothing.
use mathlib.Core.Path.{◌≡◌, refl, sym}
use Prim.Native.Nat.{ℕ, suc, ◌-◌}
use native.Mathlib.Omega.{arith}
use mathlib.Core.List.{List, [], ◌∷◌}
use lib.ListN.{length, get_or}
use Rattle.format.specs.Encode.{last_or}

last_at : (d x : ℕ) (s : List ℕ) → last_or d (x ∷ s) ≡ get_or (x ∷ s) (length s) 0
unfolding last_or
last_at d x [] = refl
last_at d x (y ∷ s) = last_at x y s

pub last_is : (s : List ℕ) → get_or s (length s - 1) 0 ≡ last_or 0 s
unfolding last_or
last_is [] = refl
last_is (x ∷ s) = let e : suc (length s) - 1 ≡ length s = omega arith in rw e (sym (last_at 0 x s))
