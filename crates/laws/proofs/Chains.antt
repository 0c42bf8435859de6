-- Stores that change nothing. Assumes nothing.
use mathlib.Core.Path.{◌≡◌, refl, ap, ◌∙◌}
use Prim.Native.Nat.{ℕ, suc, ◌≤◌}
use native.Mathlib.Omega.{arith}
use mathlib.Core.List.{List, [], ◌∷◌}
use lib.ListN.{length}
use lib.Seq.{sets, set_out}

-- after the end nothing is stored
pub sets_out : (o : List ℕ) (p : ℕ) (l : List ℕ) → length o ≤ p → sets o p l ≡ o
sets_out o p [] h = refl
sets_out o p (x ∷ l) h =
    ap (λ (s : List ℕ). sets s (suc p) l) (set_out o p x h) ∙ sets_out o (suc p) l (omega arith)
