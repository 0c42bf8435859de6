-- A list read from the front: its next element, and a loop that copies it. Assumes nothing.
use mathlib.Core.Path.{◌≡◌, subst}
use Prim.Native.Nat.{ℕ, ◌+◌, ◌≤◌, ◌<◌}
use native.Mathlib.Omega.{arith}
use mathlib.Core.List.{List, []}
use lib.ListN.{length, drop, get_or, set, drop_of_length-le}
use Rattle.laws.proofs.Cuts.{drop_next}
use Rattle.laws.proofs.Stores.{Storing, same_list, put}

pub drop_none : (s : List ℕ) (i : ℕ) → length s ≤ i → drop i s ≡ []
drop_none s i h = drop_of_length-le s {i = i} h

-- one byte more is copied
pub copied : {o₀ o : List ℕ} {p₀ : ℕ} {l : List ℕ} (p : ℕ) (s : List ℕ) (i : ℕ) → i < length s → Storing o₀ p₀ l o (p + i) (drop i s)
    → Storing o₀ p₀ l (set o (p + i) (get_or s i 0)) (p + (i + 1)) (drop (i + 1) s)
copied {o₀} {o} {p₀} {l} p s i h w =
    let e : p + i + 1 ≡ p + (i + 1) = omega arith in
    subst (λ (k : ℕ). Storing o₀ p₀ l (set o (p + i) (get_or s i 0)) k (drop (i + 1) s)) e (put (same_list (drop_next s i h) w))
