-- Laws on parts of lists: what holds of each element holds of each element of a part. Assumes nothing.
use Prim.Native.Nat.{ℕ, zero, suc}
use mathlib.Core.List.{List, [], ◌∷◌, ◌++◌}
use lib.ListN.{take, drop, get_or, replicate}

module _ {A : Type 0} (P : A → Type 0) (d : A) where
  -- it holds at each place; d stands after the end
  abbrev pub Each : List A → Type 0
  Each l = (i : ℕ) → P (get_or l i d)

  pub each_append : (a b : List A) → Each a → Each b → Each (a ++ b)
  each_append [] b ha hb i = hb i
  each_append (x ∷ a) b ha hb zero = ha 0
  each_append (x ∷ a) b ha hb (suc i) = each_append a b (λ j. ha (suc j)) hb i

  pub each_drop : (n : ℕ) (l : List A) → Each l → Each (drop n l)
  each_drop zero l h = h
  each_drop (suc n) [] h = h
  each_drop (suc n) (x ∷ l) h = each_drop n l (λ j. h (suc j))

  module _ (none : P d) where
    pub each_take : (n : ℕ) (l : List A) → Each l → Each (take n l)
    each_take zero l h i = none
    each_take (suc n) [] h i = none
    each_take (suc n) (x ∷ l) h zero = h 0
    each_take (suc n) (x ∷ l) h (suc i) = each_take n l (λ j. h (suc j)) i

    pub each_replicate : (n : ℕ) → Each (replicate n d)
    each_replicate zero i = none
    each_replicate (suc n) zero = none
    each_replicate (suc n) (suc i) = each_replicate n i
