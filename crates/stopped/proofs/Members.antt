-- A member of a list, with those before it and those after it. Assumes nothing.
use mathlib.Core.Path.{◌≡◌, refl, sym, ap, ◌∙◌}
use Prim.Native.Nat.{ℕ, zero, suc, ◌≤◌, ◌<◌}
use native.Mathlib.Omega.{arith}
use mathlib.Core.List.{List, [], ◌∷◌, ◌++◌}
use lib.ListN.{length, take, drop, take-append-drop}
use lib.Seq.{take-take}

module _ {A : Type 0} where
  -- more of a list: the first ones, and some after them
  pub take_more : (i j : ℕ) (l : List A) → i ≤ j → take j l ≡ take i l ++ drop i (take j l)
  take_more i j l le = sym (take-append-drop i (take j l)) ∙ ap (λ (s : List A). s ++ drop i (take j l)) (take-take i j l le)

  -- the one after the first i
  pub record Member (i : ℕ) (l : List A) : Type 0 where
    pub one : A
    pub more : List A
    pub all : l ≡ take i l ++ (one ∷ more)
    pub next : take (suc i) l ≡ take i l ++ (one ∷ [])

  pub member : (i : ℕ) (l : List A) → i < length l → Member i l
  member i [] lt = absurd (omega arith)
  member zero (x ∷ l) lt = record { one = x; more = l; all = refl; next = refl }
  member (suc i) (x ∷ l) lt =
      let o = member i l (omega arith) in
      record {
        one = o.one;
        more = o.more;
        all = ap (λ (s : List A). x ∷ s) o.all;
        next = ap (λ (s : List A). x ∷ s) o.next;
      }
