-- Laws of choices and of lists of checks. Assumes nothing.
use mathlib.Core.Path.{◌≡◌, refl}
use Prim.Native.Nat.{ℕ, zero, suc}
use native.Mathlib.Omega.{arith}
use mathlib.Core.Bool.{Bool, true, false}
use mathlib.Core.List.{List, [], ◌∷◌, ◌++◌}
use lib.ListN.{get_or}
use lib.Dec.{eqb}
use borrow.Author.Tests.{eqb-true, eqb-false}
use Rattle.format.specs.Bytes.{pick, first}

-- ---- choices

-- the one that it cannot have been was not taken
pub not_first : {A : Type 0} (t : Bool) (x y z : A) → pick t x y ≡ z → (x ≡ z → ⊥) → (t ≡ false) × (y ≡ z)
not_first true x y z e h = absurd (h e)
not_first false x y z e h = (refl, e)

pub not_second : {A : Type 0} (t : Bool) (x y z : A) → pick t x y ≡ z → (y ≡ z → ⊥) → (t ≡ true) × (x ≡ z)
not_second true x y z e h = (refl, e)
not_second false x y z e h = absurd (h e)

-- what holds of the one that is taken holds of the choice
pub of_picked : {A : Type 0} (P : A → Type 0) (t : Bool) {x y : A} → (t ≡ true → P x) → (t ≡ false → P y) → P (pick t x y)
of_picked P true f g = f refl
of_picked P false f g = g refl

-- two choices by one test are the same where the first ones are
pub same_first : {A : Type 0} (t : Bool) {x y : A} (z : A) → (t ≡ true → x ≡ y) → pick t x z ≡ pick t y z
same_first true z h = h refl
same_first false z h = refl

-- ---- checks

-- a check that gives its number where a test holds, or where it fails, was passed
pub none_refused : (t : Bool) (k : ℕ) → pick t (suc k) 0 ≡ 0 → t ≡ false
none_refused true k e = absurd (omega arith)
none_refused false k e = refl

pub none_else : (t : Bool) (k : ℕ) → pick t 0 (suc k) ≡ 0 → t ≡ true
none_else true k e = refl
none_else false k e = absurd (omega arith)

first_on : (k : ℕ) (l : List ℕ) (t : Bool) → eqb k 0 ≡ t → pick t (first l) k ≡ 0 → (k ≡ 0) × (first l ≡ 0)
first_on k l true h e = (eqb-true k 0 h, e)
first_on k l false h e = absurd (eqb-false k 0 h e)

-- a list of checks that gives no number: the first passes, and so do the rest
pub first_none : (k : ℕ) (l : List ℕ) → first (k ∷ l) ≡ 0 → (k ≡ 0) × (first l ≡ 0)
unfolding first
first_none k l e = first_on k l (eqb k 0) refl e

pub none_of : (l : List ℕ) → first l ≡ 0 → (i : ℕ) → get_or l i 0 ≡ 0
none_of [] e i = refl
none_of (k ∷ l) e zero = (first_none k l e).0
none_of (k ∷ l) e (suc i) = none_of l (first_none k l e).1 i

-- two lists of checks, one after the other
pub first_append : (a b : List ℕ) → first (a ++ b) ≡ 0 → (first a ≡ 0) × (first b ≡ 0)
unfolding first
first_append [] b e = (refl, e)
first_append (k ∷ a) b e =
    let h = first_none k (a ++ b) e in
    let t = first_append a b h.1 in
    (rw h.0 t.0, t.1)

-- those before decide where one of them fails, those after where all of them pass
pub first_stops : (a b : List ℕ) → (first a ≡ 0 → ⊥) → first (a ++ b) ≡ first a
unfolding first
first_stops [] b ne = absurd (ne refl)
first_stops (k ∷ a) b ne = same_first (eqb k 0) k (λ e. first_stops a b (λ z. ne (rw e z)))

pub first_goes_on : (a b : List ℕ) → first a ≡ 0 → first (a ++ b) ≡ first b
unfolding first
first_goes_on [] b e = refl
first_goes_on (k ∷ a) b e =
    let h = first_none k a e in
    rw h.0 (first_goes_on a b h.1)

-- ---- the number of a check

-- what holds of 0 and of its number holds of a check, which gives it where its test holds, or where it fails
pub then_at : (P : ℕ → Type 0) (t : Bool) {k : ℕ} → P 0 → P k → P (pick t k 0)
then_at P t z h = of_picked P t (λ e. h) (λ e. z)

pub else_at : (P : ℕ → Type 0) (t : Bool) {k : ℕ} → P 0 → P k → P (pick t 0 k)
else_at P t z h = of_picked P t (λ e. z) (λ e. h)

abbrev pub AllOf : (ℕ → Type 0) → List ℕ → Type 0
AllOf P [] = Unit {0}
AllOf P (k ∷ l) = P k × AllOf P l

-- what holds of 0 and of each check of a list holds of what the list gives
pub of_first : (P : ℕ → Type 0) → P 0 → (l : List ℕ) → AllOf P l → P (first l)
unfolding first
of_first P z [] h = z
of_first P z (k ∷ l) h = of_picked P (eqb k 0) (λ e. of_first P z l h.1) (λ e. h.0)
