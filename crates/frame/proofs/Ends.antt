-- Where a text or a name ends, at places of a slice. Assumes nothing.
use mathlib.Core.Path.{◌≡◌, refl, sym, ap, ◌∙◌}
use Prim.Native.Nat.{ℕ, zero, suc, ◌+◌, ◌-◌, ◌*◌, ◌/◌, ◌%◌, ◌≤◌, ◌<◌, min}
use native.Mathlib.Omega.{arith}
use mathlib.Core.Bool.{Bool, true, false, ◌&&◌}
use mathlib.Core.List.{List, [], ◌∷◌}
use lib.ListN.{length, drop, get_or, length-drop}
use native.Mathlib.Numerals.{add-one}
use native.Mathlib.Nat.{add-zero}
use Rattle.std.proofs.lemmas.List.{get_or-drop}
use lib.Dec.{eqb, eqb-suc-zero}
use borrow.Author.Tests.{eq-eqb, ne_eqb}
use Rattle.std.specs.List.{IsSubsliceAt}
use Rattle.std.specs.Prelude.{Option, Some, None, IsSomeAnd, IfSome}
use Rattle.std.specs.Option.{option_map}
use Rattle.laws.proofs.Bools.{and_false}
use Rattle.laws.proofs.Cuts.{drop_next, drop_pair}
use Rattle.format.specs.Bytes.{zero_at}
use Rattle.format.specs.Text.{zero_pair_at, trimmed, trimmed_pairs, closing, closing_pairs}

-- ---- items that are there

-- what is told twice of an item that is there
pub told : {X R : Type 0} (o : Option X) {P Q : X → Type 0} → IsSomeAnd o P → IfSome o Q → ((x : X) → P x → Q x → R) → R
told None p q f = absurd p
told (Some x) p q f = f x p q

pub told_of : {X R : Type 0} (o : Option X) (y : X) {P Q : X → Type 0} → option_map (λ z. z) o ≡ Some y → IfSome o P → IfSome o Q → ((x : X) → P x → Q x → R) → R
told_of None y e p q f = cc
told_of (Some x) y e p q f = f x p q

-- ---- the first zero

module _ (s : List ℕ) (i : ℕ) (lt : i < length s) where
  pub zero_here : get_or s i 0 ≡ 0 → zero_at (drop i s) ≡ 0
  unfolding zero_at
  zero_here z = rw (drop_next, eq-eqb (get_or s i 0) 0 z)

  pub zero_next : (get_or s i 0 ≡ 0 → ⊥) → zero_at (drop i s) ≡ suc (zero_at (drop (i + 1) s))
  unfolding zero_at
  zero_next z = rw (drop_next s i lt, ne_eqb (get_or s i 0) 0 z)

zero_none : (s : List ℕ) → length s ≡ 0 → zero_at s ≡ 0
unfolding zero_at
zero_none [] h = refl
zero_none (x ∷ s) h = absurd (omega arith)

pub zero_end : (s : List ℕ) (i : ℕ) → length s ≤ i → zero_at (drop i s) ≡ 0
zero_end s i h = zero_none (drop i s) (omega (arith, length-drop i s))

pub zero_le : (s : List ℕ) → zero_at s ≤ length s
unfolding zero_at
zero_le [] = omega arith
zero_le (zero ∷ s) = omega arith
zero_le (suc x ∷ s) = rw eqb-suc-zero (omega (arith, zero_le s))

-- ---- the first zero pair

-- whether the k-th pair is a zero pair
abbrev pub zero_pair_in : List ℕ → ℕ → Bool
zero_pair_in s k = eqb (get_or s (k * 2) 0) 0 && eqb (get_or s (k * 2 + 1) 0) 0

zero_pair_after : (x y : ℕ) (s : List ℕ) (k : ℕ) → zero_pair_in (x ∷ y ∷ s) (suc k) ≡ zero_pair_in s k
zero_pair_after x y s k =
    let e : suc k * 2 ≡ suc (suc (k * 2)) = omega arith in
    let f : suc (suc (k * 2)) + 1 ≡ suc (suc (k * 2 + 1)) = omega arith in
    rw (e, f)

pub pair_first : (k : ℕ) (s : List ℕ) → k * 2 + 2 ≤ length s → zero_pair_in s k ≡ true → ((j : ℕ) → j < k → zero_pair_in s j ≡ false) → 2 * k ≡ zero_pair_at s
unfolding zero_pair_at
pair_first k [] lies here before = absurd (omega arith)
pair_first k (x ∷ []) lies here before = absurd (omega arith)
pair_first zero (x ∷ y ∷ s) lies here before = rw here
pair_first (suc k) (x ∷ y ∷ s) lies here before =
    let rest : 2 * k ≡ zero_pair_at s = pair_first k s (omega arith) (sym (zero_pair_after x y s k) ∙ here) (λ j lt. sym (zero_pair_after x y s j) ∙ before (suc j) (omega arith)) in
    let first : (eqb x 0 && eqb y 0) ≡ false = before 0 (omega arith) in
    rw first (omega arith)

pub pair_none : (s : List ℕ) → ((j : ℕ) → j * 2 + 2 ≤ length s → zero_pair_in s j ≡ false) → length s ≡ zero_pair_at s
unfolding zero_pair_at
pair_none [] none = refl
pair_none (x ∷ []) none = refl
pair_none (x ∷ y ∷ s) none =
    let rest : length s ≡ zero_pair_at s = pair_none s (λ j lies. sym (zero_pair_after x y s j) ∙ none (suc j) (omega arith)) in
    let first : (eqb x 0 && eqb y 0) ≡ false = none 0 (omega arith) in
    rw first (omega arith)

-- what a chunk of two tells of the pair that it is
pub pair_told : (b : Bool) (k : ℕ) (s x : List ℕ) → IsSubsliceAt 2 s (k * 2) x → b ≡ (eqb (get_or x 0 0) 0 && eqb (get_or x 1 0) 0) → zero_pair_in s k ≡ b
pair_told b k s x part e =
    let first : get_or x 0 0 ≡ get_or s (k * 2) 0 = let f : get_or x 0 0 ≡ get_or s (k * 2 + 0) 0 = part.2 0 0 (omega arith) in rw add-zero at f in
    let next : get_or x 1 0 ≡ get_or s (k * 2 + 1) 0 = part.2 1 0 (omega arith) in
    rw (← first, ← next) (sym e)

-- ---- closing zeros

trim_zeros : (s : List ℕ) → ((k : ℕ) → k < length s → get_or s k 0 ≡ 0) → trimmed s ≡ 0
unfolding trimmed
trim_zeros [] h = refl
trim_zeros (x ∷ s) h = rw (h 0 (omega arith), trim_zeros s (λ k lt. h (suc k) (omega arith)))

-- the last byte that is not zero
trim_kept : (k : ℕ) (s : List ℕ) → k < length s → trimmed (drop (suc k) s) ≡ 0 → (get_or s k 0 ≡ 0 → ⊥) → trimmed s ≡ suc k
unfolding trimmed
trim_kept k [] lt rest z = absurd (omega arith)
trim_kept zero (x ∷ s) lt rest z = rw (ne_eqb x 0 z, rest)
trim_kept (suc k) (x ∷ s) lt rest z = rw (trim_kept k s (omega arith) rest z, eqb-suc-zero, and_false)

closing_rest : (i : ℕ) (s : List ℕ) → 0 < i → i < length s → trimmed (drop (suc i) s) ≡ 0 → (get_or s i 0 ≡ 0 → ⊥) → closing s ≡ suc i
unfolding closing
closing_rest zero s pos lt rest z = absurd (omega arith)
closing_rest (suc k) [] pos lt rest z = absurd (omega arith)
closing_rest (suc k) (x ∷ s) pos lt rest z = rw (trim_kept k s (omega arith) rest z, eqb-suc-zero)

-- only zeros come after i
module _ (i : ℕ) (s : List ℕ) (zeros : (k : ℕ) → i < k → k < length s → get_or s k 0 ≡ 0) where
  zeros_left : trimmed (drop (suc i) s) ≡ 0
  zeros_left =
      trim_zeros (drop (suc i) s)
      (λ k lt. get_or-drop (suc i) s k 0 ∙ zeros (suc i + k) (omega arith) (omega (arith, length-drop (suc i) s)))

  pub closing_kept : 0 < i → i < length s → (get_or s i 0 ≡ 0 → ⊥) → i + 1 ≡ closing s
  closing_kept pos lt z = add-one i ∙ sym (closing_rest i s pos lt zeros_left z)

-- only zeros come after the first byte
pub closing_none : (s : List ℕ) → ((k : ℕ) → 0 < k → k < length s → get_or s k 0 ≡ 0) → length s ≡ closing s
unfolding closing
closing_none [] h = refl
closing_none (x ∷ s) h =
    let none : trimmed s ≡ 0 = trim_zeros s (λ k lt. h (suc k) (omega arith) (omega arith)) in
    rw none

-- ---- closing zero pairs

pub pairs_none : (s : List ℕ) → length s < 2 → trimmed_pairs s ≡ 0
unfolding trimmed_pairs
pairs_none [] h = refl
pairs_none (x ∷ []) h = refl
pairs_none (x ∷ y ∷ s) h = absurd (omega arith)

-- one zero pair more
pub pairs_zero : (i : ℕ) (s : List ℕ) → 1 < i → i ≤ length s → trimmed_pairs (drop i s) ≡ 0
    → true ≡ (eqb (get_or s (i - 2) 0) 0 && eqb (get_or s (i - 1) 0) 0) → trimmed_pairs (drop (i - 2) s) ≡ 0
unfolding trimmed_pairs
pairs_zero i s pos le rest z =
    let lt : i - 2 + 1 < length s = omega arith in
    let e : i - 2 + 2 ≡ i = omega arith in
    let f : i - 2 + 1 ≡ i - 1 = omega arith in
    rw (drop_pair s (i - 2) lt, f, ← z, e, rest)

-- an even place, as pairs are counted
abbrev twice : ℕ → ℕ
twice zero = zero
twice (suc k) = suc (suc (twice k))

twice_half : (k : ℕ) → twice k ≡ k * 2
twice_half zero = refl
twice_half (suc k) = omega (arith, twice_half k)

-- the last pair that is not zero
pairs_kept : (k : ℕ) (s : List ℕ) → suc (twice k) < length s → trimmed_pairs (drop (twice (suc k)) s) ≡ 0
    → false ≡ (eqb (get_or s (twice k) 0) 0 && eqb (get_or s (suc (twice k)) 0) 0) → trimmed_pairs s ≡ twice (suc k)
unfolding trimmed_pairs
pairs_kept k [] lt rest z = absurd (omega arith)
pairs_kept k (x ∷ []) lt rest z = absurd (omega arith)
pairs_kept zero (x ∷ y ∷ s) lt rest z = rw (← z, rest)
pairs_kept (suc k) (x ∷ y ∷ s) lt rest z = rw (pairs_kept k s (omega arith) rest z, eqb-suc-zero, and_false)

closing_pairs_at : (k : ℕ) (s : List ℕ) → suc (twice (suc k)) < length s → trimmed_pairs (drop (twice (suc (suc k))) s) ≡ 0
    → false ≡ (eqb (get_or s (twice (suc k)) 0) 0 && eqb (get_or s (suc (twice (suc k))) 0) 0) → closing_pairs s ≡ twice (suc (suc k))
unfolding closing_pairs
closing_pairs_at k [] lt rest z = absurd (omega arith)
closing_pairs_at k (x ∷ []) lt rest z = absurd (omega arith)
closing_pairs_at k (x ∷ y ∷ s) lt rest z = rw (pairs_kept k s (omega arith) rest z, eqb-suc-zero)

pub closing_pairs_kept : (i : ℕ) (s : List ℕ) → 2 < i → i % 2 ≡ 0 → i ≤ length s → trimmed_pairs (drop i s) ≡ 0
    → false ≡ (eqb (get_or s (i - 2) 0) 0 && eqb (get_or s (i - 1) 0) 0) → closing_pairs s ≡ i
closing_pairs_kept i s pos even le rest z =
    let k : ℕ = (i - 4) / 2 in
    let e : twice (suc (suc k)) ≡ i = omega (arith, twice_half k) in
    let f : i - 2 ≡ twice (suc k) = omega (arith, twice_half k) in
    let g : i - 1 ≡ suc (twice (suc k)) = omega (arith, twice_half k) in
    closing_pairs_at k s (omega arith) (ap (λ (n : ℕ). trimmed_pairs (drop n s)) e ∙ rest) (rw (f, g) at z) ∙ e

pub closing_pairs_none : (i : ℕ) (s : List ℕ) → i ≤ 2 → i % 2 ≡ 0 → min 2 (length s) ≤ i + 1 → trimmed_pairs (drop i s) ≡ 0 → closing_pairs s ≡ length s
unfolding closing_pairs
closing_pairs_none i [] small even le rest = refl
closing_pairs_none i (x ∷ []) small even le rest = refl
closing_pairs_none i (x ∷ y ∷ s) small even le rest =
    let e : 2 ≡ i = omega arith in
    let none : trimmed_pairs s ≡ 0 = ap (λ (n : ℕ). trimmed_pairs (drop n (x ∷ y ∷ s))) e ∙ rest in
    rw none
