-- Laws of zeros: a name closed by a zero, and names each closed by one. Assumes nothing.
use mathlib.Core.Path.{◌≡◌, refl, ap}
use Prim.Native.Nat.{ℕ, zero, suc, ◌+◌, ◌<◌}
use native.Mathlib.Numerals.{one-add}
use native.Mathlib.Omega.{arith}
use mathlib.Core.Bool.{Bool, true, false}
use mathlib.Core.List.{List, [], ◌∷◌, ◌++◌}
use lib.ListN.{length, take, drop, get_or, length-append}
use lib.Seq.{take-append_seam, drop-append-add, get_or-append-add}
use lib.Dec.{eqb, eqb-suc-zero}
use borrow.Author.Tests.{ne_eqb}
use Rattle.laws.proofs.Cuts.{drop_next}
use Rattle.format.specs.Bytes.{pick, zero_at, zeros_in}
use Rattle.format.specs.Chapter.{names_len}
use Rattle.format.specs.Encode.{last_or}

-- ---- a name without a zero, then a zero

pub zero_at_lem : (name z : List ℕ) → zero_at name ≡ length name → zero_at (name ++ (0 ∷ z)) ≡ length name
unfolding zero_at
zero_at_lem [] z none = refl
zero_at_lem (x ∷ name) z none = by_first (eqb x 0) none (zero_at_lem name z)
  where
    by_first : (b : Bool) → pick b 0 (suc (zero_at name)) ≡ suc (length name) → (zero_at name ≡ length name → zero_at (name ++ (0 ∷ z)) ≡ length name)
        → pick b 0 (suc (zero_at (name ++ (0 ∷ z)))) ≡ suc (length name)
    by_first true h go = absurd (omega arith)
    by_first false h go = ap suc (go (omega arith))

module _ (name z : List ℕ) (none : zero_at name ≡ length name) where
  pub length_named : length (name ++ (0 ∷ z)) ≡ zero_at (name ++ (0 ∷ z)) + (1 + length z)
  length_named = rw zero_at_lem (simp length-append (omega arith))

  pub take_name : take (zero_at (name ++ (0 ∷ z))) (name ++ (0 ∷ z)) ≡ name
  take_name = rw zero_at_lem (take-append_seam name (0 ∷ z))

  -- what lies after the zero
  pub drop_name : (k : ℕ) → drop (zero_at (name ++ (0 ∷ z)) + (1 + k)) (name ++ (0 ∷ z)) ≡ drop k z
  drop_name k = rw (zero_at_lem, drop-append-add, one-add)

  pub get_d_name : (k : ℕ) → get_or (name ++ (0 ∷ z)) (zero_at (name ++ (0 ∷ z)) + (1 + k)) 0 ≡ get_or z k 0
  get_d_name k = rw (zero_at_lem, get_or-append-add, one-add)

-- ---- zeros and names

pub zeros_append : (a b : List ℕ) → zeros_in (a ++ b) ≡ zeros_in a + zeros_in b
unfolding zeros_in
zeros_append [] b = omega arith
zeros_append (zero ∷ a) b = omega (arith, zeros_append a b)
zeros_append (suc x ∷ a) b = rw eqb-suc-zero (zeros_append a b)

-- where the last is a zero and what came before is none, there is one
last_zero : (x : ℕ) (s : List ℕ) → last_or (suc x) s ≡ 0 → 0 < zeros_in s
unfolding last_or zeros_in
last_zero x [] h = absurd (omega arith)
last_zero x (zero ∷ s) h = omega arith
last_zero x (suc y ∷ s) h = rw eqb-suc-zero (last_zero y s h)

-- a byte that closes no name is one more
name_goes_on : (k x : ℕ) (s : List ℕ) → 0 < k → names_len k (suc x ∷ s) ≡ suc (names_len k s)
unfolding names_len
name_goes_on zero x s h = absurd (omega arith)
name_goes_on (suc k) x s h = rw eqb-suc-zero

-- names that end in a zero take all their bytes, whatever stands before them
pub names_back : (d : ℕ) (names z : List ℕ) → last_or d names ≡ 0 → names_len (zeros_in names) (names ++ z) ≡ length names
unfolding last_or zeros_in names_len
names_back d [] [] h = refl
names_back d [] (x ∷ z) h = refl
names_back d (zero ∷ names) z h = ap suc (names_back 0 names z h)
names_back d (suc x ∷ names) z h =
    rw (eqb-suc-zero, name_goes_on (zeros_in names) x (names ++ z) (last_zero x names h), names_back (suc x) names z h)

-- ---- how many zeros there are from a place on

module _ (s : List ℕ) (i : ℕ) (there : i < length s) where
  pub zero_counts : get_or s i 0 ≡ 0 → zeros_in (drop i s) ≡ suc (zeros_in (drop (i + 1) s))
  unfolding zeros_in
  zero_counts e = rw (drop_next s i there, e)

  pub other_counts_not : (get_or s i 0 ≡ 0 → ⊥) → zeros_in (drop i s) ≡ zeros_in (drop (i + 1) s)
  unfolding zeros_in
  other_counts_not e = rw (drop_next s i there, ne_eqb _ _ e)
