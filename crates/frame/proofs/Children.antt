-- Names each closed by a zero. Assumes nothing.
use mathlib.Core.Path.{◌≡◌, refl}
use Prim.Native.Nat.{ℕ, zero, suc, ◌+◌, ◌≤◌, ◌<◌}
use native.Mathlib.Omega.{arith}
use mathlib.Core.Bool.{Bool, true, false}
use mathlib.Core.List.{List, [], ◌∷◌}
use lib.ListN.{length, drop}
use lib.Dec.{eqb, leb, eqb-suc-zero}
use borrow.Author.Tests.{le-leb, lt-leb}
use Rattle.format.specs.Bytes.{pick, zero_at, zeros_in}
use Rattle.format.specs.Chapter.{names_len}
use Rattle.frame.specs.Bodies.{names_of}
use Rattle.std.specs.Prelude.{Some, None}

-- ---- a name

-- a zero closes the first name, and other names come after it
pub name_closed : (k : ℕ) (s : List ℕ) → zero_at s < length s
    → (zeros_in s ≡ suc (zeros_in (drop (suc (zero_at s)) s))) × (names_len (suc k) s ≡ suc (zero_at s) + names_len k (drop (suc (zero_at s)) s))
unfolding zero_at zeros_in names_len
name_closed k [] h = absurd (omega arith)
name_closed k (zero ∷ s) h = (refl, omega arith)
name_closed k (suc x ∷ s) h =
    let more = name_closed k s (omega (arith, (rw eqb-suc-zero at h))) in
    rw eqb-suc-zero (more.0, omega (arith, more.1))

-- the last name is not closed
pub name_open : (s : List ℕ) → length s ≤ zero_at s → zeros_in s ≡ 0
unfolding zero_at zeros_in
name_open [] h = refl
name_open (zero ∷ s) h = absurd (omega arith)
name_open (suc x ∷ s) h = rw eqb-suc-zero (name_open s (omega (arith, (rw eqb-suc-zero at h))))

pub no_names : (k : ℕ) (s : List ℕ) → k ≡ 0 → names_len k s ≡ 0
unfolding names_len
no_names zero [] h = refl
no_names zero (x ∷ s) h = refl
no_names (suc k) s h = absurd (omega arith)

pub names_within : (k : ℕ) (s : List ℕ) → names_len k s ≤ length s
unfolding names_len
names_within zero [] = omega arith
names_within (suc k) [] = omega arith
names_within zero (x ∷ s) = omega arith
names_within (suc k) (x ∷ s) = omega (arith, names_within (pick (eqb x 0) k (suc k)) s)

-- ---- the answer

module _ (k : ℕ) (s : List ℕ) where
  pub names_there : (n : ℕ) → k ≤ zeros_in s → n ≡ names_len k s → Some n ≡ names_of k s
  unfolding names_of
  names_there n h e = rw (le-leb k (zeros_in s) h, e)

  pub names_missing : zeros_in s < k → None ≡ names_of k s
  unfolding names_of
  names_missing h = rw (lt-leb k (zeros_in s) h)

  -- what an answer says
  pub names_whole : (n : ℕ) → Some n ≡ names_of k s → (leb k (zeros_in s) ≡ true) × (n ≡ names_len k s)
  unfolding names_of
  names_whole n e = by_count (leb k (zeros_in s)) e
    where
      by_count : (t : Bool) → Some n ≡ pick t (Some (names_len k s)) None → (t ≡ true) × (n ≡ names_len k s)
      by_count true h = (refl, cc)
      by_count false h = absurd (let z : ◌≡◌ {A = ℕ} 0 1 = cc in omega arith)

  pub names_cut : None ≡ names_of k s → leb k (zeros_in s) ≡ false
  unfolding names_of
  names_cut e = by_count (leb k (zeros_in s)) e
    where
      by_count : (t : Bool) → None ≡ pick t (Some (names_len k s)) None → t ≡ false
      by_count true h = absurd (let z : ◌≡◌ {A = ℕ} 0 1 = cc in omega arith)
      by_count false h = refl
