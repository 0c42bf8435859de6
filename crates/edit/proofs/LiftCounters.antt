-- The fewest bytes of a counter: a larger one that these hold has as many. Assumes nothing.
use mathlib.Core.Path.{◌≡◌, refl, sym, ap, ◌∙◌}
use Prim.Native.Nat.{ℕ, zero, suc, ◌+◌, ◌*◌, ◌/◌, ◌%◌, ◌^◌, ◌≤◌, ◌<◌}
use native.Mathlib.Nat.{zero-mul, mod-lt, one-le-pow, pow-le-pow_right}
use native.Mathlib.Omega.{arith}
use mathlib.Core.List.{List, [], ◌∷◌}
use lib.ListN.{length}
use Rattle.format.specs.Numbers.{digits, onto, number, bytes_of}
use Rattle.format.specs.Popularimeter.{stripped, counter_bytes}
use Rattle.format.proofs.Numbers.{length_digits, onto_digits, number_back, number_large}

stripped_shorter : (s : List ℕ) → length (stripped s) ≤ length s
unfolding stripped
stripped_shorter [] = omega arith
stripped_shorter (zero ∷ s) = omega (arith, stripped_shorter s)
stripped_shorter (suc x ∷ s) = omega arith

-- at most eight
pub counter_eight : (n : ℕ) → length (counter_bytes n) ≤ 8
unfolding counter_bytes
counter_eight n = omega (arith, stripped_shorter (bytes_of 8 n), length_digits 256 8 n)

-- the first of m + 1 bytes is 0 just where m bytes are enough
first_zero : (m n : ℕ) → n < 256 ^ suc m → n / 256 ^ m % 256 ≡ 0 → n < 256 ^ m
unfolding digits onto
first_zero m n h e =
    let back : onto 256 (0 * 256 + n / 256 ^ m % 256) (bytes_of m n) ≡ n = number_back (suc m) n h in
    let same : onto 256 0 (bytes_of m n) ≡ n = ap (λ (x : ℕ). onto 256 (0 * 256 + x) (bytes_of m n)) (sym e) ∙ back in
    let low : n % 256 ^ m < 256 ^ m = mod-lt n (one-le-pow m 256 (omega arith)) in
    let z : 0 * 256 ^ m ≡ 0 = zero-mul (256 ^ m) in
    omega (arith, onto_digits 256 (omega arith) 0 m n)

first_some : (m n x : ℕ) → n < 256 ^ suc m → n / 256 ^ m % 256 ≡ suc x → 256 ^ m ≤ n
unfolding digits
first_some m n x h e =
    let back : number (n / 256 ^ m % 256 ∷ bytes_of m n) ≡ n = number_back (suc m) n h in
    omega (arith, number_large m (n / 256 ^ m % 256) (bytes_of m n) (λ z. omega (arith, z, e)) (omega (arith, length_digits 256 m n)))

module _ (n k : ℕ) (le : n ≤ k) where
  -- of as many bytes
  same_stripped : (m : ℕ) → n < 256 ^ m → k < 256 ^ m → k < 256 ^ length (stripped (bytes_of m n))
      → stripped (bytes_of m k) ≡ bytes_of (length (stripped (bytes_of m n))) k
  unfolding stripped digits
  same_stripped zero hn hk h = refl
  same_stripped (suc m) hn hk h = by (n / 256 ^ m % 256) refl (k / 256 ^ m % 256) refl h (same_stripped m)
    where
      by : (x : ℕ) → n / 256 ^ m % 256 ≡ x → (y : ℕ) → k / 256 ^ m % 256 ≡ y → k < 256 ^ length (stripped (x ∷ bytes_of m n))
          → (n < 256 ^ m → k < 256 ^ m → k < 256 ^ length (stripped (bytes_of m n)) → stripped (bytes_of m k) ≡ bytes_of (length (stripped (bytes_of m n))) k)
          → stripped (y ∷ bytes_of m k) ≡ bytes_of (length (stripped (x ∷ bytes_of m n))) k
      by zero e zero f h go = go (first_zero m n hn e) (first_zero m k hk f) h
      by zero e (suc y) f h go =
          let long : length (stripped (bytes_of m n)) ≤ m = omega (arith, stripped_shorter (bytes_of m n), length_digits 256 m n) in
          let grows : 256 ^ length (stripped (bytes_of m n)) ≤ 256 ^ m = pow-le-pow_right {n = 256} (omega arith) long in
          absurd (omega (arith, first_some m k y hk f))
      by (suc x) e zero f h go = absurd (omega (arith, first_some m n x hn e, first_zero m k hk f))
      by (suc x) e (suc y) f h go =
          ap (λ (z : ℕ). z ∷ bytes_of m k) (sym f) ∙ ap (λ (j : ℕ). bytes_of (suc j) k) (sym (length_digits 256 m n))

  pub same_bytes_lem : n < 2 ^ 64 → k < 2 ^ 64 → k < 256 ^ length (counter_bytes n) → counter_bytes k ≡ bytes_of (length (counter_bytes n)) k
  unfolding counter_bytes
  same_bytes_lem hn hk h = same_stripped 8 (omega arith) (omega arith) h

-- ---- they hold it

holds : (m n : ℕ) → n < 256 ^ m → n < 256 ^ length (stripped (bytes_of m n))
unfolding stripped digits
holds zero n h = h
holds (suc m) n h = by (n / 256 ^ m % 256) refl (holds m n)
  where
    by : (x : ℕ) → n / 256 ^ m % 256 ≡ x → (n < 256 ^ m → n < 256 ^ length (stripped (bytes_of m n))) → n < 256 ^ length (stripped (x ∷ bytes_of m n))
    by zero e go = go (first_zero m n h e)
    by (suc x) e go = rw (length_digits 256 m n) h

pub counter_holds : (n : ℕ) → n < 2 ^ 64 → n < 256 ^ length (counter_bytes n)
unfolding counter_bytes
counter_holds n h = holds 8 n (omega arith)
