-- Laws of powers, of synchsafe words, and of a counter's bytes. Assumes nothing.
use mathlib.Core.Path.{◌≡◌, refl, sym, ap, ◌∙◌}
use Prim.Native.Nat.{ℕ, zero, suc, ◌+◌, ◌-◌, ◌*◌, ◌/◌, ◌%◌, ◌^◌, ◌≤◌, ◌<◌}
use native.Mathlib.Nat.{pow-zero, pow-suc, pow-succ', mul-zero, mul-suc, mul_assoc, div-eq_of_lt, zero-div, mul-add-div_right, mul-add-mod_self_right, div-div-eq-div-mul, one-le-pow, le-div_iff_mul-le, div-lt_iff_lt-mul}
use native.Mathlib.Omega.{arith}
use borrow.Author.Tests.{lt-ltb}
use mathlib.Core.List.{List, ◌∷◌, ◌++◌}
use lib.ListN.{length}
use lib.Pow.{pow-add, pow_mono}
use Rattle.std.specs.Int.{div_ceil}
use lib.Count.{count_leading_zeros, leading_le, leading_length}
use Rattle.format.specs.Numbers.{digits, bytes_of, number, synchsafe}
use Rattle.format.specs.Popularimeter.{stripped, counter_bytes}
use Rattle.format.proofs.Numbers.{length_digits, digits_onto, synchsafe_below}
use Rattle.unsynch.specs.Puts.{encoded_of}
use Rattle.std.specs.Prelude.{Result, Ok}
use Rattle.std.specs.Result.{result_unwrap_or}
use Rattle.format.specs.declared.refusals.Refusal.{Refusal}

-- ---- powers of powers of two

pow_pow : (b k : ℕ) → (2 ^ b) ^ k ≡ 2 ^ (b * k)
pow_pow b zero = pow-zero (2 ^ b) ∙ ap (λ (j : ℕ). 2 ^ j) (sym (mul-zero b))
pow_pow b (suc k) =
    let e : b * k + b ≡ b * suc k = omega (arith, mul-suc b k) in
    pow-suc (2 ^ b) k ∙ ap (λ (x : ℕ). x * 2 ^ b) (pow_pow b k) ∙ sym (pow-add 2 (b * k) b) ∙ ap (λ (j : ℕ). 2 ^ j) e

-- ---- the word of a synchsafe number, as it was encoded

module _ (n : ℕ) (h : n < 2 ^ 28) {r : Result ℕ Refusal} (e : r ≡ encoded_of n) where
  encoded : r ≡ Ok (number (synchsafe n))
  encoded = e ∙ rw (lt-ltb n (2 ^ 28) h)

  pub word_bytes : {w : ℕ} → w ≡ result_unwrap_or r 0 → bytes_of 4 w ≡ synchsafe n
  word_bytes {w} is =
      let f : w ≡ number (synchsafe n) = is ∙ ap (λ (z : Result ℕ Refusal). result_unwrap_or z 0) encoded in
      ap (bytes_of 4) f
      ∙ ap (λ (k : ℕ). bytes_of k (number (synchsafe n))) (sym (length_digits 128 4 n))
      ∙ digits_onto 256 (omega arith) 0 (synchsafe n) (λ i. omega (arith, synchsafe_below n i))

-- ---- parts of a number's digits

module _ (base : ℕ) (pos : 0 < base) where
  -- the upper a digits, then the lower b
  pub digits_split : (a b n : ℕ) → digits base (a + b) n ≡ digits base a (n / base ^ b) ++ digits base b n
  unfolding digits
  digits_split zero b n = let e : 0 + b ≡ b = omega arith in rw e
  digits_split (suc a) b n =
      let e : suc a + b ≡ suc (a + b) = omega arith in
      let f : base ^ (a + b) ≡ base ^ b * base ^ a = (let g : a + b ≡ b + a = omega arith in ap (λ (k : ℕ). base ^ k) g) ∙ pow-add base b a in
      rw (e, f, ← div-div-eq-div-mul, digits_split a b n)

  -- higher digits are not looked at
  pub digits_high : (k a n : ℕ) → digits base k (a * base ^ k + n) ≡ digits base k n
  unfolding digits
  digits_high zero a n = refl
  digits_high (suc k) a n =
      let p : 0 < base ^ k = one-le-pow k base pos in
      let e : a * base ^ suc k + n ≡ a * base * base ^ k + n = omega (arith, ap (λ (x : ℕ). a * x) (pow-succ' base k), mul_assoc a base (base ^ k)) in
      rw (e, mul-add-div_right p (a * base) n, mul-add-mod_self_right a base (n / base ^ k), digits_high k (a * base) n)

-- ---- the counter

-- zeros in front go
strip_zeros : (d : ℕ) (s : List ℕ) → stripped (bytes_of d 0 ++ s) ≡ stripped s
unfolding stripped digits
strip_zeros zero s = refl
strip_zeros (suc d) s = rw zero-div (strip_zeros d s)

stripped_some : (x : ℕ) (s : List ℕ) → 0 < x → stripped (x ∷ s) ≡ x ∷ s
unfolding stripped
stripped_some zero s h = absurd (omega arith)
stripped_some (suc x) s h = refl

-- a number whose highest set bit, the m-th, lies in the first of r bytes
strip_none : (r m n : ℕ) → n < 256 ^ r → 8 * r < m + 8 → 2 ^ m ≤ 2 * n + 1 → stripped (bytes_of r n) ≡ bytes_of r n
unfolding stripped digits
strip_none zero m n h a t = refl
strip_none (suc r) zero n h a t = absurd (omega arith)
strip_none (suc r) (suc j) n h a t =
    let p : 0 < 256 ^ r = one-le-pow r 256 (omega arith) in
    let top : 2 ^ (8 * r) ≤ 2 ^ j = pow_mono {i = 8 * r} {j = j} (omega arith) in
    let low : 256 ^ r ≤ n = omega (arith, pow_pow 8 r, pow-suc 2 j) in
    let some : 1 ≤ n / 256 ^ r = (le-div_iff_mul-le p).1 (omega arith) in
    let byte : n / 256 ^ r < 256 = (div-lt_iff_lt-mul p).1 (omega (arith, pow-succ' 256 r)) in
    stripped_some (n / 256 ^ r % 256) (bytes_of r n) (omega arith)

-- by the leading zeros
abbrev width_of : ℕ → ℕ
width_of n = div_ceil (64 - count_leading_zeros 64 n) 8

module _ (n : ℕ) (h : n < 2 ^ 64) where
  -- a counter's bytes are as many as its highest set bit needs
  counter_wide : counter_bytes n ≡ bytes_of (width_of n) n
  unfolding counter_bytes
  counter_wide =
      let t = leading_length 64 n h in
      let r = width_of n in
      let d = 8 - width_of n in
      let e : 8 ≡ d + r = omega (arith, t.1) in
      let top : 2 ^ t.0 ≤ 2 ^ (8 * r) = pow_mono {i = t.0} {j = 8 * r} (omega (arith, t.1)) in
      let small : n < 256 ^ r = omega (arith, pow_pow 8 r, t.2) in
      ap (λ (k : ℕ). stripped (bytes_of k n)) e
      ∙ ap stripped (digits_split 256 (omega arith) d r n)
      ∙ ap (λ (x : ℕ). stripped (bytes_of d x ++ bytes_of r n)) (div-eq_of_lt small)
      ∙ strip_zeros d (bytes_of r n)
      ∙ strip_none r t.0 n small (omega (arith, t.1)) t.3

  pub counter_width : width_of n ≡ length (counter_bytes n)
  counter_width = sym (ap length counter_wide ∙ length_digits 256 (width_of n) n)

  pub counter_bytes_lem : (k : ℕ) → k ≡ length (counter_bytes n) → counter_bytes n ≡ bytes_of k n
  counter_bytes_lem k e = counter_wide ∙ ap (λ (j : ℕ). bytes_of j n) (counter_width ∙ sym e)

  pub counter_small : length (counter_bytes n) ≤ 8
  counter_small = omega (arith, counter_width, leading_le 64 n)
