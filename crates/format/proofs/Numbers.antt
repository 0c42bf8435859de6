-- Laws of numbers as digits, over any base. Assumes nothing.
use mathlib.Core.Path.{◌≡◌, refl, sym, ap, ◌∙◌}
use Prim.Native.Nat.{ℕ, zero, suc, ◌+◌, ◌*◌, ◌/◌, ◌%◌, ◌^◌, ◌≤◌, ◌<◌}
use native.Mathlib.Nat.{zero-mul, add-mul, mul_assoc, pow-zero, pow-succ', mod-lt, mod-one, mod-eq_of_lt, one-le-pow, pow-suc, pow-le-pow_right, mul-le-mul_right, div-one, div-div-eq-div-mul}
use native.Mathlib.Omega.{arith}
use mathlib.Core.List.{List, [], ◌∷◌}
use lib.Arith.{mod-mul, digits_div, digits_mod}
use lib.Bits.{bit_or, or_shifted}
use lib.ListN.{length, get_or}
use Rattle.laws.proofs.Parts.{Each}
use Rattle.format.specs.Numbers.{digits, onto, number, bytes_of, synchsafe, from_synchsafe}

-- ---- digits

pub length_digits : (base k n : ℕ) → length (digits base k n) ≡ k
unfolding digits
length_digits base zero n = refl
length_digits base (suc k) n = ap suc (length_digits base k n)

-- each is below the base
abbrev pub Digits : ℕ → List ℕ → Type 0
Digits base s = Each (λ (x : ℕ). x < base) 0 s

-- the number before digits counts as often as their places have values
pub onto_sum : (base a : ℕ) (s : List ℕ) → onto base a s ≡ a * base ^ length s + onto base 0 s
unfolding onto
onto_sum base a [] = rw pow-zero (omega arith)
onto_sum base a (x ∷ s) =
    let p : ℕ = base ^ length s in
    rw (onto_sum base (a * base + x) s, onto_sum base (0 * base + x) s, pow-succ')
    (omega (arith, add-mul (a * base) x p, add-mul (0 * base) x p, mul_assoc a base p, zero-mul base, zero-mul p))

module _ (base : ℕ) (pos : 0 < base) where
  pub digit_below : (k n : ℕ) → Digits base (digits base k n)
  unfolding digits
  digit_below zero n i = pos
  digit_below (suc k) n zero = mod-lt (n / base ^ k) pos
  digit_below (suc k) n (suc i) = digit_below k n i

  -- digits read back, after what was read before
  pub onto_digits : (a k n : ℕ) → onto base a (digits base k n) ≡ a * base ^ k + n % base ^ k
  unfolding onto digits
  onto_digits a zero n = rw pow-zero (omega (arith, mod-one n))
  onto_digits a (suc k) n =
      let p : ℕ = base ^ k in
      let d : ℕ = n / p % base in
      let m : n % (base * p) ≡ d * p + n % p = mod-mul n {m = base} {c = p} pos (one-le-pow k base pos) in
      onto_digits (a * base + d) k n
      ∙ omega (arith, m, add-mul (a * base) d p, mul_assoc a base p)
      ∙ ap (λ (x : ℕ). a * x + n % x) (sym (pow-succ' base k))

  pub digits_back : (k n : ℕ) → n < base ^ k → onto base 0 (digits base k n) ≡ n
  digits_back k n h =
      let z : 0 * base ^ k ≡ 0 = zero-mul (base ^ k) in
      onto_digits 0 k n ∙ omega (arith, z, mod-eq_of_lt h)

  -- the number before digits that each are below the base stands above their places
  pub onto_above : (a : ℕ) (s : List ℕ) → Digits base s → onto base a s / base ^ length s ≡ a
  unfolding onto
  onto_above a [] h = rw pow-zero (div-one a)
  onto_above a (x ∷ s) h =
      rw (pow-suc, ← div-div-eq-div-mul, onto_above (a * base + x) s (λ i. h (suc i))) (digits_div a (h 0))

  -- the digits of a number that was made of them, whatever came before
  pub digits_onto : (a : ℕ) (s : List ℕ) → Digits base s → digits base (length s) (onto base a s) ≡ s
  unfolding onto digits
  digits_onto a [] h = refl
  digits_onto a (x ∷ s) h =
      let t : Digits base s = λ i. h (suc i) in
      rw (onto_above (a * base + x) s t, digits_mod a {m = base} (h 0), digits_onto (a * base + x) s t)

-- a plain number of k bytes
pub number_back : (k n : ℕ) → n < 256 ^ k → number (bytes_of k n) ≡ n
number_back k n h = digits_back 256 (omega arith) k n h

-- a byte other than 0 before k others
pub number_large : (k x : ℕ) (s : List ℕ) → (x ≡ 0 → ⊥) → k ≤ length s → 256 ^ k ≤ number (x ∷ s)
unfolding onto
number_large k x s some long =
    let p : ℕ = 256 ^ length s in
    let grows : 256 ^ k ≤ p = pow-le-pow_right {n = 256} (omega arith) long in
    let once : 1 * p ≤ x * p = mul-le-mul_right p (omega arith) in
    rw (onto_sum 256 (0 * 256 + x) s) (omega arith)

-- ---- synchsafe numbers

-- where no byte has bit 7, or is a sum
or_sum : (a b c d : ℕ) → b < 128 → c < 128 → d < 128 → bit_or (bit_or (bit_or (a * 2 ^ 21) (b * 2 ^ 14)) (c * 2 ^ 7)) d ≡ ((a * 128 + b) * 128 + c) * 128 + d
or_sum a b c d hb hc hd =
    let one : bit_or (a * 2 ^ 21) (b * 2 ^ 14) ≡ (a * 128 + b) * 2 ^ 14 = or_shifted a 21 (b * 2 ^ 14) (omega arith) ∙ omega arith in
    let two : bit_or ((a * 128 + b) * 2 ^ 14) (c * 2 ^ 7) ≡ ((a * 128 + b) * 128 + c) * 2 ^ 7 =
    or_shifted (a * 128 + b) 14 (c * 2 ^ 7) (omega arith) ∙ omega arith in
    ap (λ (x : ℕ). bit_or (bit_or x (c * 2 ^ 7)) d) one
    ∙ ap (λ (x : ℕ). bit_or x d) two
    ∙ or_shifted ((a * 128 + b) * 128 + c) 7 d hd

-- every byte of a synchsafe number is below 128
pub synchsafe_below : (n i : ℕ) → get_or (synchsafe n) i 0 < 128
synchsafe_below n i = digit_below 128 (omega arith) 4 n i

-- decoding what was encoded, below 2^28
pub synchsafe_back : (n : ℕ) → n < 2 ^ 28 → from_synchsafe (synchsafe n) ≡ n
unfolding digits onto
synchsafe_back n h =
    let digit : ℕ → ℕ = λ i. get_or (synchsafe n) i 0 in
    let below = synchsafe_below n in
    let e : onto 128 0 (synchsafe n) ≡ n = digits_back 128 (omega arith) 4 n h in
    or_sum (digit 0) (digit 1) (digit 2) (digit 3) (below 1) (below 2) (below 3) ∙ omega (arith, e)
