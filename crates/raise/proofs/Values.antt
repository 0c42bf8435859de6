-- A value byte by byte, from its last byte on. Assumes nothing.
use mathlib.Core.Path.{◌≡◌, refl, sym, ap, ◌∙◌}
use Prim.Native.Nat.{ℕ, zero, suc, ◌+◌, ◌*◌, ◌/◌, ◌%◌, ◌^◌, ◌≤◌, ◌<◌}
use native.Mathlib.Nat.{pow-suc, pow-succ', div-one, div-div-eq-div-mul, div-eq_of_lt, lt-div-mul-add, one-le-pow, pow-le-pow_right, zero-mul}
use native.Mathlib.Omega.{arith}
use lib.Pow.{pow-add}
use mathlib.Core.Bool.{Bool, true, false}
use mathlib.Core.List.{List}
use lib.ListN.{set}
use lib.Seq.{sets}
use lib.Dec.{ltb, eqb}
use borrow.Author.Tests.{ltb-true, ltb-false, lt-ltb, eq-eqb, ne_eqb}
use Rattle.laws.proofs.Stores.{set_sets}
use Rattle.format.specs.Numbers.{digits, bytes_of}

-- ---- what is left of a value after its last k bytes

pub next_left : (value k : ℕ) → value / 256 ^ k / 256 ≡ value / 256 ^ (k + 1)
next_left value k =
    let e : k + 1 ≡ suc k = omega arith in
    div-div-eq-div-mul value (256 ^ k) 256 ∙ ap (λ (m : ℕ). value / m) (sym (ap (λ (j : ℕ). 256 ^ j) e ∙ pow-suc 256 k))

pub whole_left : (value : ℕ) → value ≡ value / 256 ^ 0
whole_left value = sym (div-one value)

none_left : (value k : ℕ) → value / 256 ^ k ≡ 0 → value < 256 ^ k
none_left value k e =
    let pos : 0 < 256 ^ k = one-le-pow k 256 (omega arith) in
    let z : 0 * 256 ^ k ≡ 0 = zero-mul (256 ^ k) in
    let h : value < value / 256 ^ k * 256 ^ k + 256 ^ k = lt-div-mul-add pos in
    let f : value / 256 ^ k * 256 ^ k ≡ 0 = ap (λ (q : ℕ). q * 256 ^ k) e ∙ z in
    omega arith

-- ---- whether n bytes hold it

-- eight bits a byte
pub bits_of_bytes : (n : ℕ) → 2 ^ (8 * n) ≡ 256 ^ n
bits_of_bytes zero = refl
bits_of_bytes (suc n) =
    let e : 8 * suc n ≡ 8 + 8 * n = omega arith in
    rw (e, pow-add 2 8 (8 * n), pow-succ' 256 n, bits_of_bytes n)

pub fits_all : (value n : ℕ) → value < 2 ^ 64 → 8 ≤ n → true ≡ ltb value (256 ^ n)
fits_all value n h le =
    let wide : 64 ≤ 8 * n = omega arith in
    let b : 2 ^ 64 ≤ 2 ^ (8 * n) = pow-le-pow_right (omega arith) wide in
    sym (lt-ltb value (256 ^ n) (omega (arith, bits_of_bytes n)))

pub fits_last : (value n : ℕ) → eqb (value / 2 ^ (8 * n)) 0 ≡ ltb value (256 ^ n)
fits_last value n = rw bits_of_bytes (by (ltb value (256 ^ n)) refl)
  where
    by : (t : Bool) → ltb value (256 ^ n) ≡ t → eqb (value / 256 ^ n) 0 ≡ t
    by true e = eq-eqb (value / 256 ^ n) 0 (div-eq_of_lt (ltb-true value (256 ^ n) e))
    by false e = ne_eqb (value / 256 ^ n) 0 (λ z. let h = none_left value n z in let m = ltb-false value (256 ^ n) e in omega arith)

-- ---- stored from its last byte on

pub put_turn : (o : List ℕ) (at value k : ℕ) → set (sets o (suc at) (bytes_of k value)) at (value / 256 ^ k % 256) ≡ sets o at (bytes_of (suc k) value)
unfolding digits
put_turn o at value k = set_sets o at (suc at) (value / 256 ^ k % 256) (bytes_of k value) (omega arith)
