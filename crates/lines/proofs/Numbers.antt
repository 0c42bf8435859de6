-- Laws of decimal and hexadecimal numbers. Assumes nothing.
use mathlib.Core.Path.{◌≡◌, refl, ap, sym, ◌∙◌}
use mathlib.Core.Bool.{Bool, true, false}
use mathlib.Core.List.{List, [], ◌∷◌, ◌++◌}
use Prim.Native.Nat.{ℕ, zero, suc, ◌+◌, ◌*◌, ◌/◌, ◌%◌, ◌^◌, ◌≤◌, ◌<◌}
use native.Mathlib.Nat.{pow-suc, div-lt_iff_lt-mul}
use native.Mathlib.Omega.{arith}
use lib.ListN.{length, length-append}
use lib.Dec.{ltb}
use borrow.Author.Tests.{lt-ltb, le-ltb}
use Rattle.format.specs.Bytes.{pick}
use Rattle.format.specs.Listing.{decimal_in, decimal, hex_in, hex}
use Rattle.format.specs.Numbers.{digits, bytes_of}

-- ---- decimal

-- more digits than a number has change nothing
enough : (k n : ℕ) → n < 10 ^ suc k → decimal_in (suc k) n ≡ decimal_in (suc (suc k)) n
unfolding decimal_in
enough zero n h =
    let small : n < 10 = h in
    rw (lt-ltb n 10 small)
enough (suc k) n h =
    let fewer : n / 10 < 10 ^ suc k = (div-lt_iff_lt-mul (let p : 0 < 10 = omega arith in p)).1 (omega (arith, pow-suc 10 (suc k))) in
    ap (λ (l : List ℕ). pick (ltb n 10) [] l ++ ((48 + n % 10) ∷ [])) (enough k (n / 10) fewer)

pub one_digit : (n : ℕ) → n < 10 → (48 + n) ∷ [] ≡ decimal n
unfolding decimal_in
one_digit n h =
    let e : n ≡ n % 10 = omega arith in
    rw (lt-ltb n 10 h) (ap (λ (x : ℕ). (48 + x) ∷ []) e)

pub more_digits : (n : ℕ) → 10 ≤ n → n < 2 ^ 64 → decimal (n / 10) ++ ((48 + n % 10) ∷ []) ≡ decimal n
unfolding decimal_in
more_digits n h f =
    ap (λ (l : List ℕ). l ++ ((48 + n % 10) ∷ [])) (sym (enough 18 (n / 10) (omega arith)))
    ∙ sym (ap (λ (b : Bool). pick b [] (decimal_in 19 (n / 10)) ++ ((48 + n % 10) ∷ [])) (le-ltb n 10 h))

one_more_lem : (b : Bool) (l : List ℕ) (x k : ℕ) → length l ≤ k → length (pick b [] l ++ (x ∷ [])) ≤ suc k
one_more_lem true l x k h = omega arith
one_more_lem false l x k h = omega (arith, length-append l (x ∷ []))

at_most : (k n : ℕ) → length (decimal_in k n) ≤ k
unfolding decimal_in
at_most zero n = omega arith
at_most (suc k) n = one_more_lem (ltb n 10) (decimal_in k (n / 10)) (48 + n % 10) k (at_most k (n / 10))

-- a number below the power of ten has no more digits
below_power : (k j n : ℕ) → n < 10 ^ suc k → length (decimal_in j n) ≤ suc k
unfolding decimal_in
below_power k zero n h = omega arith
below_power zero (suc j) n h =
    let small : n < 10 = h in
    rw (lt-ltb n 10 small) (omega arith)
below_power (suc k) (suc j) n h =
    let fewer : n / 10 < 10 ^ suc k = (div-lt_iff_lt-mul (let p : 0 < 10 = omega arith in p)).1 (omega (arith, pow-suc 10 (suc k))) in
    one_more_lem (ltb n 10) (decimal_in j (n / 10)) (48 + n % 10) (suc k) (below_power k j (n / 10) fewer)

pub twenty : (n : ℕ) → length (decimal n) ≤ 20
twenty n = at_most 20 n

pub five : (n : ℕ) → n < 100000 → length (decimal n) ≤ 5
five n h = below_power 4 20 n h

-- ---- hexadecimal

pub no_pairs : hex_in [] ≡ []
unfolding hex_in
no_pairs = refl

pub pairs_join : (a b : List ℕ) → hex_in (a ++ b) ≡ hex_in a ++ hex_in b
unfolding hex_in
pairs_join [] b = refl
pairs_join (x ∷ a) b = rw (pairs_join a b)

pairs_length : (s : List ℕ) → length (hex_in s) ≡ 2 * length s
unfolding hex_in
pairs_length [] = refl
pairs_length (x ∷ s) = omega (arith, pairs_length s)

pub hex_none : (s : List ℕ) → length s ≡ 0 → 45 ∷ [] ≡ hex s
unfolding hex
hex_none [] h = refl
hex_none (x ∷ s) h = absurd (omega arith)

pub hex_some : (s : List ℕ) → (length s ≡ 0 → ⊥) → hex_in s ≡ hex s
unfolding hex
hex_some [] h = absurd (h refl)
hex_some (x ∷ s) h = refl

-- two digits a byte, and at most one byte more
pub hex_length : (s : List ℕ) → (2 * length s ≤ length (hex s)) × (length (hex s) ≤ 1 + 2 * length s)
unfolding hex
hex_length [] = omega arith
hex_length (x ∷ s) = omega (arith, pairs_length (x ∷ s))

-- ---- an id's bytes

pub three_bytes : (n : ℕ) → n / 0x1_0000 % 256 ∷ n / 256 % 256 ∷ n % 256 ∷ [] ≡ bytes_of 3 n
unfolding digits
three_bytes n =
    let e : n % 256 ≡ n / 1 % 256 = omega arith in
    ap (λ (x : ℕ). n / 0x1_0000 % 256 ∷ n / 256 % 256 ∷ x ∷ []) e

pub four_bytes : (n : ℕ) → n / 0x100_0000 % 256 ∷ n / 0x1_0000 % 256 ∷ n / 256 % 256 ∷ n % 256 ∷ [] ≡ bytes_of 4 n
unfolding digits
four_bytes n = ap (λ (l : List ℕ). n / 0x100_0000 % 256 ∷ l) (three_bytes n)
