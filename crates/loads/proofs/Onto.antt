-- Big-endian numbers: a byte at a time, two one after the other, and the last bytes alone. Assumes nothing.
use mathlib.Core.Path.{◌≡◌, refl, sym, ap, ◌∙◌}
use Prim.Native.Nat.{ℕ, zero, suc, ◌+◌, ◌-◌, ◌*◌, ◌/◌, ◌%◌, ◌^◌, ◌≤◌, ◌<◌, min}
use native.Mathlib.Nat.{zero-mul, pow-succ', lt_of_lt_of_le, pow-le-pow_right}
use native.Mathlib.Numerals.{add-one}
use native.Mathlib.Omega.{arith}
use mathlib.Core.List.{List, [], ◌∷◌, ◌++◌}
use lib.ListN.{length, take, drop, get_or, length-drop, take-append-drop}
use lib.Pow.{pow-add, field, shl-shr}
use lib.Seq.{slice, take_all, take-suc, take-take, length-slice}
use Rattle.laws.proofs.Parts.{each_take, each_drop}
use Rattle.laws.proofs.Cuts.{length_cut, cut_in_two, part_cut}
use Rattle.laws.proofs.Slices.{slice_drop, take_cut}
use Rattle.format.specs.Numbers.{onto, number}
use Rattle.format.proofs.Numbers.{Digits, onto_sum, onto_digits, digits_onto}

-- ---- digits one after the other

pub onto_append : (base a : ℕ) (s t : List ℕ) → onto base a (s ++ t) ≡ onto base (onto base a s) t
unfolding onto
onto_append base a [] t = refl
onto_append base a (x ∷ s) t = onto_append base (a * base + x) s t

-- ---- a byte at a time

pub number_next : (b : List ℕ) (i x : ℕ) → i < length b → x ≡ get_or b i 0 → number (take i b) * 256 + x ≡ number (take (i + 1) b)
unfolding onto
number_next b i x h e = rw (e, add-one, take-suc b i 0 h, onto_append)

-- i bytes make a number below 256 ^ i

pub onto_small : (i a : ℕ) → i < 8 → a < 256 ^ i → a < 2 ^ 56
onto_small i a h lt = let le : i ≤ 7 = omega arith in lt_of_lt_of_le lt (pow-le-pow_right {n = 256} (omega arith) le)

pub onto_grows : (i a x : ℕ) → a < 256 ^ i → x < 256 → a * 256 + x < 256 ^ (i + 1)
onto_grows i a x h l = omega (arith, ap (λ (k : ℕ). 256 ^ k) (add-one i), pow-succ' 256 i)

-- no more bytes than there are, and no more than `most`
pub first_bytes : (s : List ℕ) (from to most end start few : ℕ) → end ≡ min to (length s) → start ≡ min from end → few ≡ min (end - start) most
    → take (start + few - start) (drop start s) ≡ take most (slice from to s)
first_bytes s from to most end start few he hs hf =
    let n : start + few - start ≡ few = omega arith in
    let le : few ≤ end - start = omega arith in
    let part : take (end - start) (drop start s) ≡ slice from to s = part_cut from to start end s he hs in
    let long : few ≡ min most (length (slice from to s)) = rw length_cut (omega arith) in
    rw n (sym (take-take few (end - start) (drop start s) le) ∙ ap (take few) part ∙ ap (λ (k : ℕ). take k (slice from to s)) long ∙ take_cut most (slice from to s))

-- all of them are read
pub number_read : (i most : ℕ) (b c : List ℕ) (n : ℕ) → b ≡ take most c → n ≡ number (take i b) → n < 256 ^ i → length b ≤ i → i ≤ most
    → (n ≡ number (take most c)) × (n < 256 ^ most)
number_read i most b c n e is small all le =
    (is ∙ ap number (take_all i b all ∙ e), lt_of_lt_of_le small (pow-le-pow_right {n = 256} (omega arith) le))

-- ---- digits after others

-- digits after others, by themselves
pub onto_low : (base : ℕ) → 0 < base → (a : ℕ) (s : List ℕ) → Digits base s → onto base a s % base ^ length s ≡ onto base 0 s
onto_low base pos a s d =
    let z : 0 * base ^ length s ≡ 0 = zero-mul (base ^ length s) in
    let e = onto_digits base pos 0 (length s) (onto base a s) in
    omega (arith, z, e) ∙ ap (onto base 0) (digits_onto base pos a s d)

-- ---- parts one after the other

module _ (at m n : ℕ) (l : List ℕ) (h : at + (m + n) ≤ length l) where
  same_end : at + m + n ≡ at + (m + n)
  same_end = omega arith

  pub number_in_two : number (slice at (at + m) l) * 256 ^ n + number (slice (at + m) (at + m + n) l) ≡ number (slice at (at + (m + n)) l)
  number_in_two =
      let b : List ℕ = slice (at + m) (at + m + n) l in
      let e : length b ≡ n = length-slice (at + m) (at + m + n) l (omega arith) ∙ omega arith in
      let parts : slice at (at + (m + n)) l ≡ slice at (at + m) l ++ b =
      cut_in_two at m (at + (m + n)) l (omega arith) ∙ ap (λ (k : ℕ). slice at (at + m) l ++ slice (at + m) k l) (sym same_end) in
      rw (parts, onto_append) (sym (rw e at (onto_sum 256 (number (slice at (at + m) l)) b)))

-- ---- the last bytes

last_bytes : (k : ℕ) (l : List ℕ) → k ≤ length l → Digits 256 l → number l % 256 ^ k ≡ number (drop (length l - k) l)
last_bytes k l h d =
    let m : ℕ = length l - k in
    let e : length (drop m l) ≡ k = length-drop m l ∙ omega arith in
    let low = onto_low 256 (omega arith) (number (take m l)) (drop m l) (each_drop (λ (x : ℕ). x < 256) 0 m l d) in
    let split : number l ≡ onto 256 (number (take m l)) (drop m l) =
    ap number (sym (take-append-drop m l)) ∙ onto_append 256 0 (take m l) (drop m l) in
    rw split (rw e at low)

bits_in_bytes : (k : ℕ) → 2 ^ (k * 8) ≡ 256 ^ k
bits_in_bytes zero = refl
bits_in_bytes (suc k) =
    let e : suc k * 8 ≡ 8 + k * 8 = omega arith in
    rw (e, pow-add 2 8 (k * 8), pow-succ' 256 k, bits_in_bytes k)

-- out to the left and back
shifted : (x j a : ℕ) → x * 2 ^ a % 2 ^ (j + a) / 2 ^ a ≡ x % 2 ^ j
shifted x j a = field (x * 2 ^ a) j a ∙ ap (λ (y : ℕ). y % 2 ^ j) (shl-shr x a)

-- of w bytes before `to`, the last k
pub shifted_last : (w k to x : ℕ) (s : List ℕ) → k ≤ w → w ≤ to → to ≤ length s → Digits 256 s → x ≡ number (slice (to - w) (to - w + w) s)
    → x * 2 ^ (w * 8 - k * 8) % 2 ^ (w * 8) / 2 ^ (w * 8 - k * 8) ≡ number (slice (to - k) to s)
shifted_last w k to x s few fits within d is =
    let a : ℕ = w * 8 - k * 8 in
    let byte : ℕ → Type 0 = λ x. x < 256 in
    let stop : to - w + w ≡ to = omega arith in
    let all : w * 8 ≡ k * 8 + a = omega arith in
    let l : List ℕ = slice (to - w) to s in
    let n : length l ≡ w = length-slice (to - w) to s within ∙ omega arith in
    let below : Digits 256 l = each_drop byte 0 (to - w) (take to s) (each_take byte 0 (omega arith) to s d) in
    let begin : to - w + (length l - k) ≡ to - k = omega arith in
    let same : drop (length l - k) l ≡ slice (to - k) to s =
    sym (slice_drop (to - w) (length l - k) to s) ∙ ap (λ (i : ℕ). slice i to s) begin in
    ap (λ (b : ℕ). x * 2 ^ a % 2 ^ b / 2 ^ a) all
    ∙ shifted x (k * 8) a
    ∙ ap (λ (p : ℕ). x % p) (bits_in_bytes k)
    ∙ ap (λ (y : ℕ). y % 256 ^ k) (is ∙ ap (λ (e : ℕ). number (slice (to - w) e s)) stop)
    ∙ last_bytes k l (omega arith) below
    ∙ ap number same

-- a part of no more than w bytes is read whole
pub all_read : (w from to : ℕ) (s : List ℕ) → from ≤ to → to ≤ length s → to ≤ from + w → number (slice (to - (to - from)) to s) ≡ number (take w (slice from to s))
all_read w from to s order within few =
    let begin : to - (to - from) ≡ from = omega arith in
    let short : length (slice from to s) ≤ w = rw length_cut (omega arith) in
    rw (begin, take_all w (slice from to s) short)
