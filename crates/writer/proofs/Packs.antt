-- Laws of packing a table's references a byte at a time. Assumes nothing.
use mathlib.Core.Path.{◌≡◌, refl, sym, ap, ◌∙◌}
use Prim.Native.Nat.{ℕ, zero, suc, ◌+◌, ◌-◌, ◌*◌, ◌/◌, ◌%◌, ◌^◌, ◌≤◌, ◌<◌}
use native.Mathlib.Nat.{zero-div, mul_assoc, mul_right_comm, div-add-mod', add-mul, mul-mod_left}
use native.Mathlib.Omega.{arith}
use mathlib.Core.Bool.{true}
use mathlib.Core.List.{List, [], ◌∷◌, ◌++◌, append-nil, append_assoc}
use lib.ListN.{length, take, drop, get_or, length-append, length-replicate}
use lib.Seq.{take_at, drop_at, take-append-add}
use lib.Dec.{ltb}
use lib.Bits.{bit_or, or_shifted, or_zero_r}
use lib.Pow.{pow_pos, pow-add, shl-shr, high, mod-pow-add}
use borrow.Author.Tests.{ltb-true}
use Rattle.laws.proofs.Bools.{and_true}
use Rattle.laws.proofs.Cuts.{drop_next}
use Rattle.laws.proofs.Pieces.{drop_none}
use Rattle.format.specs.Bytes.{zeros}
use Rattle.format.specs.Numbers.{digits, onto}
use Rattle.format.specs.Table.{spread, gathered, filled, pack, fit}
use Rattle.format.proofs.Numbers.{length_digits, onto_digits}
use Rattle.format.proofs.Table.{length_gathered}
use Rattle.writer.specs.Packs.{left, Ready, Packable}
use Rattle.writer.specs.declared.pack.Bits.{Bits}
use Rattle.writer.proofs.Digits.{digits_split, digits_high}

-- ---- bits in acc

two : 0 < 2
two = omega arith

pub zero_bits : (k : ℕ) → digits 2 k 0 ≡ zeros k
unfolding digits
zero_bits zero = refl
zero_bits (suc k) = rw zero-div (ap (λ (l : List ℕ). 0 ∷ l) (zero_bits k))

-- a shift by a in k + a bits
shifted : (y a k : ℕ) → y * 2 ^ a % 2 ^ (k + a) ≡ y % 2 ^ k * 2 ^ a
shifted y a k =
    mod-pow-add (y * 2 ^ a) k a
    ∙ ap (λ (n : ℕ). n % 2 ^ k * 2 ^ a + y * 2 ^ a % 2 ^ a) (shl-shr y a)
    ∙ omega (arith, mul-mod_left y (2 ^ a))

-- the lowest h bits, of more that are kept
low_bits : (h j y : ℕ) → digits 2 h (y % 2 ^ (j + h)) ≡ digits 2 h y
low_bits h j y =
    let q : ℕ = y / 2 ^ (j + h) in
    let e : q * 2 ^ (j + h) ≡ q * 2 ^ j * 2 ^ h = ap (λ (n : ℕ). q * n) (pow-add 2 j h) ∙ sym (mul_assoc q (2 ^ j) (2 ^ h)) in
    let f : y ≡ q * 2 ^ j * 2 ^ h + y % 2 ^ (j + h) = omega (arith, e, div-add-mod' y (2 ^ (j + h))) in
    sym (ap (digits 2 h) f ∙ digits_high 2 two h (q * 2 ^ j) (y % 2 ^ (j + h)))

-- x put after the h bits that wait in y
pub joined : (h a y x : ℕ) → x < 2 ^ a → h + a ≤ 64 → digits 2 (h + a) (bit_or (y * 2 ^ a % 2 ^ 64) x) ≡ digits 2 h y ++ digits 2 a x
joined h a y x lt le =
    let j : ℕ = 64 - a - h in
    let z : ℕ = y % 2 ^ (j + h) in
    let w : 64 ≡ j + h + a = omega arith in
    let s : y * 2 ^ a % 2 ^ 64 ≡ z * 2 ^ a = ap (λ (n : ℕ). y * 2 ^ a % 2 ^ n) w ∙ shifted y a (j + h) in
    let e : bit_or (y * 2 ^ a % 2 ^ 64) x ≡ z * 2 ^ a + x = ap (λ (n : ℕ). bit_or n x) s ∙ or_shifted z a x lt in
    rw (e, digits_split 2 two h a (z * 2 ^ a + x), high z a lt, digits_high 2 two a z x, low_bits h j y)

-- ---- whole bytes

-- eight bits are the first byte
filled_eight : (p l : List ℕ) → length p ≡ 8 → filled (p ++ l) ≡ onto 2 0 p ∷ filled l
unfolding filled gathered
filled_eight p l h =
    let n : (length (p ++ l) + 7) / 8 ≡ suc ((length l + 7) / 8) = omega (arith, length-append p l) in
    rw (n, append_assoc, take_at p (l ++ zeros 7) 8 h, drop_at p (l ++ zeros 7) 8 h)

pub byte : (h y : ℕ) (l : List ℕ) → 8 ≤ h → filled (digits 2 h y ++ l) ≡ y / 2 ^ (h - 8) % 256 ∷ filled (digits 2 (h - 8) y ++ l)
byte h y l le =
    let k : ℕ = h - 8 in
    let e : h ≡ 8 + k = omega arith in
    let p = digits 2 8 (y / 2 ^ k) in
    let b : onto 2 0 p ≡ y / 2 ^ k % 256 = onto_digits 2 two 0 8 (y / 2 ^ k) ∙ omega arith in
    ap (λ (n : ℕ). filled (digits 2 n y ++ l)) e
    ∙ ap (λ (z : List ℕ). filled (z ++ l)) (digits_split 2 two 8 k y)
    ∙ ap filled (append_assoc p (digits 2 k y) l)
    ∙ filled_eight p (digits 2 k y ++ l) (length_digits 2 8 (y / 2 ^ k))
    ∙ ap (λ (n : ℕ). n ∷ filled (digits 2 k y ++ l)) b

-- ---- the last byte

zeros_take : (k n : ℕ) → k ≤ n → take k (zeros n) ≡ zeros k
zeros_take zero n h = refl
zeros_take (suc k) zero h = absurd (omega arith)
zeros_take (suc k) (suc n) h = ap (λ (l : List ℕ). 0 ∷ l) (zeros_take k n (omega arith))

-- 0 bits that make up a byte were there already
padded : (l : List ℕ) (k : ℕ) → 0 < length l → length l + k ≡ 8 → filled (l ++ zeros k) ≡ filled l
unfolding filled gathered
padded l k some is =
    let n : (length l + 7) / 8 ≡ 1 = omega arith in
    let t : take 8 (l ++ zeros 7) ≡ l ++ zeros k =
    ap (λ (j : ℕ). take j (l ++ zeros 7)) (sym is) ∙ take-append-add l (zeros 7) k ∙ ap (λ (z : List ℕ). l ++ z) (zeros_take k 7 (omega arith)) in
    ap filled (sym (append-nil (l ++ zeros k)))
    ∙ filled_eight (l ++ zeros k) [] (length-append l (zeros k) ∙ ap (λ (j : ℕ). length l + j) (length-replicate k 0) ∙ is)
    ∙ ap (λ (z : List ℕ). onto 2 0 z ∷ []) (sym t)
    ∙ ap (λ (j : ℕ). gathered j 8 8 (l ++ zeros 7)) (sym n)

-- the last bits, filled
pub last : (h y : ℕ) → 0 < h → h < 8 → filled (digits 2 8 (y * 2 ^ (8 - h) % 2 ^ 64)) ≡ filled (digits 2 h y)
last h y some few =
    let k : ℕ = 8 - h in
    let z : ℕ = y * 2 ^ k % 2 ^ 64 in
    let e : 8 ≡ h + k = omega arith in
    let n : length (digits 2 h y) ≡ h = length_digits 2 h y in
    ap (λ (x : ℕ). filled (digits 2 8 x)) (sym (or_zero_r z))
    ∙ ap (λ (j : ℕ). filled (digits 2 j (bit_or z 0))) e
    ∙ ap filled (joined h k y 0 (pow_pos k) (omega arith) ∙ ap (λ (l : List ℕ). digits 2 h y ++ l) (zero_bits k))
    ∙ padded (digits 2 h y) k (omega arith) (omega arith)

-- ---- the deviations

fit_next : (a b i : ℕ) (ds : List ℕ) → i < length ds → fit a b (drop i ds) ≡ true → (get_or ds i 0 < 2 ^ a) × (fit b a (drop (i + 1) ds) ≡ true)
unfolding fit
fit_next a b i ds lt f =
    let t = and_true (ltb (get_or ds i 0) (2 ^ a)) (fit b a (drop (i + 1) ds)) (ap (fit a b) (sym (drop_next ds i lt)) ∙ f) in
    (ltb-true _ _ t.0, t.1)

abbrev pub bits_at : ℕ → ℕ → ℕ → ℕ → ℕ → Bits
bits_at acc have i a b = record { acc = acc; have = have; i = i; a = a; b = b }

-- a deviation is taken in
module _ (ds : List ℕ) (acc have i a b x : ℕ) (there : i < length ds) (is : x ≡ get_or ds i 0) (few : have < 8) (ready : Ready ds (bits_at acc have i a b)) where
  pub taken_ready : Ready ds (bits_at (bit_or (acc * 2 ^ a % 2 ^ 64) x) (have + a) (i + 1) b a)
  taken_ready = record {
    few = omega (arith, ready.first);
    first = ready.second;
    second = ready.first;
    within = omega arith;
    fits = (fit_next a b i ds there ready.fits).1;
  }

  pub taken_left : left (bits_at (bit_or (acc * 2 ^ a % 2 ^ 64) x) (have + a) (i + 1) b a) ds ≡ left (bits_at acc have i a b) ds
  unfolding spread
  taken_left =
      let small : x < 2 ^ a = rw is (fit_next a b i ds there ready.fits).0 in
      let l = spread b a (drop (i + 1) ds) in
      rw (joined have a acc x small (omega (arith, ready.first)), drop_next ds i there, ← is, append_assoc)

-- all are taken in, and the last bits are filled
left_last : (ds : List ℕ) (acc have i a b : ℕ) → length ds ≤ i → left (bits_at acc have i a b) ds ≡ filled (digits 2 have acc)
unfolding spread
left_last ds acc have i a b none = rw (drop_none ds i none, append-nil (digits 2 have acc))

pub length_filled : (l : List ℕ) → length (filled l) ≡ (length l + 7) / 8
unfolding filled
length_filled l = length_gathered ((length l + 7) / 8) 8 8 (l ++ zeros 7)

module _ (ds : List ℕ) (acc have i a b : ℕ) (none : length ds ≤ i) (few : have < 8) (ready : Ready ds (bits_at acc have i a b)) where
  pub filled_ready : Ready ds (bits_at (acc * 2 ^ (8 - have) % 2 ^ 64) 8 i a b)
  filled_ready = record {
    few = omega arith;
    first = ready.first;
    second = ready.second;
    within = ready.within;
    fits = ready.fits;
  }

  pub filled_left : 0 < length (left (bits_at acc have i a b) ds) → left (bits_at (acc * 2 ^ (8 - have) % 2 ^ 64) 8 i a b) ds ≡ left (bits_at acc have i a b) ds
  filled_left some =
      let e = left_last ds acc have i a b none in
      let n : length (filled (digits 2 have acc)) ≡ (have + 7) / 8 = length_filled (digits 2 have acc) ∙ ap (λ (k : ℕ). (k + 7) / 8) (length_digits 2 have acc) in
      left_last ds (acc * 2 ^ (8 - have) % 2 ^ 64) 8 i a b none ∙ last have acc (omega (arith, ap length e)) few ∙ sym e

-- a byte is taken out
pub out_ready : (ds : List ℕ) (bits : Bits) → 8 ≤ bits.have → Ready ds bits → Ready ds (bits_at bits.acc (bits.have - 8) bits.i bits.a bits.b)
out_ready ds bits whole ready = record {
  few = omega (arith, ready.few);
  first = ready.first;
  second = ready.second;
  within = ready.within;
  fits = ready.fits;
}

-- at the start
pub start_ready : (v w : ℕ) (ds : List ℕ) → Packable v w ds → Ready ds (bits_at 0 0 0 v w)
start_ready v w ds p = record { few = omega arith; first = p.first; second = p.second; within = omega arith; fits = p.fits }

pub start_left : (v w : ℕ) (ds : List ℕ) → left (bits_at 0 0 0 v w) ds ≡ pack v w ds
unfolding digits pack
start_left v w ds = refl

-- ---- how many bytes

-- the product of the count does not appear
pub split_length : (k s : ℕ) → k / 8 * s + (k % 8 * s + 7) / 8 ≡ (k * s + 7) / 8
split_length k s =
    let e : k * s ≡ k / 8 * 8 * s + k % 8 * s = ap (λ (n : ℕ). n * s) (sym (div-add-mod' k 8)) ∙ add-mul (k / 8 * 8) (k % 8) s in
    let f : k / 8 * 8 * s ≡ k / 8 * s * 8 = mul_right_comm (k / 8) 8 s in
    omega arith
