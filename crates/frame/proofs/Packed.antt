-- Numbers at a place among the bits of bytes. Assumes nothing.
use mathlib.Core.Path.{◌≡◌, refl, sym, ap, ◌∙◌}
use Prim.Native.Nat.{ℕ, zero, suc, ◌+◌, ◌-◌, ◌*◌, ◌/◌, ◌%◌, ◌^◌, ◌≤◌, ◌<◌}
use native.Mathlib.Nat.{zero-mul, suc-mul, mod-eq_of_lt}
use native.Mathlib.Omega.{arith}
use mathlib.Core.List.{List, [], ◌∷◌}
use lib.Bits.{bit_and, and_mask}
use lib.Pow.{shl_exact}
use lib.ListN.{length, take, drop, length-take, length-drop, length-append, take-append-drop}
use lib.Seq.{slice, take_all, drop-drop, take-append-add, drop-append-add, take-nil, drop-nil}
use Rattle.laws.proofs.Parts.{each_take, each_drop}
use Rattle.laws.proofs.Cuts.{take_drop, length_cut}
use Rattle.laws.proofs.Slices.{take_drop_take}
use Rattle.format.specs.Numbers.{digits, onto, number}
use Rattle.format.specs.Table.{spread, gathered}
use Rattle.format.proofs.Numbers.{Digits, length_digits, onto_digits, onto_above}
use Rattle.format.proofs.Table.{spread_bits}
use Rattle.loads.proofs.Onto.{onto_append, onto_low}

-- ---- bytes as bits

two : 0 < 2
two = omega arith

-- bits make the number that their bytes make
bits_number : (a : ℕ) (s : List ℕ) → Digits 256 s → onto 2 a (spread 8 8 s) ≡ onto 256 a s
unfolding onto spread
bits_number a [] d = refl
bits_number a (x ∷ s) d =
    rw (onto_append, onto_digits 2 two a 8 x, mod-eq_of_lt (d 0)) (bits_number (a * 256 + x) s (λ i. d (suc i)))

-- numbers of one width, cut at whole numbers
module _ (u : ℕ) where
  pub length_bits : (s : List ℕ) → length (spread u u s) ≡ length s * u
  unfolding spread
  length_bits [] = sym (zero-mul u)
  length_bits (x ∷ s) =
      simp (length-append, length_digits) (omega (arith, length_bits s, suc-mul (length s) u))

  next_bits : (k x : ℕ) → suc k * u ≡ length (digits 2 u x) + k * u
  next_bits k x = omega (arith, suc-mul k u, length_digits 2 u x)

  drop_bits : (k : ℕ) (s : List ℕ) → drop (k * u) (spread u u s) ≡ spread u u (drop k s)
  unfolding spread
  drop_bits zero s = rw (zero-mul u)
  drop_bits (suc k) [] = drop-nil (suc k * u)
  drop_bits (suc k) (x ∷ s) = rw (next_bits k x, drop-append-add, drop_bits k s)

  take_bits : (n : ℕ) (s : List ℕ) → take (n * u) (spread u u s) ≡ spread u u (take n s)
  unfolding spread
  take_bits zero s = rw (zero-mul u)
  take_bits (suc n) [] = take-nil (suc n * u)
  take_bits (suc n) (x ∷ s) = rw (next_bits n x, take-append-add, take_bits n s)

-- ---- w bits in the middle

middle : (r w z : ℕ) (l : List ℕ) → Digits 2 l → length l ≡ r + (w + z) → onto 2 0 l / 2 ^ z % 2 ^ w ≡ onto 2 0 (take w (drop r l))
middle r w z l d h =
    let m : List ℕ = drop r l in
    let a : ℕ = onto 2 0 (take r l) in
    let dm : Digits 2 m = each_drop (λ (x : ℕ). x < 2) 0 r l d in
    let eb : length (take w m) ≡ w = simp (length-take, length-drop) (omega arith) in
    let ec : length (drop w m) ≡ z = simp (length-drop) (omega arith) in
    let e : onto 2 0 l ≡ onto 2 (onto 2 a (take w m)) (drop w m) =
    ap (onto 2 0) (sym (take-append-drop r l))
    ∙ onto_append 2 0 (take r l) m
    ∙ ap (onto 2 a) (sym (take-append-drop w m))
    ∙ onto_append 2 a (take w m) (drop w m) in
    let above = onto_above 2 two (onto 2 a (take w m)) (drop w m) (each_drop (λ (x : ℕ). x < 2) 0 w m dm) in
    let low = onto_low 2 two a (take w m) (each_take (λ (x : ℕ). x < 2) 0 two w m dm) in
    ap (λ (x : ℕ). x / 2 ^ z % 2 ^ w) e ∙ ap (λ (x : ℕ). x % 2 ^ w) (rw ec at above) ∙ rw eb at low

-- read from the bytes that hold them
pub bits_read : (s : List ℕ) (k n r w : ℕ) → Digits 256 s → k + n ≤ length s → r + w ≤ n * 8
    → number (slice k (k + n) s) / 2 ^ (n * 8 - (r + w)) % 2 ^ w ≡ onto 2 0 (take w (drop (k * 8 + r) (spread 8 8 s)))
bits_read s k n r w d inside h =
    let z : ℕ = n * 8 - (r + w) in
    let t : List ℕ = take n (drop k s) in
    let dt : Digits 256 t = each_take (λ (x : ℕ). x < 256) 0 (omega arith) n (drop k s) (each_drop (λ (x : ℕ). x < 256) 0 k s d) in
    let e : spread 8 8 t ≡ take (n * 8) (drop (k * 8) (spread 8 8 s)) = rw (drop_bits, take_bits) in
    let lt : length t ≡ n = simp (length-take, length-drop) (omega arith) in
    let len : length (spread 8 8 t) ≡ r + (w + z) = omega (arith, length_bits 8 t) in
    ap (λ (l : List ℕ). number l / 2 ^ z % 2 ^ w) (sym (take_drop n k s))
    ∙ ap (λ (x : ℕ). x / 2 ^ z % 2 ^ w) (sym (bits_number 0 t dt))
    ∙ middle r w z (spread 8 8 t) (spread_bits 8 8 t) len
    ∙ ap (λ (l : List ℕ). onto 2 0 (take w (drop r l))) e
    ∙ rw (take_drop_take w r (n * 8) (drop (k * 8) (spread 8 8 s)) h, drop-drop)

-- the same of as many bytes as there may be, under a mask

pub mask : (w : ℕ) → w ≤ 32 → 1 * 2 ^ w % 2 ^ 64 ≡ 2 ^ w
mask w h = shl_exact {a = 1} 1 w 64 (omega arith) (omega arith) ∙ omega arith

pub bits_masked : (s : List ℕ) (k r w x : ℕ) → Digits 256 s → r < 8 → w ≤ 32 → k * 8 + r + w ≤ 8 * length s
    → x ≡ number (take 8 (slice k (k + (r + w + 7) / 8) s))
    → bit_and (x / 2 ^ ((r + w + 7) / 8 * 8 - (r + w))) (1 * 2 ^ w % 2 ^ 64 - 1) ≡ onto 2 0 (take w (drop (k * 8 + r) (spread 8 8 s)))
bits_masked s k r w x d hr hw inside e =
    let n : ℕ = (r + w + 7) / 8 in
    let few : length (slice k (k + n) s) ≤ 8 = omega (arith, length_cut k (k + n) s) in
    rw (mask w hw, and_mask, e, take_all 8 (slice k (k + n) s) few) (bits_read s k n r w d (omega arith) (omega arith))

-- ---- the numbers of two widths by turns

-- the next number, and those after it
pub gathered_next : (n v w : ℕ) (l : List ℕ) → 0 < n → gathered n v w l ≡ onto 2 0 (take v l) ∷ gathered (n - 1) w v (drop v l)
unfolding gathered
gathered_next zero v w l h = absurd (omega arith)
gathered_next (suc n) v w l h = let e : suc n - 1 ≡ n = omega arith in rw e

pub gathered_none : (n v w : ℕ) (l : List ℕ) → n ≡ 0 → gathered n v w l ≡ []
unfolding gathered
gathered_none zero v w l h = refl
gathered_none (suc n) v w l h = absurd (omega arith)
