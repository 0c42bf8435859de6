-- A lookup table that was encoded is read back: its deviations are packed as bits and unpacked again. Assumes nothing.
use mathlib.Core.Path.{◌≡◌, refl, sym, ap, ◌∙◌}
use Prim.Native.Nat.{ℕ, zero, suc, ◌+◌, ◌-◌, ◌*◌, ◌/◌, ◌%◌, ◌^◌, ◌≤◌, ◌<◌}
use native.Mathlib.Nat.{mul_assoc, div-eq_of_lt-le}
use native.Mathlib.Omega.{arith}
use mathlib.Core.Bool.{Bool, true, false, ◌&&◌}
use mathlib.Core.List.{List, [], ◌∷◌, ◌++◌, append_assoc}
use lib.ListN.{length, take, drop, length-append, length-drop}
use lib.Seq.{take_at, drop_at, take-add, take-append-add, length-take-le, take-length}
use lib.Dec.{ltb, leb, eqb}
use borrow.Author.Tests.{ltb-true, le-ltb, leb-true, eqb-true, eqb-false}
use Rattle.laws.proofs.Bools.{and_true, false_not_true}
use Rattle.laws.proofs.Parts.{each_append, each_take, each_drop, each_replicate}
use Rattle.format.specs.Bytes.{first, span, part, zeros}
use Rattle.format.specs.Numbers.{digits, onto}
use Rattle.format.specs.Table.{spread, gathered, filled, pack, unpack, fit, is_width, width_checks}
use Rattle.format.specs.Record.{body_refusal, run_of, parts_of, table}
use Rattle.format.specs.Encode.{body_bytes}
use Rattle.format.specs.declared.Version.{Version}
use Rattle.format.proofs.Checks.{none_of, none_else}
use Rattle.format.proofs.Numbers.{Digits, length_digits, digit_below, digits_back, digits_onto, number_back}
use Rattle.format.proofs.ReadBack.{ReadBack, part_in_lem}

-- ---- numbers as bits

abbrev Bit : ℕ → Type 0
Bit b = b < 2

zero_bit : Bit 0
zero_bit = omega arith

pub length_gathered : (n v w : ℕ) (l : List ℕ) → length (gathered n v w l) ≡ n
unfolding gathered
length_gathered zero v w l = refl
length_gathered (suc n) v w l = ap suc (length_gathered n w v (drop v l))

-- as many bits as the widths of the pairs say
pub length_spread : (k v w : ℕ) (ds : List ℕ) → length ds ≡ k * 2 → length (spread v w ds) ≡ k * (v + w)
unfolding spread
length_spread zero v w [] h = omega arith
length_spread zero v w (a ∷ ds) h = absurd (omega arith)
length_spread (suc k) v w [] h = absurd (omega arith)
length_spread (suc k) v w (a ∷ []) h = absurd (omega arith)
length_spread (suc k) v w (a ∷ b ∷ ds) h =
    let i : length (spread v w ds) ≡ k * (v + w) = length_spread k v w ds (omega arith) in
    simp (length-append, length_digits) (omega arith)

pub spread_bits : (v w : ℕ) (ds : List ℕ) → Digits 2 (spread v w ds)
unfolding spread
spread_bits v w [] i = zero_bit
spread_bits v w (x ∷ ds) i = each_append Bit 0 (digits 2 v x) (spread w v ds) (digit_below 2 zero_bit v x) (spread_bits w v ds) i

-- numbers that fit their widths are read back, whatever follows
pub gathered_spread : (v w : ℕ) (ds r : List ℕ) → fit v w ds ≡ true → gathered (length ds) v w (spread v w ds ++ r) ≡ ds
unfolding gathered spread fit
gathered_spread v w [] r h = refl
gathered_spread v w (x ∷ ds) r h =
    let t = and_true (ltb x (2 ^ v)) (fit w v ds) h in
    let n : length (digits 2 v x) ≡ v = length_digits 2 v x in
    rw (append_assoc, take_at, drop_at, digits_back 2 zero_bit v x (ltb-true x (2 ^ v) t.0), gathered_spread w v ds r t.1)

-- bits that were gathered to numbers of u bits, as bits again
pub spread_gathered : (n u : ℕ) (l : List ℕ) → Digits 2 l → n * u ≤ length l → spread u u (gathered n u u l) ≡ take (n * u) l
unfolding gathered spread
spread_gathered zero u l b h = let e : 0 * u ≡ 0 = omega arith in rw e
spread_gathered (suc n) u l b h =
    let m : suc n * u ≡ u + n * u = omega arith in
    let s : u ≤ length l = omega arith in
    let t : n * u ≤ length (drop u l) = simp length-drop (omega arith) in
    let f : digits 2 u (onto 2 0 (take u l)) ≡ take u l = rw length-take-le at (digits_onto 2 zero_bit 0 (take u l) (each_take Bit 0 zero_bit u l b)) in
    rw (m, take-add, f, spread_gathered n u (drop u l) (each_drop Bit 0 u l b) t)

-- ---- packed as bytes

-- as many references fit whole as were packed
count_packed : (n s : ℕ) → n % 2 ≡ 0 → s % 4 ≡ 0 → 0 < s → (eqb s 4 && eqb (n % 4) 2) ≡ false → 8 * ((n / 2 * s + 7) / 8) / s * 2 ≡ n
count_packed n s even fours pos few =
    let d : 8 * ((n / 2 * s + 7) / 8) / s ≡ n / 2 =
    div-eq_of_lt-le s {m = 8 * ((n / 2 * s + 7) / 8)} (omega arith) (below (eqb s 4) (eqb (n % 4) 2) refl refl few) in
    omega arith
  where
    below : (a b : Bool) → eqb s 4 ≡ a → eqb (n % 4) 2 ≡ b → (a && b) ≡ false → 8 * ((n / 2 * s + 7) / 8) < (n / 2 + 1) * s
    below true true e f z = absurd (false_not_true (sym z))
    below true false e f z =
        let h = eqb-false (n % 4) 2 f in
        let q : n / 2 ≡ n / 4 * 2 = omega arith in
        rw (eqb-true s 4 e, q) (omega arith)
    below false b e f z =
        let h = eqb-false s 4 e in
        let q : s ≡ s / 4 * 4 = omega arith in
        let m : n / 2 * s ≡ n / 2 * (s / 4) * 4 = ap (λ (j : ℕ). n / 2 * j) q ∙ sym (mul_assoc (n / 2) (s / 4) 4) in
        omega arith

-- the bits of filled bytes: the bits, and what the last byte was filled with
pub spread_filled : (l : List ℕ) → Digits 2 l → spread 8 8 (filled l) ≡ l ++ take ((length l + 7) / 8 * 8 - length l) (zeros 7)
unfolding filled
spread_filled l b =
    let m : (length l + 7) / 8 * 8 ≡ length l + ((length l + 7) / 8 * 8 - length l) = omega arith in
    let h : (length l + 7) / 8 * 8 ≤ length (l ++ zeros 7) = simp length-append (omega arith) in
    spread_gathered ((length l + 7) / 8) 8 (l ++ zeros 7) (each_append Bit 0 l (zeros 7) b (each_replicate Bit 0 zero_bit 7)) h
    ∙ ap (λ (j : ℕ). take j (l ++ zeros 7)) m
    ∙ take-append-add l (zeros 7) _

module _ (x y : ℕ) (ds : List ℕ) (even : length ds % 2 ≡ 0) where
  pub length_pack : length (pack x y ds) ≡ (length ds / 2 * (x + y) + 7) / 8
  unfolding pack filled
  length_pack = rw (length_gathered, length_spread (length ds / 2) x y ds (omega arith))

  -- unpacking what was packed
  pub unpack_pack : (x + y) % 4 ≡ 0 → 0 < x + y → fit x y ds ≡ true → (eqb (x + y) 4 && eqb (length ds % 4) 2) ≡ false → unpack x y (pack x y ds) ≡ ds
  unfolding unpack pack
  unpack_pack fours pos fits few =
      rw (length_pack, count_packed (length ds) (x + y) even fours pos few, spread_filled (spread x y ds) (spread_bits x y ds)) (gathered_spread x y ds _ fits)

-- ---- the whole body

-- the widths of a table that is not refused make references of whole half bytes
pub widths_sum : (x y : ℕ) → first (width_checks x y) ≡ 0 → ((x + y) % 4 ≡ 0) × (0 < x + y)
widths_sum x y h =
    let check = none_of (width_checks x y) h in
    let both = and_true (is_width x) (is_width y) (none_else _ 29 (check 0)) in
    let one = leb-true 1 x (and_true (leb 1 x) (leb x 32) both.0).0 in
    (eqb-true ((x + y) % 4) 0 (none_else _ 30 (check 1)), omega arith)

pub table_back : (v : Version) (frames bytes millis x y : ℕ) (ds : List ℕ)
    → frames < 2 ^ 16 → bytes < 2 ^ 24 → millis < 2 ^ 24 → first (width_checks x y) ≡ 0
    → length ds % 2 ≡ 0 → fit x y ds ≡ true → (eqb (x + y) 4 && eqb (length ds % 4) 2) ≡ false
    → ReadBack v (table frames bytes millis x y ds)
unfolding body_refusal run_of parts_of body_bytes first digits
table_back v frames bytes millis x y ds hf hb hm widths even fits few = record {
  taken = rw (le-ltb (length (body_bytes (table frames bytes millis x y ds))) 10 (omega arith)) widths;
  run = refl;
  view =
      λ at s lies.
      let p = pack x y ds in
      let b = body_bytes (table frames bytes millis x y ds) in
      let sum = widths_sum x y widths in
      let n : length b - 10 ≡ length p = omega arith in
      let shown : part (span (at + 10) (length b - 10)) s ≡ p =
      ap (λ (j : ℕ). part (span (at + 10) j) s) n ∙ part_in_lem at 10 (length p) b s lies (omega arith) ∙ take-length p in
      let e = number_back 2 frames hf in
      let f = number_back 3 bytes hb in
      let g = number_back 3 millis hm in
      let u = unpack_pack x y ds even sum.0 sum.1 fits few in
      cc;
}
