-- All numbers of a table to a buffer: a turn of the loop, and the answer. Assumes nothing.
use mathlib.Core.Path.{◌≡◌, refl, sym, ap, ◌∙◌}
use Prim.Native.Nat.{ℕ, zero, suc, ◌+◌, ◌-◌, ◌*◌, ◌/◌, ◌%◌, ◌^◌, ◌≤◌, ◌<◌, min}
use native.Mathlib.Nat.{zero-mul, suc-mul, le-div_iff_mul-le}
use native.Mathlib.Numerals.{add-one}
use native.Mathlib.Omega.{arith}
use mathlib.Core.Bool.{false, ◌&&◌}
use mathlib.Core.List.{List, [], ◌∷◌, ◌++◌, append-nil}
use lib.ListN.{length, take, drop, set, length-set, length-take, drop_of_length-le}
use lib.Seq.{sets, sets-eq, drop-drop}
use borrow.Author.Tests.{le-leb, lt-leb}
use Rattle.format.specs.Bytes.{put_front}
use Rattle.format.specs.Numbers.{onto}
use Rattle.format.specs.Table.{is_width, count_of, spread, gathered, unpack}
use Rattle.format.proofs.Table.{length_gathered}
use Rattle.frame.specs.References.{unpack_of}
use Rattle.frame.proofs.Widths.{Widths}
use Rattle.frame.proofs.Packed.{gathered_next, gathered_none}
use Rattle.std.specs.Prelude.{Result, Ok, Err}
use Rattle.format.specs.declared.refusals.Refusal.{Refusal}
use Rattle.format.specs.Refusals.{refusal}

-- ---- the bits that numbers of two widths by turns take

abbrev bits_of : ℕ → ℕ → ℕ → ℕ
bits_of zero v w = 0
bits_of (suc n) v w = v + bits_of n w v

bits_next : (n v w : ℕ) → 0 < n → bits_of n v w ≡ v + bits_of (n - 1) w v
bits_next zero v w h = absurd (omega arith)
bits_next (suc n) v w h = let e : suc n - 1 ≡ n = omega arith in rw e

bits_pairs : (n v w : ℕ) → bits_of (n * 2) v w ≡ n * (v + w)
bits_pairs zero v w = rw (zero-mul (v + w))
bits_pairs (suc n) v w =
    let e : suc n * 2 ≡ suc (suc (n * 2)) = omega arith in
    rw e (omega (arith, bits_pairs n v w, suc-mul n (v + w)))

-- ---- a turn: o₀ was to take all numbers of b, o has still to take those from the i-th on, whose bits begin at k * 8 + r

pub record Putting (o₀ : List ℕ) (v w : ℕ) (b : List ℕ) (n : ℕ) (o : List ℕ) (width other k r i : ℕ) : Type 0 where
  pub turn : i ≤ n * 2
  pub narrow : width ≤ 32
  pub other_narrow : other ≤ 32
  pub bit : r < 8
  pub within : k * 8 + r + bits_of (n * 2 - i) width other ≤ 8 * length b
  pub long : length o ≡ length o₀
  pub same : sets o i (gathered (n * 2 - i) width other (drop (k * 8 + r) (spread 8 8 b))) ≡ sets o₀ 0 (gathered (n * 2) v w (spread 8 8 b))

pub begin : (o : List ℕ) (v w : ℕ) (b : List ℕ) (n : ℕ) → v ≤ 32 → w ≤ 32 → n * (v + w) ≤ 8 * length b → Putting o v w b n o v w 0 0 0
begin o v w b n hv hw h =
    let e : n * 2 - 0 ≡ n * 2 = omega arith in
    record {
      turn = omega arith;
      narrow = hv;
      other_narrow = hw;
      bit = omega arith;
      within = rw (e, bits_pairs) (omega arith);
      long = refl;
      same = rw e;
    }

module _ {o₀ : List ℕ} {v w : ℕ} {b : List ℕ} {n : ℕ} {o : List ℕ} {width other k r i : ℕ} (p : Putting o₀ v w b n o width other k r i) where
  -- the next number lies within the bytes
  pub lies : i < n * 2 → k * 8 + r + width ≤ 8 * length b
  lies lt = omega (arith, p.within, bits_next (n * 2 - i) width other (omega arith))

  pub again : i < n * 2 → (x : ℕ) → x ≡ onto 2 0 (take width (drop (k * 8 + r) (spread 8 8 b)))
      → Putting o₀ v w b n (set o i x) other width (k + (r + width) / 8) ((r + width) % 8) (i + 1)
  again lt x e =
      let some : 0 < n * 2 - i = omega arith in
      let c : n * 2 - i - 1 ≡ n * 2 - (i + 1) = omega arith in
      let next : ℕ = (k + (r + width) / 8) * 8 + (r + width) % 8 in
      let moved : k * 8 + r + width ≡ next = omega arith in
      let fewer : bits_of (n * 2 - i) width other ≡ width + bits_of (n * 2 - (i + 1)) other width = rw c at (bits_next (n * 2 - i) width other some) in
      let rest : List ℕ = gathered (n * 2 - (i + 1)) other width (drop next (spread 8 8 b)) in
      let split : gathered (n * 2 - i) width other (drop (k * 8 + r) (spread 8 8 b)) ≡ x ∷ rest =
      rw (gathered_next (n * 2 - i) width other (drop (k * 8 + r) (spread 8 8 b)) some, ← e, c, drop-drop, moved) in
      record {
        turn = omega arith;
        narrow = p.other_narrow;
        other_narrow = p.narrow;
        bit = omega arith;
        within = omega (arith, p.within);
        long = length-set o i x ∙ p.long;
        same = ap (λ (j : ℕ). sets (set o i x) j rest) (add-one i) ∙ ap (sets o i) (sym split) ∙ p.same;
      }

  put : n * 2 ≤ i → o ≡ sets o₀ 0 (gathered (n * 2) v w (spread 8 8 b))
  put h =
      let e : n * 2 - i ≡ 0 = omega arith in
      ap (sets o i) (sym (gathered_none (n * 2 - i) width other (drop (k * 8 + r) (spread 8 8 b)) e)) ∙ p.same

-- a part in front that was put whole
sets_front : (m : ℕ) (l o : List ℕ) → length l ≡ m → m ≤ length o → sets (take m o) 0 l ++ drop m o ≡ sets o 0 l
sets_front m l o e h =
    let z : 0 + length l ≡ m = omega arith in
    let none : drop m (take m o) ≡ [] = drop_of_length-le (take m o) {i = m} (omega (arith, length-take m o)) in
    rw (sets-eq l (take m o) 0 (omega (arith, length-take m o)), sets-eq l o 0 (omega arith), z, none, append-nil)

module _ (out : List ℕ) {v w : ℕ} {b : List ℕ} {n : ℕ} {o : List ℕ} {width other k r i : ℕ} (room : n * 2 ≤ length out) (p : Putting (take (n * 2) out) v w b n o width other k r i) where
  pub done : n * 2 ≤ i → o ++ drop (n * 2) out ≡ sets out 0 (gathered (n * 2) v w (spread 8 8 b))
  done h =
      rw (put p h) (sets_front (n * 2) (gathered (n * 2) v w (spread 8 8 b)) out (length_gathered (n * 2) v w (spread 8 8 b)) room)

-- ---- the answer

pub unpack_refused : (v w : ℕ) (b out : List ℕ) → (is_width v && is_width w) ≡ false → ◌≡◌ {A = Result ℕ Refusal × List ℕ} (Err (refusal 30), out) (unpack_of v w b out)
unfolding unpack_of
unpack_refused v w b out h = rw h

module _ (v w : ℕ) (b body : List ℕ) (same : b ≡ body) (out : List ℕ) where
  module _ (sum : ℕ) (d : Widths v w sum) (n : ℕ) (e : n ≡ min (8 * length b / sum) (2 ^ 64 - 1)) where
    -- the count, which has a largest value
    counted_as_lem : n ≡ min (count_of v w (length b)) (2 ^ 64 - 1)
    counted_as_lem = rw d.is at e

    length_unpack : length (unpack v w b) ≡ count_of v w (length b) * 2
    unfolding unpack
    length_unpack = length_gathered (count_of v w (length b) * 2) v w (spread 8 8 b)

    pub pairs_within : n * (v + w) ≤ 8 * length b
    pairs_within =
        let pos : 0 < v + w = omega (arith, d.first_least) in
        let le : n ≤ 8 * length b / (v + w) = omega (arith, counted_as_lem) in
        (le-div_iff_mul-le pos).0 le

    module _ (fits : length out < 2 ^ 64) where
      pub unpack_full : length out / 2 < n → ◌≡◌ {A = Result ℕ Refusal × List ℕ} (Err (refusal 20), out) (unpack_of v w body out)
      unfolding unpack_of
      unpack_full h =
          let more : length out < length (unpack v w b) = omega (arith, counted_as_lem, length_unpack) in
          rw (← same, d.both, lt-leb (length (unpack v w b)) (length out) more)

      module _ (h : n ≤ length out / 2) where
        exact : n ≡ count_of v w (length b)
        exact = omega (arith, counted_as_lem)

        all_numbers : gathered (n * 2) v w (spread 8 8 b) ≡ unpack v w b
        unfolding unpack
        all_numbers = ap (λ (j : ℕ). gathered (j * 2) v w (spread 8 8 b)) exact

        pub unpack_done : (r : ℕ) (o : List ℕ) → r ≡ n * 2 → o ≡ sets out 0 (gathered (n * 2) v w (spread 8 8 b))
            → ◌≡◌ {A = Result ℕ Refusal × List ℕ} (Ok r, o) (unpack_of v w body out)
        unfolding unpack_of
        unpack_done r o er eo =
            let u : List ℕ = unpack v w b in
            let room : length u ≤ length out = omega (arith, length_unpack, exact) in
            let z : 0 + length u ≡ length u = omega arith in
            let many : r ≡ length u = omega (arith, length_unpack, exact) in
            let put : o ≡ put_front u out = eo ∙ ap (sets out 0) all_numbers ∙ sets-eq u out 0 (omega arith) ∙ ap (λ (j : ℕ). u ++ drop j out) z in
            rw (← same, d.both, le-leb (length u) (length out) room, many, put)
