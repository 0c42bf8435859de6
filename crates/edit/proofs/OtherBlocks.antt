-- A tag with other blocks in its region: its header, its length and what follows it are as they were. Assumes nothing.
use mathlib.Core.Path.{◌≡◌, sym, ap, ◌∙◌}
use Prim.Native.Nat.{ℕ, zero, suc, ◌+◌, ◌-◌, ◌≤◌}
use native.Mathlib.Omega.{arith}
use mathlib.Core.List.{List, ◌++◌, append_assoc}
use lib.ListN.{length, take, drop, length-append, length-drop, length-replicate, take-append-drop}
use lib.Seq.{take-append_seam, take-append-add, drop-append-le, drop-append-add, take_at, drop_at, length-take-le, drop-drop}
use Rattle.format.specs.Bytes.{zeros}
use Rattle.format.specs.Header.{size_of}
use Rattle.blocks.specs.Blocks.{joined, region_in, with_blocks}
use Rattle.blocks.proofs.Headers.{same_size}

pub drop_zeros : (i k : ℕ) → drop i (zeros k) ≡ zeros (k - i)
drop_zeros zero k = let e : k ≡ k - 0 = omega arith in ap zeros e
drop_zeros (suc i) zero = let e : 0 ≡ 0 - suc i = omega arith in ap zeros e
drop_zeros (suc i) (suc k) = let e : k - i ≡ suc k - suc i = omega arith in drop_zeros i k ∙ ap zeros e

module _ (tag : List ℕ) (there : 10 + size_of tag ≤ length tag) where
  abbrev size : ℕ
  size = size_of tag

  head_long : length (take 10 tag) ≡ 10
  head_long = length-take-le 10 tag (omega arith)

  module _ (bs : List (List ℕ)) where
    abbrev region : List ℕ
    region = joined bs ++ zeros (size - length (joined bs))

    pub with_front : take 10 (with_blocks bs tag) ≡ take 10 tag
    unfolding with_blocks
    with_front = take_at (take 10 tag) (region ++ drop size (drop 10 tag)) 10 head_long

    -- what the blocks begin with stands after the header
    pub with_part : (front back : List ℕ) → joined bs ≡ front ++ back → take (10 + length front) (with_blocks bs tag) ≡ take 10 tag ++ front
    unfolding with_blocks
    with_part front back e =
        let head = take 10 tag in
        let rest = drop size (drop 10 tag) in
        let pad = zeros (size - length (joined bs)) in
        let y = (back ++ pad) ++ rest in
        let is : region ++ rest ≡ front ++ y =
        ap (λ (l : List ℕ). (l ++ pad) ++ rest) e ∙ ap (λ (l : List ℕ). l ++ rest) (append_assoc front back pad) ∙ append_assoc front (back ++ pad) rest in
        ap (λ (l : List ℕ). take (10 + length front) (head ++ l)) is
        ∙ ap (λ (n : ℕ). take (n + length front) (head ++ (front ++ y))) (sym head_long)
        ∙ take-append-add head (front ++ y) (length front)
        ∙ ap (λ (l : List ℕ). head ++ l) (take-append_seam front y)

    module _ (fits : length (joined bs) ≤ size_of tag) where
      region_long : length region ≡ size
      region_long = omega (arith, length-append (joined bs) (zeros (size - length (joined bs))), length-replicate {A = ℕ} (size - length (joined bs)) 0)

      pub with_length : length (with_blocks bs tag) ≡ length tag
      unfolding with_blocks
      with_length = omega (
        arith,
        there,
        head_long,
        region_long,
        length-append (take 10 tag) (region ++ drop size (drop 10 tag)),
        length-append region (drop size (drop 10 tag)),
        length-drop size (drop 10 tag),
        length-drop 10 tag,
      )

      behind : drop size (drop 10 (with_blocks bs tag)) ≡ drop size (drop 10 tag)
      unfolding with_blocks
      behind =
          ap (drop size) (drop_at (take 10 tag) (region ++ drop size (drop 10 tag)) 10 head_long)
          ∙ drop_at region (drop size (drop 10 tag)) size region_long

      pub with_behind : drop (10 + size_of tag) (with_blocks bs tag) ≡ drop (10 + size_of tag) tag
      with_behind = sym (drop-drop size 10 (with_blocks bs tag)) ∙ behind ∙ drop-drop size 10 tag

      -- from the blocks' end on: zeros, and what follows the tag
      pub with_rest : (m : ℕ) → length (joined bs) ≤ m → m ≤ size_of tag → drop (10 + m) (with_blocks bs tag) ≡ zeros (size_of tag - m) ++ drop (size_of tag) (drop 10 tag)
      unfolding with_blocks
      with_rest m le in_size =
          let n = length (joined bs) in
          let rest = drop size (drop 10 tag) in
          let at : m ≡ n + (m - n) = omega arith in
          let left : size - n - (m - n) ≡ size - m = omega arith in
          let zeroed : drop m region ≡ zeros (size - m) =
          ap (λ (k : ℕ). drop k region) at ∙ drop-append-add (joined bs) (zeros (size - n)) (m - n) ∙ drop_zeros (m - n) (size - n) ∙ ap zeros left in
          sym (drop-drop m 10 (with_blocks bs tag))
          ∙ ap (drop m) (drop_at (take 10 tag) (region ++ rest) 10 head_long)
          ∙ drop-append-le m region rest (omega (arith, region_long))
          ∙ ap (λ (l : List ℕ). l ++ rest) zeroed

      -- blocks put in twice: the second ones stand there
      pub with_again : (cs : List (List ℕ)) → with_blocks cs (with_blocks bs tag) ≡ with_blocks cs tag
      unfolding with_blocks
      with_again cs =
          let s = same_size tag (with_blocks bs tag) (sym with_front) in
          rw (s, with_front, behind)

-- what a region holds already changes nothing
pub with_same : (tag : List ℕ) (bs : List (List ℕ)) → region_in tag ≡ joined bs ++ zeros (size_of tag - length (joined bs)) → with_blocks bs tag ≡ tag
unfolding with_blocks
with_same tag bs e =
    ap (λ (l : List ℕ). take 10 tag ++ (l ++ drop (size_of tag) (drop 10 tag))) (sym e)
    ∙ ap (λ (l : List ℕ). take 10 tag ++ l) (take-append-drop (size_of tag) (drop 10 tag))
    ∙ take-append-drop 10 tag
