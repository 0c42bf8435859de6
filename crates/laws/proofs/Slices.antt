-- Laws on parts of lists: parts that are cut to the list, and blocks of one width, one after the other. Assumes nothing.
use mathlib.Core.Path.{◌≡◌, refl, sym, ap, ◌∙◌}
use Prim.Native.Nat.{ℕ, zero, suc, ◌+◌, ◌*◌, ◌≤◌, ◌<◌, min}
use native.Mathlib.Nat.{mul-zero, mul-suc, zero-min, suc-min-suc}
use native.Mathlib.Numerals.{add-one}
use native.Mathlib.Omega.{arith}
use mathlib.Core.List.{List, [], ◌∷◌, ◌++◌}
use lib.ListN.{length, take, drop, get_or, length-append, length-take, length-drop, drop_of_length-le}
use lib.Seq.{slice, slice-cons, take-nil, drop-nil, take-take, take_at, drop_at, drop-drop}

-- ---- parts that are cut to the list

pub take_cut : (n : ℕ) (l : List ℕ) → take (min n (length l)) l ≡ take n l
take_cut zero l = rw zero-min
take_cut (suc n) [] = take-nil (min (suc n) 0)
take_cut (suc n) (x ∷ l) = rw suc-min-suc (ap (λ (m : List ℕ). x ∷ m) (take_cut n l))

pub drop_cut : (n : ℕ) (l : List ℕ) → drop (min n (length l)) l ≡ drop n l
drop_cut zero l = rw zero-min
drop_cut (suc n) [] = drop-nil (min (suc n) 0)
drop_cut (suc n) (x ∷ l) = rw suc-min-suc (drop_cut n l)

pub slice_none : (from to : ℕ) (l : List ℕ) → to ≤ from → slice from to l ≡ []
slice_none from to l h = drop_of_length-le (take to l) {i = from} (simp length-take (omega arith))

-- one element, then the rest
pub slice_next : (from to : ℕ) (l : List ℕ) → from < to → to ≤ length l → slice from to l ≡ get_or l from 0 ∷ slice (from + 1) to l
slice_next from to l lt le = slice-cons from to l 0 lt le ∙ ap (λ (k : ℕ). get_or l from 0 ∷ slice k to l) (sym (add-one from))

-- a part of what two lists have in common in front
pub slice_front : (n from to : ℕ) (l m : List ℕ) → take n l ≡ take n m → to ≤ n → slice from to l ≡ slice from to m
slice_front n from to l m e h =
    ap (drop from) (sym (take-take to n l h)) ∙ ap (λ (k : List ℕ). drop from (take to k)) e ∙ ap (drop from) (take-take to n m h)

-- end is to, or where the list ends
module _ (from to end : ℕ) (l : List ℕ) (e : end ≡ min to (length l)) where
  pub slice_cut : slice from end l ≡ slice from to l
  slice_cut = ap (λ (k : ℕ). slice from k l) e ∙ ap (drop from) (take_cut to l)

  pub slice_cut_none : end ≤ from → slice from to l ≡ []
  slice_cut_none h = sym slice_cut ∙ slice_none from end l h

-- a part of what lies before split
module _ (from to split end : ℕ) (l : List ℕ) (e : end ≡ min to (min split (length l))) where
  pub slice_before : slice from end l ≡ slice from to (take split l)
  slice_before =
      let f : end ≡ min to (length (take split l)) = e ∙ ap (min to) (sym (length-take split l)) in
      ap (drop from) (sym (take-take end split l (omega arith))) ∙ slice_cut from to end (take split l) f

  pub slice_before_none : end ≤ from → slice from to (take split l) ≡ []
  slice_before_none h = sym slice_before ∙ slice_none from end l h

-- ---- blocks

-- the blocks of the numbers of a list, then the rest
abbrev pub blocks : (ℕ → List ℕ) → List ℕ → List ℕ → List ℕ
blocks f [] rest = rest
blocks f (x ∷ l) rest = f x ++ blocks f l rest

module _ (f : ℕ → List ℕ) (width : ℕ) (wide : (x : ℕ) → length (f x) ≡ width) where
  -- after the first block
  drop_block : (x k : ℕ) (l rest : List ℕ) → drop (width * suc k) (blocks f (x ∷ l) rest) ≡ drop (width * k) (blocks f l rest)
  drop_block x k l rest =
      let e : width * suc k ≡ width + width * k = omega (arith, mul-suc width k) in
      ap (λ (n : ℕ). drop n (blocks f (x ∷ l) rest)) e
      ∙ sym (drop-drop (width * k) width (blocks f (x ∷ l) rest))
      ∙ ap (drop (width * k)) (drop_at (f x) (blocks f l rest) width (wide x))

  -- the block at a place
  pub block_at : (l rest : List ℕ) (i : ℕ) → i < length l → take width (drop (width * i) (blocks f l rest)) ≡ f (get_or l i 0)
  block_at [] rest i h = absurd (omega arith)
  block_at (x ∷ l) rest zero h = rw mul-zero (take_at (f x) (blocks f l rest) width (wide x))
  block_at (x ∷ l) rest (suc i) h = rw drop_block (block_at l rest i (omega arith))

  pub drop_blocks : (l rest : List ℕ) → drop (width * length l) (blocks f l rest) ≡ rest
  drop_blocks [] rest = rw mul-zero
  drop_blocks (x ∷ l) rest = rw drop_block (drop_blocks l rest)

  pub length_blocks : (l rest : List ℕ) → length (blocks f l rest) ≡ width * length l + length rest
  length_blocks [] rest = omega arith
  length_blocks (x ∷ l) rest = simp (length-append, wide, length_blocks l rest) (omega (arith, mul-suc width (length l)))

-- ---- parts of a slice

pub take_drop_take : (m n e : ℕ) (l : List ℕ) → n + m ≤ e → take m (drop n (take e l)) ≡ take m (drop n l)
take_drop_take m zero e l h = take-take m e l (omega arith)
take_drop_take m (suc n) zero l h = absurd (omega arith)
take_drop_take m (suc n) (suc e) [] h = refl
take_drop_take m (suc n) (suc e) (x ∷ l) h = take_drop_take m n e l (omega arith)

-- a part that begins after the slice's start
pub slice_drop : (at n stop : ℕ) (l : List ℕ) → slice (at + n) stop l ≡ drop n (slice at stop l)
slice_drop at n stop l = sym (drop-drop n at (take stop l))

-- what is taken inside a slice lies there in the list
pub in_slice : (at stop k n : ℕ) (l : List ℕ) → k + n ≤ length (slice at stop l) → take n (drop (at + k) l) ≡ take n (drop k (slice at stop l))
in_slice at stop k zero l h = refl
in_slice at stop k (suc n) l h =
    let fits : at + k + suc n ≤ stop = omega (arith, length-drop at (take stop l), length-take stop l) in
    sym (take_drop_take (suc n) (at + k) stop l fits) ∙ ap (take (suc n)) (slice_drop at k stop l)

-- a list put at the front of another leaves its length
pub front_length : (u l : List ℕ) → length u ≤ length l → length (u ++ drop (length u) l) ≡ length l
front_length u l h = simp (length-append, length-drop) (omega arith)
