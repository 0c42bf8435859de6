-- Laws on the rest of a list from a place on, and on slices whose ends lie anywhere. Assumes nothing.
use mathlib.Core.Path.{◌≡◌, sym, ap, ◌∙◌}
use Prim.Native.Nat.{ℕ, zero, suc, ◌+◌, ◌-◌, ◌≤◌, ◌<◌, min}
use native.Mathlib.Nat.{sub-zero, zero-sub}
use native.Mathlib.Numerals.{add-one}
use native.Mathlib.Omega.{arith}
use mathlib.Core.List.{List, [], ◌∷◌, ◌++◌}
use lib.ListN.{length, take, drop, get_or, length-take, length-drop, take-append-drop}
use lib.Seq.{drop-cons, take-nil, slice}
use Rattle.laws.proofs.Slices.{take_cut, drop_cut, take_drop_take, slice_drop}

-- ---- from a place on

pub drop_next : (s : List ℕ) (i : ℕ) → i < length s → drop i s ≡ get_or s i 0 ∷ drop (i + 1) s
drop_next s i h = rw (add-one, drop-cons s i 0)

pub drop_pair : (s : List ℕ) (i : ℕ) → i + 1 < length s → drop i s ≡ get_or s i 0 ∷ get_or s (i + 1) 0 ∷ drop (i + 2) s
drop_pair s i h =
    let a : i < length s = omega arith in
    let e : i + 2 ≡ i + 1 + 1 = omega arith in
    rw (drop_next s i a, drop_next s (i + 1), e)

-- ---- slices

pub length_cut : (f t : ℕ) (l : List ℕ) → length (slice f t l) ≡ min t (length l) - f
length_cut f t l = simp (length-drop, length-take)

-- a slice that is not empty lies in the list
pub cut_lies : (f t : ℕ) (l b : List ℕ) → b ≡ slice f t l → 0 < length b → f + length b ≤ length l
cut_lies f t l b e h = omega (arith, ap length e, length_cut f t l)

pub take_drop : (k a : ℕ) (l : List ℕ) → take k (drop a l) ≡ slice a (a + k) l
take_drop k zero l = let e : 0 + k ≡ k = omega arith in rw e
take_drop k (suc a) [] = rw (take-nil k, take-nil (suc a + k))
take_drop k (suc a) (x ∷ l) = let e : suc a + k ≡ suc (a + k) = omega arith in rw e (take_drop k a l)

-- what is left of a front part from a place on
pub drop_part : (k n : ℕ) (b : List ℕ) → drop k (take n b) ≡ take (n - k) (drop k b)
drop_part zero n b = rw sub-zero
drop_part (suc k) zero b = rw zero-sub
drop_part (suc k) (suc n) [] = sym (take-nil (suc n - suc k))
drop_part (suc k) (suc n) (x ∷ b) =
    let e : suc n - suc k ≡ n - k = omega arith in
    rw e (drop_part k n b)

-- a part in two
pub cut_in_two : (at n end : ℕ) (l : List ℕ) → at + n ≤ end → slice at end l ≡ slice at (at + n) l ++ slice (at + n) end l
cut_in_two at n end l h =
    let front : take n (slice at end l) ≡ slice at (at + n) l = take_drop_take n at end l h ∙ take_drop n at l in
    rw (← front, slice_drop) (sym (take-append-drop n (slice at end l)))

-- a part whose ends were moved into the list
pub part_cut : (f t a e : ℕ) (l : List ℕ) → e ≡ min t (length l) → a ≡ min f e → take (e - a) (drop a l) ≡ slice f t l
part_cut f t a e l he ha =
    let m : a + (e - a) ≡ e = omega arith in
    let u : take e l ≡ take t l = rw (he, take_cut) in
    let n : a ≡ min f (length (take t l)) = rw length-take (omega arith) in
    take_drop (e - a) a l ∙ rw (m, u, n, drop_cut)
