-- Three and four bytes of a list, and the numbers that they make. Assumes nothing.
use mathlib.Core.Path.{◌≡◌, refl, ap, ◌∙◌}
use Prim.Native.Nat.{ℕ, zero, suc, ◌+◌, ◌*◌, ◌/◌, ◌%◌, ◌≤◌, ◌<◌}
use native.Mathlib.Nat.{suc-add}
use native.Mathlib.Omega.{arith}
use mathlib.Core.List.{List, [], ◌∷◌}
use lib.ListN.{length, take, get_or}
use lib.Seq.{slice, slice_empty, length-slice}
use Rattle.laws.proofs.Parts.{each_drop, each_take}
use Rattle.laws.proofs.Slices.{slice_next}
use Rattle.format.specs.Numbers.{onto, number, bytes_of, from_synchsafe}
use Rattle.format.proofs.Numbers.{Digits, digits_onto}
use Rattle.loads.specs.Loads.{Little}

-- ---- the bytes

module _ (at : ℕ) (l : List ℕ) where
  two : (t : ℕ) → at + 2 ≤ t → t ≤ length l → slice at t l ≡ get_or l at 0 ∷ get_or l (at + 1) 0 ∷ slice (at + 2) t l
  two t h k =
      let e : at + 1 + 1 ≡ at + 2 = omega arith in
      rw (slice_next at t l (omega arith) k, slice_next (at + 1) t l (omega arith) k, e)

  pub three : at + 3 ≤ length l → slice at (at + 3) l ≡ get_or l at 0 ∷ get_or l (at + 1) 0 ∷ get_or l (at + 2) 0 ∷ []
  three h =
      let e : at + 2 + 1 ≡ at + 3 = omega arith in
      rw (two (at + 3) (omega arith) h, slice_next (at + 2) (at + 3) l (omega arith) h, e, slice_empty)

  pub four : at + 4 ≤ length l → slice at (at + 4) l ≡ get_or l at 0 ∷ get_or l (at + 1) 0 ∷ get_or l (at + 2) 0 ∷ get_or l (at + 3) 0 ∷ []
  four h =
      let e : at + 2 + 1 ≡ at + 3 = omega arith in
      let f : at + 3 + 1 ≡ at + 4 = omega arith in
      rw (
        two (at + 4) (omega arith) h,
        slice_next (at + 2) (at + 4) l (omega arith) h,
        e,
        slice_next (at + 3) (at + 4) l (omega arith) h,
        f,
        slice_empty,
      )

  pub number_three : at + 3 ≤ length l → (a b c : ℕ) → a ≡ get_or l at 0 → b ≡ get_or l (at + 1) 0 → c ≡ get_or l (at + 2) 0
      → (a * 256 + b) * 256 + c ≡ number (slice at (at + 3) l)
  unfolding onto
  number_three h a b c ea eb ec = rw (three h) (omega arith)

  pub number_four : at + 4 ≤ length l → ((get_or l at 0 * 256 + get_or l (at + 1) 0) * 256 + get_or l (at + 2) 0) * 256 + get_or l (at + 3) 0 ≡ number (slice at (at + 4) l)
  unfolding onto
  number_four h = rw (four h) (omega arith)

-- ---- the bytes of a number that was read

pub bytes_back : (at : ℕ) (l : List ℕ) → at + 4 ≤ length l → Digits 256 l → bytes_of 4 (number (slice at (at + 4) l)) ≡ slice at (at + 4) l
bytes_back at l h below =
    let s : List ℕ = slice at (at + 4) l in
    let byte : ℕ → Type 0 = λ x. x < 256 in
    let four : length s ≡ 4 = length-slice at (at + 4) l h ∙ omega arith in
    let bytes : Digits 256 s = each_drop byte 0 at (take (at + 4) l) (each_take byte 0 (omega arith) (at + 4) l below) in
    rw four at (digits_onto 256 (omega arith) 0 s bytes)

-- a synchsafe number by the plain one
pub synchsafe_four : (at : ℕ) (l : List ℕ) → at + 4 ≤ length l → Digits 256 l
    → from_synchsafe (bytes_of 4 (number (slice at (at + 4) l))) ≡ from_synchsafe (slice at (at + 4) l)
synchsafe_four at l h below = ap from_synchsafe (bytes_back at l h below)

-- its first three bytes
pub first_three : (at : ℕ) (l : List ℕ) → at + 4 ≤ length l → Digits 256 l → number (slice at (at + 4) l) / 256 ≡ number (slice at (at + 3) l)
first_three at l h below =
    let last = below (at + 3) in
    rw (← number_four at l h, ← number_three at l (omega arith) _ _ _ refl refl refl) (omega arith)

-- ---- a number with its bytes in the other order

abbrev little_of : ℕ → ℕ → ℕ → ℕ → ℕ
little_of a b c d = a + b * 0x100 + c * 0x10000 + d * 0x1000000

module _ (a b c d : ℕ) (ha : a < 256) (hb : b < 256) (hc : c < 256) where
  highest : little_of a b c d / 0x1000000 ≡ d
  highest = omega arith

  upper : c < 256 → little_of a b c d / 0x10000 ≡ d * 256 + c
  upper h = omega arith

  lower : little_of a b c d / 0x100 ≡ (d * 256 + c) * 256 + b
  lower = omega arith

  lowest : little_of a b c d % 0x100 ≡ a
  lowest = omega arith

digit : (n x : ℕ) → x < 256 → (n * 256 + x) % 0x100 ≡ x
digit n x h = omega arith

swapped_four : (a b c d : ℕ) → a < 256 → b < 256 → c < 256 → d < 256
    → little_of a b c d / 0x1000000 + little_of a b c d / 0x10000 % 0x100 * 0x100 + little_of a b c d / 0x100 % 0x100 * 0x10000 + little_of a b c d % 0x100 * 0x1000000
    ≡ ((a * 256 + b) * 256 + c) * 256 + d
swapped_four a b c d ha hb hc hd =
    rw (highest a b c d ha hb hc, upper a b c d ha hb hc hc, lower a b c d ha hb hc, lowest a b c d ha hb hc)
    (rw (digit d c hc, digit (d * 256 + c) b hb) (omega arith))

pub swapped_little : (at : ℕ) (l : List ℕ) (w : ℕ) → at + 4 ≤ length l → Little at l w
    → w / 0x1000000 + w / 0x10000 % 0x100 * 0x100 + w / 0x100 % 0x100 * 0x10000 + w % 0x100 * 0x1000000 ≡ number (slice at (at + 4) l)
swapped_little at l w h b = rw b.sum (rw (← number_four at l h) (swapped_four _ _ _ _ b.first b.second b.third b.fourth))

-- ---- fewer than four

pub number_none : (at : ℕ) (l : List ℕ) → length l ≤ at → 0 ≡ number (slice at (at + 4) l)
unfolding onto
number_none zero [] h = refl
number_none (suc at) [] h = simp suc-add refl
number_none zero (v ∷ l) h = absurd (omega arith)
number_none (suc at) (v ∷ l) h = simp suc-add (number_none at l (omega arith))

pub number_one : (at : ℕ) (l : List ℕ) → length l ≡ at + 1 → get_or l at 0 ≡ number (slice at (at + 4) l)
unfolding onto
number_one at [] h = absurd (omega arith)
number_one zero (v ∷ []) h = omega arith
number_one zero (v ∷ w ∷ l) h = absurd (omega arith)
number_one (suc at) (v ∷ l) h = simp suc-add (number_one at l (omega arith))

pub number_two : (at : ℕ) (l : List ℕ) → length l ≡ at + 2 → get_or l at 0 * 256 + get_or l (at + 1) 0 ≡ number (slice at (at + 4) l)
unfolding onto
number_two at [] h = absurd (omega arith)
number_two zero (v ∷ []) h = absurd (omega arith)
number_two zero (v ∷ w ∷ []) h = omega arith
number_two zero (v ∷ w ∷ x ∷ l) h = absurd (omega arith)
number_two (suc at) (v ∷ l) h = simp suc-add (number_two at l (omega arith))

pub number_left : (at : ℕ) (l : List ℕ) → length l ≡ at + 3
    → (get_or l at 0 * 256 + get_or l (at + 1) 0) * 256 + get_or l (at + 2) 0 ≡ number (slice at (at + 4) l)
unfolding onto
number_left at [] h = absurd (omega arith)
number_left zero (v ∷ []) h = absurd (omega arith)
number_left zero (v ∷ w ∷ []) h = absurd (omega arith)
number_left zero (v ∷ w ∷ x ∷ []) h = omega arith
number_left zero (v ∷ w ∷ x ∷ y ∷ l) h = absurd (omega arith)
number_left (suc at) (v ∷ l) h = simp suc-add (number_left at l (omega arith))
