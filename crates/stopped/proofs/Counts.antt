-- How far the frames of records reach in a tag, and how many lie whole in its first bytes. Assumes nothing.
use mathlib.Core.Path.{◌≡◌, refl, sym, ap, ◌∙◌}
use Prim.Native.Nat.{ℕ, zero, suc, ◌≤◌, ◌<◌}
use native.Mathlib.Omega.{arith}
use mathlib.Core.Bool.{Bool, true, false}
use mathlib.Core.Logic.{◌↔◌}
use mathlib.Core.List.{List, [], ◌∷◌, ◌++◌, append_assoc}
use lib.ListN.{length, take, drop, length-append}
use lib.Dec.{leb, ltb}
use borrow.Author.Tests.{leb-true, leb-false, ltb-true, ltb-false}
use Rattle.format.specs.Bytes.{pick}
use Rattle.format.specs.Unsynch.{unsync, ends_ff, guards}
use Rattle.format.specs.Record.{Rec}
use Rattle.format.specs.Encode.{encode, whole_of}
use Rattle.format.specs.declared.Version.{Version}
use Rattle.format.specs.declared.Version.TheVariants.{Id3v22, Id3v23, Id3v24}
use Rattle.format.specs.declared.Mode.{Mode}
use Rattle.format.proofs.Unsynch.{unsync_append}
use Rattle.promises.specs.Promises.{frames_of}
use Rattle.stopped.specs.Stopped.{reach_of, most_in, whole_in}
use Rattle.stopped.specs.Promises.{WholeIn}
use Rattle.stopped.proofs.Members.{take_more}

-- ---- how far frames reach

pub frames_append : (v : Version) (m : Mode) (rs qs : List Rec) → frames_of v m (rs ++ qs) ≡ frames_of v m rs ++ frames_of v m qs
frames_append v m [] qs = refl
frames_append v m (r ∷ rs) qs =
    ap (λ (l : List ℕ). encode v m r ++ l) (frames_append v m rs qs) ∙ sym (append_assoc (encode v m r) (frames_of v m rs) (frames_of v m qs))

-- what is stored of frames and of more after them
pub whole_append : (v : Version) (m : Mode) (a b : List ℕ) → (c : List ℕ) × (whole_of v m (a ++ b) ≡ whole_of v m a ++ c)
whole_append Id3v22 m a b = (unsync (guards m) (ends_ff false a) b, unsync_append (guards m) false a b)
whole_append Id3v23 m a b = (unsync (guards m) (ends_ff false a) b, unsync_append (guards m) false a b)
whole_append Id3v24 m a b = (b, refl)

whole_none : (v : Version) (m : Mode) → whole_of v m [] ≡ []
unfolding unsync
whole_none Id3v22 m = refl
whole_none Id3v23 m = refl
whole_none Id3v24 m = refl

-- no frames reach to the header's end
pub reach_none : (v : Version) (m : Mode) → reach_of v m [] ≡ 10
reach_none v m = rw whole_none

-- more frames reach further
reach_longer : (v : Version) (m : Mode) (i j : ℕ) (rs : List Rec) → i ≤ j → reach_of v m (take i rs) ≤ reach_of v m (take j rs)
reach_longer v m i j rs le =
    let rest = drop i (take j rs) in
    let more = whole_append v m (frames_of v m (take i rs)) (frames_of v m rest) in
    let bytes = ap (λ (l : List Rec). whole_of v m (frames_of v m l)) (take_more i j rs le) ∙ ap (whole_of v m) (frames_append v m (take i rs) rest) ∙ more.1 in
    omega (arith, ap length bytes, length-append (whole_of v m (frames_of v m (take i rs))) more.0)

-- ---- how many are there

module _ (reach : ℕ → ℕ) (n : ℕ) where
  -- the most of j that are there
  pub record Most (j k : ℕ) : Type 0 where
    pub within : k ≤ j
    pub there : 0 < k → reach k ≤ n
    pub no_more : (i : ℕ) → k < i → i ≤ j → n < reach i

  pub most : (j : ℕ) → Most j (most_in reach n j)
  unfolding most_in
  most zero = record { within = omega arith; there = λ h. absurd (omega arith); no_more = λ i a b. absurd (omega arith) }
  most (suc j) = by_test (leb (reach (suc j)) n) refl (most j)
    where
      by_test : (t : Bool) → leb (reach (suc j)) n ≡ t → Most j (most_in reach n j) → Most (suc j) (pick t (suc j) (most_in reach n j))
      by_test true e go = record { within = omega arith; there = λ h. leb-true _ _ e; no_more = λ i a b. absurd (omega arith) }
      by_test false e go = record { within = omega (arith, go.within); there = go.there; no_more = λ i a b. above i a (ltb i (suc j)) refl b }
        where
          above : (i : ℕ) → most_in reach n j < i → (t : Bool) → ltb i (suc j) ≡ t → i ≤ suc j → n < reach i
          above i a true l b = go.no_more i a (omega (arith, ltb-true i (suc j) l))
          above i a false l b =
              let is : i ≡ suc j = omega (arith, ltb-false i (suc j) l) in
              rw is (leb-false _ _ e)

  -- if none reaches no further than the cut, those that are counted do
  pub there_by : (j : ℕ) → reach 0 ≤ n → reach (most_in reach n j) ≤ n
  there_by j none = by_count (most_in reach n j) (most j).there
    where
      by_count : (k : ℕ) → (0 < k → reach k ≤ n) → reach k ≤ n
      by_count zero h = none
      by_count (suc k) h = h (omega arith)

  -- where more reach further, one is counted exactly if it reaches no further
  pub most_exactly : (j : ℕ) → ((i k : ℕ) → i ≤ k → reach i ≤ reach k)
      → (most_in reach n j ≤ j) × ((i : ℕ) → i < j → (i < most_in reach n j) ↔ (reach (suc i) ≤ n))
  most_exactly j longer = ((most j).within, λ i lt. (to i, from i lt (ltb i (most_in reach n j)) refl))
    where
      to : (i : ℕ) → i < most_in reach n j → reach (suc i) ≤ n
      to i h = omega (arith, longer (suc i) (most_in reach n j) (omega arith), (most j).there (omega arith))

      from : (i : ℕ) → i < j → (t : Bool) → ltb i (most_in reach n j) ≡ t → reach (suc i) ≤ n → i < most_in reach n j
      from i lt true e h = ltb-true i (most_in reach n j) e
      from i lt false e h =
          let over : most_in reach n j < suc i = omega (arith, ltb-false i (most_in reach n j) e) in
          absurd (omega (arith, (most j).no_more (suc i) over (omega arith)))

module _ (v : Version) (m : Mode) (n : ℕ) (rs : List Rec) where
  abbrev reach : ℕ → ℕ
  reach i = reach_of v m (take i rs)

  -- those that are counted reach no further than the cut
  pub there_reach : 10 ≤ n → reach_of v m (take (whole_in v m n rs) rs) ≤ n
  there_reach ten = there_by reach n (length rs) (omega (arith, reach_none v m))

  -- and one more would
  pub there_next : (i : ℕ) → whole_in v m n rs < i → i ≤ length rs → n < reach_of v m (take i rs)
  there_next i a b = (most reach n (length rs)).no_more i a b

pub whole_in_lem : WholeIn
whole_in_lem v m n rs = most_exactly (reach v m n rs) n (length rs) (λ i k le. reach_longer v m i k rs le)
