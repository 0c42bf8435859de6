-- The numbers 46 and 20: exactly when there is no such frame, and when the frames together do not fit. Assumes nothing.
use mathlib.Core.Path.{◌≡◌, refl, sym, ap, ◌∙◌, subst}
use mathlib.Core.Logic.{◌↔◌, ◌⊎◌, inl, inr, ⊎_elim}
use Prim.Native.Nat.{ℕ, suc, ◌+◌, ◌-◌, ◌≤◌, ◌<◌}
use native.Mathlib.Omega.{arith}
use mathlib.Core.Bool.{Bool, true, false}
use mathlib.Core.List.{List, [], ◌++◌, append-nil}
use lib.ListN.{length, take, drop, get_or, length-append, take-append-drop}
use lib.Seq.{drop-drop, drop-cons}
use lib.Dec.{ltb, leb, eqb}
use borrow.Author.Tests.{ltb-true, ltb-false, leb-true, leb-false}
use Rattle.laws.proofs.Results.{ok_not_err, err_not_ok}
use Rattle.format.specs.Bytes.{pick}
use Rattle.format.specs.Header.{size_of}
use Rattle.format.specs.Looks.{tag_look}
use Rattle.promises.specs.Reading.{Reading, read_all}
use Rattle.blocks.specs.Blocks.{joined, splice}
use Rattle.blocks.proofs.Edits.{joined_append}
use Rattle.blocks.proofs.Bodies.{reads_length}
use Rattle.blocks.proofs.Plain.{plain_size, plain_reads}
use Rattle.raise.specs.Raise.{tag_blocks}
use Rattle.raise.proofs.Plainness.{tag_plain}
use Rattle.edit.specs.Edit.{Edit, refuse, fitted}
use Rattle.edit.specs.Promises.{Change, replacing, removing, appending, edited_of, frames_for, from_of, up_to, Missing, adding_of, long_then, NoNumber, NoRoom, LengthsThen, RemoveDone}
use Rattle.edit.proofs.Accepting.{check_of, blocks_then, answered, edited_is, check_missing, check_there, put_plain}
use Rattle.edit.proofs.Adding.{Adds, adding_numbers}
use Rattle.std.specs.Prelude.{Ok, Err}
use Rattle.format.specs.Refusals.{refusal, number_in}

-- ---- the frames that are counted are the records that are read

pub read_length : (tag work : List ℕ) → tag_look tag ≡ Ok true → length (tag_blocks tag) ≡ length (read_all tag work).0
read_length tag work e =
    let p = tag_plain tag e in
    reads_length p.is.reads ∙ ap (λ (o : Reading). length o.0) (sym (plain_reads p.is work))

-- ---- 20

fits_or_not : (n m : ℕ) (s tag : List ℕ) → let o : Edit = pick (leb n m) (Ok tt, s) (refuse 20 tag) in
    ((o.0 ≡ Err (refusal 20)) ↔ (m < n)) × ((o.0 ≡ Ok tt) ↔ (n ≤ m))
fits_or_not n m s tag = by (leb n m) refl
  where
    by : (t : Bool) → leb n m ≡ t → let o : Edit = pick t (Ok tt, s) (refuse 20 tag) in
        ((o.0 ≡ Err (refusal 20)) ↔ (m < n)) × ((o.0 ≡ Ok tt) ↔ (n ≤ m))
    by true e =
        let le = leb-true n m e in
        ((λ r. ok_not_err r, λ lt. absurd (omega arith)), (λ r. le, λ h. refl))
    by false e =
        let lt = leb-false n m e in
        ((λ r. lt, λ h. refl), (λ r. err_not_ok r, λ h. absurd (omega arith)))

pub no_room : NoRoom
unfolding fitted
no_room c tag looks there added =
    subst (λ (o : Edit). ((o.0 ≡ Err (refusal 20)) ↔ (size_of tag < long_then tag c)) × ((o.0 ≡ Ok tt) ↔ (long_then tag c ≤ size_of tag)))
    (sym (put_plain tag c looks there added)) (fits_or_not (long_then tag c) (size_of tag) _ tag)

-- ---- the lengths

pub joined_long : (bs cs : List (List ℕ)) → length (joined (bs ++ cs)) ≡ length (joined bs) + length (joined cs)
joined_long bs cs = ap length (joined_append bs cs) ∙ length-append (joined bs) (joined cs)

-- what goes and what comes
pub splice_long : (i j : ℕ) (new bs : List (List ℕ)) → i ≤ j
    → length (joined (splice i j new bs)) + length (joined (take (j - i) (drop i bs))) ≡ length (joined bs) + length (joined new)
splice_long i j new bs le =
    let k : i + (j - i) ≡ j = omega arith in
    let rest : drop (j - i) (drop i bs) ≡ drop j bs = drop-drop (j - i) i bs ∙ ap (λ (n : ℕ). drop n bs) k in
    let all = joined_long (take i bs) (drop i bs) in
    let behind = joined_long (take (j - i) (drop i bs)) (drop (j - i) (drop i bs)) in
    let then = joined_long (take i bs) (new ++ drop j bs) in
    let more = joined_long new (drop j bs) in
    omega (
      arith,
      ap (λ (l : List (List ℕ)). length (joined l)) (take-append-drop i bs),
      ap (λ (l : List (List ℕ)). length (joined l)) (take-append-drop (j - i) (drop i bs)),
      ap (λ (l : List (List ℕ)). length (joined l)) rest,
    )

-- the one that goes
pub one_long : (i : ℕ) (bs : List (List ℕ)) → i < length bs → length (joined (take (suc i - i) (drop i bs))) ≡ length (get_or bs i [])
one_long i bs lt =
    let one : suc i - i ≡ 1 = omega arith in
    rw (one, drop-cons bs i [], append-nil)

forward : (n : ℕ) (c : Change) → from_of n c ≤ up_to n c
forward n (replacing i r) = omega arith
forward n (removing i) = omega arith
forward n (appending r) = omega arith

pub lengths_then : LengthsThen
lengths_then c tag =
    let n = length (tag_blocks tag) in
    splice_long (from_of n c) (up_to n c) (frames_for tag c) (tag_blocks tag) (forward n c)

-- ---- 46

by_adding : (k : ℕ) → Adds k → k ≡ 46 → ⊥
by_adding k (inl e) h = omega arith
by_adding k (inr (inl e)) h = omega arith
by_adding k (inr (inr e)) h = omega arith

module _ (tag : List ℕ) where
  abbrev count : ℕ
  count = length (tag_blocks tag)

  found : (i : ℕ) → (i < count) ⊎ (count ≤ i)
  found i = by (ltb i count) refl
    where
      by : (t : Bool) → ltb i count ≡ t → (i < count) ⊎ (count ≤ i)
      by true e = inl (ltb-true i count e)
      by false e = inr (ltb-false i count e)

  -- whether the number is there
  pub missing_or_there : (c : Change) → Missing (length (tag_blocks tag)) c ⊎ (Missing (length (tag_blocks tag)) c → ⊥)
  missing_or_there (replacing i r) = at (found i)
    where
      at : (i < count) ⊎ (count ≤ i) → (count ≤ i) ⊎ (count ≤ i → ⊥)
      at (inl lt) = inr (λ h. omega arith)
      at (inr le) = inl le
  missing_or_there (removing i) = at (found i)
    where
      at : (i < count) ⊎ (count ≤ i) → (count ≤ i) ⊎ (count ≤ i → ⊥)
      at (inl lt) = inr (λ h. omega arith)
      at (inr le) = inl le
  missing_or_there (appending r) = inr (λ h. h)

answered_46 : (k : ℕ) (done : Edit) (tag : List ℕ) → (done.0 ≡ Err (refusal 46) → ⊥) → (pick (eqb k 0) done (refuse k tag)).0 ≡ Err (refusal 46) → k ≡ 46
answered_46 k done tag h e = by (eqb k 0) e
  where
    by : (t : Bool) → (pick t done (refuse k tag)).0 ≡ Err (refusal 46) → k ≡ 46
    by true e = absurd (h e)
    by false e = ap number_in e

fitted_not_46 : (bs : List (List ℕ)) (tag : List ℕ) → (fitted bs tag).0 ≡ Err (refusal 46) → ⊥
unfolding fitted
fitted_not_46 bs tag e = by (leb (length (joined bs)) (size_of tag)) _ e
  where
    by : (t : Bool) (s : List ℕ) → (pick {A = Edit} t (Ok tt, s) (refuse 20 tag)).0 ≡ Err (refusal 46) → ⊥
    by true s e = ok_not_err e
    by false s e = let z : ◌≡◌ {A = ℕ} 20 46 = ap number_in e in omega arith

pub no_number : NoNumber
no_number c tag work looks =
    let n = read_length tag work looks in
    let is : edited_of tag c ≡ answered tag c = edited_is tag c ∙ rw looks in
    let refused : (edited_of tag c).0 ≡ Err (refusal 46) → Missing (length (tag_blocks tag)) c =
    λ e. ⊎_elim (λ m. m) (λ there. absurd (by_adding (adding_of tag c) (adding_numbers tag c) (sym (check_there tag c there)
    ∙ answered_46 (check_of tag c) (fitted (blocks_then tag c) tag) tag (fitted_not_46 (blocks_then tag c) tag) (ap (λ (o : Edit). o.0) (sym is) ∙ e)))) (missing_or_there tag c) in
    let missing : Missing (length (tag_blocks tag)) c → (edited_of tag c).0 ≡ Err (refusal 46) = λ m. ap (λ (o : Edit). o.0) is ∙ rw (check_missing tag c m) in (
      λ e. subst (λ (k : ℕ). Missing k c) n (refused e),
      λ m. missing (subst (λ (k : ℕ). Missing k c) (sym n) m),
    )

-- ---- a removal has room

pub removal_fits : (tag : List ℕ) (i : ℕ) → tag_look tag ≡ Ok true → long_then tag (removing i) ≤ size_of tag
removal_fits tag i looks =
    let p = tag_plain tag looks in
    let shorter = splice_long i (suc i) [] (tag_blocks tag) (omega arith) in
    omega (arith, plain_size p.is)

pub remove_done : RemoveDone
remove_done tag i work looks lt =
    (no_room (removing i) tag looks (λ le. omega (arith, read_length tag work looks)) refl).1.1 (removal_fits tag i looks)
