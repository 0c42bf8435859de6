-- Why an edit is refused: as reading is, 40, and in a plain tag 46, as adding is, or 20; the tag is then as it was. Assumes nothing.
use mathlib.Core.Path.{◌≡◌, refl, sym, ap, ◌∙◌, subst}
use mathlib.Core.Logic.{◌⊎◌, inl, inr}
use Prim.Native.Nat.{ℕ, zero, suc, ◌<◌}
use native.Mathlib.Omega.{arith}
use mathlib.Core.Bool.{Bool, true, false}
use mathlib.Core.List.{List}
use lib.ListN.{length}
use lib.Dec.{leb, eqb}
use borrow.Author.Tests.{leb-false, eqb-true, eqb-false}
use Rattle.laws.proofs.Results.{ok_same, ok_not_err, err_not_ok}
use Rattle.format.specs.Bytes.{pick}
use Rattle.format.specs.Header.{size_of}
use Rattle.format.specs.Looks.{tag_look, Look}
use Rattle.promises.specs.Reading.{refused, read_all}
use Rattle.blocks.specs.Blocks.{joined}
use Rattle.raise.specs.Raise.{tag_blocks}
use Rattle.raise.proofs.Refusing.{look_some, look_reads, reads_look}
use Rattle.edit.specs.Edit.{Edit, refuse, fitted, on_plain}
use Rattle.edit.specs.Promises.{Change, edited_of, Missing, long_then, Why, AddingNumbers, EditRefusedSame, EditRefusedNumber, EditRefusedWhy, EditRefusedAsReading, EditReadingRefused}
use Rattle.edit.proofs.Accepting.{check_of, blocks_then, answered, edited_is, check_missing, check_there}
use Rattle.edit.proofs.Adding.{Adds, adding_numbers}
use Rattle.edit.proofs.Rooms.{missing_or_there}
use Rattle.std.specs.Prelude.{Ok, Err}
use Rattle.format.specs.declared.refusals.Refusal.{Refusal}
use Rattle.format.specs.Refusals.{refusal, number_in}

-- ---- the answers that are refusals

same_number : (j k : ℕ) (s t : List ℕ) → ◌≡◌ {A = Edit} (refuse j s) (refuse k t) → (j ≡ k) × (t ≡ s)
same_number j k s t e = (ap (λ (o : Edit). number_in o.0) e, sym (ap (λ (o : Edit). o.1) e))

done_not : {A : Type 0} (k : ℕ) (s t : List ℕ) → ◌≡◌ {A = Edit} (Ok tt, s) (refuse k t) → A
done_not k s t e = ok_not_err (ap (λ (o : Edit). o.0) e)

-- the blocks do not fit
fitted_refuses : (bs : List (List ℕ)) (tag t : List ℕ) (k : ℕ) → fitted bs tag ≡ refuse k t
    → (20 ≡ k) × (t ≡ tag) × (size_of tag < length (joined bs))
unfolding fitted
fitted_refuses bs tag t k e = by (leb (length (joined bs)) (size_of tag)) refl _ e
  where
    by : (p : Bool) → leb (length (joined bs)) (size_of tag) ≡ p → (s : List ℕ) → ◌≡◌ {A = Edit} (pick p (Ok tt, s) (refuse 20 tag)) (refuse k t)
        → (20 ≡ k) × (t ≡ tag) × (size_of tag < length (joined bs))
    by true h s e = done_not k s t e
    by false h s e = let q = same_number 20 k tag t e in (q.0, q.1, leb-false _ _ h)

-- what a plain tag refuses
answered_refuses : (tag t : List ℕ) (c : Change) (k : ℕ) → answered tag c ≡ refuse k t
    → (t ≡ tag) × (((check_of tag c ≡ 0) × (20 ≡ k) × (size_of tag < long_then tag c)) ⊎ ((check_of tag c ≡ k) × (k ≡ 0 → ⊥)))
answered_refuses tag t c k e = by (eqb (check_of tag c) 0) refl e
  where
    by : (p : Bool) → eqb (check_of tag c) 0 ≡ p → pick p (fitted (blocks_then tag c) tag) (refuse (check_of tag c) tag) ≡ refuse k t
        → (t ≡ tag) × (((check_of tag c ≡ 0) × (20 ≡ k) × (size_of tag < long_then tag c)) ⊎ ((check_of tag c ≡ k) × (k ≡ 0 → ⊥)))
    by true h e = let q = fitted_refuses (blocks_then tag c) tag t k e in (q.1, inl (eqb-true _ _ h, q.0, q.2))
    by false h e = let q = same_number (check_of tag c) k tag t e in (q.1, inr (q.0, λ z. eqb-false _ _ h (q.0 ∙ z)))

-- ---- the tag as it was

plain_same : (tag t : List ℕ) (k : ℕ) (on : Edit) (x : Look) → (on ≡ refuse k t → t ≡ tag) → on_plain tag on x ≡ refuse k t → t ≡ tag
plain_same tag t k on (Err j) h e = (same_number j.number k tag t e).1
plain_same tag t k on (Ok false) h e = (same_number 40 k tag t e).1
plain_same tag t k on (Ok true) h e = h e

pub edit_refused_same : EditRefusedSame
edit_refused_same c tag k tag' e =
    plain_same tag tag' k (answered tag c) (tag_look tag) (λ h. (answered_refuses tag tag' c k h).0) (sym (edited_is tag c) ∙ e)

-- ---- why

stops_why : (c : Change) (tag : List ℕ) {k : Refusal} → tag_look tag ≡ Err k → Why c tag k.number
stops_why c tag {k} e = by (eqb k.number 40) refl
  where
    not_plain : tag_look tag ≡ Ok true → ⊥
    not_plain p = err_not_ok (sym e ∙ p)

    by : (t : Bool) → eqb k.number 40 ≡ t → Why c tag k.number
    by true h = subst (Why c tag) (sym (eqb-true k.number 40 h)) (Why.not_plain not_plain)
    by false h = Why.as_reading (λ work. look_reads tag work e (eqb-false k.number 40 h))

check_why : (c : Change) (tag : List ℕ) (k : ℕ) → tag_look tag ≡ Ok true → check_of tag c ≡ k → (k ≡ 0 → ⊥) → Missing (length (tag_blocks tag)) c ⊎ (Missing (length (tag_blocks tag)) c → ⊥) → Why c tag k
check_why c tag k p e ne (inl m) = subst (Why c tag) (sym (check_missing tag c m) ∙ e) (Why.no_number p m)
check_why c tag zero p e ne (inr there) = absurd (ne refl)
check_why c tag (suc k) p e ne (inr there) = Why.as_adding p there (sym (check_there tag c there) ∙ e)

room_why : (c : Change) (tag : List ℕ) → tag_look tag ≡ Ok true → check_of tag c ≡ 0 → size_of tag < long_then tag c → Missing (length (tag_blocks tag)) c ⊎ (Missing (length (tag_blocks tag)) c → ⊥) → Why c tag 20
room_why c tag p e lt (inl m) = absurd (let z : ◌≡◌ {A = ℕ} 46 0 = sym (check_missing tag c m) ∙ e in omega arith)
room_why c tag p e lt (inr there) = Why.no_room p there (sym (check_there tag c there) ∙ e) lt

plain_why : (c : Change) (tag t : List ℕ) (k : ℕ) → tag_look tag ≡ Ok true → answered tag c ≡ refuse k t → Why c tag k
plain_why c tag t k p e = by (answered_refuses tag t c k e).1
  where
    by : ((check_of tag c ≡ 0) × (20 ≡ k) × (size_of tag < long_then tag c)) ⊎ ((check_of tag c ≡ k) × (k ≡ 0 → ⊥)) → Why c tag k
    by (inl q) = subst (Why c tag) q.1 (room_why c tag p q.0 q.2 (missing_or_there tag c))
    by (inr q) = check_why c tag k p q.0 q.1 (missing_or_there tag c)

pub edit_refused_why : EditRefusedWhy
edit_refused_why c tag k tag' e = by (tag_look tag) refl (sym (edited_is tag c) ∙ e)
  where
    by : (x : Look) → tag_look tag ≡ x → on_plain tag (answered tag c) x ≡ refuse k tag' → Why c tag k
    by (Err j) h e = subst (Why c tag) (same_number j.number k tag tag' e).0 (stops_why c tag h)
    by (Ok false) h e =
        subst (Why c tag) (same_number 40 k tag tag' e).0
        (Why.not_plain (λ p. let z : false ≡ true = ok_same (sym h ∙ p) in let y : ◌≡◌ {A = ℕ} 0 1 = cc in omega arith))
    by (Ok true) h e = plain_why c tag tag' k h e

-- ---- the numbers

pub edit_refused_number : EditRefusedNumber
edit_refused_number c tag k tag' e = by (tag_look tag) refl (sym (edited_is tag c) ∙ e)
  where
    on : ((check_of tag c ≡ 0) × (20 ≡ k) × (size_of tag < long_then tag c)) ⊎ ((check_of tag c ≡ k) × (k ≡ 0 → ⊥)) → 0 < k
    on (inl q) = omega (arith, q.1)
    on (inr q) = let ne : k ≡ 0 → ⊥ = q.1 in omega arith

    by : (x : Look) → tag_look tag ≡ x → on_plain tag (answered tag c) x ≡ refuse k tag' → 0 < k
    by (Err j) h e = omega (arith, (same_number j.number k tag tag' e).0, look_some tag h)
    by (Ok false) h e = omega (arith, (same_number 40 k tag tag' e).0)
    by (Ok true) h e = on (answered_refuses tag tag' c k e).1

adding_number : (k : ℕ) → Adds (suc k) → AddingNumbers (suc k)
adding_number k (inl e) = absurd (omega arith)
adding_number k (inr (inl e)) = inl e
adding_number k (inr (inr e)) = inr (omega (arith, e.0), e.1)

why_reading : (c : Change) (tag work : List ℕ) (k : ℕ) → Why c tag k → k < 40 → (AddingNumbers k → ⊥) → (read_all tag work).1 ≡ refused k
why_reading c tag work k (Why.as_reading h) lt ne = h work
why_reading c tag work k (Why.not_plain h) lt ne = absurd (omega arith)
why_reading c tag work k (Why.no_number p m) lt ne = absurd (omega arith)
why_reading c tag work k (Why.as_adding {k = j} p there e) lt ne = absurd (ne (adding_number j (subst Adds e (adding_numbers tag c))))
why_reading c tag work k (Why.no_room p there e h) lt ne = absurd (ne (inr (omega arith, omega arith)))

pub edit_refused_as_reading : EditRefusedAsReading
edit_refused_as_reading c tag k tag' work e lt ne = why_reading c tag work k (edit_refused_why c tag k tag' e) lt ne

-- ---- where reading is refused

stopped : (c : Change) (tag : List ℕ) {k : Refusal} → tag_look tag ≡ Err k → edited_of tag c ≡ (Err k, tag)
stopped c tag e = edited_is tag c ∙ rw e

pub edit_reading_refused : EditReadingRefused
edit_reading_refused c tag k work e = by (reads_look tag work k e)
  where
    by : (tag_look tag ≡ Err (refusal k)) ⊎ (tag_look tag ≡ Err (refusal 40)) → (edited_of tag c ≡ refuse k tag) ⊎ (edited_of tag c ≡ refuse 40 tag)
    by (inl f) = inl (stopped c tag f)
    by (inr f) = inr (stopped c tag f)
