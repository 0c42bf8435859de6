-- Which way a lift went, and what it is refused for: as a raise, but for 44, in whose place a frame is replaced. Assumes nothing.
use mathlib.Core.Path.{◌≡◌, sym, ap, ◌∙◌}
use mathlib.Core.Logic.{◌⊎◌, inl, inr}
use Prim.Native.Nat.{ℕ, suc, ◌^◌, ◌≤◌, ◌<◌}
use native.Mathlib.Omega.{arith}
use mathlib.Core.List.{List, [], ◌∷◌}
use lib.ListN.{length}
use borrow.Author.Tests.{lt-ltb, le-ltb}
use Rattle.format.specs.Looks.{tag_look}
use Rattle.promises.specs.Reading.{refused, read_all}
use Rattle.raise.specs.Raise.{field_in, places_from, block_at, Answer, raise_to, tag_version, tag_blocks, raised_of}
use Rattle.raise.proofs.Accepting.{sum_at}
use Rattle.raise.proofs.Absent.{zero_absent}
use Rattle.raise.proofs.Refusing.{look_some, look_reads, reads_look, stopped}
use Rattle.edit.specs.Edit.{put_in, replaced_of}
use Rattle.edit.specs.Lift.{counts_in, lifted_of}
use Rattle.std.specs.Prelude.{Result, Ok, Err}
use Rattle.format.specs.Refusals.{refusal, number_in}
use Rattle.format.specs.declared.refusals.Refusal.{Refusal}
use Rattle.edit.specs.LiftPromises.{
  sum_in,
  adding_refusal,
  lift_rec,
  LiftIsRaise,
  Outgrows,
  LiftIsReplace,
  LiftRefusedNumber,
  LiftNever44,
  LiftRefusedAsReading,
  LiftReadingRefused,
  LiftZeroAbsent,
}
use Rattle.edit.proofs.LiftAccepting.{place_lt, lift_in, lift_out}
use Rattle.edit.proofs.LiftCame.{Came, came, Refusing, lift_refused}
use Rattle.edit.proofs.LookNumbers.{look_most}
use Rattle.edit.proofs.LiftRooms.{adding_not}
use mathlib.Core.Bool.{true}

not_44 : {A : Type 0} {k : Refusal} → ◌≡◌ {A = Result ℕ Refusal} (Err k) (Err (refusal 44)) → k.number < 44 → A
not_44 {k = k} e lt = absurd (let z : k.number ≡ 44 = ap number_in e in omega arith)

-- ---- a raise, case by case

module _ (tag user : List ℕ) (amount : ℕ) where
  lift_stopped : {k : Refusal} → tag_look tag ≡ Err k → lifted_of tag user amount ≡ (Err k, tag)
  unfolding lifted_of
  lift_stopped h = rw h

  raise_large : {i : ℕ} → tag_look tag ≡ Ok true → places_from (tag_version tag) user 0 (tag_blocks tag) ≡ i ∷ [] → 2 ^ 64 ≤ sum_at tag i amount
      → raised_of tag user amount ≡ (Err (refusal 43), tag)
  unfolding raised_of raise_to
  raise_large {i} h l s = rw (h, l, le-ltb (sum_at tag i amount) (2 ^ 64) s)

  raise_wide : (o : Outgrows tag user amount) → raised_of tag user amount ≡ (Err (refusal 44), tag)
  unfolding raised_of raise_to
  raise_wide o =
      let n = sum_at tag o.i amount in
      rw (o.looks, o.only, lt-ltb n (2 ^ 64) o.small, le-ltb n (256 ^ length (field_in (tag_version tag) (block_at (tag_blocks tag) o.i))) o.wide)

  -- the answer of a raise where the lift has it too
  raise_by : {x : Answer} → Came tag user amount x → (raised_of tag user amount ≡ x) ⊎ Outgrows tag user amount
  unfolding raised_of
  raise_by (Came.stopped h) = inl (stopped tag user amount h)
  raise_by (Came.odd h) = inl (rw h)
  raise_by (Came.absent h l) = inl (rw (h, l))
  raise_by (Came.several h l) = inl (rw (h, l))
  raise_by (Came.large h l s) = inl (raise_large h l s)
  raise_by (Came.within a) = let q = lift_in tag user amount a.i a.looks a.only a.small a.fits in inl (sym q.1 ∙ q.0)
  raise_by (Came.over o k h) = inr o
  raise_by (Came.full o h s) = inr o
  raise_by (Came.replaced o h s) = inr o

pub lift_is_raise : LiftIsRaise
lift_is_raise tag user amount ne = by (raise_by tag user amount (came tag user amount))
  where
    by : (raised_of tag user amount ≡ lifted_of tag user amount) ⊎ Outgrows tag user amount → lifted_of tag user amount ≡ raised_of tag user amount
    by (inl e) = sym e
    by (inr o) = absurd (ne (ap (λ (x : Answer). x.0) (raise_wide tag user amount o)))

-- ---- no refusal is 44, and none is 0

none_44 : {tag user : List ℕ} {amount : ℕ} → Refusing tag user amount 44 → ⊥
none_44 {tag} (Refusing.stopped h) = omega (arith, look_most tag h)
none_44 (Refusing.own a b) = omega arith
none_44 (Refusing.over o h s) = omega (arith, adding_not o, h)
none_44 (Refusing.full o h s z) = omega (arith, z)

pub lift_never_44 : LiftNever44
lift_never_44 tag user amount e =
    let t = (lifted_of tag user amount).1 in
    let is : lifted_of tag user amount ≡ (Err (refusal 44), t) = (λ j. (e j, t)) in
    none_44 (lift_refused tag user amount is).1

pub lift_refused_number : LiftRefusedNumber
lift_refused_number tag user amount k tag' e = by (lift_refused tag user amount e).1
  where
    by : Refusing tag user amount k → 0 < k
    by (Refusing.stopped h) = look_some tag h
    by (Refusing.own a b) = omega arith
    by (Refusing.over o h s) = s
    by (Refusing.full o h s z) = omega (arith, z)

-- ---- 44 of a raise: the frame is replaced

replace_is : {tag user : List ℕ} {amount : ℕ} (o : Outgrows tag user amount)
    → replaced_of tag o.i (lift_rec tag o.i amount) ≡ put_in o.i (suc o.i) (lift_rec tag o.i amount) tag
unfolding replaced_of
replace_is {tag} {user} {amount} o = rw (o.looks, lt-ltb o.i (length (tag_blocks tag)) (place_lt tag user amount o.i o.looks o.only))

pub lift_is_replace : LiftIsReplace
lift_is_replace tag user amount e = by (raise_by tag user amount (came tag user amount))
  where
    by : (raised_of tag user amount ≡ lifted_of tag user amount) ⊎ Outgrows tag user amount
        → (o : Outgrows tag user amount) × (lifted_of tag user amount ≡ counts_in (sum_in tag o.i amount) (replaced_of tag o.i (lift_rec tag o.i amount)))
    by (inl h) = absurd (lift_never_44 tag user amount (ap (λ (x : Answer). x.0) (sym h) ∙ e))
    by (inr o) = (o, lift_out tag user amount o.i o.looks o.only o.small o.wide ∙ ap (counts_in (sum_in tag o.i amount)) (sym (replace_is o)))

-- ---- as reading

pub lift_refused_as_reading : LiftRefusedAsReading
lift_refused_as_reading tag user amount k tag' work e lt = by (lift_refused tag user amount e).1
  where
    by : Refusing tag user amount k
        → ((read_all tag work).1 ≡ refused k)
        ⊎ ((o : Outgrows tag user amount) × ((k ≡ adding_refusal tag o.i amount) ⊎ (k ≡ 20)))
    by (Refusing.stopped h) = inl (look_reads tag work h (λ z. omega (arith, z)))
    by (Refusing.own a b) = absurd (omega arith)
    by (Refusing.over o h s) = inr (o, inl (sym h))
    by (Refusing.full o h s z) = inr (o, inr z)

pub lift_reading_refused : LiftReadingRefused
lift_reading_refused tag user amount k work e = by (reads_look tag work k e)
  where
    by : (tag_look tag ≡ Err (refusal k)) ⊎ (tag_look tag ≡ Err (refusal 40))
        → (lifted_of tag user amount ≡ (Err (refusal k), tag)) ⊎ (lifted_of tag user amount ≡ (Err (refusal 40), tag))
    by (inl f) = inl (lift_stopped tag user amount f)
    by (inr f) = inr (lift_stopped tag user amount f)

pub lift_zero_absent : LiftZeroAbsent
lift_zero_absent tag user amount looks lt =
    let e = zero_absent tag user amount looks lt in
    lift_is_raise tag user amount (λ (h : (raised_of tag user amount).0 ≡ Err (refusal 44)). not_44 (sym (ap (λ (x : Answer). x.0) e) ∙ h) (omega arith)) ∙ e
