-- How a lift came to its answer: one case for each number, and two that count. Assumes nothing.
use mathlib.Core.Path.{◌≡◌, refl, sym, ap, ◌∙◌, subst}
use Prim.Native.Nat.{ℕ, zero, suc, ◌^◌, ◌≤◌, ◌<◌}
use native.Mathlib.Omega.{arith}
use mathlib.Core.Bool.{Bool, true, false}
use mathlib.Core.List.{List, [], ◌∷◌}
use lib.ListN.{length, drop, set, length-append, length-take}
use lib.Dec.{ltb, leb, eqb, eqb-suc-zero}
use borrow.Author.Tests.{ltb-true, ltb-false, lt-ltb, le-ltb, leb-true, leb-false}
use Rattle.laws.proofs.Results.{ok_same, ok_not_err, err_not_ok}
use Rattle.format.specs.Bytes.{pick, zeros}
use Rattle.format.specs.Header.{size_of}
use Rattle.format.specs.Encode.{encode}
use Rattle.format.specs.Looks.{tag_look, Look}
use Rattle.format.specs.declared.Version.{Version}
use Rattle.format.specs.declared.Mode.{Mode}
use Rattle.blocks.specs.Blocks.{joined, with_blocks}
use Rattle.blocks.proofs.Headers.{same_size}
use Rattle.raise.specs.Raise.{field_in, places_from, block_at, counted_tag, Answer, on_tag, tag_version, tag_blocks}
use Rattle.raise.proofs.Accepting.{sum_at, tag_after, Accepted}
use Rattle.raise.proofs.After.{was_plain, block_after, after_plain, front_same}
use Rattle.edit.specs.Edit.{Edit, refuse, fitted, put_in}
use Rattle.edit.specs.Lift.{counts_in, lift_to, lift_places, lifted_of}
use Rattle.edit.specs.LiftPromises.{lift_rec, adding_refusal, Outgrows}
use Rattle.edit.proofs.LiftAccepting.{lift_block, lift_blocks, tag_lifted, raised_with, put_is, Lifted}
use Rattle.std.specs.Prelude.{Ok, Err}
use Rattle.format.specs.declared.refusals.Refusal.{Refusal}
use Rattle.format.specs.Refusals.{refusal, number_in}

-- the blocks with that popularimeter in the place of the i-th
abbrev pub replaced_blocks : List ℕ → ℕ → ℕ → List (List ℕ)
replaced_blocks tag i amount = set (tag_blocks tag) i (encode (tag_version tag) Mode.Off (lift_rec tag i amount))

pub data Came (tag user : List ℕ) (amount : ℕ) : Answer → Type 0 where
  stopped : {k : Refusal} → tag_look tag ≡ Err k → Came tag user amount (Err k, tag)
  odd : tag_look tag ≡ Ok false → Came tag user amount (Err (refusal 40), tag)
  absent : tag_look tag ≡ Ok true → places_from (tag_version tag) user 0 (tag_blocks tag) ≡ [] → Came tag user amount (Err (refusal 41), tag)
  several : {i j : ℕ} {l : List ℕ} → tag_look tag ≡ Ok true → places_from (tag_version tag) user 0 (tag_blocks tag) ≡ i ∷ j ∷ l
      → Came tag user amount (Err (refusal 42), tag)
  large : {i : ℕ} → tag_look tag ≡ Ok true → places_from (tag_version tag) user 0 (tag_blocks tag) ≡ i ∷ [] → 2 ^ 64 ≤ sum_at tag i amount
      → Came tag user amount (Err (refusal 43), tag)
  within : (a : Accepted tag user amount) → Came tag user amount (Ok (sum_at tag a.i amount), tag_lifted tag a.i amount)
  over : (o : Outgrows tag user amount) (k : ℕ) → adding_refusal tag o.i amount ≡ suc k → Came tag user amount (Err (refusal (suc k)), tag)
  full : (o : Outgrows tag user amount) → adding_refusal tag o.i amount ≡ 0 → size_of tag < length (joined (replaced_blocks tag o.i amount))
      → Came tag user amount (Err (refusal 20), tag)
  replaced : (o : Outgrows tag user amount) → adding_refusal tag o.i amount ≡ 0 → length (joined (replaced_blocks tag o.i amount)) ≤ size_of tag
      → Came tag user amount (Ok (sum_at tag o.i amount), tag_lifted tag o.i amount)

-- a sum that outgrows its bytes: the block is the one that was encoded
pub block_out : {tag user : List ℕ} {amount : ℕ} (o : Outgrows tag user amount)
    → lift_blocks tag o.i (sum_at tag o.i amount) ≡ replaced_blocks tag o.i amount
block_out {tag} {user} {amount} o =
    rw (le-ltb (sum_at tag o.i amount) (256 ^ length (field_in (tag_version tag) (block_at (tag_blocks tag) o.i))) o.wide)

module _ (tag user : List ℕ) (amount : ℕ) where
  abbrev v : Version
  v = tag_version tag

  abbrev bs : List (List ℕ)
  bs = tag_blocks tag

  abbrev CameTo : Answer → Type 0
  CameTo = Came tag user amount

  -- by the room that there is
  fitted_came : (o : Outgrows tag user amount) → adding_refusal tag o.i amount ≡ 0
      → (t : Bool) → leb (length (joined (replaced_blocks tag o.i amount))) (size_of tag) ≡ t
      → CameTo (counts_in (sum_at tag o.i amount) (pick t (Ok tt, with_blocks (replaced_blocks tag o.i amount) tag) (refuse 20 tag)))
  fitted_came o k true e =
      subst (λ (l : List (List ℕ)). CameTo (Ok (sum_at tag o.i amount), with_blocks l tag)) (block_out o) (Came.replaced o k (leb-true _ _ e))
  fitted_came o k false e = Came.full o k (leb-false _ _ e)

  -- by what adding says
  put_came : (o : Outgrows tag user amount) (k : ℕ) → adding_refusal tag o.i amount ≡ k
      → CameTo (counts_in (sum_at tag o.i amount) (pick (eqb k 0) (fitted (replaced_blocks tag o.i amount) tag) (refuse k tag)))
  unfolding fitted
  put_came o zero e = fitted_came o e (leb (length (joined (replaced_blocks tag o.i amount))) (size_of tag)) refl
  put_came o (suc k) e =
      subst (λ (t : Bool). CameTo (counts_in (sum_at tag o.i amount) (pick t (fitted (replaced_blocks tag o.i amount) tag) (refuse (suc k) tag)))) (sym (eqb-suc-zero k))
      (Came.over o k e)

  module _ (looks : tag_look tag ≡ Ok true) where
    module _ (i : ℕ) (only : places_from (tag_version tag) user 0 (tag_blocks tag) ≡ i ∷ []) where
      abbrev value : ℕ
      value = sum_at tag i amount

      abbrev width : ℕ
      width = length (field_in v (block_at bs i))

      -- by the bytes that there are
      wide_came : value < 2 ^ 64 → (t : Bool) → ltb value (256 ^ width) ≡ t
          → CameTo (pick t (Ok value, counted_tag v bs i value tag) (counts_in value (put_in i (suc i) (lift_rec tag i amount) tag)))
      wide_came small true e =
          let a : Accepted tag user amount = record { looks = looks; i = i; only = only; small = small; fits = ltb-true _ _ e } in
          let block : lift_block v (block_at bs i) value ≡ block_after a = rw e in
          subst (λ (s : List ℕ). CameTo (Ok value, s)) (ap (λ (b : List ℕ). with_blocks (set bs i b) tag) block ∙ sym (raised_with a)) (Came.within a)
      wide_came small false e =
          let o : Outgrows tag user amount = record { looks = looks; i = i; only = only; small = small; wide = ltb-false _ _ e } in
          subst (λ (x : Edit). CameTo (counts_in value x)) (sym (put_is tag user amount i looks only small)) (put_came o (adding_refusal tag i amount) refl)

      large_came : (t : Bool) → ltb value (2 ^ 64) ≡ t
          → CameTo (pick t (pick (ltb value (256 ^ width)) (Ok value, counted_tag v bs i value tag) (counts_in value (put_in i (suc i) (lift_rec tag i amount) tag)))
          (Err (refusal 43), tag))
      large_came true e = wide_came (ltb-true _ _ e) (ltb value (256 ^ width)) refl
      large_came false e = Came.large looks only (ltb-false _ _ e)

    places_came : (l : List ℕ) → places_from v user 0 bs ≡ l → CameTo (lift_places v bs amount tag l)
    unfolding lift_to
    places_came [] e = Came.absent looks e
    places_came (i ∷ []) e = large_came i e (ltb (sum_at tag i amount) (2 ^ 64)) refl
    places_came (i ∷ j ∷ l) e = Came.several looks e

  look_came : (x : Look) → tag_look tag ≡ x → CameTo (on_tag tag (lift_places v bs amount tag (places_from v user 0 bs)) x)
  look_came (Err k) e = Came.stopped e
  look_came (Ok false) e = Came.odd e
  look_came (Ok true) e = places_came e (places_from v user 0 bs) refl

  pub came : Came tag user amount (lifted_of tag user amount)
  unfolding lifted_of
  came = look_came (tag_look tag) refl

-- ---- accepted

-- what fits its bytes has room
unfoldable pub within_lifted : {tag user : List ℕ} {amount : ℕ} (a : Accepted tag user amount) → Lifted tag user amount
within_lifted {tag} {user} {amount} a =
    let t = lt-ltb (sum_at tag a.i amount) (256 ^ length (field_in (tag_version tag) (block_at (tag_blocks tag) a.i))) a.fits in
    let tag' = tag_after tag a.i amount in
    let new : lift_block (tag_version tag) (block_at (tag_blocks tag) a.i) (sum_at tag a.i amount) ≡ block_after a = rw t in
    let cs = set (tag_blocks tag) a.i (block_after a) in
    let fits : length (joined cs) ≤ size_of tag = omega (
      arith,
      ap length (after_plain a).region,
      length-append (joined cs) (zeros (was_plain a).padding),
      length-take (size_of tag') (drop 10 tag'),
      same_size tag tag' (sym (front_same a)),
    ) in
    record {
      looks = a.looks;
      i = a.i;
      only = a.only;
      small = a.small;
      taken = rw t;
      room = subst (λ (b : List ℕ). length (joined (set (tag_blocks tag) a.i b)) ≤ size_of tag) (sym new) fits;
    }

unfoldable pub replaced_lifted : {tag user : List ℕ} {amount : ℕ} (o : Outgrows tag user amount) → adding_refusal tag o.i amount ≡ 0
    → length (joined (replaced_blocks tag o.i amount)) ≤ size_of tag → Lifted tag user amount
replaced_lifted {tag} {user} {amount} o taken room = record {
  looks = o.looks;
  i = o.i;
  only = o.only;
  small = o.small;
  taken = rw (le-ltb (sum_at tag o.i amount) (256 ^ length (field_in (tag_version tag) (block_at (tag_blocks tag) o.i))) o.wide) taken;
  room = subst (λ (l : List (List ℕ)). length (joined l) ≤ size_of tag) (sym (block_out o)) room;
}

pub record LiftGives (tag user : List ℕ) (amount n : ℕ) (t : List ℕ) : Type 0 where
  pub was : Lifted tag user amount
  pub sum : n ≡ sum_at tag was.i amount
  pub tag_is : t ≡ tag_lifted tag was.i amount

none_gives : {A : Type 0} {k : Refusal} {tag t : List ℕ} {n : ℕ} → ◌≡◌ {A = Answer} (Err k, tag) (Ok n, t) → A
none_gives e = err_not_ok (ap (λ (o : Answer). o.0) e)

module _ {tag user : List ℕ} {amount n : ℕ} {t : List ℕ} where
  counted_gives : (a : Lifted tag user amount) → ◌≡◌ {A = Answer} (Ok (sum_at tag a.i amount), tag_lifted tag a.i amount) (Ok n, t)
      → LiftGives tag user amount n t
  counted_gives a e =
      record { was = a; sum = sym (ok_same (ap (λ (o : Answer). o.0) e)); tag_is = sym (ap (λ (o : Answer). o.1) e) }

  gives_by : {o : Answer} → Came tag user amount o → o ≡ (Ok n, t) → LiftGives tag user amount n t
  unfolding within_lifted replaced_lifted
  gives_by (Came.stopped h) e = none_gives e
  gives_by (Came.odd h) e = none_gives e
  gives_by (Came.absent h l) e = none_gives e
  gives_by (Came.several h l) e = none_gives e
  gives_by (Came.large h l s) e = none_gives e
  gives_by (Came.within a) e = counted_gives (within_lifted a) e
  gives_by (Came.over o k h) e = none_gives e
  gives_by (Came.full o h s) e = none_gives e
  gives_by (Came.replaced o h s) e = counted_gives (replaced_lifted o h s) e

pub lift_accepted : (tag user : List ℕ) (amount : ℕ) {n : ℕ} {t : List ℕ} → lifted_of tag user amount ≡ (Ok n, t) → LiftGives tag user amount n t
lift_accepted tag user amount e = gives_by (came tag user amount) e

-- ---- refused

pub data Refusing (tag user : List ℕ) (amount k : ℕ) : Type 0 where
  stopped : tag_look tag ≡ Err (refusal k) → Refusing tag user amount k
  own : 40 ≤ k → k < 44 → Refusing tag user amount k
  over : (o : Outgrows tag user amount) → adding_refusal tag o.i amount ≡ k → 0 < k → Refusing tag user amount k
  full : (o : Outgrows tag user amount) → adding_refusal tag o.i amount ≡ 0 → size_of tag < length (joined (replaced_blocks tag o.i amount)) → k ≡ 20
      → Refusing tag user amount k

counts_not : {A : Type 0} {n : ℕ} {k : Refusal} {s t : List ℕ} → ◌≡◌ {A = Answer} (Ok n, s) (Err k, t) → A
counts_not e = ok_not_err (ap (λ (o : Answer). o.0) e)

-- the number, and the tag as it was
same_refusal : {tag t : List ℕ} {j k : ℕ} → ◌≡◌ {A = Answer} (Err (refusal j), tag) (Err (refusal k), t) → (j ≡ k) × (t ≡ tag)
same_refusal e = (ap (λ (o : Answer). number_in o.0) e, sym (ap (λ (o : Answer). o.1) e))

module _ {tag user : List ℕ} {amount k : ℕ} {t : List ℕ} where
  refusing_by : {o : Answer} → Came tag user amount o → o ≡ (Err (refusal k), t) → (t ≡ tag) × Refusing tag user amount k
  refusing_by (Came.stopped h) e = let s = same_refusal e in (s.1, Refusing.stopped (h ∙ ap {B = Look} (λ (n : ℕ). Err (refusal n)) s.0))
  refusing_by (Came.odd h) e = let s = same_refusal e in (s.1, Refusing.own (omega (arith, s.0)) (omega (arith, s.0)))
  refusing_by (Came.absent h l) e = let s = same_refusal e in (s.1, Refusing.own (omega (arith, s.0)) (omega (arith, s.0)))
  refusing_by (Came.several h l) e = let s = same_refusal e in (s.1, Refusing.own (omega (arith, s.0)) (omega (arith, s.0)))
  refusing_by (Came.large h l b) e = let s = same_refusal e in (s.1, Refusing.own (omega (arith, s.0)) (omega (arith, s.0)))
  refusing_by (Came.within a) e = counts_not e
  refusing_by (Came.over o j h) e = let s = same_refusal e in (s.1, Refusing.over o (h ∙ s.0) (omega (arith, s.0)))
  refusing_by (Came.full o h b) e = let s = same_refusal e in (s.1, Refusing.full o h b (sym s.0))
  refusing_by (Came.replaced o h b) e = counts_not e

pub lift_refused : (tag user : List ℕ) (amount : ℕ) {k : ℕ} {t : List ℕ} → lifted_of tag user amount ≡ (Err (refusal k), t)
    → (t ≡ tag) × Refusing tag user amount k
lift_refused tag user amount e = refusing_by (came tag user amount) e
