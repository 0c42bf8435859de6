-- When a raise is accepted, and what it then gives; a refused one leaves the tag as it was. Assumes nothing.
use mathlib.Core.Path.{◌≡◌, refl, sym, ap}
use Prim.Native.Nat.{ℕ, ◌+◌, ◌^◌, ◌<◌}
use mathlib.Core.Bool.{Bool, true, false}
use mathlib.Core.List.{List, [], ◌∷◌}
use lib.ListN.{length}
use lib.Dec.{ltb}
use borrow.Author.Tests.{ltb-true, lt-ltb}
use Rattle.laws.proofs.Results.{ok_same, err_not_ok, ok_not_err}
use Rattle.format.specs.Bytes.{pick}
use Rattle.format.specs.Popularimeter.{counter_of}
use Rattle.format.specs.declared.Version.{Version}
use Rattle.format.proofs.Checks.{not_second}
use Rattle.format.specs.Looks.{tag_look, Look}
use Rattle.raise.specs.Raise.{field_in, places_from, block_at, counted_tag, Answer, raise_to, on_places, on_tag, tag_version, tag_blocks, raised_of}
use Rattle.std.specs.Prelude.{Ok, Err}
use Rattle.format.specs.declared.refusals.Refusal.{Refusal}
use Rattle.format.specs.Refusals.{refusal}

-- the counter that the i-th block then has, and the tag then
abbrev pub sum_at : List ℕ → ℕ → ℕ → ℕ
sum_at tag i amount = counter_of (field_in (tag_version tag) (block_at (tag_blocks tag) i)) + amount

abbrev pub tag_after : List ℕ → ℕ → ℕ → List ℕ
tag_after tag i amount = counted_tag (tag_version tag) (tag_blocks tag) i (sum_at tag i amount) tag

pub record Accepted (tag user : List ℕ) (amount : ℕ) : Type 0 where
  pub looks : tag_look tag ≡ Ok true
  pub i : ℕ
  pub only : places_from (tag_version tag) user 0 (tag_blocks tag) ≡ i ∷ []
  pub small : sum_at tag i amount < 2 ^ 64
  pub fits : sum_at tag i amount < 256 ^ length (field_in (tag_version tag) (block_at (tag_blocks tag) i))

-- ---- from the conditions to the answer

pub accept : {tag user : List ℕ} {amount : ℕ} (a : Accepted tag user amount)
    → raised_of tag user amount ≡ (Ok (sum_at tag a.i amount), tag_after tag a.i amount)
unfolding raised_of raise_to
accept {tag} {user} {amount} a =
    let n = sum_at tag a.i amount in
    rw (a.looks, a.only, lt-ltb n (2 ^ 64) a.small, lt-ltb n (256 ^ length (field_in (tag_version tag) (block_at (tag_blocks tag) a.i))) a.fits)

-- ---- and back

declines_not : {A : Type 0} {k : Refusal} {n : ℕ} {s t : List ℕ} → ◌≡◌ {A = Answer} (Err k, s) (Ok n, t) → A
declines_not e = err_not_ok (ap (λ (o : Answer). o.0) e)

module _ (tag t : List ℕ) (n : ℕ) where
  on_tag_lem : (on : Answer) (x : Look) → on_tag tag on x ≡ (Ok n, t) → (x ≡ Ok true) × (on ≡ (Ok n, t))
  on_tag_lem on (Err k) e = declines_not e
  on_tag_lem on (Ok false) e = declines_not e
  on_tag_lem on (Ok true) e = (refl, e)

  on_places_lem : (v : Version) (bs : List (List ℕ)) (amount : ℕ) (l : List ℕ) → on_places v bs amount tag l ≡ (Ok n, t)
      → (i : ℕ) × ((l ≡ i ∷ []) × (raise_to v bs i (counter_of (field_in v (block_at bs i)) + amount) tag ≡ (Ok n, t)))
  on_places_lem v bs amount [] e = declines_not e
  on_places_lem v bs amount (i ∷ []) e = (i, (refl, e))
  on_places_lem v bs amount (i ∷ j ∷ l) e = declines_not e

  raise_to_lem : (v : Version) (bs : List (List ℕ)) (i value : ℕ) → raise_to v bs i value tag ≡ (Ok n, t)
      → (value < 2 ^ 64) × (value < 256 ^ length (field_in v (block_at bs i))) × (n ≡ value) × (t ≡ counted_tag v bs i value tag)
  unfolding raise_to
  raise_to_lem v bs i value e =
      let p = not_second _ _ _ _ e (λ z. declines_not z) in
      let q = not_second _ _ _ _ p.1 (λ z. declines_not z) in
      (ltb-true _ _ p.0, ltb-true _ _ q.0, sym (ok_same (ap (λ (o : Answer). o.0) q.1)), sym (ap (λ (o : Answer). o.1) q.1))

pub record Gives (tag user : List ℕ) (amount n : ℕ) (t : List ℕ) : Type 0 where
  pub was : Accepted tag user amount
  pub sum : n ≡ sum_at tag was.i amount
  pub tag_is : t ≡ tag_after tag was.i amount

pub accepted : (tag user : List ℕ) (amount : ℕ) {n : ℕ} {t : List ℕ} → raised_of tag user amount ≡ (Ok n, t) → Gives tag user amount n t
unfolding raised_of
accepted tag user amount {n} {t} e =
    let p = on_tag_lem tag t n _ (tag_look tag) e in
    let q = on_places_lem tag t n (tag_version tag) (tag_blocks tag) amount _ p.1 in
    let r = raise_to_lem tag t n (tag_version tag) (tag_blocks tag) q.0 (sum_at tag q.0 amount) q.1.1 in
    record { was = record { looks = p.0; i = q.0; only = q.1.0; small = r.0; fits = r.1 }; sum = r.2; tag_is = r.3 }

-- ---- refused

counts_not : {A : Type 0} {k : Refusal} {n : ℕ} {s t : List ℕ} → ◌≡◌ {A = Answer} (Ok n, s) (Err k, t) → A
counts_not e = ok_not_err (ap (λ (o : Answer). o.0) e)

module _ (tag t : List ℕ) (k : Refusal) where
  same_tag : {j : Refusal} → ◌≡◌ {A = Answer} (Err j, tag) (Err k, t) → t ≡ tag
  same_tag e = sym (ap (λ (o : Answer). o.1) e)

  picked_tag : (p q : Bool) (n : ℕ) (s : List ℕ)
      → ◌≡◌ {A = Answer} (pick p (pick q (Ok n, s) (Err (refusal 44), tag)) (Err (refusal 43), tag)) (Err k, t) → t ≡ tag
  picked_tag true true n s e = counts_not e
  picked_tag true false n s e = same_tag e
  picked_tag false q n s e = same_tag e

  places_tag : (v : Version) (bs : List (List ℕ)) (amount : ℕ) (l : List ℕ) → on_places v bs amount tag l ≡ (Err k, t) → t ≡ tag
  unfolding raise_to
  places_tag v bs amount [] e = same_tag e
  places_tag v bs amount (i ∷ []) e =
      let n = counter_of (field_in v (block_at bs i)) + amount in
      picked_tag (ltb n (2 ^ 64)) (ltb n (256 ^ length (field_in v (block_at bs i)))) n (counted_tag v bs i n tag) e
  places_tag v bs amount (i ∷ j ∷ l) e = same_tag e

  look_tag : (on : Answer) (x : Look) → (on ≡ (Err k, t) → t ≡ tag) → on_tag tag on x ≡ (Err k, t) → t ≡ tag
  look_tag on (Err j) h e = same_tag e
  look_tag on (Ok false) h e = same_tag e
  look_tag on (Ok true) h e = h e

-- A refused raise leaves the tag as it was.
pub refused_same : (tag user : List ℕ) (amount : ℕ) {k : Refusal} {t : List ℕ} → raised_of tag user amount ≡ (Err k, t) → t ≡ tag
unfolding raised_of
refused_same tag user amount {k} {t} e =
    look_tag tag t k _ (tag_look tag)
    (places_tag tag t k (tag_version tag) (tag_blocks tag) amount (places_from (tag_version tag) user 0 (tag_blocks tag))) e
