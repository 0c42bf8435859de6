-- When an edit is accepted, and what it then gives. Assumes nothing.
use mathlib.Core.Path.{◌≡◌, refl, sym, ap, ◌∙◌}
use Prim.Native.Nat.{ℕ, ◌≤◌}
use native.Mathlib.Omega.{arith}
use mathlib.Core.Bool.{Bool, true, false}
use mathlib.Core.List.{List}
use lib.ListN.{length}
use lib.Dec.{ltb, eqb}
use borrow.Author.Tests.{ltb-false, le-ltb, leb-true, le-leb, eqb-true}
use Rattle.laws.proofs.Results.{err_not_ok}
use Rattle.format.specs.Bytes.{pick}
use Rattle.format.specs.Header.{size_of}
use Rattle.format.specs.Encode.{refusal_of}
use Rattle.format.specs.Looks.{tag_look, Look}
use Rattle.format.specs.declared.Mode.{Mode}
use Rattle.format.proofs.Checks.{not_second}
use Rattle.blocks.specs.Blocks.{with_blocks}
use Rattle.raise.specs.Raise.{tag_version, tag_blocks}
use Rattle.edit.specs.Edit.{Edit, refuse, fitted, put_in, on_plain, replaced_of, removed_of, appended_of}
use Rattle.edit.specs.Promises.{Change, replacing, removing, appending, edited_of, frames_for, edited, Missing, adding_of, long_then}
use Rattle.std.specs.Prelude.{Ok, Err}

-- ---- one form of the three

-- the first of 46 and adding's, 0 for neither
abbrev pub check_of : List ℕ → Change → ℕ
check_of tag (replacing i r) = pick (ltb i (length (tag_blocks tag))) (refusal_of (tag_version tag) Mode.Off false r) 46
check_of tag (removing i) = pick (ltb i (length (tag_blocks tag))) 0 46
check_of tag (appending r) = refusal_of (tag_version tag) Mode.Off false r

-- the frames then, and the tag
abbrev pub blocks_then : List ℕ → Change → List (List ℕ)
blocks_then tag c = edited c (frames_for tag c) (tag_blocks tag)

abbrev pub tag_then : List ℕ → Change → List ℕ
tag_then tag c = with_blocks (blocks_then tag c) tag

-- what a plain tag answers
abbrev pub answered : List ℕ → Change → Edit
answered tag c = pick (eqb (check_of tag c) 0) (fitted (blocks_then tag c) tag) (refuse (check_of tag c) tag)

by_number : (t : Bool) (k : ℕ) (done : Edit) (tag : List ℕ)
    → pick t (pick (eqb k 0) done (refuse k tag)) (refuse 46 tag) ≡ pick (eqb (pick t k 46) 0) done (refuse (pick t k 46) tag)
by_number true k done tag = refl
by_number false k done tag = refl

pub edited_is : (tag : List ℕ) (c : Change) → edited_of tag c ≡ on_plain tag (answered tag c) (tag_look tag)
unfolding replaced_of removed_of appended_of put_in
edited_is tag (replacing i r) =
    ap (λ (o : Edit). on_plain tag o (tag_look tag))
    (by_number (ltb i (length (tag_blocks tag))) (refusal_of (tag_version tag) Mode.Off false r) (fitted (blocks_then tag (replacing i r)) tag) tag)
edited_is tag (removing i) =
    ap (λ (o : Edit). on_plain tag o (tag_look tag)) (by_number (ltb i (length (tag_blocks tag))) 0 (fitted (blocks_then tag (removing i)) tag) tag)
edited_is tag (appending r) = refl

-- ---- the number and the record

module _ (tag : List ℕ) where
  abbrev n : ℕ
  n = length (tag_blocks tag)

  pub check_missing : (c : Change) → Missing (length (tag_blocks tag)) c → check_of tag c ≡ 46
  check_missing (replacing i r) h = rw (le-ltb i n h)
  check_missing (removing i) h = rw (le-ltb i n h)
  check_missing (appending r) h = absurd h

  number_there : (i k : ℕ) (t : Bool) → ltb i n ≡ t → (n ≤ i → ⊥) → pick t k 46 ≡ k
  number_there i k true e h = refl
  number_there i k false e h = absurd (h (ltb-false i n e))

  pub check_there : (c : Change) → (Missing (length (tag_blocks tag)) c → ⊥) → check_of tag c ≡ adding_of tag c
  check_there (replacing i r) h = number_there i (refusal_of (tag_version tag) Mode.Off false r) (ltb i n) refl h
  check_there (removing i) h = number_there i 0 (ltb i n) refl h
  check_there (appending r) h = refl

  -- where the check passes, the number is there
  pub is_there : (c : Change) → check_of tag c ≡ 0 → Missing (length (tag_blocks tag)) c → ⊥
  is_there c e h = let z : ◌≡◌ {A = ℕ} 46 0 = sym (check_missing c h) ∙ e in omega arith

-- ---- an accepted edit

pub record Accepted (tag : List ℕ) (c : Change) : Type 0 where
  pub looks : tag_look tag ≡ Ok true
  pub there : Missing (length (tag_blocks tag)) c → ⊥
  pub added : adding_of tag c ≡ 0
  pub fits : long_then tag c ≤ size_of tag

-- what a plain tag answers where the number is there and adding refuses nothing
pub put_plain : (tag : List ℕ) (c : Change) → tag_look tag ≡ Ok true → (Missing (length (tag_blocks tag)) c → ⊥) → adding_of tag c ≡ 0
    → edited_of tag c ≡ fitted (blocks_then tag c) tag
put_plain tag c looks there added = edited_is tag c ∙ rw (looks, check_there tag c there, added)

pub accept : {tag : List ℕ} {c : Change} → Accepted tag c → edited_of tag c ≡ (Ok tt, tag_then tag c)
unfolding fitted
accept {tag} {c} a = put_plain tag c a.looks a.there a.added ∙ rw (le-leb (long_then tag c) (size_of tag) a.fits)

-- ---- and back

pub refuses_not : {A : Type 0} (k : ℕ) (s t : List ℕ) → ◌≡◌ {A = Edit} (refuse k s) (Ok tt, t) → A
refuses_not k s t e = err_not_ok (ap (λ (o : Edit). o.0) e)

on_plain_lem : (tag t : List ℕ) (on : Edit) (x : Look) → on_plain tag on x ≡ (Ok tt, t) → (x ≡ Ok true) × (on ≡ (Ok tt, t))
on_plain_lem tag t on (Err k) e = refuses_not k.number tag t e
on_plain_lem tag t on (Ok false) e = refuses_not 40 tag t e
on_plain_lem tag t on (Ok true) e = (refl, e)

pub accepted : (tag : List ℕ) (c : Change) {t : List ℕ} → edited_of tag c ≡ (Ok tt, t) → Accepted tag c × (t ≡ tag_then tag c)
unfolding fitted
accepted tag c {t} e =
    let p = on_plain_lem tag t (answered tag c) (tag_look tag) (sym (edited_is tag c) ∙ e) in
    let q = not_second _ _ _ _ p.1 (λ z. refuses_not (check_of tag c) tag t z) in
    let s = not_second _ _ _ _ q.1 (λ z. refuses_not 20 tag t z) in
    let check : check_of tag c ≡ 0 = eqb-true (check_of tag c) 0 q.0 in
    let there = is_there tag c check in (
      record { looks = p.0; there = there; added = sym (check_there tag c there) ∙ check; fits = leb-true (long_then tag c) (size_of tag) s.0 },
      sym (ap (λ (o : Edit). o.1) s.1),
    )
