-- What holds of the exported functions that edit a tag in place. Assumes nothing.
use mathlib.Core.Path.{◌≡◌, refl, sym, ap, ◌∙◌, subst}
use Prim.Native.Nat.{ℕ, suc}
use native.Mathlib.Omega.{arith}
use mathlib.Core.Bool.{Bool, true, false}
use mathlib.Core.List.{List, [], ◌∷◌}
use lib.ListN.{length}
use borrow.Author.Tests.{le-ltb}
use Rattle.format.specs.Bytes.{pick}
use Rattle.format.specs.Record.{Rec, Fits, rec_of}
use Rattle.raise.specs.Raise.{tag_version}
use Rattle.edit.specs.Edit.{Edit}
use Rattle.edit.specs.Promises.{Change, replacing, removing, appending, edited_of, adding_of, AllFit, Editing}
use Rattle.edit.proofs.Accepting.{accepted}
use Rattle.edit.proofs.After.{edit_reads}
use Rattle.edit.proofs.Refusing.{edit_refused_same, edit_refused_number}
use Rattle.edit.proofs.Written.{written_edits}
use Rattle.capi.specs.Words.{heading_of, heading_else}
use Rattle.capi.specs.Calls.{short}
use Rattle.capi.specs.Edits.{edit_number, after_edit, given_rec, sv_replace, sv_remove, sv_append}
use Rattle.capi.proofs.Editing.{unsaid_refused}
use Rattle.cpromises.specs.Written.{said_by, record_in, Wide}
use Rattle.cpromises.specs.Editing.{replace, remove, append, each_of, SvEditReads, SvRefusedEdit, SvWrittenEdits}
use Rattle.cpromises.proofs.Fitting.{fits_code, said_fits}
use Rattle.cpromises.proofs.Writing.{written}
use Rattle.std.specs.Prelude.{Option, Ok, Err, Some, None}
use Rattle.format.specs.declared.Heading.{Heading}

-- ---- an edit and its number

module _ (tag : List ℕ) (c : Change) where
  -- 0 is an edit that was done
  done : (o : Edit) → edited_of tag c ≡ o → edit_number o.0 ≡ 0 → edited_of tag c ≡ (Ok tt, o.1)
  done (Ok tt, t) e z = e
  done (Err k, t) e z = absurd (omega (arith, edit_refused_number c tag k.number t e, z))

  -- anything else left the tag as it was
  kept : (k : ℕ) (o : Edit) → edited_of tag c ≡ o → edit_number o.0 ≡ suc k → o.1 ≡ tag
  kept k (Ok tt, t) e z = absurd (omega (arith, z))
  kept k (Err j, t) e z = edit_refused_same c tag j.number t e

-- ---- a record that words say

module _ (tag words name names rest deviations : List ℕ) where
  abbrev r : Rec
  r = given_rec words name names rest deviations

  -- adding takes it: the words say it, and its numbers are of their types
  said : Wide words → (c : Rec → Change) → adding_of tag (c r) ≡ 0 → ((h : heading_of words ≡ None) → adding_of tag (c r) ≡ 21)
      → (record_in words name names rest deviations ≡ r ∷ []) × Fits r.content
  said wide c added none = by (heading_of words) refl
    where
      by : (g : Option Heading) → heading_of words ≡ g → (record_in words name names rest deviations ≡ r ∷ []) × Fits r.content
      by (Some h) e = (
        rw e,
        subst (λ (g : Option Heading). Fits (rec_of (heading_else g) name names rest deviations).content) (sym e)
            (fits_code (rec_of h name names rest deviations).content (said_fits words name names rest deviations wide e).1),
      )
      by None e = absurd (let z : ◌≡◌ {A = ℕ} 0 21 = sym added ∙ none e in omega arith)

  -- a call that was answered 0
  call_reads : (c : Rec → Change) → ((x : Rec) → AllFit (c x) ≡ Fits x.content) → ((h : heading_of words ≡ None) → adding_of tag (c r) ≡ 21)
      → Wide words → (few : Bool) → let o = pick few (20, tag) (after_edit (edited_of tag (c r))) in
      o.0 ≡ 0 → (d : Change) × ((each_of c (record_in words name names rest deviations) ≡ d ∷ []) × Editing d tag o.1)
  call_reads c fit none wide true z = absurd (omega (arith, z))
  call_reads c fit none wide false z =
      let e = done tag (c r) (edited_of tag (c r)) refl z in
      let s = said wide c (accepted tag (c r) e).0.added none in
      (c r, (ap (each_of c) s.0, edit_reads (c r) tag (edited_of tag (c r)).1 (subst (λ (t : Type 0). t) (sym (fit r)) s.1) e))

  call_kept : (c : Change) (k : ℕ) (few : Bool) → let o = pick few (20, tag) (after_edit (edited_of tag c)) in o.0 ≡ suc k → o.1 ≡ tag
  call_kept c k true z = refl
  call_kept c k false z = kept tag c k (edited_of tag c) refl z

  -- a change that the words say is that of their record
  only_said : (c : Rec → Change) (d : Change) → each_of c (record_in words name names rest deviations) ≡ d ∷ [] → d ≡ c r
  only_said c d e = by (heading_of words) refl e
    where
      by : (g : Option Heading) → heading_of words ≡ g → each_of c (said_by g name names rest deviations) ≡ d ∷ [] → d ≡ c (rec_of (heading_else (heading_of words)) name names rest deviations)
      by (Some h) g z = let same : d ≡ c (rec_of h name names rest deviations) = cc in rw g same
      by None g z = absurd (let f : ◌≡◌ {A = ℕ} 0 1 = cc in omega arith)

-- ---- the promises

pub sv_edit_reads : SvEditReads
unfolding sv_replace sv_remove sv_append
sv_edit_reads tag (replace number words name names rest deviations) wide z =
    call_reads tag words name names rest deviations (replacing number) (λ x. refl) (unsaid_refused (tag_version tag) words name names rest deviations) wide (short 19 words) z
sv_edit_reads tag (remove number) wide z =
    let c = removing number in (c, (refl, edit_reads c tag (edited_of tag c).1 tt (done tag c (edited_of tag c) refl z)))
sv_edit_reads tag (append words name names rest deviations) wide z =
    call_reads tag words name names rest deviations appending (λ x. refl) (unsaid_refused (tag_version tag) words name names rest deviations) wide (short 19 words) z

pub sv_refused_edit : SvRefusedEdit
unfolding sv_replace sv_remove sv_append
sv_refused_edit tag (replace number words name names rest deviations) k z =
    call_kept tag words name names rest deviations (replacing number (given_rec words name names rest deviations)) k (short 19 words) z
sv_refused_edit tag (remove number) k z = kept tag (removing number) k (edited_of tag (removing number)) refl z
sv_refused_edit tag (append words name names rest deviations) k z =
    call_kept tag words name names rest deviations (appending (given_rec words name names rest deviations)) k (short 19 words) z

pub sv_written_edits : SvWrittenEdits
unfolding sv_replace sv_remove sv_append
sv_written_edits version padding records tag (replace number words name names rest deviations) c w runs enough says room =
    let d : (edited_of tag c).0 ≡ Ok tt = written_edits version padding records tag c (written w).0 runs room in
    let is = only_said tag words name names rest deviations (replacing number) c says in
    rw (le-ltb (length words) 19 enough) (ap (λ (x : Change). edit_number (edited_of tag x).0) (sym is) ∙ ap edit_number d)
sv_written_edits version padding records tag (remove number) c w runs enough says room =
    let d : (edited_of tag c).0 ≡ Ok tt = written_edits version padding records tag c (written w).0 runs room in
    let is : c ≡ removing number = cc in
    ap (λ (x : Change). edit_number (edited_of tag x).0) (sym is) ∙ ap edit_number d
sv_written_edits version padding records tag (append words name names rest deviations) c w runs enough says room =
    let d : (edited_of tag c).0 ≡ Ok tt = written_edits version padding records tag c (written w).0 runs room in
    let is = only_said tag words name names rest deviations appending c says in
    rw (le-ltb (length words) 19 enough) (ap (λ (x : Change). edit_number (edited_of tag x).0) (sym is) ∙ ap edit_number d)
