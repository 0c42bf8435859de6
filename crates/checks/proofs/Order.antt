-- The checks of a record in the steps that the code makes. No content meets both 26 and 27 or 28, so that those two may come first. Assumes nothing.
use mathlib.Core.Path.{◌≡◌, refl, sym, ap, ◌∙◌}
use Prim.Native.Nat.{ℕ}
use mathlib.Core.Bool.{Bool, true, false}
use mathlib.Core.List.{List, [], ◌∷◌, ◌++◌}
use Rattle.format.specs.Bytes.{pick, first}
use Rattle.format.specs.Record.{Content, text, popularimeter, table, chapter, contents, raw, Rec}
use Rattle.format.specs.Encode.{id_check, raw_check, record_checks, size_checks, is_lost, refusal_of}
use Rattle.format.specs.declared.Version.{Version}
use Rattle.format.specs.declared.Mode.{Mode}
use Rattle.checks.specs.Checks.{content_checks, early_checks, late_checks}
use Rattle.std.specs.Prelude.{Ok, Err}
use Rattle.format.specs.declared.refusals.Refusal.{Refusal}
use Rattle.format.specs.Refusals.{passed}
use Rattle.checks.proofs.Firsts.{in_front, behind, only}
use Rattle.checks.proofs.Passed.{Answer, stop, next}

-- a content: 12, 27, 28, then the rest
in_order : (v : Version) (c : Content) → first (content_checks v c) ≡ first (first (early_checks c) ∷ late_checks v c)
unfolding first
in_order v c = by_content c ∙ in_front (early_checks c) (late_checks v c)
  where
    by_content : (c : Content) → first (content_checks v c) ≡ first (early_checks c ++ late_checks v c)
    by_content (text e s) = refl
    by_content (popularimeter user r k) = refl
    by_content (table f b m x y ds) = refl
    by_content (chapter element a b d e run) = refl
    by_content (contents element t o children run) = refl
    by_content (raw body) = refl

-- a record down to 34: its heading, then its content
in_steps : (v : Version) (r : Rec)
    → first (record_checks v r) ≡ first (first (id_check v r ∷ raw_check v r ∷ []) ∷ first (early_checks r.content) ∷ late_checks v r.content)
in_steps v r =
    in_front (id_check v r ∷ raw_check v r ∷ []) (content_checks v r.content) ∙ behind _ _ _ (in_order v r.content)

-- the same, by what each step answers
module _ (v : Version) (r : Rec) where
  abbrev heading_checks : ℕ
  heading_checks = first (id_check v r ∷ raw_check v r ∷ [])

  pub refused_heading : {e : Refusal} → ◌≡◌ {A = Answer} (Err e) (passed heading_checks) → ◌≡◌ {A = Answer} (Err e) (passed (first (record_checks v r)))
  refused_heading is = stop _ _ is ∙ ap passed (sym (in_steps v r))

  module _ (heading : ◌≡◌ {A = Answer} (Ok tt) (passed heading_checks)) where
    pub refused_early : {e : Refusal} → ◌≡◌ {A = Answer} (Err e) (passed (first (early_checks r.content))) → ◌≡◌ {A = Answer} (Err e) (passed (first (record_checks v r)))
    refused_early is = stop _ _ is ∙ next _ _ heading ∙ ap passed (sym (in_steps v r))

    pub then_late : ◌≡◌ {A = Answer} (Ok tt) (passed (first (early_checks r.content)))
        → ◌≡◌ {A = Answer} (passed (first (late_checks v r.content))) (passed (first (record_checks v r)))
    then_late early = next _ _ early ∙ next _ _ heading ∙ ap passed (sym (in_steps v r))

unless : (t : Bool) (l : List ℕ) → first (pick t [] l) ≡ first (pick t 0 (first l) ∷ [])
unfolding first
unless true l = refl
unless false l = sym (only (first l))

-- all of it: and, unless it is skipped, its size
pub with_size : (v : Version) (m : Mode) (altered : Bool) (r : Rec)
    → refusal_of v m altered r ≡ first (first (record_checks v r) ∷ pick (is_lost v altered r.id) 0 (first (size_checks v m r)) ∷ [])
unfolding refusal_of
with_size v m altered r = in_front (record_checks v r) _ ∙ behind _ _ _ (unless (is_lost v altered r.id) (size_checks v m r))
