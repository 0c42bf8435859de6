-- The numbers that a look at a tag stops with: those of reading, and 40. Assumes nothing.
use mathlib.Core.Path.{◌≡◌, subst}
use Prim.Native.Nat.{ℕ, zero, suc, ◌+◌, ◌<◌}
use native.Mathlib.Omega.{arith}
use mathlib.Core.Bool.{Bool, true, false, not, ◌||◌}
use mathlib.Core.List.{List}
use lib.ListN.{length}
use lib.Dec.{ltb, eqb}
use Rattle.format.specs.Bytes.{first}
use Rattle.format.specs.Header.{edition_of, version_of, is_whole, header_refusal, region_of}
use Rattle.format.specs.Frame.{frame_checks, is_end, head_of}
use Rattle.format.specs.Record.{body_refusal, run_of}
use Rattle.format.specs.Walk.{is_resynced, shown_kind}
use Rattle.format.specs.Looks.{both, plain_if, unless, all_zero, frame_look, on_look, look_for, look_at, is_simple, tag_look, Look}
use Rattle.format.specs.declared.Version.{Version}
use Rattle.format.specs.declared.Kind.{Kind}
use Rattle.format.specs.declared.Head.{Head}
use Rattle.format.proofs.Checks.{of_picked}
use Rattle.format.proofs.CheckNumbers.{of_header, of_frame, of_body}
use Rattle.std.specs.Prelude.{Result, Option, Ok, Err}
use Rattle.format.specs.declared.refusals.Refusal.{Refusal}

-- ---- the headers and the bodies

abbrev Under41 : ℕ → Type 0
Under41 k = k < 41

header_under : (tag : List ℕ) → header_refusal tag < 41
header_under tag = of_header Under41 (omega arith) tag

frame_checks_lem : (v : Version) (depth : ℕ) (s : List ℕ) → first (frame_checks v depth s) < 41
frame_checks_lem v depth s = of_frame Under41 (omega arith) v depth s

body_under : (kind : Kind) (b : List ℕ) → body_refusal kind b < 41
body_under kind b = of_body Under41 (omega arith) kind b

-- ---- looks

data Under : Look → Type 0 where
  stops : {k : Refusal} → k.number < 41 → Under (Err k)
  odd : Under (Ok false)
  plain : Under (Ok true)

under_both : {x y : Look} → Under x → Under y → Under (both x y)
under_both (Under.stops h) b = Under.stops h
under_both Under.odd (Under.stops h) = Under.stops h
under_both Under.odd Under.odd = Under.odd
under_both Under.odd Under.plain = Under.odd
under_both Under.plain b = b

under_if : (t : Bool) → Under (plain_if t)
under_if true = Under.plain
under_if false = Under.odd

under_unless : {x : Look} (k : ℕ) → k < 41 → Under x → Under (unless k x)
under_unless zero h a = a
under_unless (suc k) h a = Under.stops h

frame_under : (v : Version) (go : List ℕ → Look) (id : ℕ) (c f short : Bool) (b : List ℕ) → ((s : List ℕ) → Under (go s)) → Under (frame_look v go id c f short b)
unfolding frame_look
frame_under v go id c f short b h =
    of_picked Under (is_resynced c f) (λ e. Under.stops (omega arith))
    (λ e. under_both (under_unless (body_refusal (shown_kind v id c) b) (body_under (shown_kind v id c) b) (h (run_of (shown_kind v id c) b))) (under_if (not (c || (f || short)))))

head_under : (v : Version) (go : ℕ → List ℕ → Look) (depth : ℕ) (s : List ℕ) → ((d : ℕ) (t : List ℕ) → Under (go d t)) → Under (on_look v go depth s (head_of v depth s))
unfolding on_look head_of
head_under v go depth s h =
    of_picked (λ (x : Result (Option Head) Refusal). Under (on_look v go depth s x)) (is_end v s) (λ e. under_if (ltb 1 depth || all_zero s))
    (λ e. of_picked (λ (x : Result (Option Head) Refusal). Under (on_look v go depth s x)) (eqb (first (frame_checks v depth s)) 0)
    (λ f. under_both (frame_under v (go (depth + 1)) _ _ _ _ _ (h (depth + 1))) (h depth _))
    (λ f. Under.stops (frame_checks_lem v depth s)))

look_under : (v : Version) (n depth : ℕ) (s : List ℕ) → Under (look_for v n depth s)
unfolding look_for
look_under v zero depth s = Under.plain
look_under v (suc n) depth s = head_under v (look_for v n) depth s (look_under v n)

tag_under : (tag : List ℕ) → Under (tag_look tag)
unfolding tag_look look_at
tag_under tag =
    let v = version_of (edition_of tag) in
    under_unless (header_refusal tag) (header_under tag)
    (of_picked Under (is_whole tag) (λ e. Under.stops (omega arith)) (λ e. under_both (look_under v (length (region_of tag)) 1 (region_of tag)) (under_if (is_simple tag))))

-- A look stops with a number up to 40.
pub look_most : (tag : List ℕ) {k : Refusal} → tag_look tag ≡ Err k → k.number < 41
look_most tag {k} e = by (subst Under e (tag_under tag))
  where
    by : Under (Err k) → k.number < 41
    by (Under.stops h) = h
