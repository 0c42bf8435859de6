-- A body as it is shown, by its parts and its run. Assumes nothing.
use mathlib.Core.Path.{◌≡◌, sym, ap, ◌∙◌}
use mathlib.Core.Bool.{Bool, ◌||◌}
use native.Mathlib.Omega.{arith}
use lib.ListN.{length}
use lib.Seq.{length-slice}
use Rattle.std.proofs.lemmas.Result.{err_from_is_err_and}
use Rattle.walk.specs.Sources.{source_of}
use Rattle.walk.proofs.Sources.{shows_refused, shows_run, shows_parts}
use Rattle.walk.proofs.record.shown_body.Goals as goal
use Rattle.walk.proofs.record.shown_body.Goals.{then-in_work, else-in_work}

pub returns-in_err-parts : goal.returns-in_err-parts
returns-in_err-parts c =
    let a = c.args in
    let t : c.if-in_work.source ≡ (a.in_work || a.resynced) = elim c.if-in_work.branch [
      | then-in_work w ↦ rw w.if-in_work.true (w.source-is ∙ w.if-in_work.true)
      | else-in_work w ↦ rw w.if-in_work.false w.source-is
    ] in
    let es = c.source.ensures ∙ ap (λ (x : Bool). source_of x a.work.now a.tag.now) t in
    let p = err_from_is_err_and c.from_residual.result c.from_residual.ensures.1 in
    rw (p.1, p.2) (shows_refused a.in_work a.resynced a.version a.kind a.from a.to a.tag.now a.work.now c.source.result.now es c.in_err-parts.ensures)

pub returns-in_err-run_inside : goal.returns-in_err-run_inside
returns-in_err-run_inside c =
    let a = c.args in
    let S = c.source.result.now in
    let t : c.if-in_work.source ≡ (a.in_work || a.resynced) = elim c.if-in_work.branch [
      | then-in_work w ↦ rw w.if-in_work.true (w.source-is ∙ w.if-in_work.true)
      | else-in_work w ↦ rw w.if-in_work.false w.source-is
    ] in
    let es : S ≡ source_of (a.in_work || a.resynced) a.work.now a.tag.now = c.source.ensures ∙ ap (λ (x : Bool). source_of x a.work.now a.tag.now) t in
    let long = length-slice a.from a.to S (omega (arith, ap length es, c.requires.1)) in
    let p = err_from_is_err_and c.from_residual-in_err-run_inside.result c.from_residual-in_err-run_inside.ensures.1 in
    rw (p.1, p.2)
    (shows_run a.in_work a.resynced a.version a.kind a.from a.to a.tag.now a.work.now S es (omega (arith, c.requires.0)) c.in_ok-parts.parts c.in_ok-parts.ensures
    c.place.result c.place.ensures c.in_err-run_inside.ensures)

pub returns : goal.returns
returns c =
    let a = c.args in
    let S = c.source.result.now in
    let t : c.if-in_work.source ≡ (a.in_work || a.resynced) = elim c.if-in_work.branch [
      | then-in_work w ↦ rw w.if-in_work.true (w.source-is ∙ w.if-in_work.true)
      | else-in_work w ↦ rw w.if-in_work.false w.source-is
    ] in
    let es : S ≡ source_of (a.in_work || a.resynced) a.work.now a.tag.now = c.source.ensures ∙ ap (λ (x : Bool). source_of x a.work.now a.tag.now) t in
    let long = length-slice a.from a.to S (omega (arith, ap length es, c.requires.1)) in
    shows_parts a.in_work a.resynced a.version a.kind a.from a.to a.tag.now a.work.now S es (omega (arith, c.requires.0)) c.in_ok-parts.parts c.in_ok-parts.ensures
    c.place.result c.place.ensures c.in_ok-run_inside.ensures _ (sym long)
