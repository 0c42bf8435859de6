-- A number that fits its width leaves the rest to fit, and one that doesn't fails the whole.
use Rattle.std.proofs.Common.{◌∙◌, sym, drop, length-drop, arith}
use Rattle.checks.proofs.Fitting.{one_over, one_fits, none_left}
use Rattle.checks.proofs.tables.all_fit.Goals as goal

pub returns-then-not-fits : goal.returns-then-not-fits
returns-then-not-fits c =
    let l = c.loop-x in
    sym (one_over c.args.deviations.now l.x-index l.a l.b c.loop-x-test.true (sym c.if-not-fits.ensures)) ∙ l.invariant

pub loop-x-preserved : goal.loop-x-preserved
loop-x-preserved c =
    let l = c.loop-x in
    sym (one_fits c.args.deviations.now l.x-index l.a l.b c.loop-x-test.true (sym c.if-not-fits.ensures)) ∙ l.invariant

pub returns : goal.returns
returns c =
    let l = c.loop-x in
    let ds = c.args.deviations.now in
    sym (none_left l.a l.b (drop l.x-index ds) (omega (arith, length-drop l.x-index ds))) ∙ l.invariant
