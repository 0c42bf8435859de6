-- The answer of the raise that stays, and the frame that outgrows its bytes where that is 44.
use mathlib.Core.Path.{refl, sym, ap, ◌∙◌}
use mathlib.Core.Bool.{not}
use native.Mathlib.Omega.{arith}
use Rattle.edit.proofs.LiftSteps.{lift_stays, lift_small, lift_grown}
use Rattle.edit.proofs.lifting.lift_found.Goals as goal

pub overflow_add-found : goal.overflow_add-found
overflow_add-found c =
    let small = lift_small c.args.found c.args.user.now c.args.amount c.args.tag.now c.in-Err.ensures (ap not (sym c.eq.ensures ∙ c.if-eq.true)) in
    omega arith

pub returns-in-Ok : goal.returns-in-Ok
returns-in-Ok c = lift_stays c.args.found c.args.user.now c.args.amount c.args.tag.now c.in-Ok.ensures refl

pub returns-in-Err : goal.returns-in-Err
returns-in-Err c =
    c.outgrow.ensures ∙ lift_grown c.args.found c.args.user.now c.args.amount c.args.tag.now c.in-Err.ensures (ap not (sym c.eq.ensures ∙ c.if-eq.true))

pub returns-in-Err-2 : goal.returns-in-Err-2
returns-in-Err-2 c = lift_stays c.args.found c.args.user.now c.args.amount c.args.tag.now c.in-Err.ensures (ap not (sym c.eq.ensures ∙ c.if-eq.false))
