use Rattle.std.specs.Prelude.{Result, Option, Ok, Some, None, ◌≡◌}
use Rattle.std.proofs.Common.{ap, ◌∙◌}
use Rattle.format.specs.declared.Record.{Record}
use Rattle.format.specs.declared.refusals.Refusal.{Refusal}
use Rattle.printout.proofs.Puts.{again, stops, last, refuses, ends}
use Rattle.printout.proofs.put_frames.Goals as goal

-- what a step found, by the cases in which it is told
found : {x : Result (Option Record) Refusal} {y z : Option Record} → x ≡ Ok y → y ≡ z → x ≡ Ok z
found is more = is ∙ ap {B = Result (Option Record) Refusal} Ok more

pub returns-in_err-behind-in-Ok-Some : goal.returns-in_err-behind-in-Ok-Some
returns-in_err-behind-in-Ok-Some c =
    rw c.from_residual.ensures (stops c.loop-number.invariant c.loop-number-test.true c.step-found.ensures (found {z = Some c.in-Ok-Some.record} c.in-Ok-Some.is (rw c.in-Ok-Some.is at c.in-Ok-Some.field-0-is)) c.put_record.ensures c.in_err-behind-in-Ok-Some.was)

pub returns-in-Ok-None : goal.returns-in-Ok-None
returns-in-Ok-None c = last c.loop-number.invariant c.loop-number-test.true c.step-found.ensures (found {z = None} c.in-Ok-None.is (rw c.in-Ok-None.is at c.in-Ok-None.field-0-is)) c.end_line.ensures

pub returns-in-Err : goal.returns-in-Err
returns-in-Err c = refuses c.loop-number.invariant c.loop-number-test.true c.step-found.ensures c.in-Err.is c.refused_line.ensures

pub loop-number-preserved : goal.loop-number-preserved
loop-number-preserved c =
    again c.loop-number.invariant c.loop-number-test.true c.step-found.ensures (found {z = Some c.in-Ok-Some.record} c.in-Ok-Some.is (rw c.in-Ok-Some.is at c.in-Ok-Some.field-0-is)) c.put_record.ensures c.in_ok-behind-in-Ok-Some.was

pub returns : goal.returns
returns c = ends c.loop-number.invariant c.loop-number-test.false
