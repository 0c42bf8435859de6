-- Each row is that of its class. Assumes nothing.
use mathlib.Core.Path.{sym, ◌∙◌}
use native.Mathlib.Omega.{arith}
use Rattle.frame.proofs.Utf8.{lead_of, no_lead, class_below}
use Rattle.frame.proofs.ids.lead.Goals as goal

pub returns-in-0 : goal.returns-in-0
returns-in-0 c s = rw c.due.ensures (lead_of c.args.b 0 s (sym c.class.ensures ∙ c.in-0.is))

pub returns-in-2 : goal.returns-in-2
returns-in-2 c s = rw c.due-in-2.ensures (lead_of c.args.b 2 s (sym c.class.ensures ∙ c.in-2.is))

pub returns-in-3 : goal.returns-in-3
returns-in-3 c s = rw c.due-in-3.ensures (lead_of c.args.b 3 s (sym c.class.ensures ∙ c.in-3.is))

pub returns-in-4 : goal.returns-in-4
returns-in-4 c s = rw c.due-in-4.ensures (lead_of c.args.b 4 s (sym c.class.ensures ∙ c.in-4.is))

pub returns-in-5 : goal.returns-in-5
returns-in-5 c s = rw c.due-in-5.ensures (lead_of c.args.b 5 s (sym c.class.ensures ∙ c.in-5.is))

pub returns-in-6 : goal.returns-in-6
returns-in-6 c s = rw c.due-in-6.ensures (lead_of c.args.b 6 s (sym c.class.ensures ∙ c.in-6.is))

pub returns-in-7 : goal.returns-in-7
returns-in-7 c s = rw c.due-in-7.ensures (lead_of c.args.b 7 s (sym c.class.ensures ∙ c.in-7.is))

pub returns-in-8 : goal.returns-in-8
returns-in-8 c s = rw c.due-in-8.ensures (lead_of c.args.b 8 s (sym c.class.ensures ∙ c.in-8.is))

pub returns-in_default : goal.returns-in_default
returns-in_default c s =
    let k = c.class in
    sym (no_lead k.result s (rw k.ensures (class_below c.args.b)) (omega arith) (omega arith) (omega arith) (omega arith) (omega arith) (omega arith) (omega arith) (omega arith))
    ∙ lead_of c.args.b k.result s (sym k.ensures)
