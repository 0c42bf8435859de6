-- A tail that is due, or none. Assumes nothing.
use mathlib.Core.Path.{◌∙◌}
use Rattle.frame.proofs.Utf8.{none_due, tail, tail_low, tail_high}
use Rattle.frame.proofs.ids.next.Goals as goal
use Rattle.frame.proofs.ids.next.Goals.{then-b-after-via-then-b-after, then-b-after-via-else-b-after+then-after-b}

pub returns-then-after-eq0 : goal.returns-then-after-eq0
returns-then-after-eq0 c s = let a = c.args in c.lead.ensures s ∙ none_due a.after.low a.after.high a.b s a.after.count c.if-after-eq0.true

pub returns-then-b-after : goal.returns-then-b-after
returns-then-b-after c s =
    let a = c.args in
    elim c.then-b-after.branch [
      | then-b-after-via-then-b-after w ↦ tail_low a.after.low a.after.high a.b s a.after.count c.if-after-eq0.false w.if-b-after.true
      | then-b-after-via-else-b-after+then-after-b w ↦ tail_high a.after.low a.after.high a.b s a.after.count c.if-after-eq0.false w.if-b-after.false w.if-after-b.true
    ]

pub returns : goal.returns
returns c s =
    let a = c.args in
    rw c.due.ensures (tail a.after.low a.after.high a.b s a.after.count c.if-after-eq0.false c.if-b-after.false c.if-after-b.false)
