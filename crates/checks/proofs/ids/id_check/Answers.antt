-- The id, then the kind under it, then the marks. Assumes nothing.
use mathlib.Core.Path.{sym, ◌∙◌}
use mathlib.Core.Bool.{true, false}
use Rattle.std.proofs.lemmas.Result.{err_from_is_err_and}
use Rattle.checks.proofs.Headings.{no_id, wrong_kind, then_marks}
use Rattle.checks.proofs.ids.id_check.Goals as goal
use Rattle.checks.proofs.ids.id_check.Goals.{then-heading-via-then-heading, then-heading-via-else-heading+then-heading-2}

pub returns-then-not-is_id : goal.returns-then-not-is_id
returns-then-not-is_id c name names rest deviations =
    no_id c.args.version c.args.heading name names rest deviations (sym c.is_id.ensures ∙ c.if-not-is_id.true)

pub returns-in_err-kind_check : goal.returns-in_err-kind_check
returns-in_err-kind_check c name names rest deviations =
    let is = sym c.is_id.ensures ∙ c.if-not-is_id.false in
    let p = err_from_is_err_and c.from_residual.result c.from_residual.ensures.1 in
    rw (p.1, p.2)
    (wrong_kind c.args.version c.args.heading name names rest deviations is _ _ (c.kind_in.ensures name names rest deviations) c.kind_of.ensures c.in_err-kind_check.ensures)

pub returns-then-heading : goal.returns-then-heading
returns-then-heading c name names rest deviations =
    let is = sym c.is_id.ensures ∙ c.if-not-is_id.false in
    let marks = then_marks c.args.version c.args.heading name names rest deviations is _ _ (c.kind_in.ensures name names rest deviations) c.kind_of.ensures c.in_ok-kind_check.ensures in
    elim c.then-heading.branch [
      | then-heading-via-then-heading w ↦ marks true (rw w.if-heading.true)
      | then-heading-via-else-heading+then-heading-2 w ↦ marks true (rw (w.if-heading.false, w.if-heading-2.true))
    ]

pub returns : goal.returns
returns c name names rest deviations =
    let is = sym c.is_id.ensures ∙ c.if-not-is_id.false in
    then_marks c.args.version c.args.heading name names rest deviations is _ _ (c.kind_in.ensures name names rest deviations) c.kind_of.ensures c.in_ok-kind_check.ensures false (rw (c.if-heading.false, c.if-heading-2.false))
