use Rattle.std.proofs.Common.{Some, ap, sym, ◌∙◌}
use Rattle.back.proofs.Calls.{not_opened, not_stepped, at_end, then_refused, then_end, then_another}
use Rattle.back.proofs.reading.read_one.Goals as goal

pub returns-in_err-reader : goal.returns-in_err-reader
returns-in_err-reader c = rw c.from_residual.ensures (not_opened _ _ c.open.ensures (sym c.in_err-reader.ensures.value))

pub returns-in_err-ok : goal.returns-in_err-ok
returns-in_err-ok c =
    rw c.from_residual-in_err-ok.ensures (not_stepped _ _ c.open.ensures (sym c.in_ok-reader.ensures.value) c.step-first.ensures (sym c.in_err-ok.ensures.value))

pub returns-in_err-record : goal.returns-in_err-record
returns-in_err-record c =
    rw c.from_residual-in_err-record.ensures
    (at_end _ _ c.open.ensures (sym c.in_ok-reader.ensures.value) c.step-first.ensures (sym c.in_ok-ok.ensures.value ∙ ap Some c.in_err-record.was))

pub returns-in_err-ok-2 : goal.returns-in_err-ok-2
returns-in_err-ok-2 c =
    let shows = sym c.in_ok-ok.ensures.value ∙ ap Some c.in_ok-record.was in
    rw c.from_residual-in_err-ok-2.ensures
    (then_refused _ _ c.open.ensures (sym c.in_ok-reader.ensures.value) c.step-first.ensures shows c.step-second.ensures (sym c.in_err-ok-2.ensures.value))

pub returns-in-None : goal.returns-in-None
returns-in-None c =
    let shows = sym c.in_ok-ok.ensures.value ∙ ap Some c.in_ok-record.was in
    then_end _ _ c.open.ensures (sym c.in_ok-reader.ensures.value) c.step-first.ensures shows c.step-second.ensures (sym c.in_ok-ok-2.ensures.value ∙ ap Some c.in-None.is)

pub returns-in-Some : goal.returns-in-Some
returns-in-Some c =
    let shows = sym c.in_ok-ok.ensures.value ∙ ap Some c.in_ok-record.was in
    then_another _ _ c.open.ensures (sym c.in_ok-reader.ensures.value) c.step-first.ensures shows c.step-second.ensures (sym c.in_ok-ok-2.ensures.value ∙ ap Some c.in-Some.is)
