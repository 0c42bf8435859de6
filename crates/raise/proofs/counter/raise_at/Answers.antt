-- 43, 44, or the sum in the counter's bytes. Assumes nothing.
use Rattle.std.proofs.Common.{sym, ap, ◌∙◌, ℕ, ◌+◌, ◌-◌, ◌^◌, ◌<◌, ltb, arith}
use Rattle.raise.proofs.Sums.{field_back, field_past, field_there, sum_large, sum_nowhere, sum_wide, sum_stored}
use Rattle.raise.proofs.counter.raise_at.Goals as goal
use Rattle.raise.proofs.counter.raise_at.Goals.{then-stop-start-via-then-stop-start, then-stop-start-via-else-stop-start+then-tag-stop, then-stop-start-via-else-stop-start+else-tag-stop+then-not-fits}

pub returns-in_default : goal.returns-in_default
returns-in_default c =
    let a = c.args in
    sum_large a.start a.stop a.counter a.amount a.tag.now (omega (arith, c.in_default.ensures))

pub returns-then-stop-start : goal.returns-then-stop-start
returns-then-stop-start c =
    let a = c.args in
    let tag = a.tag.now in
    let small : a.counter + a.amount < 2 ^ 64 = omega (arith, c.in-Some.ensures) in
    elim c.then-stop-start.branch [
      | then-stop-start-via-then-stop-start w ↦
          sum_nowhere a.start a.stop a.counter a.amount tag small (field_back a.start a.stop tag w.if-stop-start.true)
      | then-stop-start-via-else-stop-start+then-tag-stop w ↦
          sum_nowhere a.start a.stop a.counter a.amount tag small (field_past a.start a.stop tag w.if-stop-start.false w.if-tag-stop.true)
      | then-stop-start-via-else-stop-start+else-tag-stop+then-not-fits w ↦
          sum_wide a.start a.stop a.counter a.amount tag small
          (ap (λ (n : ℕ). ltb n (256 ^ (a.stop - a.start))) (sym c.in-Some.ensures.1) ∙ sym w.fits.ensures ∙ w.if-not-fits.true)
    ]

pub returns : goal.returns
returns c =
    let a = c.args in
    let tag = a.tag.now in
    let small : a.counter + a.amount < 2 ^ 64 = omega (arith, c.in-Some.ensures) in
    rw c.in-Some.ensures.1
    (sum_stored a.start a.stop a.counter a.amount tag small (field_there a.start a.stop tag c.if-stop-start.false c.if-tag-stop.false)
    (ap (λ (n : ℕ). ltb n (256 ^ (a.stop - a.start))) (sym c.in-Some.ensures.1) ∙ sym c.fits.ensures ∙ c.if-not-fits.false)
    _ (rw c.in-Some.ensures.1 at c.put_value.ensures))
