-- A 00 and what is put after it. Assumes nothing.
use mathlib.Core.Bool.{false}
use lib.Seq.{slice}
use native.Mathlib.Omega.{arith}
use Rattle.std.proofs.lemmas.Result.{err_from_is_err_and}
use Rattle.unsynch.specs.Edits.{edited}
use Rattle.unsynch.proofs.Answers.{led_place, led_refused, led_put}
use Rattle.unsynch.proofs.put_led.Goals as goal

pub returns-then-out-at : goal.returns-then-out-at
returns-then-out-at c =
    let a = c.args in
    led_place 20 (edited a.how false (slice a.from a.to a.s.now)) a.at a.out.now c.if-out-at.true

pub returns-in_err-n : goal.returns-in_err-n
returns-in_err-n c =
    let a = c.args in
    let p = err_from_is_err_and c.from_residual.result c.from_residual.ensures.1 in
    rw (p.1, p.2) (led_refused 20 (edited a.how false (slice a.from a.to a.s.now)) a.at a.out.now _ c.put_part.new.buf c.in_err-n.ensures)

pub overflow_add-result : goal.overflow_add-result
overflow_add-result c =
    let a = c.args in
    let led = led_put 20 (edited a.how false (slice a.from a.to a.s.now)) a.at a.out.now c.in_ok-n.n c.put_part.new.buf c.in_ok-n.ensures in
    omega (arith, led.0, led.1)

pub returns : goal.returns
returns c =
    let a = c.args in
    (led_put 20 (edited a.how false (slice a.from a.to a.s.now)) a.at a.out.now c.in_ok-n.n c.put_part.new.buf c.in_ok-n.ensures).2
