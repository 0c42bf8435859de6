-- A body by its run, and a run by its frames. Assumes nothing.
use mathlib.Core.Path.{◌≡◌, sym, ap, ◌∙◌}
use Prim.Native.Nat.{◌+◌, ◌-◌, ◌*◌, ◌<◌}
use native.Mathlib.Omega.{arith}
use lib.Seq.{slice}
use Rattle.std.proofs.lemmas.Result.{err_from_is_err_and}
use Rattle.format.specs.Refusals.{passed_with}
use Rattle.format.specs.Unsynch.{resynchronised}
use Rattle.format.specs.Walk.{walked}
use Rattle.walk.proofs.Insides.{looked_refused, run_from, run_walked}
use Rattle.walk.proofs.Onwards.{stopped, ended, onward}
use Rattle.walk.proofs.Areas.{then_on, then_halt, put_bytes, put_refused, put_inside, as_resynced, as_stored}
use Rattle.walk.proofs.run.+body_walk.Goals as goal

pub body-returns-in_err-n : goal.body-returns-in_err-n
body-returns-in_err-n t c =
    let a = c.args in
    let b = slice a.from a.to a.s.now in
    let go = walked a.strict a.version (a.depth + 1) in
    let p = err_from_is_err_and c.from_residual.result c.from_residual.ensures.1 in
    rw (p.1, p.2)
    (put_refused (resynchronised b) a.room.now go a.kind c.in_err-n.ensures ∙ ap passed_with (as_resynced a.resynced go a.kind b a.room.now c.if-resynced.true))

pub body-returns-in_ok-n : goal.body-returns-in_ok-n
body-returns-in_ok-n t c =
    let a = c.args in
    let b = slice a.from a.to a.s.now in
    let u = resynchronised b in
    let go = walked a.strict a.version (a.depth + 1) in
    let f = put_bytes u a.room.now c.in_ok-n.ensures in
    c.shown_in.ensures
    ∙ ap passed_with (put_inside u a.room.now go a.kind c.in_ok-n.n c.resync_into.new.room f ∙ as_resynced a.resynced go a.kind b a.room.now c.if-resynced.true)

pub body-returns-in_err-at : goal.body-returns-in_err-at
body-returns-in_err-at t c =
    let a = c.args in
    let b = slice a.from a.to a.s.now in
    let go = walked a.strict a.version (a.depth + 1) in
    let p = err_from_is_err_and c.from_residual-in_err-at.result c.from_residual-in_err-at.ensures.1 in
    rw (p.1, p.2)
    (looked_refused a.kind a.from b go a.room.now c.in_err-at.ensures ∙ ap passed_with (as_stored a.resynced go a.kind b a.room.now c.if-resynced.false))

pub body-walk-requires : goal.body-walk-requires
body-walk-requires t c =
    let a = c.args in
    let m : 2 * (a.to - a.from) + 1 ≡ t = c.decreases in
    let less : 2 * (a.to - c.in_ok-at.at) < t = omega (arith, run_from a.kind a.from a.to c.in_ok-at.at a.s.now c.in_ok-at.ensures) in
    (less, tt)

pub body-returns-in_ok-at : goal.body-returns-in_ok-at
body-returns-in_ok-at t c =
    let a = c.args in
    let b = slice a.from a.to a.s.now in
    let go = walked a.strict a.version (a.depth + 1) in
    c.walk.ensures
    ∙ ap passed_with
    (sym (run_walked a.kind a.from a.to c.in_ok-at.at a.s.now c.in_ok-at.ensures go a.room.now) ∙ as_stored a.resynced go a.kind b a.room.now c.if-resynced.false)

pub walk-returns-in_err-kind : goal.walk-returns-in_err-kind
walk-returns-in_err-kind t c =
    let a = c.args in
    let L = c.loop-kind in
    let p = err_from_is_err_and c.from_residual.result c.from_residual.ensures.1 in
    rw (p.1, p.2) (stopped a.strict a.version a.depth L.at c.min-end.result a.s.now c.in_err-kind.ensures L.room ∙ ap passed_with L.invariant.same)

pub walk-body-requires : goal.walk-body-requires
walk-body-requires t c =
    let a = c.args in
    let L = c.loop-kind in
    let m : 2 * (a.to - a.from) ≡ t = c.decreases in
    let f = c.in-Some.field-0 in
    let on = onward a.strict a.version a.depth L.at c.min-end.result a.s.now L.invariant.ends f (rw c.in-Some.is at c.in_ok-kind.ensures) in
    let less : 2 * (f.stop - f.start) + 1 < t = omega (arith, on.begins, on.ordered, on.within, L.invariant) in
    (less, (on.ordered, omega (arith, on.within, L.invariant), on.shallow))

pub walk-returns-in_err-body : goal.walk-returns-in_err-body
walk-returns-in_err-body t c =
    let a = c.args in
    let L = c.loop-kind in
    let f = c.in-Some.field-0 in
    let p = err_from_is_err_and c.from_residual-in_err-body.result c.from_residual-in_err-body.ensures.1 in
    let on = onward a.strict a.version a.depth L.at c.min-end.result a.s.now L.invariant.ends f (rw c.in-Some.is at c.in_ok-kind.ensures) in
    rw (p.1, p.2)
    (then_halt _ (walked a.strict a.version a.depth (slice f.stop c.min-end.result a.s.now)) c.in_err-body.ensures
    ∙ ap passed_with (sym (on.same L.room) ∙ L.invariant.same))

pub walk-loop-kind-smaller : goal.walk-loop-kind-smaller
walk-loop-kind-smaller t c =
    let a = c.args in
    let L = c.loop-kind in
    let on = onward a.strict a.version a.depth L.at c.min-end.result a.s.now L.invariant.ends c.in-Some.field-0 (rw c.in-Some.is at c.in_ok-kind.ensures) in
    omega (arith, on.begins, on.ordered, on.within)

pub walk-loop-kind-preserved : goal.walk-loop-kind-preserved
walk-loop-kind-preserved t c =
    let a = c.args in
    let L = c.loop-kind in
    let f = c.in-Some.field-0 in
    let on = onward a.strict a.version a.depth L.at c.min-end.result a.s.now L.invariant.ends f (rw c.in-Some.is at c.in_ok-kind.ensures) in
    record {
      after = omega (arith, on.begins, on.ordered, L.invariant.after);
      ends = L.invariant.ends;
      within = L.invariant.within;
      same = then_on _ (walked a.strict a.version a.depth (slice f.stop c.min-end.result a.s.now)) c.in_ok-body.ensures ∙ sym (on.same L.room) ∙ L.invariant.same;
    }

pub walk-returns : goal.walk-returns
walk-returns t c =
    let a = c.args in
    let L = c.loop-kind in
    ended a.strict a.version a.depth L.at c.min-end.result a.s.now (rw c.in_default.is at c.in_ok-kind.ensures) L.room ∙ ap passed_with L.invariant.same
