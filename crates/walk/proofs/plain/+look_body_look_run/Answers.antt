-- A body by its run, and a run by its frames. Assumes nothing.
use mathlib.Core.Path.{◌≡◌, sym, ap, ◌∙◌}
use mathlib.Core.Bool.{not}
use Prim.Native.Nat.{◌+◌, ◌-◌, ◌*◌, ◌<◌}
use native.Mathlib.Omega.{arith}
use lib.Seq.{slice}
use Rattle.std.proofs.lemmas.Result.{err_from_is_err_and}
use Rattle.format.specs.Looks.{Look, both, plain_if, look_at}
use Rattle.walk.proofs.Insides.{run_from}
use Rattle.walk.proofs.Looks.{goes, look_ended, look_stopped, turn_stop, turn_on, both_end, plain_is, both_stop, body_stopped, body_run, body_none}
use Rattle.walk.proofs.plain.+look_body_look_run.Goals as goal

pub look_body-returns-in_err-at : goal.look_body-returns-in_err-at
look_body-returns-in_err-at t c =
    let a = c.args in
    let p = err_from_is_err_and c.from_residual.result c.from_residual.ensures.1 in
    rw (p.1, p.2) (body_stopped a.version (a.depth + 1) a.kind a.from a.to a.s.now c.in_err-at.ensures)

pub look_body-returns-then-to-at : goal.look_body-returns-then-to-at
look_body-returns-then-to-at t c =
    let a = c.args in
    body_none a.version (a.depth + 1) a.kind a.from a.to a.s.now c.in_ok-at.at c.in_ok-at.ensures c.if-to-at.true

pub look_body-look_run-requires : goal.look_body-look_run-requires
look_body-look_run-requires t c =
    let a = c.args in
    let m : 2 * (a.to - a.from) + 1 ≡ t = c.decreases in
    let less : 2 * (a.to - c.in_ok-at.at) < t = omega (arith, run_from a.kind a.from a.to c.in_ok-at.at a.s.now c.in_ok-at.ensures) in
    (less, omega arith)

pub look_body-returns : goal.look_body-returns
look_body-returns t c =
    let a = c.args in
    c.look_run.ensures ∙ body_run a.version (a.depth + 1) a.kind a.from a.to a.s.now c.in_ok-at.at c.in_ok-at.ensures

pub look_run-returns-in_err-ahead : goal.look_run-returns-in_err-ahead
look_run-returns-in_err-ahead t c =
    let a = c.args in
    let L = c.loop-ahead in
    let p = err_from_is_err_and c.from_residual.result c.from_residual.ensures.1 in
    let e = look_stopped a.version a.depth L.at (slice L.at c.min-end.result a.s.now) c.in_err-ahead.ensures in
    rw (p.1, p.2) (sym (both_stop (not L.odd) _) ∙ ap (both (plain_if (not L.odd))) (sym e) ∙ L.invariant.same)

pub look_run-look_body-requires : goal.look_run-look_body-requires
look_run-look_body-requires t c =
    let a = c.args in
    let L = c.loop-ahead in
    let m : 2 * (a.to - a.from) ≡ t = c.decreases in
    let on = goes a.version a.depth L.at c.min-end.result a.s.now L.invariant.ends c.in-Some.ahead (rw c.in-Some.is at c.in_ok-ahead.ensures) in
    let less : 2 * (c.in-Some.ahead.stop - c.in-Some.ahead.start) + 1 < t = omega (arith, on.begins, on.ordered, on.within, L.invariant) in
    (less, (on.ordered, omega (arith, on.within, L.invariant), omega arith, on.shallow))

pub look_run-returns-in_err-plain : goal.look_run-returns-in_err-plain
look_run-returns-in_err-plain t c =
    let a = c.args in
    let L = c.loop-ahead in
    let m = c.in-Some.ahead in
    let p = err_from_is_err_and c.from_residual-in_err-plain.result c.from_residual-in_err-plain.ensures.1 in
    let on = goes a.version a.depth L.at c.min-end.result a.s.now L.invariant.ends m (rw c.in-Some.is at c.in_ok-ahead.ensures) in
    let rest = look_at a.version a.depth (slice m.stop c.min-end.result a.s.now) in
    rw (p.1, p.2)
    (sym (turn_stop L.odd m.odd rest)
    ∙ ap (λ (x : Look). both (plain_if (not L.odd)) (both (both x (plain_if (not m.odd))) rest)) c.in_err-plain.ensures
    ∙ ap (both (plain_if (not L.odd))) (sym on.same)
    ∙ L.invariant.same)

pub look_run-loop-ahead-smaller : goal.look_run-loop-ahead-smaller
look_run-loop-ahead-smaller t c =
    let a = c.args in
    let L = c.loop-ahead in
    let on = goes a.version a.depth L.at c.min-end.result a.s.now L.invariant.ends c.in-Some.ahead (rw c.in-Some.is at c.in_ok-ahead.ensures) in
    omega (arith, on.begins, on.ordered, on.within)

pub look_run-loop-ahead-preserved : goal.look_run-loop-ahead-preserved
look_run-loop-ahead-preserved t c =
    let a = c.args in
    let L = c.loop-ahead in
    let m = c.in-Some.ahead in
    let on = goes a.version a.depth L.at c.min-end.result a.s.now L.invariant.ends m (rw c.in-Some.is at c.in_ok-ahead.ensures) in
    let rest = look_at a.version a.depth (slice m.stop c.min-end.result a.s.now) in
    record {
      after = omega (arith, on.begins, on.ordered, L.invariant.after);
      ends = L.invariant.ends;
      within = L.invariant.within;
      same = sym (turn_on L.odd c.in_ok-plain.plain m.odd rest)
          ∙ ap (λ (x : Look). both (plain_if (not L.odd)) (both (both x (plain_if (not m.odd))) rest)) c.in_ok-plain.ensures
          ∙ ap (both (plain_if (not L.odd))) (sym on.same)
          ∙ L.invariant.same;
    }

pub look_run-returns : goal.look_run-returns
look_run-returns t c =
    let a = c.args in
    let L = c.loop-ahead in
    let e = look_ended a.version a.depth L.at (slice L.at c.min-end.result a.s.now) c.requires (rw c.in_default.is at c.in_ok-ahead.ensures) in
    sym (plain_is (not L.odd)) ∙ sym (both_end (plain_if (not L.odd))) ∙ ap (both (plain_if (not L.odd))) (sym e) ∙ L.invariant.same
