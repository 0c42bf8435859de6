-- A body by its run, and a run by its frames, in an area. Assumes nothing.
use mathlib.Core.Path.{◌≡◌, sym, ap, ◌∙◌}
use mathlib.Core.Bool.{false}
use mathlib.Core.List.{List}
use Prim.Native.Nat.{ℕ, ◌+◌, ◌-◌, ◌*◌, ◌<◌}
use native.Mathlib.Omega.{arith}
use lib.ListN.{length, take, drop}
use lib.Seq.{slice, length-slice}
use Rattle.std.proofs.lemmas.Result.{err_from_is_err_and}
use Rattle.std.specs.Prelude.{Result}
use Rattle.format.specs.declared.refusals.Refusal.{Refusal}
use Rattle.format.specs.Refusals.{passed_with}
use Rattle.format.specs.Unsynch.{resynchronised}
use Rattle.format.specs.Walk.{Out, behind, body_of, walked}
use Rattle.format.proofs.Unsynch.{resync_shorter}
use Rattle.unsynch.specs.Puts.{into_of}
use Rattle.walk.specs.Areas.{inside_in}
use Rattle.walk.proofs.Insides.{looked_refused, run_from, run_walked}
use Rattle.walk.proofs.Onwards.{stopped, ended, onward}
use Rattle.walk.proofs.Areas.{behind_passed, still, halt, go_on_lem, put_bytes, put_refused, put_inside, part_back, before_split, in_area_lem, fitted_room, as_resynced}
use Rattle.walk.proofs.run.+body_in_shown_in_walk_in.Goals as goal

pub body_in-returns-in_err-n : goal.body_in-returns-in_err-n
body_in-returns-in_err-n t c =
    let a = c.args in
    let b = slice a.from a.to a.area.now in
    let u = resynchronised b in
    let room = drop a.split a.area.now in
    let go = walked a.strict a.version (a.depth + 1) in
    let put = in_area_lem a.from a.to a.split a.area.now c.requires.1 c.in_err-n.ensures in
    let p = err_from_is_err_and c.from_residual.result c.from_residual.ensures.1 in
    rw (p.1, p.2, put.1)
    (behind_passed (take a.split a.area.now) _ (put_refused u room go a.kind put.0)
    ∙ ap (λ (o : Out). passed_with (behind (take a.split a.area.now) o)) (as_resynced a.resynced go a.kind b room c.if-resynced.true))

pub body_in-shown_in-requires : goal.body_in-shown_in-requires
body_in-shown_in-requires t c =
    let a = c.args in
    let b = slice a.from a.to a.area.now in
    let u = resynchronised b in
    let room = drop a.split a.area.now in
    let a₁ = c.resync_in.new.area in
    let put = in_area_lem a.from a.to a.split a.area.now c.requires.1 c.in_ok-n.ensures in
    let n = c.in_ok-n.n in
    let f = put_bytes u room put.0 in
    let back = part_back a₁ a.area.now (into_of u room).1 a₁ a.split c.requires.2 put.1 in
    let m : 3 * (a.to - a.from) + 2 ≡ t = c.decreases in
    let l = length-slice a.from a.to a.area.now (omega (arith, c.requires)) in
    let less : 3 * (n - 0) + 1 < t = omega (arith, f.many, resync_shorter false b) in
    (less, (omega arith, omega arith, omega (arith, fitted_room f, ap length back.0), c.requires.3))

pub body_in-returns-in_ok-n : goal.body_in-returns-in_ok-n
body_in-returns-in_ok-n t c =
    let a = c.args in
    let b = slice a.from a.to a.area.now in
    let u = resynchronised b in
    let room = drop a.split a.area.now in
    let go = walked a.strict a.version (a.depth + 1) in
    let a₁ = c.resync_in.new.area in
    let put = in_area_lem a.from a.to a.split a.area.now c.requires.1 c.in_ok-n.ensures in
    let n = c.in_ok-n.n in
    let f = put_bytes u room put.0 in
    let r = c.shown_in.result in
    let p' = c.shown_in.new.area in
    let back = part_back a₁ a.area.now (into_of u room).1 p' a.split c.requires.2 put.1 in
    let e : ◌≡◌ {A = Result Unit Refusal × List ℕ} (r, p') (passed_with (body_of a.resynced go a.kind b room)) =
    c.shown_in.ensures
    ∙ ap passed_with (ap (λ (p : List ℕ). inside_in go a.kind (slice 0 n p) n p) back.0
    ∙ put_inside u room go a.kind n (into_of u room).1 f
    ∙ as_resynced a.resynced go a.kind b room c.if-resynced.true) in
    ap {B = Result Unit Refusal × List ℕ} (λ (z : List ℕ). (r, z)) back.1 ∙ behind_passed (take a.split a.area.now) _ e

pub shown_in-returns-in_err-at : goal.shown_in-returns-in_err-at
shown_in-returns-in_err-at t c =
    let a = c.args in
    let b = slice a.from a.to a.area.now in
    let go = walked a.strict a.version (a.depth + 1) in
    let p = err_from_is_err_and c.from_residual.result c.from_residual.ensures.1 in
    rw (p.1, p.2) (still a.split a.area.now _ (looked_refused a.kind a.from b go (drop a.split a.area.now) c.in_err-at.ensures))

pub shown_in-walk_in-requires : goal.shown_in-walk_in-requires
shown_in-walk_in-requires t c =
    let a = c.args in
    let m : 3 * (a.to - a.from) + 1 ≡ t = c.decreases in
    let less : 3 * (a.to - c.in_ok-at.at) < t = omega (arith, run_from a.kind a.from a.to c.in_ok-at.at a.area.now c.in_ok-at.ensures) in
    (less, tt)

pub shown_in-returns : goal.shown_in-returns
shown_in-returns t c =
    let a = c.args in
    let A = a.area.now in
    let go = walked a.strict a.version (a.depth + 1) in
    let room = drop a.split A in
    let at = c.in_ok-at.at in
    c.walk_in.ensures
    ∙ ap passed_with (ap (λ (s : List ℕ). behind (take a.split A) (go s room)) (before_split at a.to a.split A c.requires.1)
    ∙ ap (behind (take a.split A)) (sym (run_walked a.kind a.from a.to at A c.in_ok-at.ensures go room)))

pub walk_in-returns-in_err-kind : goal.walk_in-returns-in_err-kind
walk_in-returns-in_err-kind t c =
    let a = c.args in
    let L = c.loop-kind in
    let mid = c.min-mid.result in
    let p = err_from_is_err_and c.from_residual.result c.from_residual.ensures.1 in
    rw (p.1, p.2)
    (still mid L.area _ (stopped a.strict a.version a.depth L.at c.min-end.result L.area c.in_err-kind.ensures (drop mid L.area))
    ∙ ap passed_with L.invariant.same)

pub walk_in-body_in-requires : goal.walk_in-body_in-requires
walk_in-body_in-requires t c =
    let a = c.args in
    let L = c.loop-kind in
    let m : 3 * (a.to - a.from) ≡ t = c.decreases in
    let f = c.in-Some.field-0 in
    let on = onward a.strict a.version a.depth L.at c.min-end.result L.area (omega (arith, L.invariant)) f (rw c.in-Some.is at c.in_ok-kind.ensures) in
    let less : 3 * (f.stop - f.start) + 2 < t = omega (arith, on.begins, on.ordered, on.within, L.invariant) in
    (less, (on.ordered, omega (arith, on.within, L.invariant), omega (arith, L.invariant), on.shallow))

pub walk_in-returns-in_err-body_in : goal.walk_in-returns-in_err-body_in
walk_in-returns-in_err-body_in t c =
    let a = c.args in
    let L = c.loop-kind in
    let f = c.in-Some.field-0 in
    let mid = c.min-mid.result in
    let end = c.min-end.result in
    let p = err_from_is_err_and c.from_residual-in_err-body_in.result c.from_residual-in_err-body_in.ensures.1 in
    let on = onward a.strict a.version a.depth L.at end L.area (omega (arith, L.invariant)) f (rw c.in-Some.is at c.in_ok-kind.ensures) in
    let o = body_of f.resynced (walked a.strict a.version (a.depth + 1)) f.kind (slice f.start f.stop L.area) (drop mid L.area) in
    rw (p.1, p.2)
    (halt a.strict a.version a.depth L.at end mid f.stop L.area c.body_in.new.area o L.invariant.inside L.invariant.ends (on.same (drop mid L.area)) c.in_err-body_in.ensures
    ∙ ap passed_with L.invariant.same)

pub walk_in-loop-kind-smaller : goal.walk_in-loop-kind-smaller
walk_in-loop-kind-smaller t c =
    let a = c.args in
    let L = c.loop-kind in
    let on = onward a.strict a.version a.depth L.at c.min-end.result L.area (omega (arith, L.invariant)) c.in-Some.field-0 (rw c.in-Some.is at c.in_ok-kind.ensures) in
    omega (arith, on.begins, on.ordered, on.within)

pub walk_in-loop-kind-preserved : goal.walk_in-loop-kind-preserved
walk_in-loop-kind-preserved t c =
    let a = c.args in
    let L = c.loop-kind in
    let f = c.in-Some.field-0 in
    let mid = c.min-mid.result in
    let end = c.min-end.result in
    let on = onward a.strict a.version a.depth L.at end L.area (omega (arith, L.invariant)) f (rw c.in-Some.is at c.in_ok-kind.ensures) in
    let o = body_of f.resynced (walked a.strict a.version (a.depth + 1)) f.kind (slice f.start f.stop L.area) (drop mid L.area) in
    record {
      after = omega (arith, on.begins, on.ordered, L.invariant.after);
      ends = L.invariant.ends;
      inside = omega (arith, c.body_in.auto.area, L.invariant.inside);
      within = L.invariant.within;
      same = go_on_lem a.strict a.version a.depth L.at end mid f.stop L.area c.body_in.new.area o L.invariant.inside L.invariant.ends (on.same (drop mid L.area)) c.in_ok-body_in.ensures
          ∙ L.invariant.same;
    }

pub walk_in-returns : goal.walk_in-returns
walk_in-returns t c =
    let a = c.args in
    let L = c.loop-kind in
    let mid = c.min-mid.result in
    still mid L.area _ (ended a.strict a.version a.depth L.at c.min-end.result L.area (rw c.in_default.is at c.in_ok-kind.ensures) (drop mid L.area))
    ∙ ap passed_with L.invariant.same
