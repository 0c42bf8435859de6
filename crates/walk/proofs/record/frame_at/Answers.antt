-- A frame as a record, by its header and its body. Assumes nothing.
use mathlib.Core.Path.{◌≡◌, ap, ◌∙◌}
use mathlib.Core.Bool.{◌||◌}
use native.Mathlib.Omega.{arith}
use lib.ListN.{length}
use Rattle.std.proofs.lemmas.Result.{err_from_is_err_and}
use Rattle.walk.proofs.Onwards.{here}
use Rattle.walk.proofs.Sources.{no_frame, head_refused, frame_refused, frame_shown}
use Rattle.walk.proofs.record.frame_at.Goals as goal
use Rattle.walk.proofs.record.frame_at.Goals.{then-resynced, else-resynced}

pub returns-in_err-head : goal.returns-in_err-head
returns-in_err-head c =
    let a = c.args in
    let p = err_from_is_err_and c.from_residual.result c.from_residual.ensures.1 in
    rw (p.1, p.2) (head_refused a.version a.in_work a.begin a.at a.end a.tag.now a.work.now c.source.result.now c.source.ensures c.in_err-head.ensures)

pub returns-in_default : goal.returns-in_default
returns-in_default c =
    let a = c.args in
    no_frame a.version a.in_work a.begin a.at a.end a.tag.now a.work.now c.source.result.now c.source.ensures (rw c.in_default.is at c.in_ok-head.ensures)

pub overflow_add-first : goal.overflow_add-first
overflow_add-first c =
    let a = c.args in
    let found = here a.version a.at a.end c.source.result.now _ _ _ _ _ _ (rw c.in-Some.is at c.in_ok-head.ensures) in
    omega (arith, found.within, c.well_formed)

pub overflow_add-next : goal.overflow_add-next
overflow_add-next c =
    let a = c.args in
    let found = here a.version a.at a.end c.source.result.now _ _ _ _ _ _ (rw c.in-Some.is at c.in_ok-head.ensures) in
    omega (arith, found.within, c.well_formed)

pub enter-requires : goal.enter-requires
enter-requires c =
    let a = c.args in
    let found = here a.version a.at a.end c.source.result.now _ _ _ _ _ _ (rw c.in-Some.is at c.in_ok-head.ensures) in
    (omega arith, omega (arith, found.within, ap length c.source.ensures))

pub returns-in_err-body : goal.returns-in_err-body
returns-in_err-body c =
    let a = c.args in
    let found = here a.version a.at a.end c.source.result.now _ _ _ _ _ _ (rw c.in-Some.is at c.in_ok-head.ensures) in
    let p = err_from_is_err_and c.from_residual-in_err-body.result c.from_residual-in_err-body.ensures.1 in
    rw (p.1, p.2)
    (frame_refused a.version a.in_work a.begin a.at a.end a.tag.now a.work.now c.source.result.now c.source.ensures found
    c.shown_kind-kind.result c.is_resynced-resynced.result c.shown_kind-kind.ensures c.is_resynced-resynced.ensures c.enter.new.work c.in_err-body.ensures)

pub returns : goal.returns
returns c =
    let a = c.args in
    let found = here a.version a.at a.end c.source.result.now _ _ _ _ _ _ (rw c.in-Some.is at c.in_ok-head.ensures) in
    let room : c.if-resynced.record_of ≡ (c.is_resynced-resynced.result || a.in_work) = elim c.if-resynced.branch [
      | then-resynced w ↦ rw w.if-resynced.true (w.record_of-is ∙ w.if-resynced.true)
      | else-resynced w ↦ rw w.if-resynced.false w.record_of-is
    ] in
    frame_shown a.version a.in_work a.begin a.at a.end a.tag.now a.work.now c.source.result.now c.source.ensures found
    c.shown_kind-kind.result c.is_resynced-resynced.result c.shown_kind-kind.ensures c.is_resynced-resynced.ensures c.enter.new.work c.in_ok-body.ensures
    c.saturating_sub.ensures room c.record_of-record.ensures
