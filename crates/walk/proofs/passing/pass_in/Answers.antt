-- A frame by its header, and by its body. Assumes nothing.
use mathlib.Core.Path.{◌≡◌, refl, sym, ap, ◌∙◌}
use mathlib.Core.Bool.{◌&&◌}
use Prim.Native.Nat.{◌+◌, ◌-◌}
use native.Mathlib.Omega.{arith}
use lib.ListN.{length}
use lib.Seq.{slice}
use lib.Dec.{eqb}
use Rattle.std.proofs.lemmas.Result.{err_from_is_err_and}
use Rattle.format.specs.Ids.{kind_number}
use Rattle.format.specs.Unsynch.{resynchronised}
use Rattle.format.specs.declared.Kind.{Kind}
use Rattle.walk.specs.Passing.{is_meter_id}
use Rattle.walk.proofs.Answers.{passed_ok, passed_err}
use Rattle.walk.proofs.Onwards.{here}
use Rattle.walk.proofs.Passes.{same_meter, pass_nothing, pass_refused, pass_body_refused, pass_over, pass_meter, pass_front}
use Rattle.walk.proofs.passing.pass_in.Goals as goal

pub returns-in_err-head : goal.returns-in_err-head
returns-in_err-head c =
    let a = c.args in
    let p = err_from_is_err_and c.from_residual.result c.from_residual.ensures.1 in
    λ begin. rw (p.1, p.2) (pass_refused a.version a.in_work begin a.at (slice a.at a.end a.s.now) a.room.now c.in_err-head.ensures)

pub returns-in_default : goal.returns-in_default
returns-in_default c =
    let a = c.args in
    λ begin. pass_nothing a.version a.in_work begin a.at (slice a.at a.end a.s.now) a.room.now (rw c.in_default.is at c.in_ok-head.ensures)

pub overflow_add-first : goal.overflow_add-first
overflow_add-first c =
    let a = c.args in
    let found = here a.version a.at a.end a.s.now _ _ _ _ _ _ (rw c.in-Some.is at c.in_ok-head.ensures) in
    omega (arith, found.within, c.well_formed)

pub overflow_add-next : goal.overflow_add-next
overflow_add-next c =
    let a = c.args in
    let found = here a.version a.at a.end a.s.now _ _ _ _ _ _ (rw c.in-Some.is at c.in_ok-head.ensures) in
    omega (arith, found.within, c.well_formed)

pub returns-then-resynced : goal.returns-then-resynced
returns-then-resynced c =
    let a = c.args in
    let h = c.in-Some.head in
    let b = slice (a.at + h.start) (a.at + h.start + h.len) a.s.now in
    let found = here a.version a.at a.end a.s.now _ _ _ _ _ _ (rw c.in-Some.is at c.in_ok-head.ensures) in
    let is = sym (same_meter c.shown_kind-kind.result) ∙ sym c.if-eq.ensures in
    λ begin. pass_front a.version a.in_work begin a.at a.end a.s.now a.room.now found _ _ c.shown_kind-kind.ensures c.is_resynced-resynced.ensures is c.if-resynced.true
    (c.flagged.ensures a.version h.id (a.at - begin) 0 (length (resynchronised b)))

pub returns-then-eq : goal.returns-then-eq
returns-then-eq c =
    let a = c.args in
    let h = c.in-Some.head in
    let b = slice (a.at + h.start) (a.at + h.start + h.len) a.s.now in
    let found = here a.version a.at a.end a.s.now _ _ _ _ _ _ (rw c.in-Some.is at c.in_ok-head.ensures) in
    let is = sym (same_meter c.shown_kind-kind.result) ∙ sym c.if-eq.ensures in
    λ begin. pass_meter a.version a.in_work begin a.at a.end a.s.now a.room.now found _ _ c.shown_kind-kind.ensures c.is_resynced-resynced.ensures is c.if-resynced.false
    (c.parse.ensures a.version) (c.read_as.ensures a.version h.id (a.at - begin) (a.at + h.start) (length b))

pub body-requires : goal.body-requires
body-requires c =
    let a = c.args in
    let found = here a.version a.at a.end a.s.now _ _ _ _ _ _ (rw c.in-Some.is at c.in_ok-head.ensures) in
    (omega arith, found.within, omega arith)

pub returns-in_err-body : goal.returns-in_err-body
returns-in_err-body c =
    let a = c.args in
    let h = c.in-Some.head in
    let found = here a.version a.at a.end a.s.now _ _ _ _ _ _ (rw c.in-Some.is at c.in_ok-head.ensures) in
    let q = passed_err _ c.in_err-body.ensures in
    let p = err_from_is_err_and c.from_residual-in_err-body.result c.from_residual-in_err-body.ensures.1 in
    λ begin. rw (p.1, p.2)
    (pass_body_refused a.version a.in_work begin a.at a.end a.s.now a.room.now found _ _ c.shown_kind-kind.ensures c.is_resynced-resynced.ensures (sym q.0) q.1)

pub returns-then-head : goal.returns-then-head
returns-then-head c =
    let a = c.args in
    let h = c.in-Some.head in
    let found = here a.version a.at a.end a.s.now _ _ _ _ _ _ (rw c.in-Some.is at c.in_ok-head.ensures) in
    let other = sym (same_meter c.shown_kind-kind.result) ∙ sym c.if-eq.ensures in
    let q = passed_ok _ c.in_ok-body.ensures in
    let packed : c.eq-then-head.result ≡ (h.compressed && is_meter_id a.version h.id) =
    rw c.if-head.true (c.eq-then-head.ensures ∙ same_meter c.kind_of.result ∙ ap (λ (k : Kind). eqb (kind_number k) 1) c.kind_of.ensures) in
    λ begin. pass_over a.version a.in_work begin a.at a.end a.s.now a.room.now found _ _ c.shown_kind-kind.ensures c.is_resynced-resynced.ensures (sym q) refl other _ packed

pub returns-else-head : goal.returns-else-head
returns-else-head c =
    let a = c.args in
    let h = c.in-Some.head in
    let found = here a.version a.at a.end a.s.now _ _ _ _ _ _ (rw c.in-Some.is at c.in_ok-head.ensures) in
    let other = sym (same_meter c.shown_kind-kind.result) ∙ sym c.if-eq.ensures in
    let q = passed_ok _ c.in_ok-body.ensures in
    let packed : h.compressed ≡ (h.compressed && is_meter_id a.version h.id) = rw c.if-head.false in
    λ begin. pass_over a.version a.in_work begin a.at a.end a.s.now a.room.now found _ _ c.shown_kind-kind.ensures c.is_resynced-resynced.ensures (sym q) refl other _ packed
