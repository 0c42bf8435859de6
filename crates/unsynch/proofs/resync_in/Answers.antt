-- What is put into the room that begins at `split`, and that it fits. Assumes nothing.
use mathlib.Core.Path.{◌≡◌, ap, ◌∙◌}
use Prim.Native.Nat.{ℕ, min}
use mathlib.Core.Bool.{false}
use mathlib.Core.List.{List}
use lib.ListN.{take, length}
use lib.Seq.{slice}
use native.Mathlib.Omega.{arith}
use Rattle.laws.proofs.Slices.{slice_before, slice_before_none}
use Rattle.format.specs.Unsynch.{resync, resynchronised}
use Rattle.unsynch.specs.declared.loops.How.{How}
use Rattle.unsynch.specs.Edits.{resync_by, edited}
use Rattle.unsynch.proofs.Edits.{resyncs, known_resync}
use Rattle.unsynch.proofs.Answers.{put_none, put_fits, put_refused, put_all, in_room}
use Rattle.unsynch.proofs.resync_in.Goals as goal

-- what is there of the bytes makes the whole
cut : (how : How) (from to split mid end : ℕ) (area : List ℕ) → how ≡ resync_by → mid ≡ min split (length area) → end ≡ min to mid
    → edited how false (slice from end area) ≡ resynchronised (slice from to (take split area))
cut how from to split mid end area h m e =
    ap (λ (how : How). edited how false (slice from end area)) h
    ∙ resyncs false (slice from end area)
    ∙ ap resynchronised (slice_before from to split end area (e ∙ ap (min to) m))

pub returns-then-end-from : goal.returns-then-end-from
unfolding resync
returns-then-end-from c =
    let a = c.args in
    let whole : List ℕ = resynchronised (slice a.from a.to (take a.split a.area.now)) in
    let mid = c.min-mid in
    let none = slice_before_none a.from a.to a.split c.min-end.result a.area.now (c.min-end.ensures ∙ ap (min a.to) mid.ensures) c.if-end-from.true in
    put_none 14 whole mid.result a.area.now (omega arith) (ap resynchronised none) ∙ in_room whole a.split mid.result a.area.now mid.ensures

pub fits-requires-clause-known : goal.fits-requires-clause-known
fits-requires-clause-known c = known_resync _ c.resync_by-how.ensures

pub edit_in-requires-clause-area_in_bounds : goal.edit_in-requires-clause-area_in_bounds
edit_in-requires-clause-area_in_bounds c =
    let a = c.args in
    let whole : List ℕ = resynchronised (slice a.from a.to (take a.split a.area.now)) in
    let mid = c.min-mid in
    let e = cut c.resync_by-how.result a.from a.to a.split mid.result c.min-end.result a.area.now c.resync_by-how.ensures mid.ensures c.min-end.ensures in
    put_fits 14 whole mid.result a.area.now (omega arith) _ e c.fits.result c.fits.ensures c.if-fits.true

pub edit_in-requires-clause-known : goal.edit_in-requires-clause-known
edit_in-requires-clause-known c = known_resync _ c.resync_by-how.ensures

pub overflow_sub-result : goal.overflow_sub-result
overflow_sub-result c =
    let a = c.args in
    let whole : List ℕ = resynchronised (slice a.from a.to (take a.split a.area.now)) in
    let mid = c.min-mid in
    let e = cut c.resync_by-how.result a.from a.to a.split mid.result c.min-end.result a.area.now c.resync_by-how.ensures mid.ensures c.min-end.ensures in
    (put_all 14 whole mid.result a.area.now (omega arith) _ e c.fits.result c.fits.ensures c.if-fits.true c.edit_in.result c.edit_in.new.area c.edit_in.ensures).0

pub returns-then-fits : goal.returns-then-fits
returns-then-fits c =
    let a = c.args in
    let whole : List ℕ = resynchronised (slice a.from a.to (take a.split a.area.now)) in
    let mid = c.min-mid in
    let e = cut c.resync_by-how.result a.from a.to a.split mid.result c.min-end.result a.area.now c.resync_by-how.ensures mid.ensures c.min-end.ensures in
    (put_all 14 whole mid.result a.area.now (omega arith) _ e c.fits.result c.fits.ensures c.if-fits.true c.edit_in.result c.edit_in.new.area c.edit_in.ensures).1
    ∙ in_room whole a.split mid.result a.area.now mid.ensures

pub returns : goal.returns
returns c =
    let a = c.args in
    let whole : List ℕ = resynchronised (slice a.from a.to (take a.split a.area.now)) in
    let mid = c.min-mid in
    let e = cut c.resync_by-how.result a.from a.to a.split mid.result c.min-end.result a.area.now c.resync_by-how.ensures mid.ensures c.min-end.ensures in
    put_refused 14 whole mid.result a.area.now (omega arith) _ e c.fits.result c.fits.ensures c.if-fits.false
    ∙ in_room whole a.split mid.result a.area.now mid.ensures
