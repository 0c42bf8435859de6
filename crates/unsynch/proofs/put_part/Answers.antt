-- What is put, and that it fits: `whole` is what is there, edited. Assumes nothing.
use mathlib.Core.Path.{ap}
use Prim.Native.Nat.{ℕ}
use mathlib.Core.Bool.{false}
use mathlib.Core.List.{List}
use lib.Seq.{slice}
use native.Mathlib.Omega.{arith}
use Rattle.laws.proofs.Slices.{slice_cut, slice_cut_none}
use Rattle.unsynch.specs.Edits.{edited}
use Rattle.unsynch.proofs.Answers.{refused_place, put_none, put_fits, put_refused, put_all}
use Rattle.unsynch.proofs.put_part.Goals as goal

pub returns-then-buf-at : goal.returns-then-buf-at
returns-then-buf-at c =
    let a = c.args in
    refused_place a.k.number (edited a.how false (slice a.from a.to a.s.now)) a.at a.buf.now c.if-buf-at.true

pub returns-then-end-from : goal.returns-then-end-from
unfolding edited
returns-then-end-from c =
    let a = c.args in
    let none = slice_cut_none a.from a.to _ a.s.now c.min-end.ensures c.if-end-from.true in
    put_none a.k.number (edited a.how false (slice a.from a.to a.s.now)) a.at a.buf.now (omega arith) (ap (edited a.how false) none)

pub edit-requires-clause-s_in_bounds : goal.edit-requires-clause-s_in_bounds
edit-requires-clause-s_in_bounds c =
    let a = c.args in
    let whole : List ℕ = edited a.how false (slice a.from a.to a.s.now) in
    let cut = ap (edited a.how false) (slice_cut a.from a.to _ a.s.now c.min-end.ensures) in
    put_fits a.k.number whole a.at a.buf.now (omega arith) _ cut c.fits.result c.fits.ensures c.if-fits.true

pub overflow_sub-result : goal.overflow_sub-result
overflow_sub-result c =
    let a = c.args in
    let whole : List ℕ = edited a.how false (slice a.from a.to a.s.now) in
    let cut = ap (edited a.how false) (slice_cut a.from a.to _ a.s.now c.min-end.ensures) in
    (put_all a.k.number whole a.at a.buf.now (omega arith) _ cut c.fits.result c.fits.ensures c.if-fits.true c.edit.result c.edit.new.buf c.edit.ensures).0

pub returns-then-fits : goal.returns-then-fits
returns-then-fits c =
    let a = c.args in
    let whole : List ℕ = edited a.how false (slice a.from a.to a.s.now) in
    let cut = ap (edited a.how false) (slice_cut a.from a.to _ a.s.now c.min-end.ensures) in
    (put_all a.k.number whole a.at a.buf.now (omega arith) _ cut c.fits.result c.fits.ensures c.if-fits.true c.edit.result c.edit.new.buf c.edit.ensures).1

pub returns : goal.returns
returns c =
    let a = c.args in
    let whole : List ℕ = edited a.how false (slice a.from a.to a.s.now) in
    let cut = ap (edited a.how false) (slice_cut a.from a.to _ a.s.now c.min-end.ensures) in
    put_refused a.k.number whole a.at a.buf.now (omega arith) _ cut c.fits.result c.fits.ensures c.if-fits.false
