-- The four pieces, then the references. Assumes nothing.
use mathlib.Core.List.{◌++◌}
use lib.ListN.{take}
use Rattle.format.specs.Record.{given_content}
use Rattle.format.specs.Encode.{body_bytes}
use Rattle.writer.specs.Layouts.{packed_of}
use Rattle.writer.proofs.Puts.{begin, same_list, piece_lies, piece_put, rest_lies, rest_put}
use Rattle.writer.proofs.bodies.put_body.Goals as goal

pub put_pieces-next-requires : goal.put_pieces-next-requires
put_pieces-next-requires c =
    let a = c.args in
    let r = c.plan_of-plan.result in
    let front = take r.name a.given.now.name.now ++ (take r.len r.bytes ++ (take r.names a.given.now.names.now ++ take r.rest a.given.now.rest.now)) in
    let body = body_bytes (given_content a.fields a.given.now) in
    piece_lies front (packed_of a.fields a.given.now.deviations.now) (same_list (c.plan_of-plan.ensures.body a.given.now.deviations.now) (begin a.mode a.pen body a.buffer.now c.requires.1))

pub put_references-requires-clause-deviations_in_bounds : goal.put_references-requires-clause-deviations_in_bounds
put_references-requires-clause-deviations_in_bounds c =
    let a = c.args in
    let r = c.plan_of-plan.result in
    let front = take r.name a.given.now.name.now ++ (take r.len r.bytes ++ (take r.names a.given.now.names.now ++ take r.rest a.given.now.rest.now)) in
    let body = body_bytes (given_content a.fields a.given.now) in
    rest_lies
    (piece_put front (packed_of a.fields a.given.now.deviations.now) (same_list (c.plan_of-plan.ensures.body a.given.now.deviations.now) (begin a.mode a.pen body a.buffer.now c.requires.1)) c.put_pieces-next.ensures)

pub returns : goal.returns
returns c =
    let a = c.args in
    let r = c.plan_of-plan.result in
    let front = take r.name a.given.now.name.now ++ (take r.len r.bytes ++ (take r.names a.given.now.names.now ++ take r.rest a.given.now.rest.now)) in
    let body = body_bytes (given_content a.fields a.given.now) in
    rest_put
    (piece_put front (packed_of a.fields a.given.now.deviations.now) (same_list (c.plan_of-plan.ensures.body a.given.now.deviations.now) (begin a.mode a.pen body a.buffer.now c.requires.1)) c.put_pieces-next.ensures)
    c.put_references.ensures
