-- One piece after another: what is left to put before each. Assumes nothing.
use mathlib.Core.List.{◌++◌}
use Rattle.writer.proofs.Puts.{begin, piece_lies, piece_put, rest_lies, rest_put}
use Rattle.writer.proofs.bodies.put_pieces.Goals as goal

pub put_bytes-first-requires : goal.put_bytes-first-requires
put_bytes-first-requires c =
    let a = c.args in
    let rest = a.b.now ++ (a.c.now ++ a.d.now) in
    piece_lies a.a.now rest (begin a.mode a.pen (a.a.now ++ rest) a.buffer.now c.requires)

pub put_bytes-second-requires : goal.put_bytes-second-requires
put_bytes-second-requires c =
    let a = c.args in
    let rest = a.b.now ++ (a.c.now ++ a.d.now) in
    piece_lies a.b.now (a.c.now ++ a.d.now) (piece_put a.a.now rest (begin a.mode a.pen (a.a.now ++ rest) a.buffer.now c.requires) c.put_bytes-first.ensures)

pub put_bytes-third-requires : goal.put_bytes-third-requires
put_bytes-third-requires c =
    let a = c.args in
    let rest = a.b.now ++ (a.c.now ++ a.d.now) in
    piece_lies a.c.now a.d.now
    (piece_put a.b.now (a.c.now ++ a.d.now) (piece_put a.a.now rest (begin a.mode a.pen (a.a.now ++ rest) a.buffer.now c.requires) c.put_bytes-first.ensures) c.put_bytes-second.ensures)

pub put_bytes-requires : goal.put_bytes-requires
put_bytes-requires c =
    let a = c.args in
    let rest = a.b.now ++ (a.c.now ++ a.d.now) in
    rest_lies
    (piece_put a.c.now a.d.now
    (piece_put a.b.now (a.c.now ++ a.d.now) (piece_put a.a.now rest (begin a.mode a.pen (a.a.now ++ rest) a.buffer.now c.requires) c.put_bytes-first.ensures) c.put_bytes-second.ensures)
    c.put_bytes-third.ensures)

pub returns : goal.returns
returns c =
    let a = c.args in
    let rest = a.b.now ++ (a.c.now ++ a.d.now) in
    rest_put
    (piece_put a.c.now a.d.now
    (piece_put a.b.now (a.c.now ++ a.d.now) (piece_put a.a.now rest (begin a.mode a.pen (a.a.now ++ rest) a.buffer.now c.requires) c.put_bytes-first.ensures) c.put_bytes-second.ensures)
    c.put_bytes-third.ensures)
    c.put_bytes.ensures
