-- The header, then the body behind it. Assumes nothing.
use Rattle.format.specs.Record.{given_rec}
use Rattle.writer.proofs.Heads.{head_lies, body_lies, frame_put}
use Rattle.writer.proofs.frames.put_frame.Goals as goal

pub put_head-behind-requires : goal.put_head-behind-requires
put_head-behind-requires c =
    let a = c.args in
    let r = given_rec a.heading a.given.now in
    (head_lies a.version a.mode r a.buffer.now a.at c.requires.3, c.requires.2)

pub put_body-end-requires : goal.put_body-end-requires
put_body-end-requires c =
    let a = c.args in
    let r = given_rec a.heading a.given.now in
    let h = c.put_head-behind in
    (c.requires.0, body_lies a.version a.mode r a.buffer.now a.at c.requires.1 h.ensures.0 h.ensures.1 c.body_mode.ensures c.requires.3)

pub returns : goal.returns
returns c =
    let a = c.args in
    let r = given_rec a.heading a.given.now in
    let h = c.put_head-behind in
    frame_put a.version a.mode r a.buffer.now a.at c.requires.1 h.ensures.0 h.ensures.1 c.body_mode.ensures c.put_body-end.ensures
