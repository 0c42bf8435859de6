-- The frames, or their refusal, then the padding and the header. Assumes nothing.
use lib.ListN.{take}
use Rattle.std.proofs.lemmas.Result.{err_from_is_err_and}
use Rattle.writer.proofs.Finishes.{tag_frames, tag_put, tag_refused}
use Rattle.writer.proofs.finish.put_tag.Goals as goal

pub returns-in_err-n : goal.returns-in_err-n
returns-in_err-n c =
    let a = c.args in
    let p = err_from_is_err_and c.from_residual.result c.from_residual.ensures.1 in
    rw (p.1, p.2) (tag_refused a.version a.mode a.padding (take a.used a.buffer.now) a.output.now c.put_frames.ensures c.in_err-n.was)

pub returns : goal.returns
returns c =
    let a = c.args in
    let f = tag_frames a.version a.mode a.padding (take a.used a.buffer.now) a.output.now c.put_frames.ensures c.in_ok-n.was in
    tag_put a.version a.mode a.padding (take a.used a.buffer.now) a.output.now c.put_frames.ensures f c.put_zeros.ensures c.put_header.ensures
