-- A tag that is not too long, of frames that are all there, is put, or there is no room. Assumes nothing.
use Rattle.std.proofs.Common.{sym, ◌∙◌}
use Rattle.writer.proofs.Finishes.{finish_put}
use Rattle.writer.proofs.Writer.finish.Goals as goal

pub returns : goal.returns
returns c =
    let a = c.args in
    finish_put a.self a.padding a.buffer.now a.output.now (sym c.is_too_long.ensures ∙ c.if-is_too_long.false) c.if-buffer-self.false c.put_tag-put.ensures
