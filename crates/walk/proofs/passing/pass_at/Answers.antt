-- Frames in the tag or in the work buffer. Assumes nothing.
use Rattle.walk.proofs.Passes.{pass_in_work, pass_apart}
use Rattle.walk.proofs.passing.pass_at.Goals as goal

pub returns-then-in_work : goal.returns-then-in_work
returns-then-in_work c =
    let a = c.args in
    λ begin. pass_in_work a.version a.in_work begin a.at a.end a.tag.now a.work.now c.if-in_work.true (c.pass_in.ensures begin)

pub returns : goal.returns
returns c =
    let a = c.args in
    λ begin. pass_apart a.version a.in_work begin a.at a.end a.tag.now a.work.now c.if-in_work.false (c.pass_in-2.ensures begin)
