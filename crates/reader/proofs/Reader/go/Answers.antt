-- The frame at the place. Assumes nothing.
use Rattle.reader.proofs.Steps.{gone}
use Rattle.reader.proofs.Reader.go.Goals as goal

pub returns : goal.returns
returns c = gone c.args.self c.args.tag.now c.args.work.now c.frame_at-shown.ensures c.answer.ensures
