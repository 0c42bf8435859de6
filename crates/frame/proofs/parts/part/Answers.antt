-- From its start to its end, as far as there is of it. Assumes nothing.
use Rattle.laws.proofs.Cuts.{part_cut}
use Rattle.frame.proofs.parts.part.Goals as goal

pub returns : goal.returns
returns c = part_cut c.args.from c.args.to c.min.result c.min-end.result c.args.s.now c.min-end.ensures c.min.ensures
