use Rattle.printout.proofs.Puts.{ready, not_opened}
use Rattle.printout.proofs.put_opened.Goals as goal

pub returns-in-Ok : goal.returns-in-Ok
returns-in-Ok c = ready _ _ _ _ c.open.ensures c.requires c.in-Ok.is c.put_frames.ensures

pub returns-in-Err : goal.returns-in-Err
returns-in-Err c = not_opened _ _ _ _ c.open.ensures c.in-Err.is c.refused_line.ensures
