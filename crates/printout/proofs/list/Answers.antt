use Rattle.printout.proofs.Puts.{not_headed}
use Rattle.printout.proofs.list.Goals as goal

pub returns-in-Err : goal.returns-in-Err
returns-in-Err c = not_headed _ _ _ c.header.ensures c.in-Err.is c.refused_line.ensures
