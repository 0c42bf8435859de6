use Rattle.std.proofs.Common.{refl, sym}
use Rattle.printout.proofs.Puts.{there, tag_put, tag_full}
use Rattle.printout.proofs.put_tag.Goals as goal

pub put_opened-requires : goal.put_opened-requires
put_opened-requires c = there _ _ c.requires

pub returns-in_err-at : goal.returns-in_err-at
returns-in_err-at c = rw c.from_residual.ensures (tag_full _ _ _ (sym c.requires) refl c.from.ensures c.tag_line.ensures c.in_err-at.was)

pub returns : goal.returns
returns c = tag_put _ _ _ (sym c.requires) refl c.from.ensures c.tag_line.ensures c.in_ok-at.was c.put_opened.ensures
