use Rattle.printout.proofs.Puts.{Listing}
use Rattle.printout.proofs.put_frames.Given as goal

abbrev pub invariant-loop-number : goal.invariant-loop-number
invariant-loop-number l = Listing l.tag l.fn.work l.fn.out l.fn.at l.fn.reader l.work l.out l.behind l.moved l.number
