-- What is left to put, put from here on, gives what the whole gives.
use Rattle.std.proofs.Common.{◌*◌, take}
use Rattle.frame.proofs.Unpacking.{Putting}
use Rattle.frame.proofs.table.put_pairs.Given as goal

abbrev pub invariant-loop-x : goal.invariant-loop-x
invariant-loop-x l = Putting (take (l.n * 2) l.fn.out) l.v l.w l.b l.n l.x-items l.width l.other l.k l.r l.x-index
