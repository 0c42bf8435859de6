-- What is passed is zeros.
use Rattle.std.proofs.Common.{◌-◌}
use Rattle.frame.proofs.Counters.{Skipped}
use Rattle.frame.proofs.popularimeter.after_zeros.Given as goal

abbrev pub invariant-loop-i : goal.invariant-loop-i
invariant-loop-i l = Skipped l.from l.to l.s l.i

abbrev pub decreases-loop-i : goal.decreases-loop-i
decreases-loop-i l = l.to - l.i
