use Rattle.std.proofs.Common.{◌≡◌, ◌+◌, ◌*◌}
use Rattle.std.proofs.Math.Seq.{slice}
use Rattle.format.specs.Looks.{all_zero}
use Rattle.walk.proofs.zeros.all_zero.Given as goal

abbrev pub invariant-loop-k : goal.invariant-loop-k
invariant-loop-k l = all_zero (slice (l.start + l.k * 64) l.end l.s) ≡ all_zero (slice l.from l.to l.s)
