-- What is passed holds no zero.
use Rattle.std.proofs.Common.{◌≡◌, ◌+◌, ◌-◌, length, drop}
use Rattle.format.specs.Bytes.{zero_at}
use Rattle.frame.proofs.parts.zero_at.Given as goal

abbrev pub invariant-loop-i : goal.invariant-loop-i
invariant-loop-i l = l.i + zero_at (drop l.i l.s) ≡ zero_at l.s

abbrev pub decreases-loop-i : goal.decreases-loop-i
decreases-loop-i l = length l.s - l.i
