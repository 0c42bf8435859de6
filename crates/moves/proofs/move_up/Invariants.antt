-- The blocks behind this one are moved, and what lies before it is as it was.
use Rattle.std.proofs.Common.{◌*◌, ◌+◌}
use Rattle.moves.proofs.Moves.{Up}
use Rattle.moves.proofs.move_up.Given as goal

abbrev pub invariant-loop-k : goal.invariant-loop-k
invariant-loop-k l = Up l.initial.s l.from l.at l.n l.s (l.left + l.k * 64)
