-- The blocks before this one are moved, and what lies from it on is as it was.
use Rattle.std.proofs.Common.{◌*◌}
use Rattle.moves.proofs.Moves.{Down}
use Rattle.moves.proofs.move_down.Given as goal

abbrev pub invariant-loop-k : goal.invariant-loop-k
invariant-loop-k l = Down l.initial.s l.from l.at l.n l.s (l.k * 64)
