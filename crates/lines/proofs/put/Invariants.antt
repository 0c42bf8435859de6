-- The bytes passed are put.
use Rattle.std.proofs.Common.{take}
use Rattle.lines.specs.Placed.{Wrote}
use Rattle.lines.proofs.put.Given as goal

abbrev pub invariant-loop-byte : goal.invariant-loop-byte
invariant-loop-byte l = Wrote l.fn.out l.at (take l.byte-index l.bytes) l.out l.next
