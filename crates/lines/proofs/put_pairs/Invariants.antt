-- The bytes passed are put in hexadecimal.
use Rattle.std.proofs.Common.{take}
use Rattle.format.specs.Listing.{hex_in}
use Rattle.lines.specs.Placed.{Wrote}
use Rattle.lines.proofs.put_pairs.Given as goal

abbrev pub invariant-loop-byte : goal.invariant-loop-byte
invariant-loop-byte l = Wrote l.fn.out l.at (hex_in (take l.byte-index l.bytes)) l.out l.next
