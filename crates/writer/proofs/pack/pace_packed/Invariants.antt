-- The bytes that are left to put, and what they make of the pen, are what the whole makes of it.
use Rattle.std.proofs.Common.{◌≡◌, ◌+◌, length}
use Rattle.format.specs.Table.{pack}
use Rattle.writer.specs.Packs.{left, Ready}
use Rattle.writer.proofs.Puts.{Measuring}
use Rattle.writer.proofs.pack.pace_packed.Given as goal

abbrev pub invariant-loop : goal.invariant-loop
invariant-loop l = record {
  ready : Ready l.ds l.bits;
  many : l.counter + length (left l.bits l.ds) ≡ l.n;
  measured : Measuring l.mode l.fn.pen (pack l.v l.w l.ds) l.next (left l.bits l.ds);
}
