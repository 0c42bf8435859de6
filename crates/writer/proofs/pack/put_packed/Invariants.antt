-- The bytes that are left to put, put from here on, give what the whole gives.
use Rattle.std.proofs.Common.{◌≡◌, ◌+◌, length}
use Rattle.format.specs.Table.{pack}
use Rattle.writer.specs.Packs.{left, Ready}
use Rattle.writer.proofs.Puts.{Writing}
use Rattle.writer.proofs.pack.put_packed.Given as goal

abbrev pub invariant-loop : goal.invariant-loop
invariant-loop l = record {
  ready : Ready l.ds l.bits;
  many : l.counter + length (left l.bits l.ds) ≡ l.n;
  written : Writing l.mode l.fn.pen (pack l.v l.w l.ds) l.fn.buffer l.next (left l.bits l.ds) l.buffer;
}
