-- The bits are the same ones, however many of them are in acc.
use Rattle.std.proofs.Common.{◌≡◌, ◌-◌, length}
use Rattle.writer.specs.Packs.{left, Ready}
use Rattle.writer.proofs.Packs.{bits_at}
use Rattle.writer.proofs.pack.fetched.Given as goal

abbrev pub invariant-loop-have : goal.invariant-loop-have
invariant-loop-have l = record {
  ready : Ready l.ds (bits_at l.acc l.have l.i l.a l.b);
  same : left (bits_at l.acc l.have l.i l.a l.b) l.ds ≡ left l.fn.bits l.ds;
}

abbrev pub decreases-loop-have : goal.decreases-loop-have
decreases-loop-have l = length l.initial.ds - l.i
