use Rattle.std.proofs.Common.{◌≡◌, ◌+◌, ◌≤◌}
use Rattle.unsynch.specs.Edits.{hits_after}
use Rattle.unsynch.proofs.blocks.count.Given as goal

abbrev pub invariant-loop-k : goal.invariant-loop-k
invariant-loop-k l = record {
  few : l.n ≤ l.k;
  same : l.n + hits_after l.how l.s (l.i + l.k) (l.i + 64 + 1) ≡ hits_after l.how l.s l.i (l.i + 64 + 1);
}
