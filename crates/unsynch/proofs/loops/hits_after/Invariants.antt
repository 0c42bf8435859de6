use Rattle.std.proofs.Common.{◌≡◌, ◌+◌, ◌*◌, ◌≤◌}
use Rattle.unsynch.specs.Edits.{hits_after}
use Rattle.unsynch.proofs.loops.hits_after.Given as goal

abbrev pub invariant-loop-k : goal.invariant-loop-k
invariant-loop-k l = record {
  few : l.n ≤ l.k * 64;
  same : l.n + hits_after l.how l.s (l.from + l.k * 64) l.to ≡ hits_after l.how l.s l.from l.to;
}
