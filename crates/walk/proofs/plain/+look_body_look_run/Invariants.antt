-- Each call has fewer bytes than the last, two for each byte, so that a body is more than its run.
use Rattle.std.proofs.Common.{◌≡◌, ◌+◌, ◌≤◌, length, ◌-◌, ◌*◌, not}
use Rattle.std.proofs.Math.Seq.{slice}
use Rattle.format.specs.Looks.{both, plain_if, look_at}
use Rattle.walk.proofs.plain.+look_body_look_run.Given as goal

abbrev pub decreases-look_body : goal.decreases-look_body
decreases-look_body l = 2 * (l.to - l.from) + 1

abbrev pub decreases-look_run : goal.decreases-look_run
decreases-look_run l = 2 * (l.to - l.from)

abbrev pub invariant-look_run-loop-ahead : goal.invariant-look_run-loop-ahead
invariant-look_run-loop-ahead l = record {
  after : l.from ≤ l.at;
  ends : l.end ≤ length l.s;
  within : l.end ≤ l.to;
  same : both (plain_if (not l.odd)) (look_at l.version l.depth (slice l.at l.end l.s)) ≡ look_at l.version l.depth (slice l.from l.to l.s);
}

abbrev pub decreases-look_run-loop-ahead : goal.decreases-look_run-loop-ahead
decreases-look_run-loop-ahead l = l.end - l.at
