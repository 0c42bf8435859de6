-- Each call has fewer bytes than the last, two for each byte, so that a body is more than its run.
use Rattle.std.proofs.Common.{◌≡◌, ◌+◌, ◌≤◌, length, ◌-◌, ◌*◌}
use Rattle.std.proofs.Math.Seq.{slice}
use Rattle.format.specs.Walk.{walked}
use Rattle.walk.proofs.run.+body_walk.Given as goal

abbrev pub decreases-body : goal.decreases-body
decreases-body l = 2 * (l.to - l.from) + 1

abbrev pub decreases-walk : goal.decreases-walk
decreases-walk l = 2 * (l.to - l.from)

abbrev pub invariant-walk-loop-kind : goal.invariant-walk-loop-kind
invariant-walk-loop-kind l = record {
  after : l.from ≤ l.at;
  ends : l.end ≤ length l.s;
  within : l.end ≤ l.to;
  same : walked l.strict l.version l.depth (slice l.at l.end l.s) l.room ≡ walked l.strict l.version l.depth (slice l.from l.to l.s) l.fn.room;
}

abbrev pub decreases-walk-loop-kind : goal.decreases-walk-loop-kind
decreases-walk-loop-kind l = l.end - l.at
