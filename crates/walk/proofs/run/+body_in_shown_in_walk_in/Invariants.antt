-- Each call has fewer bytes than the last: three for each byte, so that a body as it is stored is more than the same as it is shown, and
-- that more than its run.
use Rattle.std.proofs.Common.{◌≡◌, ◌+◌, ◌≤◌, length, ◌-◌, ◌*◌}
use Rattle.walk.specs.Areas.{in_area}
use Rattle.walk.proofs.Areas.{ran}
use Rattle.walk.proofs.run.+body_in_shown_in_walk_in.Given as goal

abbrev pub decreases-body_in : goal.decreases-body_in
decreases-body_in l = 3 * (l.to - l.from) + 2

abbrev pub decreases-shown_in : goal.decreases-shown_in
decreases-shown_in l = 3 * (l.to - l.from) + 1

abbrev pub decreases-walk_in : goal.decreases-walk_in
decreases-walk_in l = 3 * (l.to - l.from)

abbrev pub invariant-walk_in-loop-kind : goal.invariant-walk_in-loop-kind
invariant-walk_in-loop-kind l = record {
  after : l.from ≤ l.at;
  ends : l.end ≤ l.mid;
  inside : l.mid ≤ length l.area;
  within : l.end ≤ l.to;
  same : ran l.strict l.version l.depth l.at l.end l.mid l.area ≡ in_area l.strict l.version l.depth l.from l.to l.split l.fn.area;
}

abbrev pub decreases-walk_in-loop-kind : goal.decreases-walk_in-loop-kind
decreases-walk_in-loop-kind l = l.end - l.at
