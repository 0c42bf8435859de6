-- What was seen so far and the look at the rest say the same as the look at all, and so do the user's and the number's. Assumes nothing.
use Rattle.std.proofs.Common.{◌≡◌, ◌+◌, ◌-◌, false, not, length}
use Rattle.std.proofs.Math.Seq.{slice}
use Rattle.format.specs.Looks.{both, plain_if, look_at}
use Rattle.blocks.specs.Blocks.{joined, blocks_in}
use Rattle.raise.specs.declared.users.Found.{Found}
use Rattle.raise.specs.declared.scanning.Aim.{Aim}
use Rattle.raise.specs.Seeks.{found_on}
use Rattle.raise.specs.Scans.{aimed_on}
use Rattle.raise.proofs.Aims.{Along}
use Rattle.raise.proofs.scanning.search.Given as goal

abbrev pub invariant-loop-seen : goal.invariant-loop-seen
invariant-loop-seen l =
    let all = blocks_in l.framed.version (slice l.framed.begin l.framed.end l.tag) in
    record {
      looks : both (plain_if (not l.odd)) (look_at l.framed.version 1 (slice l.at l.framed.end l.tag)) ≡ both (plain_if (not l.framed.odd)) (look_at l.framed.version 1 (slice l.framed.begin l.framed.end l.tag));
      goes : l.odd ≡ false
          → Along l.framed.version l.user l.found l.aim l.at (slice l.at l.framed.end l.tag)
          (found_on l.framed.version l.user Found.None l.framed.begin all) (aimed_on (Aim.Before l.number) l.framed.begin all) (l.framed.begin + length (joined all));
    }

abbrev pub decreases-loop-seen : goal.decreases-loop-seen
decreases-loop-seen l = l.framed.end - l.at
