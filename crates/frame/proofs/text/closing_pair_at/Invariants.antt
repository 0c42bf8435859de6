-- From i on there are zero pairs only, and perhaps an odd byte.
use Rattle.std.proofs.Common.{◌≡◌, ◌+◌, ◌%◌, ◌≤◌, length, min, drop}
use Rattle.format.specs.Text.{trimmed_pairs}
use Rattle.frame.proofs.text.closing_pair_at.Given as goal

abbrev pub invariant-loop-i : goal.invariant-loop-i
invariant-loop-i l = record {
  within : l.i ≤ length l.s;
  even : l.i % 2 ≡ 0;
  least : min 2 (length l.s) ≤ l.i + 1;
  rest : trimmed_pairs (drop l.i l.s) ≡ 0;
}

abbrev pub decreases-loop-i : goal.decreases-loop-i
decreases-loop-i l = l.i
