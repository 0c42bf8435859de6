-- The zeros counted so far and those of the rest are the zeros of the whole.
use Rattle.std.proofs.Common.{◌≡◌, ◌+◌, ◌≤◌, drop}
use Rattle.format.specs.Bytes.{zeros_in}
use Rattle.format.proofs.small.zeros_in.Given as goal

abbrev pub invariant-loop-x : goal.invariant-loop-x
invariant-loop-x l = record { few : l.n ≤ l.x-index; counted : l.n + zeros_in (drop l.x-index l.s) ≡ zeros_in l.s }
