-- The number of the bytes so far, and a bound on it.
use Rattle.std.proofs.Common.{◌≡◌, ◌^◌, ◌<◌, take}
use Rattle.format.specs.Numbers.{number}
use Rattle.loads.proofs.read_some.Given as goal

abbrev pub invariant-loop-x : goal.invariant-loop-x
invariant-loop-x l = record { same : l.n ≡ number (take l.x-index l.x-items); small : l.n < 256 ^ l.x-index }
