-- Whether the rest fits is whether the whole fits.
use Rattle.std.proofs.Common.{◌≡◌, drop}
use Rattle.format.specs.Table.{fit}
use Rattle.checks.proofs.tables.all_fit.Given as goal

abbrev pub invariant-loop-x : goal.invariant-loop-x
invariant-loop-x l = fit l.a l.b (drop l.x-index l.deviations) ≡ fit l.v l.w l.deviations
