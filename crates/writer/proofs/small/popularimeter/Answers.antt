-- The counter behind the zero and the rating. Assumes nothing.
use native.Mathlib.Omega.{arith}
use mathlib.Core.List.{◌∷◌}
use Rattle.format.specs.Popularimeter.{counter_bytes}
use Rattle.writer.proofs.Digits.{counter_small}
use Rattle.writer.proofs.Smalls.{holds}
use Rattle.writer.proofs.small.popularimeter.Goals as goal

pub returns : goal.returns
returns c =
    let e = c.put_counter-count.ensures in
    let h = counter_small c.args.counter c.ranges.counter.fits in
    holds (0 ∷ c.args.rating ∷ counter_bytes c.args.counter) e.1 (omega (arith, e.0)) (omega arith)
