-- A zero counts, and another byte does not.
use Rattle.std.proofs.Common.{◌≡◌, ◌+◌, ap, arith}
use Rattle.laws.proofs.Pieces.{drop_none}
use Rattle.format.specs.Bytes.{zeros_in}
use Rattle.format.proofs.Zeros.{zero_counts, other_counts_not}
use Rattle.format.proofs.small.zeros_in.Goals as goal
use Rattle.format.proofs.small.zeros_in.Goals.{then-x-eq0, else-x-eq0}

pub loop-x-preserved : goal.loop-x-preserved
loop-x-preserved c =
    let s = c.args.s.now in
    let i = c.loop-x.x-index in
    let there = c.loop-x-test.true in
    elim c.if-x-eq0.branch [
      | then-x-eq0 w ↦ record { few = omega arith; counted = omega (arith, zero_counts s i there w.if-x-eq0.true) }
      | else-x-eq0 w ↦ record { few = omega arith; counted = omega (arith, other_counts_not s i there w.if-x-eq0.false) }
    ]

pub returns : goal.returns
unfolding zeros_in
returns c =
    let e = ap zeros_in (drop_none c.args.s.now c.loop-x.x-index c.loop-x-test.false) in
    omega (arith, e, c.loop-x.invariant.counted)
