-- What is left to show of `walk::zeros::all_zero`. Assumes nothing.
use Rattle.std.proofs.Common.{◌≡◌, ◌+◌, ◌*◌, ℕ, sym, ap, ◌∙◌}
use native.Mathlib.Omega.{arith}
use lib.Seq.{slice}
use Rattle.format.specs.Looks.{all_zero}
use Rattle.walk.proofs.Padding.{zero_not, zero_on}
use Rattle.walk.proofs.zeros.all_zero.Goals as goal

pub returns-then-not-block_zero : goal.returns-then-not-block_zero
returns-then-not-block_zero c =
    let at = c.min-start.result + c.loop-k.k * 64 in
    sym (zero_not c.args.s.now at c.min-end.result 64 (omega arith) (sym c.block_zero.ensures ∙ c.if-not-block_zero.true)) ∙ c.loop-k.invariant

pub loop-k-preserved : goal.loop-k-preserved
loop-k-preserved c =
    let at = c.min-start.result + c.loop-k.k * 64 in
    let next : at + 64 ≡ c.min-start.result + (c.loop-k.k + 1) * 64 = omega arith in
    ap (λ (j : ℕ). all_zero (slice j c.min-end.result c.args.s.now)) (sym next)
    ∙ sym (zero_on c.args.s.now at c.min-end.result 64 (omega arith) (sym c.block_zero.ensures ∙ c.if-not-block_zero.false))
    ∙ c.loop-k.invariant
