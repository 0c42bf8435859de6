-- What is left to show of `loads::read_some`. Assumes nothing.
use Rattle.std.proofs.Common.{◌+◌, ◌-◌, ◌*◌, ℕ, take, drop, refl, ap, ◌∙◌}
use native.Mathlib.Omega.{arith}
use lib.ListN.{length-take}
use Rattle.format.specs.Numbers.{onto}
use Rattle.loads.proofs.Onto.{number_next, onto_small, onto_grows, first_bytes, number_read}
use Rattle.loads.proofs.read_some.Goals as goal

pub loop-x-init : goal.loop-x-init
unfolding onto
loop-x-init c = record { same = refl; small = omega arith }

pub overflow_mul-n : goal.overflow_mul-n
overflow_mul-n c = let h = onto_small c.loop-x.x-index c.loop-x.n (omega arith) c.loop-x.invariant.small in omega arith

pub overflow_add-n : goal.overflow_add-n
overflow_add-n c = let h = onto_small c.loop-x.x-index c.loop-x.n (omega arith) c.loop-x.invariant.small in omega arith

pub loop-x-preserved : goal.loop-x-preserved
loop-x-preserved c =
    let L = c.loop-x in
    let b = take (c.min-start.result + c.min-few.result - c.min-start.result) (drop c.min-start.result c.args.s.now) in
    record {
      same = ap (λ (k : ℕ). k * 256 + c.from.result) L.invariant.same ∙ number_next b L.x-index c.from.result c.loop-x-test.true c.from.ensures;
      small = onto_grows L.x-index L.n c.from.result L.invariant.small (omega arith);
    }

pub returns : goal.returns
returns c =
    let a = c.args in
    let L = c.loop-x in
    let from = c.min-start.result in
    let few = c.min-few.result in
    let b = first_bytes a.s.now a.from a.to a.most c.min-end.result from few c.min-end.ensures c.min-start.ensures c.min-few.ensures in
    number_read L.x-index a.most (take (from + few - from) (drop from a.s.now)) _ L.n b L.invariant.same L.invariant.small (omega arith) (omega (arith, length-take {A = ℕ}))
