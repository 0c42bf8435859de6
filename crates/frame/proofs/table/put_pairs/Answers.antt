-- What is left to put, put from here on, gives what the whole gives.
use Rattle.std.proofs.Common.{◌*◌, take, refl, arith, length-take}
use Rattle.frame.proofs.Unpacking.{begin, lies, again, done}
use Rattle.frame.proofs.table.put_pairs.Goals as goal

pub loop-x-init : goal.loop-x-init
loop-x-init c =
    let a = c.args in
    let p = c.requires in
    begin (take (a.n * 2) a.out.now) a.v a.w a.b.now a.n p.0 p.1 p.3

pub bits_at-requires : goal.bits_at-requires
bits_at-requires c =
    let p = c.loop-x.invariant in
    (p.bit, p.narrow, lies p (omega (arith, length-take (c.args.n * 2) c.args.out.now)))

pub overflow_add-k : goal.overflow_add-k
overflow_add-k c = omega (arith, lies c.loop-x.invariant (omega (arith, length-take (c.args.n * 2) c.args.out.now)))

pub loop-x-preserved : goal.loop-x-preserved
loop-x-preserved c =
    rw c.from.ensures (again c.loop-x.invariant (omega (arith, length-take (c.args.n * 2) c.args.out.now)) c.bits_at.result c.bits_at.ensures)

pub returns : goal.returns
returns c =
    (refl, done c.args.out.now c.requires.2 c.loop-x.invariant (omega (arith, length-take (c.args.n * 2) c.args.out.now)))
