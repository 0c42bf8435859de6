-- A byte more is measured, until none is left.
use Rattle.std.proofs.Common.{◌≡◌, ap, length, arith}
use Rattle.laws.proofs.Pieces.{drop_none}
use Rattle.format.specs.Table.{pack}
use Rattle.writer.specs.Packs.{left}
use Rattle.writer.proofs.Puts.{measured, measured_all}
use Rattle.writer.proofs.Packs.{start_ready, start_left}
use Rattle.writer.proofs.pack.pace_packed.Goals as goal

pub loop-init : goal.loop-init
loop-init c =
    let a = c.args in
    let e : left (record { acc = 0; have = 0; i = 0; a = c.from.result; b = c.from-2.result }) a.ds.now ≡ pack a.v a.w a.ds.now =
    rw (c.from.ensures, c.from-2.ensures) (start_left a.v a.w a.ds.now) in
    record {
      ready = rw (c.from.ensures, c.from-2.ensures) (start_ready a.v a.w a.ds.now c.requires.0);
      many = omega (arith, ap length e, c.requires.1);
      measured = rw e (λ r p. p);
    }

pub next_byte-step-requires : goal.next_byte-step-requires
next_byte-step-requires c = (c.loop.invariant.ready, omega (arith, c.loop.invariant.many))

pub loop-preserved : goal.loop-preserved
loop-preserved c =
    let a = c.args in
    let l = c.loop in
    let n = c.next_byte-step in
    record {
      ready = n.ensures.0;
      many = omega (arith, l.invariant.many, ap length n.ensures.1);
      measured =
          measured a.mode a.pen (pack a.v a.w a.ds.now) l.next n.result.byte (left n.result.bits a.ds.now)
          (rw n.ensures.1 at l.invariant.measured)
          c.measure_byte-next.ensures;
    }

pub returns : goal.returns
returns c =
    let a = c.args in
    let l = c.loop in
    let e = drop_none (left l.bits a.ds.now) 0 (omega (arith, l.invariant.many)) in
    measured_all a.mode a.pen (pack a.v a.w a.ds.now) l.next (rw e at l.invariant.measured)
