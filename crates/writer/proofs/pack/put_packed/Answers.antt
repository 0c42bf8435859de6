-- A byte more is put, until none is left.
use Rattle.std.proofs.Common.{◌≡◌, sym, ap, length, arith}
use Rattle.laws.proofs.Pieces.{drop_none}
use Rattle.format.specs.Table.{pack}
use Rattle.writer.specs.Packs.{left}
use Rattle.writer.proofs.Puts.{begin, same_list, lies, put, done}
use Rattle.writer.proofs.Packs.{start_ready, start_left}
use Rattle.writer.proofs.pack.put_packed.Goals as goal

pub loop-init : goal.loop-init
loop-init c =
    let a = c.args in
    let e : left (record { acc = 0; have = 0; i = 0; a = c.from.result; b = c.from-2.result }) a.ds.now ≡ pack a.v a.w a.ds.now =
    rw (c.from.ensures, c.from-2.ensures) (start_left a.v a.w a.ds.now) in
    record {
      ready = rw (c.from.ensures, c.from-2.ensures) (start_ready a.v a.w a.ds.now c.requires.packable);
      many = omega (arith, ap length e, c.packed_len-n.ensures);
      written = same_list (sym e) (begin a.mode a.pen (pack a.v a.w a.ds.now) a.buffer.now c.requires.ds_in_bounds);
    }

pub next_byte-step-requires : goal.next_byte-step-requires
next_byte-step-requires c = (c.loop.invariant.ready, omega (arith, c.loop.invariant.many))

pub put_byte-next-requires : goal.put_byte-next-requires
put_byte-next-requires c = lies (same_list c.next_byte-step.ensures.1 c.loop.invariant.written)

pub loop-preserved : goal.loop-preserved
loop-preserved c =
    let l = c.loop in
    let e = c.next_byte-step.ensures in
    record {
      ready = e.0;
      many = omega (arith, l.invariant.many, ap length e.1);
      written = put (same_list e.1 l.invariant.written) c.put_byte-next.ensures;
    }

pub returns : goal.returns
returns c =
    let l = c.loop in
    done (same_list (drop_none (left l.bits c.args.ds.now) 0 (omega (arith, l.invariant.many))) l.invariant.written)
