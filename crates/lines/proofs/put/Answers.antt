-- A byte more is put.
use Rattle.std.proofs.Common.{refl}
use Rattle.lines.proofs.Puts.{begin, room, turn, done}
use Rattle.lines.proofs.put.Goals as goal

pub loop-byte-init : goal.loop-byte-init
loop-byte-init c = let a = c.args in begin (λ l. l) refl (λ a b. refl) a.bytes.now a.out.now a.at

pub put_byte-next-requires : goal.put_byte-next-requires
put_byte-next-requires c = room (λ l. l) refl (λ a b. refl) c.args.bytes.now c.loop-byte.invariant c.loop-byte-test.true c.requires

pub loop-byte-preserved : goal.loop-byte-preserved
loop-byte-preserved c = turn (λ l. l) refl (λ a b. refl) c.args.bytes.now c.loop-byte.invariant c.loop-byte-test.true c.put_byte-next.ensures

pub returns : goal.returns
returns c = done (λ l. l) refl (λ a b. refl) c.args.bytes.now c.loop-byte-test.false c.loop-byte.invariant
