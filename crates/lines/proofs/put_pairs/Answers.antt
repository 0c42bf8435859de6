-- A byte more is put in hexadecimal.
use Rattle.format.specs.Listing.{hex_in}
use Rattle.lines.proofs.Numbers.{no_pairs, pairs_join}
use Rattle.lines.proofs.Puts.{begin, room, turn, done}
use Rattle.lines.proofs.put_pairs.Goals as goal

pub loop-byte-init : goal.loop-byte-init
loop-byte-init c = let a = c.args in begin hex_in no_pairs pairs_join a.bytes.now a.out.now a.at

pub put_pair-next-requires : goal.put_pair-next-requires
put_pair-next-requires c = room hex_in no_pairs pairs_join c.args.bytes.now c.loop-byte.invariant c.loop-byte-test.true c.requires

pub loop-byte-preserved : goal.loop-byte-preserved
loop-byte-preserved c = turn hex_in no_pairs pairs_join c.args.bytes.now c.loop-byte.invariant c.loop-byte-test.true c.put_pair-next.ensures

pub returns : goal.returns
returns c = done hex_in no_pairs pairs_join c.args.bytes.now c.loop-byte-test.false c.loop-byte.invariant
