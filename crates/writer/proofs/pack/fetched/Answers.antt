-- A deviation more is taken, and where none is left the last byte is filled.
use Rattle.std.proofs.Common.{◌≡◌, ◌<◌, ◌≤◌, ◌∙◌, length, get_or, arith, rules}
use Rattle.writer.proofs.Packs.{taken_ready, taken_left, filled_ready, filled_left}
use Rattle.writer.proofs.pack.fetched.Goals as goal

pub returns-in_default : goal.returns-in_default
returns-in_default c =
    let l = c.loop-have in
    let ds = c.args.ds.now in
    let none : length ds ≤ l.i = search rules in
    let few = c.loop-have-test.true in (
      filled_ready ds l.acc l.have l.i l.a l.b none few l.invariant.ready,
      omega arith,
      filled_left ds l.acc l.have l.i l.a l.b none few l.invariant.ready (rw l.invariant.same c.requires.1) ∙ l.invariant.same,
    )

pub loop-have-preserved : goal.loop-have-preserved
loop-have-preserved c =
    let l = c.loop-have in
    let ds = c.args.ds.now in
    let there : l.i < length ds = search rules in
    let is : c.from.result ≡ get_or ds l.i 0 = search rules in
    let few = c.loop-have-test.true in
    record {
      ready = taken_ready ds l.acc l.have l.i l.a l.b c.from.result there is few l.invariant.ready;
      same = taken_left ds l.acc l.have l.i l.a l.b c.from.result there is few l.invariant.ready ∙ l.invariant.same;
    }

pub returns : goal.returns
returns c = (c.loop-have.invariant.ready, c.loop-have-test.false, c.loop-have.invariant.same)
