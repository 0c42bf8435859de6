-- The byte goes out, and the other bits stay. Assumes nothing.
use mathlib.Core.Path.{sym, ◌∙◌}
use lib.ListN.{drop}
use Rattle.format.specs.Table.{spread}
use Rattle.writer.proofs.Packs.{byte, out_ready}
use Rattle.writer.proofs.pack.next_byte.Goals as goal

pub returns : goal.returns
returns c =
    let ds = c.args.ds.now in
    let full = c.fetched-full.result in
    let e = c.fetched-full.ensures in
    (out_ready ds full e.1 e.0, sym e.2 ∙ byte full.have full.acc (spread full.a full.b (drop full.i ds)) e.1)
