-- Both ends. Assumes nothing.
use Rattle.reader.proofs.Opens.{region_start_lem, region_end_lem}
use Rattle.reader.proofs.headers.region_of.Goals as goal

pub returns : goal.returns
returns c =
    let end = c.end_of-end in (
      region_start_lem c.args.tag.now c.args.h c.requires end.result end.ensures c.min.result c.min.ensures,
      region_end_lem c.args.tag.now c.args.h c.requires end.result end.ensures,
    )
