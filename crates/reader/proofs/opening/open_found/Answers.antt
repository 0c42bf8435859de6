-- Frames that stay in the tag, and frames that are put into the work buffer. Assumes nothing.
use Rattle.std.proofs.lemmas.Result.{err_from_is_err_and}
use Rattle.reader.proofs.Opens.{Told, in_tag, in_work, too_small}
use Rattle.reader.proofs.opening.open_found.Goals as goal

pub returns-then-not-is_whole : goal.returns-then-not-is_whole
returns-then-not-is_whole c =
    let told : Told c.args.tag.now c.args.h c.region_of-region.result.start c.region_of-region.result.end c.is_whole.result =
    record { head = c.requires; starts = c.region_of-region.ensures.0; ends = c.region_of-region.ensures.1; says = c.is_whole.ensures } in
    in_tag told c.args.work.now c.if-not-is_whole.true c.ready.ensures

pub returns-in_err-n : goal.returns-in_err-n
returns-in_err-n c =
    let told : Told c.args.tag.now c.args.h c.region_of-region.result.start c.region_of-region.result.end c.is_whole.result =
    record { head = c.requires; starts = c.region_of-region.ensures.0; ends = c.region_of-region.ensures.1; says = c.is_whole.ensures } in
    let p = err_from_is_err_and c.from_residual.result c.from_residual.ensures.1 in
    rw (p.1, p.2) (too_small told c.args.work.now c.if-not-is_whole.false c.resync_into.ensures c.in_err-n.was)

pub returns : goal.returns
returns c =
    let told : Told c.args.tag.now c.args.h c.region_of-region.result.start c.region_of-region.result.end c.is_whole.result =
    record { head = c.requires; starts = c.region_of-region.ensures.0; ends = c.region_of-region.ensures.1; says = c.is_whole.ensures } in
    in_work told c.args.work.now c.if-not-is_whole.false c.resync_into.ensures c.in_ok-n.was c.ready-2.ensures
