-- 40 at once, or where the frames lie. Assumes nothing.
use mathlib.Core.Path.{sym, ◌∙◌}
use Rattle.reader.proofs.Opens.{region_start_lem, region_end_lem}
use Rattle.raise.proofs.Headed.{whole_refused, frames_told}
use Rattle.raise.proofs.frames.frames_found.Goals as goal

pub returns-then-is_whole : goal.returns-then-is_whole
returns-then-is_whole c = whole_refused c.args.tag.now c.args.h c.requires (sym c.is_whole.ensures ∙ c.if-is_whole.true)

pub returns : goal.returns
returns c =
    let tag = c.args.tag.now in
    let h = c.args.h in
    let end = c.min-end.result in
    frames_told tag h c.requires (sym c.is_whole.ensures ∙ c.if-is_whole.false)
    (region_start_lem tag h c.requires end c.min-end.ensures c.min.result c.min.ensures)
    (region_end_lem tag h c.requires end c.min-end.ensures)
    c.is_simple.ensures
