-- What is left to show of `unsynch::blocks::any_ff`. Assumes nothing.
use Rattle.std.proofs.Common.{◌+◌, ap, ◌∙◌, ◌||◌, eqb, false, rules}
use Rattle.std.proofs.lemmas.Iterator.{YieldsList-from_slice}
use Rattle.std.proofs.lemmas.Iterator.Consumers.{fold_from_yields_List}
use Rattle.std.proofs.lemmas.Slice.{between_is}
use Rattle.std.specs.List.{between}
use Rattle.unsynch.specs.Edits.{any_ff}
use Rattle.unsynch.proofs.Edits.{any_found}
use Rattle.unsynch.proofs.blocks.any_ff.Goals as goal

pub returns : goal.returns
returns c =
    let a = c.args in
    let l = between a.i (a.i + a.n) a.s.now in
    fold_from_yields_List _ (λ any x. any || eqb x 255) false _ c.fold.ensures.ran (YieldsList-from_slice l cc) (λ a x b q k. search rules)
    ∙ any_found l false
    ∙ ap any_ff (between_is a.s.now a.i (a.i + a.n))
