-- What is left to show of `walk::zeros::block_zero`. Assumes nothing.
use Rattle.std.proofs.Common.{◌+◌, ap, ◌∙◌, ◌&&◌, eqb, true, rules}
use Rattle.std.proofs.lemmas.Iterator.{YieldsList-from_slice}
use Rattle.std.proofs.lemmas.Iterator.Consumers.{fold_from_yields_List}
use Rattle.std.proofs.lemmas.Slice.{between_is}
use Rattle.std.specs.List.{between}
use Rattle.format.specs.Looks.{all_zero}
use Rattle.walk.proofs.Padding.{all_found}
use Rattle.walk.proofs.zeros.block_zero.Goals as goal

pub returns : goal.returns
returns c =
    let a = c.args in
    let l = between a.i (a.i + a.n) a.s.now in
    fold_from_yields_List _ (λ all x. all && eqb x 0) true _ c.fold.ensures.ran (YieldsList-from_slice l cc) (λ a x b q k. search rules)
    ∙ all_found l true
    ∙ ap all_zero (between_is a.s.now a.i (a.i + a.n))
