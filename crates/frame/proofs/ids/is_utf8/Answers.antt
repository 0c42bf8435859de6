-- ASCII by all bits at once, and the rest byte by byte. Assumes nothing.
use Rattle.std.proofs.Common.{sym, ◌∙◌, bit_or, rules}
use Rattle.std.proofs.lemmas.List.{at_drop_all}
use Rattle.std.proofs.lemmas.Iterator.{YieldsList-from_slice}
use Rattle.std.proofs.lemmas.Iterator.Consumers.{fold_from_yields_List}
use Rattle.format.specs.Ids.{utf8_from}
use Rattle.frame.proofs.Utf8.{over, all_ascii}
use Rattle.frame.proofs.ids.is_utf8.Goals as goal

pub returns-then-fold-lt128 : goal.returns-then-fold-lt128
returns-then-fold-lt128 c =
    let l = c.args.id.now in
    let e = fold_from_yields_List _ bit_or 0 _ c.fold.ensures.ran (YieldsList-from_slice l cc) (λ a x b q k. search rules) in
    sym (all_ascii l 0 (rw e at c.if-fold-lt128.true))

pub returns : goal.returns
returns c =
    let t = c.loop-b.after in
    over t.count t.low t.high ∙ sym (at_drop_all (utf8_from t.count t.low t.high) c.args.id.now c.loop-b.b-index c.loop-b-test.false) ∙ c.loop-b.invariant
