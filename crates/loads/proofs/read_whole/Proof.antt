-- `loads::read_whole` meets its contract. Assumes nothing.
use mathlib.Core.Path.{◌∙◌}
use borrow.Author.Rules.{rules}
use Rattle.loads.proofs.Words.{swapped_little}
use Rattle.loads.proofs.read_whole.Statement.{statement}
use Rattle.loads.proofs.read_whole.Tie as tie

returns : tie.Need-returns
returns c =
    let start = c.before.before.before in
    c.swapped.ensures ∙ swapped_little start.args.at start.args.s.now c.before.little.result start.requires c.before.little.ensures

pub read_whole_spec : {M : Type 1} → statement M
read_whole_spec = tie.close (tie.spec (λ c κs. search rules) (λ c κs. search rules) returns)
