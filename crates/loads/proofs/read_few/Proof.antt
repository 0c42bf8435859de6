-- `loads::read_few` meets its contract. Assumes nothing.
use borrow.Author.Rules.{rules}
use Rattle.loads.proofs.read_few.Statement.{statement}
use Rattle.loads.proofs.read_few.Tie as tie

returns : tie.Need-returns
returns c = rw (← c.before.min.ensures) c.read_some.ensures

pub read_few_spec : {M : Type 1} → statement M
read_few_spec = tie.close (tie.spec (λ c κs. search rules) (λ c κs. search rules) returns)
