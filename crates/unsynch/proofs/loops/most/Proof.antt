-- `unsynch::loops::most` meets its contract. Assumes nothing.
use borrow.Author.Rules.{rules}
use Rattle.unsynch.proofs.loops.most.Statement.{statement}
use Rattle.unsynch.proofs.loops.most.Tie as tie

returns : tie.Need-returns-then-how
returns c = rw c.if-how.true

returns_2 : tie.Need-returns-else-how
returns_2 c = rw c.if-how.false

pub most_spec : {M : Type 1} → statement M
most_spec = tie.close (tie.spec (λ c. search rules) returns returns_2)
