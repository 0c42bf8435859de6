-- `lines::hex_digit` meets its contract. Assumes nothing.
use borrow.Author.Rules.{rules}
use borrow.Author.Tests.{lt-ltb, le-ltb}
use Rattle.lines.proofs.hex_digit.Statement.{statement}
use Rattle.lines.proofs.hex_digit.Tie as tie

returns : tie.Need-returns-then-d-lt10
returns c = rw (lt-ltb _ _ c.if-d-lt10.true)

returns_2 : tie.Need-returns-else-d-lt10
returns_2 c = rw (le-ltb _ _ c.if-d-lt10.false)

pub hex_digit_spec : {M : Type 1} → statement M
hex_digit_spec = tie.close (tie.spec (λ c. search rules) (λ c. search rules) returns returns_2)
