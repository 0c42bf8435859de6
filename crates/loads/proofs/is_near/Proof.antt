-- `loads::is_near` meets its contract. Assumes nothing.
use Prim.Native.Nat.{◌-◌}
use native.Mathlib.Omega.{arith}
use borrow.Author.Rules.{rules}
use borrow.Author.Tests.{leb-true}
use Rattle.laws.proofs.Bools.{false_not_true}
use Rattle.loads.proofs.is_near.Statement.{statement}
use Rattle.loads.proofs.is_near.Tie as tie

returns : tie.Need-returns-then-from-to
returns c e =
    let at_start = c.before.before.before in
    let a = at_start.args in
    let few = leb-true (a.to - a.from) 8 e in
    record { within = omega arith; eight = omega arith; some = omega arith; few = omega arith }

returns_2 : tie.Need-returns-else-from-to
returns_2 c e = absurd (false_not_true e)

returns_3 : tie.Need-returns-else-to-ge8
returns_3 c e = absurd (false_not_true e)

returns_4 : tie.Need-returns-else-to-len
returns_4 c e = absurd (false_not_true e)

pub is_near_spec : {M : Type 1} → statement M
is_near_spec = tie.close (tie.spec (λ c. search rules) returns returns_2 returns_3 returns_4)
