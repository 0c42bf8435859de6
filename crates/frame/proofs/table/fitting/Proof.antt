-- `frame::table::fitting` meets its contract. Assumes nothing.
use native.Mathlib.Nat.{mod-lt}
use native.Mathlib.Omega.{arith}
use borrow.Author.Rules.{rules}
use Rattle.frame.proofs.Counts.{count_low, count_whole, count_capped}
use Rattle.frame.proofs.table.fitting.Statement.{statement}
use Rattle.frame.proofs.table.fitting.Tie as tie

returns : tie.Need-returns-then-eights-ge-TOO_MANY
returns c = let a = c.before.args in count_capped a.n a.sum c.before.requires.0 c.if-eights-ge-TOO_MANY.true

mul_result_2 : tie.Need-overflow_mul-result-2
mul_result_2 c = let a = c.before.args in omega (arith, mod-lt a.n c.before.requires.0)

add_result : tie.Need-overflow_add-result
add_result c = let a = c.before.args in omega (arith, count_low a.n a.sum c.before.requires.0)

returns_2 : tie.Need-returns
returns_2 c = let a = c.before.args in count_whole a.n a.sum c.before.requires.0 c.if-eights-ge-TOO_MANY.false

pub fitting_spec : {M : Type 1} → statement M
fitting_spec =
    tie.close
    (tie.spec
    (λ c. search rules)
    returns
    (λ c. search rules)
    (λ c. search rules)
    mul_result_2
    (λ c. search rules)
    add_result
    returns_2)
