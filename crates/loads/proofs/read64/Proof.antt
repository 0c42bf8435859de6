-- `loads::read64` meets its contract. Assumes nothing.
use mathlib.Core.Path.{◌∙◌}
use native.Mathlib.Omega.{arith}
use borrow.Author.Rules.{rules}
use Rattle.loads.proofs.Onto.{all_read}
use Rattle.loads.proofs.read64.Statement.{statement}
use Rattle.loads.proofs.read64.Tie as tie

sub_read_last : tie.Need-overflow_sub-to
sub_read_last c = let near = c.before.is_near.ensures c.if-is_near.true in omega arith

read_last_requires : tie.Need-read_last-requires
read_last_requires c κs =
    let near = c.before.is_near.ensures c.if-is_near.true in
    (omega arith, omega arith, omega arith, omega arith)

returns : tie.Need-returns-then-is_near
returns c =
    let at_start = c.before.before.before.before in
    let a = at_start.args in
    let near = c.before.before.is_near.ensures c.before.if-is_near.true in
    c.read_last.ensures ∙ all_read 8 a.from a.to a.s.now (omega arith) near.within near.few

pub read64_spec : {M : Type 1} → statement M
read64_spec =
    tie.close
    (tie.spec
    (λ c κs. search rules)
    sub_read_last
    read_last_requires
    returns
    (λ c κs. search rules)
    (λ c. search rules))
