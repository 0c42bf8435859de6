-- `unsynch::loops::edited_len` meets its contract. Assumes nothing.
use Rattle.unsynch.proofs.Edits.{few_after, length_longer, length_shorter}
use borrow.Author.Rules.{rules}
use native.Mathlib.Omega.{arith}
use Rattle.unsynch.proofs.loops.edited_len.Statement.{statement}
use Rattle.unsynch.proofs.loops.edited_len.Tie as tie

add_result : tie.Need-overflow_add-result
add_result c =
    let at_start = c.before.before.before in
    let a = at_start.args in
    omega (arith, few_after a.how a.s.now a.from a.to (omega arith) (omega arith))

sub_result_3 : tie.Need-overflow_sub-result-else-how-2
sub_result_3 c =
    let at_start = c.before.before.before in
    let a = at_start.args in
    omega (arith, few_after a.how a.s.now a.from a.to (omega arith) (omega arith))

returns : tie.Need-returns-then-how
returns c =
    let at_start = c.before.before.before in
    let a = at_start.args in
    omega (arith, length_longer a.how a.s.now a.from a.to (omega arith) (omega arith) c.if-how.true)

returns_2 : tie.Need-returns-else-how
returns_2 c =
    let at_start = c.before.before.before in
    let a = at_start.args in
    omega (arith, length_shorter a.how a.s.now a.from a.to (omega arith) (omega arith) c.if-how.false)

pub edited_len_spec : {M : Type 1} → statement M
edited_len_spec =
    tie.close
    (tie.spec
    (λ c κs. search rules)
    (λ c. search rules)
    add_result
    (λ c. search rules)
    sub_result_3
    returns
    returns_2)
