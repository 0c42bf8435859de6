-- `loads::read_cut` meets its contract. Assumes nothing.
use native.Mathlib.Omega.{arith}
use borrow.Author.Rules.{rules}
use Rattle.loads.proofs.Words.{number_none, number_one, number_two, number_left}
use Rattle.loads.proofs.read_cut.Statement.{statement}
use Rattle.loads.proofs.read_cut.Tie as tie

returns : tie.Need-returns-then-s-at
returns c =
    let start = c.before.before in
    number_none start.args.at start.args.s.now (omega arith)

returns_2 : tie.Need-returns-then-s-at-eq1
returns_2 c =
    let at_first = c.before in
    let start = at_first.before.before.before.before in
    rw at_first.from-one.ensures (number_one start.args.at start.args.s.now (omega arith))

returns_3 : tie.Need-returns-then-s-at-eq2
returns_3 c =
    let at_second = c.before in
    let at_first = at_second.before.before.before in
    let start = at_first.before.before.before.before in
    rw (at_first.from-one.ensures, at_second.from.ensures) (number_two start.args.at start.args.s.now (omega arith))

returns_4 : tie.Need-returns
returns_4 c =
    let at_second = c.before.before.before in
    let at_first = at_second.before.before.before in
    let start = at_first.before.before.before.before in
    rw (at_first.from-one.ensures, at_second.from.ensures, c.from-2.ensures) (number_left start.args.at start.args.s.now (omega arith))

pub read_cut_spec : {M : Type 1} → statement M
read_cut_spec =
    tie.close
    (tie.spec
    returns
    (λ c. search rules)
    (λ c κs. search rules)
    (λ c. search rules)
    returns_2
    (λ c. search rules)
    (λ c. search rules)
    (λ c. search rules)
    (λ c κs. search rules)
    (λ c. search rules)
    (λ c. search rules)
    returns_3
    (λ c. search rules)
    (λ c. search rules)
    (λ c. search rules)
    (λ c κs. search rules)
    (λ c. search rules)
    returns_4)
