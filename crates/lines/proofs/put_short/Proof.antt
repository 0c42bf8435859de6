-- `lines::put_short` meets its contract. Assumes nothing.
use borrow.Author.Rules.{rules}
use Rattle.lines.proofs.put_short.Statement.{statement}
use Rattle.lines.proofs.put_short.Tie as tie

put_requires : tie.Need-put-requires
put_requires c κs =
    let at_if_short = c.before.before.before in
    let at_start = at_if_short.before.before in
    rw at_if_short.if-short.true at at_start.requires

put_requires_2 : tie.Need-put-requires-else-short
put_requires_2 c κs =
    let at_if_short = c.before.before.before in
    let at_start = at_if_short.before.before in
    rw at_if_short.if-short.false at at_start.requires

returns : tie.Need-returns-then-short
returns c =
    let at_if_short = c.before.before.before.before.before.before in
    rw at_if_short.if-short.true c.before.before.put.ensures

returns_2 : tie.Need-returns-else-short
returns_2 c =
    let at_if_short = c.before.before.before.before.before.before in
    rw at_if_short.if-short.false c.before.before.put-else-short.ensures

pub put_short_spec : {M : Type 1} → statement M
put_short_spec =
    tie.close
    (tie.spec
    put_requires
    put_requires_2
    (λ c. search rules)
    returns
    (λ c. search rules)
    returns_2)
