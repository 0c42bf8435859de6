-- `lines::put_numbered` meets its contract. Assumes nothing.
use borrow.Author.Rules.{rules}
use Rattle.lines.proofs.Puts.{andthen, room_left, front}
use Rattle.lines.proofs.put_numbered.Statement.{statement}
use Rattle.lines.proofs.put_numbered.Tie as tie

put_requires : tie.Need-put-next-requires
put_requires c κs =
    let at_start = c.before.before.before in
    front _ _ at_start.requires

put_decimal_requires : tie.Need-put_decimal-requires
put_decimal_requires c κs =
    let at_put_next = c.before.before.before in
    let at_start = at_put_next.before.before.before.before in
    room_left at_put_next.put-next.ensures at_start.requires

returns : tie.Need-returns
returns c =
    let at_put_next = c.before.before.before.before.before.before in
    andthen at_put_next.put-next.ensures c.before.before.put_decimal.ensures

pub put_numbered_spec : {M : Type 1} → statement M
put_numbered_spec = tie.close (tie.spec put_requires put_decimal_requires (λ c. search rules) returns)
