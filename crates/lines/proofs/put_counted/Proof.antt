-- `lines::put_counted` meets its contract. Assumes nothing.
use borrow.Author.Rules.{rules}
use Rattle.lines.proofs.Puts.{andthen, room_left, front}
use Rattle.lines.proofs.put_counted.Statement.{statement}
use Rattle.lines.proofs.put_counted.Tie as tie

put_numbered_requires : tie.Need-put_numbered-next-requires
put_numbered_requires c κs =
    let at_start = c.before.before.before in
    front _ _ at_start.requires

put_requires : tie.Need-put-requires
put_requires c κs =
    let at_put_numbered_next = c.before.before.before.before.before in
    let at_start = at_put_numbered_next.before.before.before.before in
    room_left at_put_numbered_next.put_numbered-next.ensures at_start.requires

returns : tie.Need-returns
returns c =
    let at_put_numbered_next = c.before.before.before.before.before.before.before.before in
    andthen at_put_numbered_next.put_numbered-next.ensures c.before.before.put.ensures

pub put_counted_spec : {M : Type 1} → statement M
put_counted_spec =
    tie.close
    (tie.spec
    put_numbered_requires
    put_requires
    (λ c. search rules)
    returns)
