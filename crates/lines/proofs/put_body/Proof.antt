-- `lines::put_body` meets its contract: calls that put one after another. Assumes nothing.
use Rattle.lines.proofs.Puts.{andthen, room_left, front, same}
use Rattle.lines.proofs.put_body.Statement.{statement}
use Rattle.lines.proofs.put_body.Tie as tie

put_numbered_requires : tie.Need-put_numbered-behind_body-requires
put_numbered_requires c κs =
    let at_start = c.before.before.before.before.before in
    front _ _ at_start.requires

put_kind_requires : tie.Need-put_kind-behind_kind-requires
put_kind_requires c κs =
    let at_put_numbered_behind_body = c.before.before.before in
    let at_start = at_put_numbered_behind_body.before.before.before.before.before.before in
    front _ _ (room_left at_put_numbered_behind_body.put_numbered-behind_body.ensures at_start.requires)

put_short_requires : tie.Need-put_short-behind_short-requires
put_short_requires c κs =
    let at_put_kind_behind_kind = c.before.before.before in
    let at_put_numbered_behind_body = at_put_kind_behind_kind.before.before.before.before in
    let at_start = at_put_numbered_behind_body.before.before.before.before.before.before in
    front _ _ (room_left at_put_kind_behind_kind.put_kind-behind_kind.ensures (room_left at_put_numbered_behind_body.put_numbered-behind_body.ensures at_start.requires))

put_detail_requires : tie.Need-put_detail-behind_detail-requires
put_detail_requires c κs =
    let at_put_short_behind_short = c.before.before.before in
    let at_put_kind_behind_kind = at_put_short_behind_short.before.before.before.before in
    let at_put_numbered_behind_body = at_put_kind_behind_kind.before.before.before.before in
    let at_start = at_put_numbered_behind_body.before.before.before.before.before.before in
    front _ _ (room_left at_put_short_behind_short.put_short-behind_short.ensures (room_left at_put_kind_behind_kind.put_kind-behind_kind.ensures (room_left at_put_numbered_behind_body.put_numbered-behind_body.ensures at_start.requires)))

put_requires : tie.Need-put-requires
put_requires c κs =
    let at_put_detail_behind_detail = c.before.before.before.before.before in
    let at_put_short_behind_short = at_put_detail_behind_detail.before.before.before.before in
    let at_put_kind_behind_kind = at_put_short_behind_short.before.before.before.before in
    let at_put_numbered_behind_body = at_put_kind_behind_kind.before.before.before.before in
    let at_start = at_put_numbered_behind_body.before.before.before.before.before.before in
    room_left at_put_detail_behind_detail.put_detail-behind_detail.ensures (room_left at_put_short_behind_short.put_short-behind_short.ensures (room_left at_put_kind_behind_kind.put_kind-behind_kind.ensures (room_left at_put_numbered_behind_body.put_numbered-behind_body.ensures at_start.requires)))

returns : tie.Need-returns
returns c =
    let at_put_detail_behind_detail = c.before.before.before.before.before.before.before.before in
    let at_put_short_behind_short = at_put_detail_behind_detail.before.before.before.before in
    let at_put_kind_behind_kind = at_put_short_behind_short.before.before.before.before in
    let at_put_numbered_behind_body = at_put_kind_behind_kind.before.before.before.before in
    andthen at_put_numbered_behind_body.put_numbered-behind_body.ensures (andthen at_put_kind_behind_kind.put_kind-behind_kind.ensures (andthen at_put_short_behind_short.put_short-behind_short.ensures (andthen at_put_detail_behind_detail.put_detail-behind_detail.ensures c.before.before.put.ensures)))

same_length : tie.Need-shape_of-out
same_length c = same (returns c)

pub put_body_spec : {M : Type 1} → statement M
put_body_spec =
    tie.close
    (tie.spec
    put_numbered_requires
    put_kind_requires
    put_short_requires
    put_detail_requires
    put_requires
    same_length
    returns)
