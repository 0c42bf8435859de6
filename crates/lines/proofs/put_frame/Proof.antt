-- `lines::put_frame` meets its contract: calls that put one after another. Assumes nothing.
use Rattle.format.specs.Listing.{frame_line}
use Rattle.lines.proofs.Puts.{andthen, room_left, front, same}
use Rattle.lines.proofs.put_frame.Statement.{statement}
use Rattle.lines.proofs.put_frame.Tie as tie

put_numbered_requires : tie.Need-put_numbered-behind_number-requires
unfolding frame_line
put_numbered_requires c κs =
    let at_start = c.before.before.before.before.before in
    front _ _ at_start.requires

put_requires : tie.Need-put-behind_space-requires
unfolding frame_line
put_requires c κs =
    let at_put_numbered_behind_number = c.before.before.before.before.before in
    let at_start = at_put_numbered_behind_number.before.before.before.before.before.before in
    front _ _ (room_left at_put_numbered_behind_number.put_numbered-behind_number.ensures at_start.requires)

put_id_requires : tie.Need-put_id-behind_id-requires
unfolding frame_line
put_id_requires c κs =
    let at_put_behind_space = c.before.before.before in
    let at_put_numbered_behind_number = at_put_behind_space.before.before.before.before.before.before in
    let at_start = at_put_numbered_behind_number.before.before.before.before.before.before in
    front _ _ (room_left at_put_behind_space.put-behind_space.ensures (room_left at_put_numbered_behind_number.put_numbered-behind_number.ensures at_start.requires))

put_numbered_requires_2 : tie.Need-put_numbered-behind_place-requires
unfolding frame_line
put_numbered_requires_2 c κs =
    let at_put_id_behind_id = c.before.before.before.before.before in
    let at_put_behind_space = at_put_id_behind_id.before.before.before.before in
    let at_put_numbered_behind_number = at_put_behind_space.before.before.before.before.before.before in
    let at_start = at_put_numbered_behind_number.before.before.before.before.before.before in
    front _ _ (room_left at_put_id_behind_id.put_id-behind_id.ensures (room_left at_put_behind_space.put-behind_space.ensures (room_left at_put_numbered_behind_number.put_numbered-behind_number.ensures at_start.requires)))

put_body_requires : tie.Need-put_body-requires
unfolding frame_line
put_body_requires c κs =
    let at_put_numbered_behind_place = c.before.before.before in
    let at_put_id_behind_id = at_put_numbered_behind_place.before.before.before.before.before.before in
    let at_put_behind_space = at_put_id_behind_id.before.before.before.before in
    let at_put_numbered_behind_number = at_put_behind_space.before.before.before.before.before.before in
    let at_start = at_put_numbered_behind_number.before.before.before.before.before.before in
    room_left at_put_numbered_behind_place.put_numbered-behind_place.ensures (room_left at_put_id_behind_id.put_id-behind_id.ensures (room_left at_put_behind_space.put-behind_space.ensures (room_left at_put_numbered_behind_number.put_numbered-behind_number.ensures at_start.requires)))

returns : tie.Need-returns
unfolding frame_line
returns c =
    let at_put_numbered_behind_place = c.before.before.before.before.before.before in
    let at_put_id_behind_id = at_put_numbered_behind_place.before.before.before.before.before.before in
    let at_put_behind_space = at_put_id_behind_id.before.before.before.before in
    let at_put_numbered_behind_number = at_put_behind_space.before.before.before.before.before.before in
    andthen at_put_numbered_behind_number.put_numbered-behind_number.ensures (andthen at_put_behind_space.put-behind_space.ensures (andthen at_put_id_behind_id.put_id-behind_id.ensures (andthen at_put_numbered_behind_place.put_numbered-behind_place.ensures c.before.before.put_body.ensures)))

same_length : tie.Need-shape_of-out
same_length c = same (returns c)

pub put_frame_spec : {M : Type 1} → statement M
put_frame_spec =
    tie.close
    (tie.spec
    put_numbered_requires
    put_requires
    put_id_requires
    put_numbered_requires_2
    put_body_requires
    same_length
    returns)
