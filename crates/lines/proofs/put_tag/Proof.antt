-- `lines::put_tag` meets its contract: calls that put one after another. Assumes nothing.
use Rattle.format.specs.Listing.{tag_line}
use Rattle.lines.proofs.Puts.{andthen, room_left, front, same}
use Rattle.lines.proofs.put_tag.Statement.{statement}
use Rattle.lines.proofs.put_tag.Tie as tie

put_numbered_requires : tie.Need-put_numbered-behind_edition-requires
unfolding tag_line
put_numbered_requires c κs =
    let at_start = c.before.before.before.before in
    front _ _ at_start.requires

put_numbered_requires_2 : tie.Need-put_numbered-behind_size-requires
unfolding tag_line
put_numbered_requires_2 c κs =
    let at_put_numbered_behind_edition = c.before.before.before.before.before in
    let at_start = at_put_numbered_behind_edition.before.before.before.before.before in
    front _ _ (room_left at_put_numbered_behind_edition.put_numbered-behind_edition.ensures at_start.requires)

put_numbered_requires_3 : tie.Need-put_numbered-behind_flags-requires
unfolding tag_line
put_numbered_requires_3 c κs =
    let at_put_numbered_behind_size = c.before.before.before.before.before in
    let at_put_numbered_behind_edition = at_put_numbered_behind_size.before.before.before.before.before.before in
    let at_start = at_put_numbered_behind_edition.before.before.before.before.before in
    front _ _ (room_left at_put_numbered_behind_size.put_numbered-behind_size.ensures (room_left at_put_numbered_behind_edition.put_numbered-behind_edition.ensures at_start.requires))

put_numbered_requires_4 : tie.Need-put_numbered-behind_ext-requires
unfolding tag_line
put_numbered_requires_4 c κs =
    let at_put_numbered_behind_flags = c.before.before.before.before.before in
    let at_put_numbered_behind_size = at_put_numbered_behind_flags.before.before.before.before.before.before in
    let at_put_numbered_behind_edition = at_put_numbered_behind_size.before.before.before.before.before.before in
    let at_start = at_put_numbered_behind_edition.before.before.before.before.before in
    front _ _ (room_left at_put_numbered_behind_flags.put_numbered-behind_flags.ensures (room_left at_put_numbered_behind_size.put_numbered-behind_size.ensures (room_left at_put_numbered_behind_edition.put_numbered-behind_edition.ensures at_start.requires)))

put_requires : tie.Need-put-requires
unfolding tag_line
put_requires c κs =
    let at_put_numbered_behind_ext = c.before.before.before.before.before in
    let at_put_numbered_behind_flags = at_put_numbered_behind_ext.before.before.before.before.before.before in
    let at_put_numbered_behind_size = at_put_numbered_behind_flags.before.before.before.before.before.before in
    let at_put_numbered_behind_edition = at_put_numbered_behind_size.before.before.before.before.before.before in
    let at_start = at_put_numbered_behind_edition.before.before.before.before.before in
    room_left at_put_numbered_behind_ext.put_numbered-behind_ext.ensures (room_left at_put_numbered_behind_flags.put_numbered-behind_flags.ensures (room_left at_put_numbered_behind_size.put_numbered-behind_size.ensures (room_left at_put_numbered_behind_edition.put_numbered-behind_edition.ensures at_start.requires)))

returns : tie.Need-returns
unfolding tag_line
returns c =
    let at_put_numbered_behind_ext = c.before.before.before.before.before.before.before.before in
    let at_put_numbered_behind_flags = at_put_numbered_behind_ext.before.before.before.before.before.before in
    let at_put_numbered_behind_size = at_put_numbered_behind_flags.before.before.before.before.before.before in
    let at_put_numbered_behind_edition = at_put_numbered_behind_size.before.before.before.before.before.before in
    andthen at_put_numbered_behind_edition.put_numbered-behind_edition.ensures (andthen at_put_numbered_behind_size.put_numbered-behind_size.ensures (andthen at_put_numbered_behind_flags.put_numbered-behind_flags.ensures (andthen at_put_numbered_behind_ext.put_numbered-behind_ext.ensures c.before.before.put.ensures)))

same_length : tie.Need-shape_of-out
same_length c = same (returns c)

pub put_tag_spec : {M : Type 1} → statement M
put_tag_spec =
    tie.close
    (tie.spec
    put_numbered_requires
    put_numbered_requires_2
    put_numbered_requires_3
    put_numbered_requires_4
    put_requires
    same_length
    returns)
