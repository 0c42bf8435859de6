-- `lines::put_detail` meets its contract: calls that put one after another, or none. Assumes nothing.
use borrow.Author.Rules.{rules}
use Rattle.lines.proofs.Parts.{no_detail}
use Rattle.lines.proofs.Puts.{in_words, none, andthen, room_left, front}
use Rattle.lines.proofs.put_detail.Statement.{statement}
use Rattle.lines.proofs.put_detail.Tie as tie

put_requires : tie.Need-put-behind_word-requires
put_requires c κs =
    let at_in_Popularimeter = c.before.before.before in
    let at_start = at_in_Popularimeter.before.before.before in
    front _ _ (rw at_in_Popularimeter.in-Popularimeter.is at at_start.requires)

put_hex_requires : tie.Need-put_hex-behind_user-requires
put_hex_requires c κs =
    let at_put_behind_word = c.before.before.before in
    let at_in_Popularimeter = at_put_behind_word.before.before.before.before in
    let at_start = at_in_Popularimeter.before.before.before in
    front _ _ (room_left at_put_behind_word.put-behind_word.ensures (rw at_in_Popularimeter.in-Popularimeter.is at at_start.requires))

put_numbered_requires : tie.Need-put_numbered-behind_rating-requires
put_numbered_requires c κs =
    let at_put_hex_behind_user = c.before.before.before.before.before in
    let at_put_behind_word = at_put_hex_behind_user.before.before.before.before in
    let at_in_Popularimeter = at_put_behind_word.before.before.before.before in
    let at_start = at_in_Popularimeter.before.before.before in
    front _ _ (room_left at_put_hex_behind_user.put_hex-behind_user.ensures (room_left at_put_behind_word.put-behind_word.ensures (rw at_in_Popularimeter.in-Popularimeter.is at at_start.requires)))

put_numbered_requires_2 : tie.Need-put_numbered-requires
put_numbered_requires_2 c κs =
    let at_put_numbered_behind_rating = c.before.before.before.before.before in
    let at_put_hex_behind_user = at_put_numbered_behind_rating.before.before.before.before.before.before in
    let at_put_behind_word = at_put_hex_behind_user.before.before.before.before in
    let at_in_Popularimeter = at_put_behind_word.before.before.before.before in
    let at_start = at_in_Popularimeter.before.before.before in
    room_left at_put_numbered_behind_rating.put_numbered-behind_rating.ensures (room_left at_put_hex_behind_user.put_hex-behind_user.ensures (room_left at_put_behind_word.put-behind_word.ensures (rw at_in_Popularimeter.in-Popularimeter.is at at_start.requires)))

returns : tie.Need-returns-in-Popularimeter
returns c =
    let at_put_numbered_behind_rating = c.before.before.before.before.before.before.before.before in
    let at_put_hex_behind_user = at_put_numbered_behind_rating.before.before.before.before.before.before in
    let at_put_behind_word = at_put_hex_behind_user.before.before.before.before in
    let at_in_Popularimeter = at_put_behind_word.before.before.before.before in
    rw at_in_Popularimeter.in-Popularimeter.is (andthen at_put_behind_word.put-behind_word.ensures (andthen at_put_hex_behind_user.put_hex-behind_user.ensures (andthen at_put_numbered_behind_rating.put_numbered-behind_rating.ensures c.before.before.put_numbered.ensures)))

returns_2 : tie.Need-returns-in_default
returns_2 c =
    let at_start = c.before.before.before in
    let a = at_start.args in
    in_words (none a.out.now a.at) (no_detail a.fields c.in_default.in_default-own.keys2 0 a.user.now).1

pub put_detail_spec : {M : Type 1} → statement M
put_detail_spec =
    tie.close
    (tie.spec
    (λ c. search rules)
    put_requires
    put_hex_requires
    (λ c. search rules)
    put_numbered_requires
    put_numbered_requires_2
    (λ c. search rules)
    returns
    returns_2)
