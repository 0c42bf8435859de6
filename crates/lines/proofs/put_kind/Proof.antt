-- `lines::put_kind` meets its contract. Assumes nothing.
use borrow.Author.Rules.{rules}
use Rattle.lines.proofs.put_kind.Statement.{statement}
use Rattle.lines.proofs.put_kind.Tie as tie

put_requires : tie.Need-put-requires
put_requires c κs =
    let at_in_Text = c.before.before.before in
    let at_start = at_in_Text.before.before in
    rw at_in_Text.in-Text.is at at_start.requires

put_requires_2 : tie.Need-put-requires-in-Popularimeter
put_requires_2 c κs =
    let at_in_Popularimeter = c.before.before.before in
    let at_start = at_in_Popularimeter.before.before in
    rw at_in_Popularimeter.in-Popularimeter.is at at_start.requires

put_requires_3 : tie.Need-put-requires-in-Table
put_requires_3 c κs =
    let at_in_Table = c.before.before.before in
    let at_start = at_in_Table.before.before in
    rw at_in_Table.in-Table.is at at_start.requires

put_requires_4 : tie.Need-put-requires-in-Chapter
put_requires_4 c κs =
    let at_in_Chapter = c.before.before.before in
    let at_start = at_in_Chapter.before.before in
    rw at_in_Chapter.in-Chapter.is at at_start.requires

put_requires_5 : tie.Need-put-requires-in-Contents
put_requires_5 c κs =
    let at_in_Contents = c.before.before.before in
    let at_start = at_in_Contents.before.before in
    rw at_in_Contents.in-Contents.is at at_start.requires

put_requires_6 : tie.Need-put-requires-in-Raw
put_requires_6 c κs =
    let at_in_Raw = c.before.before.before in
    let at_start = at_in_Raw.before.before in
    rw at_in_Raw.in-Raw.is at at_start.requires

returns : tie.Need-returns-in-Text
returns c =
    let at_in_Text = c.before.before.before.before.before.before in
    rw at_in_Text.in-Text.is c.before.before.put.ensures

returns_2 : tie.Need-returns-in-Popularimeter
returns_2 c =
    let at_in_Popularimeter = c.before.before.before.before.before.before in
    rw at_in_Popularimeter.in-Popularimeter.is c.before.before.put-in-Popularimeter.ensures

returns_3 : tie.Need-returns-in-Table
returns_3 c =
    let at_in_Table = c.before.before.before.before.before.before in
    rw at_in_Table.in-Table.is c.before.before.put-in-Table.ensures

returns_4 : tie.Need-returns-in-Chapter
returns_4 c =
    let at_in_Chapter = c.before.before.before.before.before.before in
    rw at_in_Chapter.in-Chapter.is c.before.before.put-in-Chapter.ensures

returns_5 : tie.Need-returns-in-Contents
returns_5 c =
    let at_in_Contents = c.before.before.before.before.before.before in
    rw at_in_Contents.in-Contents.is c.before.before.put-in-Contents.ensures

returns_6 : tie.Need-returns-in-Raw
returns_6 c =
    let at_in_Raw = c.before.before.before.before.before.before in
    rw at_in_Raw.in-Raw.is c.before.before.put-in-Raw.ensures

pub put_kind_spec : {M : Type 1} → statement M
put_kind_spec =
    tie.close
    (tie.spec
    (λ c. search rules)
    put_requires
    (λ c. search rules)
    put_requires_2
    (λ c. search rules)
    put_requires_3
    (λ c. search rules)
    put_requires_4
    (λ c. search rules)
    put_requires_5
    (λ c. search rules)
    put_requires_6
    (λ c. search rules)
    returns
    (λ c. search rules)
    returns_2
    (λ c. search rules)
    returns_3
    (λ c. search rules)
    returns_4
    (λ c. search rules)
    returns_5
    (λ c. search rules)
    returns_6)
