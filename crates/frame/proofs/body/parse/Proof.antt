-- `frame::body::parse` meets its contract. Assumes nothing.
use borrow.Author.Rules.{rules}
use Rattle.frame.proofs.body.parse.Statement.{statement}
use Rattle.frame.proofs.body.parse.Tie as tie

returns : tie.Need-returns-in-Text
returns c = rw c.before.in-Text.is c.parse.ensures

returns_2 : tie.Need-returns-in-Popularimeter
returns_2 c =
    let at_start = c.before.before.before in
    rw c.before.in-Popularimeter.is (c.parse-in-Popularimeter.ensures at_start.args.version)

returns_3 : tie.Need-returns-in-Table
returns_3 c =
    let at_start = c.before.before.before in
    rw c.before.in-Table.is (c.parse-in-Table.ensures at_start.args.version)

returns_4 : tie.Need-returns-in-Chapter
returns_4 c =
    let at_start = c.before.before.before in
    rw c.before.in-Chapter.is (c.parse_chapter.ensures at_start.args.version)

returns_5 : tie.Need-returns-in-Contents
returns_5 c =
    let at_start = c.before.before.before in
    rw c.before.in-Contents.is (c.parse_contents.ensures at_start.args.version)

returns_6 : tie.Need-returns-in-Raw
returns_6 c =
    let at_start = c.before.before.before in
    rw c.before.in-Raw.is (c.parse_raw.ensures at_start.args.version)

pub parse_spec : {M : Type 1} → statement M
parse_spec =
    tie.close
    (tie.spec
    (λ c. search rules)
    (λ c κs. search rules)
    (λ c. search rules)
    (λ c κs. search rules)
    (λ c. search rules)
    (λ c κs. search rules)
    (λ c. search rules)
    (λ c κs. search rules)
    (λ c. search rules)
    (λ c κs. search rules)
    (λ c. search rules)
    (λ c κs. search rules)
    returns
    returns_2
    returns_3
    returns_4
    returns_5
    returns_6)
