-- `lines::put_id` meets its contract. Assumes nothing.
use borrow.Author.Rules.{rules}
use Rattle.lines.proofs.Numbers.{three_bytes, four_bytes}
use Rattle.lines.proofs.Parts.{four_long}
use Rattle.lines.proofs.Puts.{in_words}
use Rattle.lines.proofs.put_id.Statement.{statement}
use Rattle.lines.proofs.put_id.Tie as tie

put_requires : tie.Need-put-requires
put_requires c κs =
    let at_start = c.before.before.before.before in
    rw (c.before.before.in-Id3v22.is, ← three_bytes at_start.args.id) at at_start.requires

put_requires_2 : tie.Need-put-requires-in_default
put_requires_2 c κs =
    let at_start = c.before.before.before.before in
    rw (← four_long at_start.args.version c.before.before.in_default.in_default-own.keys2, ← four_bytes at_start.args.id) at at_start.requires

returns : tie.Need-returns-in-Id3v22
returns c =
    let at_in_Id3v22 = c.before.before.before.before.before in
    let at_start = at_in_Id3v22.before.before in
    rw at_in_Id3v22.in-Id3v22.is (in_words c.before.before.put.ensures (three_bytes at_start.args.id))

returns_2 : tie.Need-returns-in_default
returns_2 c =
    let at_in_default = c.before.before.before.before.before in
    let at_start = at_in_default.before.before in
    rw (← four_long at_start.args.version at_in_default.in_default.in_default-own.keys2) (in_words c.before.before.put-in_default.ensures (four_bytes at_start.args.id))

pub put_id_spec : {M : Type 1} → statement M
put_id_spec =
    tie.close
    (tie.spec
    (λ c. search rules)
    (λ c. search rules)
    (λ c. search rules)
    (λ c. search rules)
    (λ c. search rules)
    (λ c. search rules)
    (λ c. search rules)
    (λ c. search rules)
    put_requires
    (λ c. search rules)
    put_requires_2
    (λ c. search rules)
    returns
    (λ c. search rules)
    returns_2)
