-- `lines::put_hex` meets its contract. Assumes nothing.
use borrow.Author.Rules.{rules}
use Rattle.lines.proofs.Numbers.{hex_none, hex_some}
use Rattle.lines.proofs.Puts.{in_words}
use Rattle.lines.proofs.put_hex.Statement.{statement}
use Rattle.lines.proofs.put_hex.Tie as tie

put_byte_requires : tie.Need-put_byte-requires
put_byte_requires c κs =
    let at_start = c.before.before.before.before in
    rw (← hex_none _ c.before.if-bytes-eq0.true) at at_start.requires

put_pairs_requires : tie.Need-put_pairs-requires
put_pairs_requires c κs =
    let at_start = c.before.before.before.before in
    rw (← hex_some _ c.before.if-bytes-eq0.false) at at_start.requires

returns : tie.Need-returns-then-bytes-eq0
returns c =
    let at_if_bytes_eq0 = c.before.before.before.before in
    in_words c.before.before.put_byte.ensures (hex_none _ at_if_bytes_eq0.if-bytes-eq0.true)

returns_2 : tie.Need-returns-else-bytes-eq0
returns_2 c =
    let at_if_bytes_eq0 = c.before.before.before.before in
    in_words c.before.before.put_pairs.ensures (hex_some _ at_if_bytes_eq0.if-bytes-eq0.false)

pub put_hex_spec : {M : Type 1} → statement M
put_hex_spec =
    tie.close
    (tie.spec
    put_byte_requires
    put_pairs_requires
    (λ c. search rules)
    returns
    (λ c. search rules)
    returns_2)
