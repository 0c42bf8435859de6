-- `lines::put_pair` meets its contract. Assumes nothing.
use native.Mathlib.Omega.{arith}
use Rattle.format.specs.Listing.{hex_in}
use borrow.Author.Rules.{rules}
use Rattle.lines.proofs.Puts.{andthen}
use Rattle.lines.proofs.put_pair.Statement.{statement}
use Rattle.lines.proofs.put_pair.Tie as tie

put_byte_requires : tie.Need-put_byte-next-requires
unfolding hex_in
put_byte_requires c κs =
    let at_start = c.before.before.before in
    omega (arith, at_start.requires.below)

put_byte_requires_2 : tie.Need-put_byte-requires
unfolding hex_in
put_byte_requires_2 c κs =
    let at_put_byte_next = c.before.before.before.before in
    let at_start = at_put_byte_next.before.before.before.before in
    omega (arith, at_put_byte_next.put_byte-next.ensures.next, at_start.requires.below)

returns : tie.Need-returns
unfolding hex_in
returns c =
    let at_hex_digit_2 = c.before.before.before in
    let at_put_byte_next = at_hex_digit_2.before.before.before.before in
    let at_hex_digit = at_put_byte_next.before in
    rw (← at_hex_digit.hex_digit.ensures, ← at_hex_digit_2.hex_digit-2.ensures) (andthen at_put_byte_next.put_byte-next.ensures c.before.before.put_byte.ensures)

pub put_pair_spec : {M : Type 1} → statement M
put_pair_spec =
    tie.close
    (tie.spec
    (λ c κs. search rules)
    put_byte_requires
    (λ c κs. search rules)
    put_byte_requires_2
    (λ c. search rules)
    returns)
