-- `lines::put_byte` meets its contract. Assumes nothing.
use mathlib.Core.Path.{refl, sym}
use lib.Seq.{set_out}
use borrow.Author.Rules.{rules}
use Rattle.lines.proofs.put_byte.Statement.{statement}
use Rattle.lines.proofs.put_byte.Tie as tie

returns_2 : tie.Need-returns-else-at-out
returns_2 c =
    let a = c.before.args in
    record { next = refl; bytes = sym (set_out a.out.now a.at a.byte c.if-at-out.false) }

pub put_byte_spec : {M : Type 1} → statement M
put_byte_spec = tie.close (tie.spec (λ c. search rules) (λ c. search rules) (λ c. search rules) (λ c. search rules) returns_2)
