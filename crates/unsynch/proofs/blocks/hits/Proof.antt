-- `unsynch::blocks::hits` meets its contract. Assumes nothing.
use mathlib.Core.Path.{sym, ◌∙◌}
use Prim.Native.Nat.{◌+◌}
use Rattle.unsynch.proofs.Edits.{no_ff}
use native.Mathlib.Omega.{arith}
use borrow.Author.Rules.{rules}
use Rattle.unsynch.proofs.blocks.hits.Statement.{statement}
use Rattle.unsynch.proofs.blocks.hits.Tie as tie

returns_2 : tie.Need-returns
returns_2 c =
    let at_start = c.before.before.before in
    let a = at_start.args in
    sym (no_ff a.how a.s.now 64 a.i (a.i + 64) (omega arith) (omega arith) (sym c.before.any_ff.ensures ∙ c.if-any_ff.false))

pub hits_spec : {M : Type 1} → statement M
hits_spec = tie.close (tie.spec (λ c κs. search rules) (λ c κs. search rules) (λ c. search rules) (λ c. search rules) returns_2)
