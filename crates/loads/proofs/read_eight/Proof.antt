-- `loads::read_eight` meets its contract. Assumes nothing.
use mathlib.Core.Path.{ap₂, ◌∙◌}
use Prim.Native.Nat.{ℕ, ◌+◌, ◌*◌}
use native.Mathlib.Omega.{arith}
use borrow.Author.Rules.{rules}
use Rattle.loads.proofs.Onto.{number_in_two}
use Rattle.loads.proofs.read_eight.Statement.{statement}
use Rattle.loads.proofs.read_eight.Tie as tie

returns : tie.Need-returns
returns c =
    let at_high = c.before.before in
    let start = at_high.before.before.before in
    ap₂ (λ (x y : ℕ). x * 0x100000000 + y)
    (at_high.from.ensures ∙ at_high.before.read_whole.ensures)
    (c.from-2.ensures ∙ c.before.read_whole-2.ensures)
    ∙ number_in_two start.args.at 4 4 start.args.s.now (omega arith)

pub read_eight_spec : {M : Type 1} → statement M
read_eight_spec =
    tie.close
    (tie.spec
    (λ c κs. search rules)
    (λ c κs. search rules)
    (λ c. search rules)
    (λ c. search rules)
    (λ c κs. search rules)
    (λ c κs. search rules)
    (λ c. search rules)
    returns)
