-- `unsynch::is_guarded` meets its contract. Assumes nothing.
use mathlib.Core.Path.{ap, ◌∙◌}
use mathlib.Core.Bool.{Bool, ◌&&◌}
use Rattle.unsynch.specs.declared.loops.How.{How}
use Rattle.unsynch.specs.Edits.{concerns}
use Rattle.unsynch.proofs.Edits.{guarded}
use borrow.Author.Rules.{rules}
use Rattle.unsynch.proofs.is_guarded.Statement.{statement}
use Rattle.unsynch.proofs.is_guarded.Tie as tie

returns : tie.Need-returns
returns c =
    let a = c.before.before.args in
    c.hit.ensures
    ∙ ap (λ (how : How). a.prev && concerns how a.b) c.before.unsync_by.ensures
    ∙ ap (λ (g : Bool). a.prev && g) (guarded a.mode a.b)

pub is_guarded_spec : {M : Type 1} → statement M
is_guarded_spec = tie.close (tie.spec (λ c κs. search rules) (λ c κs. search rules) returns)
