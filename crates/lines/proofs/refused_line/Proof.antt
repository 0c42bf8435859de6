-- `lines::refused_line` meets its contract. Assumes nothing.
use Rattle.format.specs.Listing.{refused_line}
use borrow.Author.Rules.{rules}
use Rattle.lines.proofs.refused_line.Statement.{statement}
use Rattle.lines.proofs.refused_line.Tie as tie

returns : tie.Need-returns
unfolding refused_line
returns c = c.before.before.counted_line.ensures

pub refused_line_spec : {M : Type 1} → statement M
refused_line_spec =
    tie.close
    (tie.spec
    (λ c κs. search rules)
    (λ c. search rules)
    returns)
