-- `lines::end_line` meets its contract. Assumes nothing.
use Rattle.format.specs.Listing.{end_line}
use borrow.Author.Rules.{rules}
use Rattle.lines.proofs.end_line.Statement.{statement}
use Rattle.lines.proofs.end_line.Tie as tie

returns : tie.Need-returns
unfolding end_line
returns c = c.before.before.counted_line.ensures

pub end_line_spec : {M : Type 1} → statement M
end_line_spec =
    tie.close
    (tie.spec
    (λ c κs. search rules)
    (λ c. search rules)
    returns)
