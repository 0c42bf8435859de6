-- `frame::body::parse_raw` meets its contract. Assumes nothing.
use borrow.Author.Rules.{rules}
use Rattle.format.specs.declared.Kind.{Kind}
use Rattle.frame.proofs.Bodies.{accepted, raw_taken, raw_parts}
use Rattle.frame.proofs.body.parse_raw.Statement.{statement}
use Rattle.frame.proofs.body.parse_raw.Tie as tie

returns : tie.Need-returns
returns c v =
    let at_start = c.before.before.before in
    let a = at_start.args in
    let b = c.before.part-b in
    accepted v Kind.Raw a.from b.result.now _ b.ensures _ (raw_taken b.result.now)
    (raw_parts v a.from b.result.now c.nowhere-none.result c.nowhere-none.ensures)

pub parse_raw_spec : {M : Type 1} → statement M
parse_raw_spec = tie.close (tie.spec (λ c κs. search rules) (λ c κs. search rules) returns)
