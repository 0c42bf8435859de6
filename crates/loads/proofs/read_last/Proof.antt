-- `loads::read_last` meets its contract. Assumes nothing.
use borrow.Author.Rules.{rules}
use Rattle.loads.proofs.Onto.{shifted_last}
use Rattle.loads.proofs.read_last.Statement.{statement}
use Rattle.loads.proofs.read_last.Tie as tie

returns : tie.Need-returns
returns c =
    let a = c.before.before.args in
    let p = c.before.before.requires in
    shifted_last 8 a.few a.to c.read_eight.result a.s.now p.3 p.0 p.1 (λ i. (c.before.shared_slice_known-1.given i).fits) c.read_eight.ensures

pub read_last_spec : {M : Type 1} → statement M
read_last_spec =
    tie.close
    (tie.spec (λ c. search rules) (λ c. search rules) (λ c. search rules) (λ c κs. search rules) (λ c. search rules) (λ c. search rules) returns)
