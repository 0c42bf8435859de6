-- `unsynch::loops::unsync_by` meets its contract. Assumes nothing.
use borrow.Author.Rules.{rules}
use Rattle.unsynch.proofs.loops.unsync_by.Statement.{statement}
use Rattle.unsynch.proofs.loops.unsync_by.Tie as tie

returns : tie.Need-returns-in-Off
returns c = rw c.in-Off.is

returns_2 : tie.Need-returns-in-Crate
returns_2 c = rw c.in-Crate.is

returns_3 : tie.Need-returns-in-Standard
returns_3 c = rw c.in-Standard.is

pub unsync_by_spec : {M : Type 1} → statement M
unsync_by_spec = tie.close (tie.spec (λ c. search rules) (λ c. search rules) (λ c. search rules) returns returns_2 returns_3)
