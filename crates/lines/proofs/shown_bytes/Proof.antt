-- `lines::shown_bytes` meets its contract. Assumes nothing.
use mathlib.Core.List.{[]}
use lib.ListN.{length}
use borrow.Author.Rules.{rules}
use Rattle.lines.proofs.Parts.{no_detail}
use Rattle.lines.proofs.shown_bytes.Statement.{statement}
use Rattle.lines.proofs.shown_bytes.Tie as tie

returns : tie.Need-returns-in-Popularimeter
returns c = rw c.in-Popularimeter.is

returns_2 : tie.Need-returns-in_default
returns_2 c = let a = c.before.args in (no_detail a.fields c.in_default.in_default-own.keys2 (length a.user.now) []).0

pub shown_bytes_spec : {M : Type 1} → statement M
shown_bytes_spec = tie.close (tie.spec (λ c. search rules) returns returns_2)
