-- `unsynch::loops::fits` meets its contract. Assumes nothing.
use mathlib.Core.Path.{sym, ap}
use Prim.Native.Nat.{ℕ, ◌+◌, ◌≤◌}
use mathlib.Core.Bool.{false, ◌&&◌}
use borrow.Author.Tests.{le-leb}
use lib.ListN.{length}
use lib.Seq.{slice, length-slice}
use lib.Dec.{leb}
use Rattle.format.specs.Bytes.{pick}
use Rattle.unsynch.specs.Edits.{edited}
use Rattle.unsynch.proofs.Edits.{length_most}
use borrow.Author.Rules.{rules}
use native.Mathlib.Omega.{arith}
use Rattle.unsynch.proofs.loops.fits.Statement.{statement}
use Rattle.unsynch.proofs.loops.fits.Tie as tie

most_requires : tie.Need-most-requires
most_requires c κs = omega (arith, c.before.well_formed)

returns : tie.Need-returns-then-most-room
returns c =
    let at_start = c.before.before.before in
    let a = at_start.args in
    let part = slice a.from a.to a.s.now in
    let long = length-slice a.from a.to a.s.now (omega arith) in
    let most : length (edited a.how false part) ≤ a.room =
    omega (arith, length_most a.how at_start.requires.1 part, ap (λ (n : ℕ). pick (a.how.insert && a.how.zero) (n + n) n) long) in
    sym (le-leb _ _ most)

returns_2 : tie.Need-returns
returns_2 c =
    let at_start = c.before.before.before.before in
    ap (λ (n : ℕ). leb n at_start.args.room) c.edited_len.ensures

pub fits_spec : {M : Type 1} → statement M
fits_spec = tie.close (tie.spec (λ c. search rules) most_requires returns (λ c κs. omega arith) returns_2)
