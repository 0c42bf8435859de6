-- What is left to show of `moves::shift`. Assumes nothing.
use borrow.Author.Rules.{rules}
use native.Mathlib.Omega.{arith}
use Rattle.moves.proofs.Moves.{stays, stays_there, no_part, not_there, no_room, shifted_down, shifted_up}
use Rattle.moves.proofs.shift.Goals as goal

pub returns-then-at-from : goal.returns-then-at-from
returns-then-at-from c = let a = c.args in stays_there a.s.now a.from a.to a.at c.if-at-from.true

pub returns-then-to-from : goal.returns-then-to-from
returns-then-to-from c = let a = c.args in stays a.s.now a.from a.to a.at (no_part a.s.now a.from a.to a.at (omega arith))

pub returns-then-s-to : goal.returns-then-s-to
returns-then-s-to c = let a = c.args in stays a.s.now a.from a.to a.at (not_there a.s.now a.from a.to a.at (omega arith) (omega arith))

pub returns-then-s-n : goal.returns-then-s-n
returns-then-s-n c = let a = c.args in stays a.s.now a.from a.to a.at (no_room a.s.now a.from a.to a.at (omega arith) (omega arith) (omega arith))

pub returns-then-at-from-2 : goal.returns-then-at-from-2
returns-then-at-from-2 c =
    let a = c.args in
    shifted_down a.s.now a.from a.to a.at (omega arith) (omega arith) (omega arith) (omega arith) c.move_down.ensures
    (c.fill.ensures.after (λ y h. search rules))

pub returns : goal.returns
returns c = let a = c.args in shifted_up a.s.now a.from a.to a.at (omega arith) (omega arith) (omega arith) (omega arith) c.move_up.ensures
