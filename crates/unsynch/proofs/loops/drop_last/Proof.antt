-- `unsynch::loops::drop_last` meets its contract. Assumes nothing.
use mathlib.Core.Path.{sym, ◌∙◌}
use Prim.Native.Nat.{◌+◌}
use mathlib.Core.Bool.{true, false}
use mathlib.Core.List.{◌∷◌}
use lib.ListN.{get_or}
use Rattle.laws.proofs.Stores.{Storing, begin, lies, same_list, put, done}
use Rattle.unsynch.specs.Edits.{resync_by, edited_after}
use Rattle.unsynch.proofs.Edits.{edited_end, stays}
use borrow.Author.Rules.{rules}
use native.Mathlib.Omega.{arith}
use Rattle.unsynch.proofs.loops.drop_last.Statement.{statement}
use Rattle.unsynch.proofs.loops.drop_last.Tie as tie

-- the byte is looked at: the arguments
abbrev start : tie.Then-stays → tie.Start
start c =
    let at_test = c.before.before.before.before in
    at_test.before.before.before

-- where it stays, it is left to store
byte_left : (c : tie.Then-stays)
    → let a = (start c).args in
    Storing a.buf.now a.at (edited_after resync_by a.s.now a.from a.to) a.buf.now a.at (get_or a.s.now (a.from + 1) 0 ∷ edited_after resync_by a.s.now (a.from + 1) a.to)
byte_left c =
    let a = (start c).args in
    same_list (stays a.s.now a.from a.to (omega arith) (omega arith) true (sym c.if-stays.true ∙ c.before.stays.ensures)) (begin _ _ _ (omega arith))

slice_write_buf : tie.Need-bounds-buf-at
slice_write_buf c = omega (arith, lies (byte_left c))

returns : tie.Need-returns-then-stays
returns c =
    let a = (start c).args in
    done (edited_end resync_by a.s.now (a.from + 1) a.to (omega arith)) (put (byte_left c))

returns_2 : tie.Need-returns-else-stays
returns_2 c =
    let at_start = c.before.before.before.before.before.before.before in
    let a = at_start.args in
    let goes = stays a.s.now a.from a.to (omega arith) (omega arith) false (sym c.if-stays.false ∙ c.before.stays.ensures) in
    done (goes ∙ edited_end resync_by a.s.now (a.from + 1) a.to (omega arith)) (begin _ _ _ (omega arith))

returns_3 : tie.Need-returns-else-from-to
returns_3 c =
    let at_start = c.before.before.before in
    let a = at_start.args in
    done (edited_end resync_by a.s.now a.from a.to (omega arith)) (begin _ _ _ (omega arith))

pub drop_last_spec : {M : Type 1} → statement M
drop_last_spec =
    tie.close
    (tie.spec
    (λ c. search rules)
    (λ c. search rules)
    (λ c. search rules)
    (λ c. search rules)
    (λ c κs. search rules)
    slice_write_buf
    (λ c. search rules)
    (λ c. search rules)
    returns
    returns_2
    returns_3)
