-- `unsynch::loops::edit_in` meets its contract. Assumes nothing.
use mathlib.Core.Path.{ap, ◌∙◌}
use mathlib.Core.List.{List}
use Prim.Native.Nat.{ℕ, ◌+◌}
use Rattle.laws.proofs.Stores.{lies, rest}
use lib.ListN.{set, get_or, length-set}
use lib.Seq.{take-set-le}
use Rattle.unsynch.specs.Edits.{stored}
use Rattle.unsynch.proofs.Edits.{same_front}
use Rattle.unsynch.proofs.Turns.{first_stored}
use borrow.Author.Rules.{rules}
use native.Mathlib.Omega.{arith}
use Rattle.unsynch.proofs.loops.edit_in.Statement.{statement}
use Rattle.unsynch.proofs.loops.edit_in.Tie as tie

slice_write_area : tie.Need-bounds-area-at
slice_write_area c =
    let a = c.before.before.args in
    (first_stored a.how a.area.now a.from a.to a.at a.area.now (omega arith) (omega arith) c.before.before.requires.1.0).0

edit_in_after_requires : tie.Need-edit_in_after-requires
edit_in_after_requires c κs =
    let at_start = c.before.before.before in
    let a = at_start.args in
    let x = get_or a.area.now a.from 0 in
    let same = same_front a.how (set a.area.now a.at x) a.area.now a.from a.to a.at (omega arith) (omega arith) (simp length-set (omega arith)) (omega arith) (take-set-le a.at a.area.now a.at x (omega arith)) in
    let first = first_stored a.how a.area.now a.from a.to a.at a.area.now (omega arith) (omega arith) at_start.requires.1.0 in
    (omega arith, (rw same (lies first.1), at_start.requires.1.1))

same_length : tie.Need-shape_of-area
same_length c = simp length-set at c.before.before.edit_in_after.auto.area

returns : tie.Need-returns
returns c =
    let at_start = c.before.before.before.before.before.before in
    let a = at_start.args in
    let x = get_or a.area.now a.from 0 in
    let same = same_front a.how (set a.area.now a.at x) a.area.now a.from a.to a.at (omega arith) (omega arith) (simp length-set (omega arith)) (omega arith) (take-set-le a.at a.area.now a.at x (omega arith)) in
    let first = first_stored a.how a.area.now a.from a.to a.at a.area.now (omega arith) (omega arith) at_start.requires.1.0 in
    c.before.before.edit_in_after.ensures
    ∙ ap (λ (l : List ℕ). stored l (a.at + 1) (set a.area.now a.at x)) same
    ∙ rest first.1

pub edit_in_spec : {M : Type 1} → statement M
edit_in_spec =
    tie.close
    (tie.spec
    (λ c. search rules)
    slice_write_area
    (λ c. search rules)
    edit_in_after_requires
    same_length
    returns)
