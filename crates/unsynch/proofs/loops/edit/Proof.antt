-- `unsynch::loops::edit` meets its contract. Assumes nothing.
use mathlib.Core.Path.{◌∙◌}
use mathlib.Core.Bool.{false}
use lib.ListN.{get_or}
use lib.Seq.{slice}
use mathlib.Core.List.{◌∷◌}
use Rattle.laws.proofs.Stores.{Storing, begin, same_list, put, lies, next_lies, rest}
use Rattle.unsynch.specs.Edits.{edited, edited_after}
use Rattle.unsynch.proofs.Edits.{plain_first}
use borrow.Author.Rules.{rules}
use native.Mathlib.Omega.{arith}
use Rattle.unsynch.proofs.loops.edit.Statement.{statement}
use Rattle.unsynch.proofs.loops.edit.Tie as tie

-- the first byte is to be put: the arguments
abbrev start : tie.After-shared_slice_known-2-1 → tie.Start
start c = c.before.before.before

-- it comes before the others
first : (c : tie.After-shared_slice_known-2-1) → let a = (start c).args in
    Storing a.buf.now a.at (edited a.how false (slice a.from a.to a.s.now))
    a.buf.now a.at (get_or a.s.now a.from 0 ∷ edited_after a.how a.s.now a.from a.to)
first c =
    let a = (start c).args in
    same_list (plain_first a.how a.s.now a.from a.to (omega arith) (omega arith)) (begin _ _ _ (start c).requires.1.0)

slice_write_buf : tie.Need-bounds-buf-at
slice_write_buf c = next_lies (first c)

edit_after_requires : tie.Need-edit_after-requires
edit_after_requires c κs =
    (omega arith, (lies (put (first c.before.before)), (start c.before.before).requires.1.1))

same_length : tie.Need-shape_of-buf-then-how
same_length c =
    c.before.before.edit_after.auto.buf ∙ (put (first c.before.before.before.before.before)).long

returns : tie.Need-returns-then-how
returns c =
    c.before.before.edit_after.ensures ∙ rest (put (first c.before.before.before.before.before))

edit_by_byte_requires : tie.Need-edit_by_byte-requires
edit_by_byte_requires c κs =
    (omega arith, (lies (put (first c.before.before)), (start c.before.before).requires.1.1))

same_length_2 : tie.Need-shape_of-buf
same_length_2 c =
    c.before.before.edit_by_byte.auto.buf ∙ (put (first c.before.before.before.before.before)).long

returns_2 : tie.Need-returns
returns_2 c =
    c.before.before.edit_by_byte.ensures ∙ rest (put (first c.before.before.before.before.before))

pub edit_spec : {M : Type 1} → statement M
edit_spec =
    tie.close
    (tie.spec
    (λ c. search rules)
    slice_write_buf
    (λ c. search rules)
    edit_after_requires
    same_length
    returns
    edit_by_byte_requires
    same_length_2
    returns_2)
