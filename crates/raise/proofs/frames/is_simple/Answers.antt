-- All bytes there, no extended header, not unsynchronised. Assumes nothing.
use Rattle.std.proofs.Common.{sym, ap, ◌∙◌, ◌+◌, length, not}
use borrow.Author.Tests.{lt-leb, not-true, not-false}
use Rattle.laws.proofs.Bools.{false_not_true}
use Rattle.raise.proofs.Simple.{bytes_missing, has_extended, says_simple}
use Rattle.raise.proofs.frames.is_simple.Goals as goal
use Rattle.raise.proofs.frames.is_simple.Goals.{then-tag-h, else-tag-h}

pub returns-then-not-has : goal.returns-then-not-has
returns-then-not-has c =
    let tag = c.args.tag.now in
    let h = c.args.h in
    elim c.if-tag-h.branch [
      | then-tag-h w ↦
          ap not c.has-then-not-has.ensures
          ∙ says_simple tag h c.requires w.if-tag-h.true (sym w.has.ensures ∙ not-true _ (sym w.value-is ∙ c.if-not-has.true))
      | else-tag-h w ↦
          absurd (false_not_true (sym (lt-leb (10 + h.size) (length tag) w.if-tag-h.false) ∙ sym w.value-is ∙ c.if-not-has.true))
    ]

pub returns-else-not-has : goal.returns-else-not-has
returns-else-not-has c =
    let tag = c.args.tag.now in
    let h = c.args.h in
    elim c.if-tag-h.branch [
      | then-tag-h w ↦ c.if-not-has.false ∙ has_extended tag h c.requires (sym w.has.ensures ∙ not-false _ (sym w.value-is ∙ c.if-not-has.false))
      | else-tag-h w ↦ c.if-not-has.false ∙ bytes_missing tag h c.requires w.if-tag-h.false
    ]
