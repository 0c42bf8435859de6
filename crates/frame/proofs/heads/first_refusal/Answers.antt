-- The depth, then the id and the flags of the edition. Assumes nothing.
use mathlib.Core.Path.{sym, ap, ◌∙◌}
use borrow.Author.Tests.{le-ltb}
use Rattle.format.specs.Bytes.{first}
use Rattle.format.specs.Refusals.{passed}
use Rattle.format.specs.declared.Version.TheVariants.{Id3v23, Id3v24}
use Rattle.frame.proofs.Headers.{too_deep, not_deep}
use Rattle.frame.proofs.heads.first_refusal.Goals as goal

pub returns-then-depth-gt-DEEPEST : goal.returns-then-depth-gt-DEEPEST
returns-then-depth-gt-DEEPEST c = too_deep c.args.version c.args.depth c.args.b.now c.if-depth-gt-DEEPEST.true

pub returns-in-Id3v22 : goal.returns-in-Id3v22
unfolding first
returns-in-Id3v22 c = rw (c.in-Id3v22.is, le-ltb 8 c.args.depth c.if-depth-gt-DEEPEST.false, sym c.is_utf8.ensures ∙ c.if-is_utf8.true)

pub returns-in-Id3v22-2 : goal.returns-in-Id3v22-2
unfolding first
returns-in-Id3v22-2 c = rw (c.in-Id3v22.is, le-ltb 8 c.args.depth c.if-depth-gt-DEEPEST.false, sym c.is_utf8.ensures ∙ c.if-is_utf8.false)

pub returns-in-Id3v23 : goal.returns-in-Id3v23
returns-in-Id3v23 c =
    rw c.in-Id3v23.is (c.id_refusal.ensures ∙ ap passed (not_deep Id3v23 c.args.depth c.args.b.now c.if-depth-gt-DEEPEST.false))

pub returns-in-Id3v24 : goal.returns-in-Id3v24
returns-in-Id3v24 c =
    rw c.in-Id3v24.is (c.id_refusal-in-Id3v24.ensures ∙ ap passed (not_deep Id3v24 c.args.depth c.args.b.now c.if-depth-gt-DEEPEST.false))
