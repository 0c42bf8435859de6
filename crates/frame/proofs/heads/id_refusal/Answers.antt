-- The id, then the two flags. Assumes nothing.
use mathlib.Core.Path.{sym, ◌∙◌}
use Rattle.format.specs.Bytes.{first}
use Rattle.frame.proofs.heads.id_refusal.Goals as goal

pub returns-then-not-is_utf8 : goal.returns-then-not-is_utf8
unfolding first
returns-then-not-is_utf8 c = rw (sym c.is_utf8.ensures ∙ c.if-not-is_utf8.true)

pub returns-then-has : goal.returns-then-has
unfolding first
returns-then-has c = rw (sym c.is_utf8.ensures ∙ c.if-not-is_utf8.false, sym c.has.ensures ∙ c.if-has.true)

pub returns-then-has-2 : goal.returns-then-has-2
unfolding first
returns-then-has-2 c = rw (sym c.is_utf8.ensures ∙ c.if-not-is_utf8.false, sym c.has.ensures ∙ c.if-has.false, sym c.has-2.ensures ∙ c.if-has-2.true)

pub returns : goal.returns
unfolding first
returns c = rw (sym c.is_utf8.ensures ∙ c.if-not-is_utf8.false, sym c.has.ensures ∙ c.if-has.false, sym c.has-2.ensures ∙ c.if-has-2.false)
