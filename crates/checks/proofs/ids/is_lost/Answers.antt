-- The ids of 2.3 and of 2.4 are the same. Assumes nothing.
use mathlib.Core.Logic.{inl, inr}
use Rattle.checks.proofs.Headings.{among_any}
use Rattle.checks.proofs.ids.is_lost.Goals as goal

pub returns-in-Id3v23 : goal.returns-in-Id3v23
returns-in-Id3v23 c =
    elim c.in-Id3v23.is [
      | inl e ↦ rw (e, c.if-not-altered.false, among_any) c.contains-in-Id3v23.ensures.value
      | inr e ↦ rw (e, c.if-not-altered.false, among_any) c.contains-in-Id3v23.ensures.value
    ]
