use mathlib.Core.Path.{◌≡◌}
use Rattle.laws.proofs.Stores.{Storing}
use Rattle.format.specs.Bytes.{pick}
use Rattle.unsynch.specs.Edits.{edited_after}
use Rattle.unsynch.proofs.Edits.{guard_by}
use Rattle.unsynch.proofs.loops.insert_bytes.Given as goal

abbrev pub invariant-loop-i : goal.invariant-loop-i
invariant-loop-i l = record {
  top : l.top ≡ pick l.fn.how.high 0xDF 0xFF;
  storing : Storing l.initial.buf l.at (edited_after (guard_by l.top) l.s l.from l.to) l.buf l.o (edited_after (guard_by l.top) l.s l.i l.to);
}
