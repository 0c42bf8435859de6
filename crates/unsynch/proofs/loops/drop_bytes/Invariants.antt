use Rattle.laws.proofs.Stores.{Storing}
use Rattle.unsynch.specs.Edits.{resync_by, edited_after}
use Rattle.unsynch.proofs.loops.drop_bytes.Given as goal

abbrev pub invariant-loop-i : goal.invariant-loop-i
invariant-loop-i l = Storing l.initial.buf l.at (edited_after resync_by l.s l.from l.to) l.buf l.o (edited_after resync_by l.s l.i l.to)
