use Rattle.std.proofs.Common.{◌+◌, ◌*◌}
use Rattle.laws.proofs.Stores.{Storing}
use Rattle.unsynch.specs.Edits.{resync_by, edited_after}
use Rattle.unsynch.proofs.loops.drop_words.Given as goal

abbrev pub invariant-loop-k : goal.invariant-loop-k
invariant-loop-k l =
    Storing l.initial.buf l.at (edited_after resync_by l.s l.from l.to) l.buf l.o (edited_after resync_by l.s (l.from + l.k * 8) l.to)
