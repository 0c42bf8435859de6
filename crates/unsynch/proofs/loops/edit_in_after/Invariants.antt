use Rattle.std.proofs.Common.{◌≡◌, ◌+◌, ◌-◌, ◌*◌, ◌≤◌, min, take}
use Rattle.laws.proofs.Stores.{Storing}
use Rattle.unsynch.specs.Edits.{edited_after}
use Rattle.unsynch.proofs.loops.edit_in_after.Given as goal

abbrev pub invariant-loop-k : goal.invariant-loop-k
invariant-loop-k l = record {
  behind : l.at ≤ l.o;
  front : take l.at l.area ≡ take l.at l.initial.area;
  storing : Storing l.initial.area l.at (edited_after l.how l.initial.area l.from l.to) l.area l.o
      (edited_after l.how l.initial.area (min (l.from + l.k * 1024) (l.to - 1)) l.to);
}
