-- The names passed, and those left from here on, are all.
use Rattle.std.proofs.Common.{◌≡◌, ◌+◌, ◌-◌, ◌≤◌, length, drop}
use Rattle.format.specs.Bytes.{zeros_in}
use Rattle.format.specs.Chapter.{names_len}
use Rattle.frame.proofs.chapter.names_len.Given as goal

abbrev pub invariant-loop : goal.invariant-loop
invariant-loop l = record {
  within : l.end ≤ length l.s;
  closed : zeros_in l.s ≡ l.counter + zeros_in (drop l.end l.s);
  taken : l.end + names_len (l.count - l.counter) (drop l.end l.s) ≡ names_len l.count l.s;
}
