-- What was stored is the value's last bytes, and the rest of the value is left.
use Rattle.std.proofs.Common.{◌≡◌, ◌-◌, ◌^◌, ◌/◌, ◌≤◌}
use Rattle.std.proofs.lemmas.List.Edits.{sets}
use Rattle.format.specs.Numbers.{bytes_of}
use Rattle.raise.proofs.counter.put_value.Given as goal

abbrev pub invariant-loop-at : goal.invariant-loop-at
invariant-loop-at l = record {
  begun : l.start ≤ l.at;
  rest : l.left ≡ l.value / 256 ^ (l.stop - l.at);
  put : l.tag ≡ sets l.fn.tag l.at (bytes_of (l.stop - l.at) l.value);
}
