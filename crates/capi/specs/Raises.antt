-- What the exported function that raises a counter answers and leaves, as in Calls. Assumes nothing.
use Rattle.std.specs.Prelude.{ℕ, List, set, Result, Ok, Err}
use Rattle.format.specs.Bytes.{pick}
use Rattle.raise.specs.Raise.{Answer, raised_of}
use Rattle.capi.specs.Calls.{short, Left1, Left2}
use Rattle.format.specs.declared.refusals.Refusal.{Refusal}

-- ---- sv_raise: tag, counter

-- the number, and the counter's word
abbrev pub after_raised : Result ℕ Refusal → List ℕ → Left1
after_raised (Ok n) counter = (0, set counter 0 n)
after_raised (Err k) counter = (k.number, counter)

-- with the tag between them
abbrev pub after_raise : Answer → List ℕ → Left2
after_raise a counter = ((after_raised a.0 counter).0, a.1, (after_raised a.0 counter).1)

unfoldable pub sv_raise : List ℕ → List ℕ → ℕ → List ℕ → Left2
sv_raise tag user amount counter = pick (short 1 counter) (20, tag, counter) (after_raise (raised_of tag user amount) counter)
