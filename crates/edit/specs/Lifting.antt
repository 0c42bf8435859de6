-- How a lift comes to its answer: by what was sought, the counter raised in its bytes, or its frame replaced (document 01, "Room inside the tag"; request j). Assumes nothing.
use Rattle.std.specs.Prelude.{ℕ, ◌+◌, List, ◌∷◌, get_or, eqb, Result, Ok, Err}
use Rattle.format.specs.Bytes.{pick}
use Rattle.writer.specs.declared.between.Gap.{Gap}
use Rattle.writer.specs.Between.{placed_of}
use Rattle.raise.specs.declared.seeking.Sought.{Sought}
use Rattle.raise.specs.Raise.{Answer}
use Rattle.raise.specs.Promises.{counted}
use Rattle.raise.specs.Frames.{framed_of}
use Rattle.raise.specs.Seeks.{raised_at}
use Rattle.edit.specs.Lift.{meter_id, counts_in}
use Rattle.format.specs.declared.refusals.Refusal.{Refusal}
use Rattle.raise.specs.declared.frames.Framed.{Framed}

-- the byte before a place, 0 where there is none
abbrev pub byte_before : List ℕ → ℕ → ℕ
byte_before tag at = get_or (0 ∷ tag) at 0

abbrev pub gap_of : ℕ → ℕ → ℕ → ℕ → Gap
gap_of from to last end = record { from = from; to = to; last = last; end = end }

-- the frame from begin up to stop gives way to a popularimeter of the rating before start
abbrev pub outgrown_in : ℕ → ℕ → ℕ → ℕ → List ℕ → ℕ → List ℕ → Result Framed Refusal → Answer
outgrown_in begin start stop last user counter tag (Err k) = (Err k, tag)
outgrown_in begin start stop last user counter tag (Ok f) =
    counts_in counter (placed_of f.version (gap_of begin stop last f.end) (counted (meter_id f.version) user (byte_before tag start) counter) tag)

unfoldable pub outgrown_at : ℕ → ℕ → ℕ → ℕ → List ℕ → ℕ → List ℕ → Answer
outgrown_at begin start stop last user counter tag = outgrown_in begin start stop last user counter tag (framed_of tag)

-- a raise that was not refused with 44, or what is done there
abbrev pub or_else : Answer → Answer → Answer
or_else (Ok n, tag) on = (Ok n, tag)
or_else (Err k, tag) on = pick (eqb k.number 44) on (Err k, tag)

-- the frame begins at `begin`, its counter lies from start up to stop, and the last frame ends at `last`
unfoldable pub lifted_at : ℕ → ℕ → ℕ → ℕ → ℕ → List ℕ → ℕ → List ℕ → Answer
lifted_at begin start stop counter last user amount tag =
    or_else (raised_at start stop counter amount tag) (outgrown_at begin start stop last user (counter + amount) tag)

abbrev pub lifted_by : Result Sought Refusal → List ℕ → ℕ → List ℕ → Answer
lifted_by (Err k) user amount tag = (Err k, tag)
lifted_by (Ok c) user amount tag = lifted_at c.begin c.start c.stop c.counter c.last user amount tag
