-- What the exported functions that edit a tag in place answer and leave, as in Calls. Assumes nothing.
use Rattle.std.specs.Prelude.{ℕ, List, Result, Ok, Err}
use Rattle.format.specs.Bytes.{pick}
use Rattle.format.specs.Record.{Rec, rec_of}
use Rattle.edit.specs.Edit.{Edit, replaced_of, removed_of, appended_of}
use Rattle.edit.specs.Lift.{lifted_of}
use Rattle.capi.specs.Words.{heading_in}
use Rattle.capi.specs.Calls.{short, Left1, Left2}
use Rattle.capi.specs.Raises.{after_raise}
use Rattle.format.specs.declared.refusals.Refusal.{Refusal}

abbrev pub edit_number : Result Unit Refusal → ℕ
edit_number (Ok tt) = 0
edit_number (Err k) = k.number

-- the number, and the tag
abbrev pub after_edit : Edit → Left1
after_edit e = (edit_number e.0, e.1)

-- the record that is given by words and lists
abbrev pub given_rec : List ℕ → List ℕ → List ℕ → List ℕ → List ℕ → Rec
given_rec words name names rest deviations = rec_of (heading_in words) name names rest deviations

-- ---- sv_replace: tag

unfoldable pub sv_replace : List ℕ → ℕ → List ℕ → List ℕ → List ℕ → List ℕ → List ℕ → Left1
sv_replace tag number words name names rest deviations =
    pick (short 19 words) (20, tag) (after_edit (replaced_of tag number (given_rec words name names rest deviations)))

-- ---- sv_remove: tag

unfoldable pub sv_remove : List ℕ → ℕ → Left1
sv_remove tag number = after_edit (removed_of tag number)

-- ---- sv_append: tag

unfoldable pub sv_append : List ℕ → List ℕ → List ℕ → List ℕ → List ℕ → List ℕ → Left1
sv_append tag words name names rest deviations = pick (short 19 words) (20, tag) (after_edit (appended_of tag (given_rec words name names rest deviations)))

-- ---- sv_lift: tag, counter

unfoldable pub sv_lift : List ℕ → List ℕ → ℕ → List ℕ → Left2
sv_lift tag user amount counter = pick (short 1 counter) (20, tag, counter) (after_raise (lifted_of tag user amount) counter)
