-- How a raise comes to its answer: the search goes along with the look, frame by frame (document 01, "Raising a counter"; request f). Assumes nothing.
use Rattle.std.specs.Prelude.{ℕ, ◌+◌, ◌-◌, ◌^◌, Bool, true, false, ◌&&◌, List, [], ◌∷◌, length, ltb, leb, Result, Ok, Err}
use Rattle.std.proofs.lemmas.List.Edits.{sets}
use Rattle.format.specs.Bytes.{pick}
use Rattle.format.specs.Numbers.{bytes_of}
use Rattle.format.specs.Popularimeter.{counter_of}
use Rattle.format.specs.Looks.{tag_look}
use Rattle.format.specs.declared.Version.{Version}
use Rattle.blocks.specs.Blocks.{joined}
use Rattle.raise.specs.declared.users.Found.{Found}
use Rattle.raise.specs.declared.seeking.Sought.{Sought}
use Rattle.raise.specs.Frames.{looked_as}
use Rattle.raise.specs.Raise.{is_mine, field_in, field_at, Answer, tag_version, tag_blocks}
use Rattle.format.specs.declared.refusals.Refusal.{Refusal}
use Rattle.format.specs.Refusals.{refusal}

-- ---- along the frames

-- one more popularimeter, the user's or not
abbrev pub also_of : Found → Bool → ℕ → ℕ → ℕ → ℕ → Found
also_of f false begin start stop counter = f
also_of Found.None true begin start stop counter = Found.One begin start stop counter
also_of (Found.One a b c d) true begin start stop counter = Found.Many
also_of Found.Many true begin start stop counter = Found.Many

-- a block at a place
abbrev pub also_in : Version → List ℕ → Found → ℕ → List ℕ → Found
also_in v user f at b = also_of f (is_mine v user b) at (at + field_at v b) (at + length b) (counter_of (field_in v b))

-- blocks one after the other, the first at a place
unfoldable pub found_on : Version → List ℕ → Found → ℕ → List (List ℕ) → Found
found_on v user f at [] = f
found_on v user f at (b ∷ bs) = found_on v user (also_in v user f at b) (at + length b) bs

-- ---- what the search comes to

-- the one counter by its places
abbrev pub sought_with : ℕ → ℕ → ℕ → ℕ → ℕ → Sought
sought_with begin start stop counter last = record { begin = begin; start = start; stop = stop; counter = counter; last = last }

-- 41, 42, or the one; the last frame ends at `last`
abbrev pub sought_by : Found → ℕ → Result Sought Refusal
sought_by Found.None last = Err (refusal 41)
sought_by (Found.One begin start stop counter) last = Ok (sought_with begin start stop counter last)
sought_by Found.Many last = Err (refusal 42)

-- in blocks one after the other, the first at a place
unfoldable pub sought_on : Version → List ℕ → ℕ → List (List ℕ) → Result Sought Refusal
sought_on v user at bs = sought_by (found_on v user Found.None at bs) (at + length (joined bs))

unfoldable pub sought_of : List ℕ → List ℕ → Result Sought Refusal
sought_of tag user = looked_as (tag_look tag) (sought_on (tag_version tag) user 10 (tag_blocks tag))

-- ---- the raise

-- there are bytes from start up to stop
abbrev pub is_field : ℕ → ℕ → List ℕ → Bool
is_field start stop tag = leb start stop && leb stop (length tag)

-- the counter lies from start up to stop: 43, 44, or the sum in its place
unfoldable pub raised_at : ℕ → ℕ → ℕ → ℕ → List ℕ → Answer
raised_at start stop counter amount tag =
    let value = counter + amount in
    pick (ltb value (2 ^ 64))
    (pick (is_field start stop tag && ltb value (256 ^ (stop - start))) (Ok value, sets tag start (bytes_of (stop - start) value)) (Err (refusal 44), tag))
    (Err (refusal 43), tag)

abbrev pub raised_by : Result Sought Refusal → ℕ → List ℕ → Answer
raised_by (Err k) amount tag = (Err k, tag)
raised_by (Ok c) amount tag = raised_at c.start c.stop c.counter amount tag
