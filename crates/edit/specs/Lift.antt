-- A counter raised in its bytes, or where these are too few in a frame that takes more room (document 01, "Room inside the tag"; request j). Assumes nothing.
use Rattle.std.specs.Prelude.{ℕ, suc, ◌+◌, ◌^◌, false, List, [], ◌∷◌, length, ltb, Ok, Err}
use Rattle.format.specs.Bytes.{pick, named}
use Rattle.format.specs.Popularimeter.{rating_in, counter_of}
use Rattle.format.specs.Record.{Rec, popularimeter}
use Rattle.format.specs.Looks.{tag_look}
use Rattle.format.specs.declared.Version.{Version}
use Rattle.format.specs.declared.Version.TheVariants.{Id3v22, Id3v23, Id3v24}
use Rattle.raise.specs.Raise.{user_of, body_in, field_in, places_from, block_at, counted_tag, Answer, on_tag, tag_version, tag_blocks}
use Rattle.edit.specs.Edit.{Edit, put_in}
use Rattle.format.specs.Refusals.{refusal}

abbrev pub meter_id : Version → ℕ
meter_id Id3v22 = named "POP"
meter_id Id3v23 = named "POPM"
meter_id Id3v24 = named "POPM"

-- the popularimeter of a block, with another counter
abbrev pub recounted : Version → List ℕ → ℕ → Rec
recounted v block value = record {
  id = meter_id v;
  short = false;
  compressed = false;
  content = popularimeter (user_of (body_in v block)) (rating_in (body_in v block)) value;
}

-- the counter then, where the edit was accepted
abbrev pub counts_in : ℕ → Edit → Answer
counts_in value (Ok tt, tag) = (Ok value, tag)
counts_in value (Err k, tag) = (Err k, tag)

-- 43; then in the counter's bytes, or where a raise answers 44 the frame is replaced
unfoldable pub lift_to : Version → List (List ℕ) → ℕ → ℕ → List ℕ → Answer
lift_to v bs i value tag =
    pick (ltb value (2 ^ 64))
    (pick (ltb value (256 ^ length (field_in v (block_at bs i)))) (Ok value, counted_tag v bs i value tag)
    (counts_in value (put_in i (suc i) (recounted v (block_at bs i) value) tag)))
    (Err (refusal 43), tag)

-- 41, none; 42, two or more
abbrev pub lift_places : Version → List (List ℕ) → ℕ → List ℕ → List ℕ → Answer
lift_places v bs amount tag [] = (Err (refusal 41), tag)
lift_places v bs amount tag (i ∷ []) = lift_to v bs i (counter_of (field_in v (block_at bs i)) + amount) tag
lift_places v bs amount tag (i ∷ j ∷ l) = (Err (refusal 42), tag)

unfoldable pub lifted_of : List ℕ → List ℕ → ℕ → Answer
lifted_of tag user amount =
    on_tag tag (lift_places (tag_version tag) (tag_blocks tag) amount tag (places_from (tag_version tag) user 0 (tag_blocks tag))) (tag_look tag)
