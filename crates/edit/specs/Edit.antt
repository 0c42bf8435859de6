-- One frame of the top level of a plain tag replaced, removed, or added after the last, the header as it was (document 01, "Room inside the tag"; request j). Assumes nothing.
use Rattle.std.specs.Prelude.{ℕ, suc, false, List, [], ◌∷◌, length, ltb, leb, eqb, Result, Ok, Err, true}
use Rattle.format.specs.Bytes.{pick}
use Rattle.format.specs.Header.{size_of}
use Rattle.format.specs.Record.{Rec}
use Rattle.format.specs.Encode.{refusal_of, encode}
use Rattle.format.specs.Looks.{tag_look, Look}
use Rattle.format.specs.declared.Mode.{Mode}
use Rattle.blocks.specs.Blocks.{joined, splice, with_blocks}
use Rattle.raise.specs.Raise.{tag_version, tag_blocks}
use Rattle.format.specs.declared.refusals.Refusal.{Refusal}
use Rattle.format.specs.Refusals.{refusal}

-- the answer, and the tag then
abbrev pub Edit : Type 0
Edit = Result Unit Refusal × List ℕ

abbrev pub refuse : ℕ → List ℕ → Edit
refuse k tag = (Err (refusal k), tag)

-- 20: the frames together are longer than the bytes that the header's size gives them; else they stand there, and zeros after them
unfoldable pub fitted : List (List ℕ) → List ℕ → Edit
fitted bs tag = pick (leb (length (joined bs)) (size_of tag)) (Ok tt, with_blocks bs tag) (refuse 20 tag)

-- the frame of a record, as adding writes it with mode off
abbrev pub frame_for : List ℕ → Rec → List ℕ
frame_for tag r = encode (tag_version tag) Mode.Off r

-- those of adding, with mode and mark off; then the record's frame in the place of the blocks from i up to j
unfoldable pub put_in : ℕ → ℕ → Rec → List ℕ → Edit
put_in i j r tag =
    let k = refusal_of (tag_version tag) Mode.Off false r in
    pick (eqb k 0) (fitted (splice i j (frame_for tag r ∷ []) (tag_blocks tag)) tag) (refuse k tag)

-- 46: no such frame number
abbrev pub numbered : ℕ → List ℕ → Edit → Edit
numbered i tag on = pick (ltb i (length (tag_blocks tag))) on (refuse 46 tag)

-- those of reading, and 40
abbrev pub on_plain : List ℕ → Edit → Look → Edit
on_plain tag on (Err k) = refuse k.number tag
on_plain tag on (Ok false) = refuse 40 tag
on_plain tag on (Ok true) = on

-- ---- the three edits

unfoldable pub replaced_of : List ℕ → ℕ → Rec → Edit
replaced_of tag i r = on_plain tag (numbered i tag (put_in i (suc i) r tag)) (tag_look tag)

unfoldable pub removed_of : List ℕ → ℕ → Edit
removed_of tag i = on_plain tag (numbered i tag (fitted (splice i (suc i) [] (tag_blocks tag)) tag)) (tag_look tag)

unfoldable pub appended_of : List ℕ → Rec → Edit
appended_of tag r = let n = length (tag_blocks tag) in on_plain tag (put_in n n r tag) (tag_look tag)
