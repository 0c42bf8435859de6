-- Raising a counter in place: found by its user among the top-level frames of a plain tag (document 01, "Raising a counter"; request f). Assumes nothing.
use Rattle.std.specs.Prelude.{ℕ, suc, ◌+◌, ◌^◌, Bool, true, false, ◌&&◌, List, [], ◌∷◌, length, take, drop, get_or, ltb, eqb, Result, Option, Ok, Err, Some, None}
use Rattle.std.proofs.lemmas.List.Edits.{sets}
use Rattle.format.specs.Bytes.{pick, zero_at}
use Rattle.format.specs.Numbers.{bytes_of}
use Rattle.format.specs.Header.{edition_of, version_of}
use Rattle.format.specs.Frame.{head_of}
use Rattle.format.specs.Popularimeter.{counter_of}
use Rattle.format.specs.Walk.{shown_kind}
use Rattle.format.specs.declared.Version.{Version}
use Rattle.format.specs.declared.Kind.{Kind}
use Rattle.format.specs.declared.Head.{Head}
use Rattle.blocks.specs.Blocks.{joined, blocks_in, region_in}
use Rattle.format.specs.Looks.{tag_look, Look}
use Rattle.format.specs.declared.refusals.Refusal.{Refusal}
use Rattle.format.specs.Refusals.{refusal}

-- ---- the counter's bytes

-- the field with another value, as long as it was: zeros stand in front
abbrev pub field_of : List ℕ → ℕ → List ℕ
field_of field value = bytes_of (length field) value

-- ---- a block that is a popularimeter

abbrev pub head_start : Result (Option Head) Refusal → ℕ
head_start (Ok None) = 0
head_start (Err k) = 0
head_start (Ok (Some h)) = h.start

abbrev pub head_kind : Version → Result (Option Head) Refusal → Kind
head_kind v (Ok None) = Kind.Raw
head_kind v (Err k) = Kind.Raw
head_kind v (Ok (Some h)) = shown_kind v h.id h.compressed

abbrev pub is_popularimeter : Kind → Bool
is_popularimeter Kind.Text = false
is_popularimeter Kind.Popularimeter = true
is_popularimeter Kind.Table = false
is_popularimeter Kind.Chapter = false
is_popularimeter Kind.Contents = false
is_popularimeter Kind.Raw = false

abbrev pub same_bytes : List ℕ → List ℕ → Bool
same_bytes [] [] = true
same_bytes [] (y ∷ t) = false
same_bytes (x ∷ s) [] = false
same_bytes (x ∷ s) (y ∷ t) = eqb x y && same_bytes s t

-- what stands before the first zero
abbrev pub user_of : List ℕ → List ℕ
user_of b = take (zero_at b) b

unfoldable pub body_in : Version → List ℕ → List ℕ
body_in v block = drop (head_start (head_of v 1 block)) block

-- a popularimeter of this user
unfoldable pub is_mine : Version → List ℕ → List ℕ → Bool
is_mine v user block = is_popularimeter (head_kind v (head_of v 1 block)) && same_bytes (user_of (body_in v block)) user

-- its counter's bytes, and how many bytes of the block stand before them
unfoldable pub field_in : Version → List ℕ → List ℕ
field_in v block = drop (zero_at (body_in v block) + 2) (body_in v block)

unfoldable pub field_at : Version → List ℕ → ℕ
field_at v block = head_start (head_of v 1 block) + (zero_at (body_in v block) + 2)

-- ---- the search

-- the numbers of the blocks that are this user's, counted from k
unfoldable pub places_from : Version → List ℕ → ℕ → List (List ℕ) → List ℕ
places_from v user k [] = []
places_from v user k (b ∷ bs) = let on = places_from v user (suc k) bs in pick (is_mine v user b) (k ∷ on) on

-- ---- the raise

abbrev pub block_at : List (List ℕ) → ℕ → List ℕ
block_at bs i = get_or bs i []

-- where the counter of the i-th block lies in the tag
abbrev pub place_of : Version → List (List ℕ) → ℕ → ℕ
place_of v bs i = 10 + (length (joined (take i bs)) + field_at v (block_at bs i))

-- the tag with this counter in the i-th block
unfoldable pub counted_tag : Version → List (List ℕ) → ℕ → ℕ → List ℕ → List ℕ
counted_tag v bs i value tag = sets tag (place_of v bs i) (field_of (field_in v (block_at bs i)) value)

abbrev pub Answer : Type 0
Answer = Result ℕ Refusal × List ℕ

-- 43, then 44
unfoldable pub raise_to : Version → List (List ℕ) → ℕ → ℕ → List ℕ → Answer
raise_to v bs i value tag =
    pick (ltb value (2 ^ 64))
    (pick (ltb value (256 ^ length (field_in v (block_at bs i)))) (Ok value, counted_tag v bs i value tag) (Err (refusal 44), tag))
    (Err (refusal 43), tag)

-- 41, none; 42, two or more
abbrev pub on_places : Version → List (List ℕ) → ℕ → List ℕ → List ℕ → Answer
on_places v bs amount tag [] = (Err (refusal 41), tag)
on_places v bs amount tag (i ∷ []) = raise_to v bs i (counter_of (field_in v (block_at bs i)) + amount) tag
on_places v bs amount tag (i ∷ j ∷ l) = (Err (refusal 42), tag)

abbrev pub on_tag : List ℕ → Answer → Look → Answer
on_tag tag on (Err k) = (Err k, tag)
on_tag tag on (Ok false) = (Err (refusal 40), tag)
on_tag tag on (Ok true) = on

abbrev pub tag_version : List ℕ → Version
tag_version tag = version_of (edition_of tag)

-- the blocks of a tag that has no extended header
abbrev pub tag_blocks : List ℕ → List (List ℕ)
tag_blocks tag = blocks_in (tag_version tag) (region_in tag)

unfoldable pub raised_of : List ℕ → List ℕ → ℕ → Answer
raised_of tag user amount =
    on_tag tag (on_places (tag_version tag) (tag_blocks tag) amount tag (places_from (tag_version tag) user 0 (tag_blocks tag))) (tag_look tag)
