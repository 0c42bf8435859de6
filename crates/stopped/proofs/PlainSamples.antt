-- The promise on a plain tag that was cut speaks of something: a counter is raised in place, and the tag is cut, by computation. Assumes nothing.
use mathlib.Core.Path.{◌≡◌, refl}
use Prim.Native.Nat.{ℕ}
use mathlib.Core.Bool.{true, false}
use mathlib.Core.List.{List, [], ◌∷◌, ◌++◌}
use Rattle.format.specs.Bytes.{first, zero_at, named, ascii}
use Rattle.format.specs.Numbers.{digits, onto}
use Rattle.format.specs.Ids.{utf8_from, kind_of}
use Rattle.format.specs.Header.{ext_of, header_refusal}
use Rattle.format.specs.Frame.{head_of}
use Rattle.format.specs.Record.{popularimeter, Rec, body_refusal, run_of}
use Rattle.format.specs.Looks.{all_zero, frame_look, on_look, look_for, look_at, tag_look}
use Rattle.promises.specs.Metering.{counters_of}
use Rattle.promises.specs.Samples.{plain}
use Rattle.blocks.specs.Blocks.{blocks_for, and_records}
use Rattle.raise.specs.Raise.{body_in, is_mine, field_in, field_at, places_from, counted_tag, raise_to, raised_of}
use Rattle.stopped.specs.Stopped.{most_in}
use Rattle.stopped.specs.Plain.{plain_whole}
use Rattle.stopped.proofs.Samples.{Seen, seen_in, ends, then_short}
use Rattle.std.specs.Prelude.{Ok}

-- a 2.4 tag of two users, each with a counter of two bytes; a byte of padding, and sound behind
abbrev frame4 : ℕ → ℕ → ℕ → List ℕ
frame4 user high low = ascii "POPM" ++ (0 ∷ 0 ∷ 0 ∷ 5 ∷ 0 ∷ 0 ∷ user ∷ 0 ∷ 9 ∷ high ∷ low ∷ [])

abbrev two : ℕ → ℕ → List ℕ
two high low = ascii "ID3" ++ (4 ∷ 0 ∷ 0 ∷ 0 ∷ 0 ∷ 0 ∷ 31 ∷ frame4 0x61 high low ++ (frame4 0x62 0 1 ++ (0 ∷ 0xFF ∷ 0xFB ∷ [])))

-- the first one's counter is raised to 256, and the tag is plain again
pub raised : (raised_of (two 0 255) (ascii "a") 1 ≡ (Ok 256, two 1 0)) × (tag_look (two 1 0) ≡ Ok true)
unfolding
    kind_of first zero_at digits onto utf8_from ext_of header_refusal head_of body_refusal run_of blocks_for all_zero frame_look on_look look_for look_at tag_look body_in
    is_mine field_in field_at places_from counted_tag raise_to raised_of
raised = (refl, refl)

seen_then : ℕ → Seen
unfolding kind_of first digits onto utf8_from head_of body_refusal blocks_for most_in seen_in
seen_then n = seen_in (plain_whole n (two 1 0)) (two 1 0) n

abbrev both : List Rec
both = plain (named "POPM") (popularimeter (ascii "a") 9 256) ∷ plain (named "POPM") (popularimeter (ascii "b") 9 1) ∷ []

abbrev only : List Rec
only = plain (named "POPM") (popularimeter (ascii "a") 9 256) ∷ []

-- before the last byte of the second counter: the first one alone
in_counter : seen_then 39 ≡ (1, and_records only (then_short (named "POPM") (popularimeter (ascii "b") 9 0)), counters_of only, true ∷ [])
unfolding seen_then
in_counter = refl

-- before the padding both are there, and bytes are missing all the same
before_padding : seen_then 40 ≡ (2, and_records both ends, counters_of both, true ∷ [])
unfolding seen_then
before_padding = refl

-- at the tag's end, with the sound cut off
at_end : seen_then 41 ≡ (2, and_records both ends, counters_of both, false ∷ [])
unfolding seen_then
at_end = refl
