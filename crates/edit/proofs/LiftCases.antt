-- Small tags by computation: a lift each way, each refusal beside what is just accepted, and two lifts of which only one order has room. Assumes nothing.
use mathlib.Core.Path.{◌≡◌, refl}
use Prim.Native.Nat.{ℕ, ◌+◌}
use mathlib.Core.List.{List, [], ◌∷◌, ◌++◌}
use lib.ListN.{replicate}
use Rattle.format.specs.Bytes.{first, zero_at, zeros_in, zeros, ascii}
use Rattle.format.specs.Numbers.{digits, onto}
use Rattle.format.specs.Unsynch.{unsync}
use Rattle.format.specs.Ids.{utf8_from, all_id_bytes, kind_of}
use Rattle.format.specs.Header.{ext_of, header_refusal}
use Rattle.format.specs.Frame.{head_of}
use Rattle.format.specs.Popularimeter.{stripped, counter_bytes}
use Rattle.format.specs.Chapter.{names_len}
use Rattle.format.specs.Record.{body_refusal, run_of}
use Rattle.format.specs.Encode.{body_bytes, encode, refusal_of}
use Rattle.format.specs.Looks.{all_zero, frame_look, on_look, look_for, look_at, tag_look}
use Rattle.blocks.specs.Blocks.{blocks_for, with_blocks}
use Rattle.raise.specs.Raise.{body_in, is_mine, field_in, field_at, places_from, counted_tag}
use Rattle.edit.specs.Edit.{fitted, put_in}
use Rattle.edit.specs.Lift.{lift_to, lifted_of}
use Rattle.std.specs.Prelude.{Ok, Err}
use Rattle.format.specs.Refusals.{refusal}

-- a tag of an edition: header with its size, then these bytes
abbrev tag_in : ℕ → ℕ → List ℕ → List ℕ
tag_in edition size s = ascii "ID3" ++ (edition ∷ 0 ∷ 0 ∷ 0 ∷ 0 ∷ 0 ∷ size ∷ s)

-- a frame of 2.3 and 2.4 with its two bytes of flags
abbrev frame_in : List ℕ → ℕ → ℕ → ℕ → List ℕ → List ℕ
frame_in id size status flags b = id ++ (0 ∷ 0 ∷ 0 ∷ size ∷ status ∷ flags ∷ b)

-- a popularimeter's body of user, rating 9 and counter bytes
abbrev rated : List ℕ → List ℕ → List ℕ
rated user counter = user ++ (0 ∷ 9 ∷ counter)

-- one of the user a, whose counter has so many bytes
abbrev meter : ℕ → List ℕ → List ℕ
meter n counter = frame_in (ascii "POPM") (3 + n) 0 0 (rated (ascii "a") counter)

-- one of the user b, with a counter of one byte
abbrev other : ℕ → List ℕ
other counter = frame_in (ascii "POPM") 4 0 0 (rated (ascii "b") (counter ∷ []))

-- two bytes of sound
abbrev sound : List ℕ
sound = 255 ∷ 251 ∷ []

-- alone in its tag, in each edition, with what follows it
abbrev alone2 : ℕ → ℕ → List ℕ → List ℕ → List ℕ
alone2 size n counter rest = tag_in 2 size (ascii "POP" ++ (0 ∷ 0 ∷ (3 + n) ∷ (rated (ascii "a") counter ++ rest)))

abbrev alone3 : ℕ → ℕ → List ℕ → List ℕ → List ℕ
alone3 size n counter rest = tag_in 3 size (meter n counter ++ rest)

abbrev alone4 : ℕ → ℕ → List ℕ → List ℕ → List ℕ
alone4 size n counter rest = tag_in 4 size (meter n counter ++ rest)

-- with a data length of four bytes in front of its body
abbrev lengthened : List ℕ
lengthened = frame_in (ascii "POPM") 8 0 1 (0 ∷ 0 ∷ 0 ∷ 4 ∷ rated (ascii "a") (255 ∷ []))

-- the smallest tag in which one order of two lifts lacks room: the empty user's frame, with a data length, and that of the user a; no counter bytes, no padding
abbrev nobodys : List ℕ
nobodys = frame_in (ascii "POPM") 6 0 1 (0 ∷ 0 ∷ 0 ∷ 2 ∷ rated [] [])

abbrev tight : List ℕ
tight = tag_in 4 29 (nobodys ++ meter 0 [])

-- when the empty user is lifted first
abbrev loosened : List ℕ
loosened = tag_in 4 29 (frame_in (ascii "POPM") 3 0 0 (rated [] (1 ∷ [])) ++ (meter 0 [] ++ zeros 3))

abbrev both_lifted : List ℕ
both_lifted = tag_in 4 29 (frame_in (ascii "POPM") 3 0 0 (rated [] (1 ∷ [])) ++ (meter 1 (1 ∷ []) ++ zeros 2))

-- inside a chapter, and nowhere else
abbrev inside : List ℕ
inside = tag_in 4 42 (frame_in (ascii "CHAP") 32 0 0 (0x63 ∷ 0 ∷ zeros 16 ++ meter 1 (7 ∷ [])))

pub record Computed : Type 0 where
  -- in the bytes
  pub within : lifted_of (alone4 16 1 (254 ∷ []) (zeros 2)) (ascii "a") 1 ≡ (Ok 255, alone4 16 1 (255 ∷ []) (zeros 2))
  pub within_wide : lifted_of (alone4 15 2 (0 ∷ 255 ∷ []) sound) (ascii "a") 1 ≡ (Ok 256, alone4 15 2 (1 ∷ 0 ∷ []) sound)
  pub twelve : lifted_of (alone4 25 12 (zeros 11 ++ (255 ∷ [])) []) (ascii "a") 1 ≡ (Ok 256, alone4 25 12 (zeros 10 ++ (1 ∷ 0 ∷ [])) [])
  pub nothing_more : lifted_of (alone4 13 0 [] []) (ascii "a") 0 ≡ (Ok 0, alone4 13 0 [] [])
  -- replaced, in each edition; the padding shrinks, and what follows the tag stays
  pub replaces_22 : lifted_of (alone2 12 1 (255 ∷ []) (zeros 2 ++ sound)) (ascii "a") 1 ≡ (Ok 256, alone2 12 2 (1 ∷ 0 ∷ []) (zeros 1 ++ sound))
  pub replaces_23 : lifted_of (alone3 16 1 (255 ∷ []) (zeros 2 ++ sound)) (ascii "a") 1 ≡ (Ok 256, alone3 16 2 (1 ∷ 0 ∷ []) (zeros 1 ++ sound))
  pub replaces_24 : lifted_of (alone4 16 1 (255 ∷ []) (zeros 2 ++ sound)) (ascii "a") 1 ≡ (Ok 256, alone4 16 2 (1 ∷ 0 ∷ []) (zeros 1 ++ sound))
  pub from_nothing : lifted_of (alone4 15 0 [] (zeros 2)) (ascii "a") 1 ≡ (Ok 1, alone4 15 1 (1 ∷ []) (zeros 1))
  -- an exact fit, and one byte too many: not the sound's
  pub fits : lifted_of (alone4 16 1 (255 ∷ []) (zeros 2 ++ sound)) (ascii "a") 65536 ≡ (Ok 65791, alone4 16 3 (1 ∷ 0 ∷ 255 ∷ []) sound)
  pub fits_most : (lifted_of (alone4 16 1 (255 ∷ []) (zeros 2 ++ sound)) (ascii "a") 0xFFFF00).0 ≡ Ok 0xFFFFFF
  pub fits_not : lifted_of (alone4 16 1 (255 ∷ []) (zeros 2 ++ sound)) (ascii "a") 0xFFFF01 ≡ (Err (refusal 20), alone4 16 1 (255 ∷ []) (zeros 2 ++ sound))
  pub no_padding : lifted_of (alone4 14 1 (255 ∷ []) sound) (ascii "a") 1 ≡ (Err (refusal 20), alone4 14 1 (255 ∷ []) sound)
  pub no_padding_22 : lifted_of (alone2 10 1 (255 ∷ []) sound) (ascii "a") 1 ≡ (Err (refusal 20), alone2 10 1 (255 ∷ []) sound)
  pub no_padding_23 : lifted_of (alone3 14 1 (255 ∷ []) sound) (ascii "a") 1 ≡ (Err (refusal 20), alone3 14 1 (255 ∷ []) sound)
  -- a data length is lost, and its bytes are zeros then, or serve the frame after it
  pub length_lost : lifted_of (tag_in 4 18 (lengthened ++ sound)) (ascii "a") 1 ≡ (Ok 256, tag_in 4 18 (meter 2 (1 ∷ 0 ∷ []) ++ (zeros 3 ++ sound)))
  pub length_kept : lifted_of (tag_in 4 18 lengthened) (ascii "a") 0 ≡ (Ok 255, tag_in 4 18 lengthened)
  pub frees : lifted_of (tag_in 4 32 (lengthened ++ other 255)) (ascii "a") 1 ≡ (Ok 256, tag_in 4 32 (meter 2 (1 ∷ 0 ∷ []) ++ (other 255 ++ zeros 3)))
  pub frees_none : (lifted_of (tag_in 4 32 (lengthened ++ other 255)) (ascii "b") 1).0 ≡ Err (refusal 20)
  -- the flags of a file's history are lost with the frame
  pub status_lost : lifted_of (tag_in 4 15 (frame_in (ascii "POPM") 4 0x40 0 (rated (ascii "a") (255 ∷ [])) ++ zeros 1)) (ascii "a") 1
      ≡ (Ok 256, tag_in 4 15 (meter 2 (1 ∷ 0 ∷ [])))
  pub status_kept : lifted_of (tag_in 4 14 (frame_in (ascii "POPM") 4 0x40 0 (rated (ascii "a") (254 ∷ [])))) (ascii "a") 1
      ≡ (Ok 255, tag_in 4 14 (frame_in (ascii "POPM") 4 0x40 0 (rated (ascii "a") (255 ∷ []))))
  -- the first of two, which moves the other, and the last
  pub moves : lifted_of (tag_in 4 30 (meter 1 (255 ∷ []) ++ (other 7 ++ (zeros 2 ++ sound)))) (ascii "a") 1
      ≡ (Ok 256, tag_in 4 30 (meter 2 (1 ∷ 0 ∷ []) ++ (other 7 ++ (zeros 1 ++ sound))))
  pub last : lifted_of (tag_in 4 30 (other 7 ++ (meter 1 (255 ∷ []) ++ (zeros 2 ++ sound)))) (ascii "a") 1
      ≡ (Ok 256, tag_in 4 30 (other 7 ++ (meter 2 (1 ∷ 0 ∷ []) ++ (zeros 1 ++ sound))))
  -- 64 bits
  pub largest : lifted_of (alone4 23 1 (255 ∷ []) (zeros 9)) (ascii "a") 0xFFFF_FFFF_FFFF_FF00
      ≡ (Ok 0xFFFF_FFFF_FFFF_FFFF, alone4 23 8 (replicate 8 255) (zeros 2))
  pub largest_one : (lifted_of (alone4 23 1 (255 ∷ []) (zeros 9)) (ascii "a") 0xFFFF_FFFF_FFFF_FF01).0 ≡ Err (refusal 43)
  pub large_first : (lifted_of (alone4 14 1 (255 ∷ []) []) (ascii "a") 0xFFFF_FFFF_FFFF_FF01).0 ≡ Err (refusal 43)
  -- as a raise
  pub absent : (lifted_of (alone4 14 1 (255 ∷ []) []) (ascii "b") 1).0 ≡ Err (refusal 41)
  pub chapter_only : (lifted_of inside (ascii "a") 1).0 ≡ Err (refusal 41)
  pub twice : (lifted_of (tag_in 4 29 (meter 1 (255 ∷ []) ++ (meter 1 (7 ∷ []) ++ zeros 1))) (ascii "a") 1).0 ≡ Err (refusal 42)
  pub not_zero : (lifted_of (alone4 16 1 (255 ∷ []) (0 ∷ 1 ∷ [])) (ascii "a") 1).0 ≡ Err (refusal 40)
  pub short_padding : (lifted_of (alone4 16 1 (255 ∷ []) (zeros 1)) (ascii "a") 1).0 ≡ Err (refusal 40)
  pub encrypted : (lifted_of (tag_in 4 16 (frame_in (ascii "POPM") 4 0 4 (rated (ascii "a") (255 ∷ [])) ++ zeros 2)) (ascii "a") 1).0 ≡ Err (refusal 8)
  -- one order has room, the other has not
  pub tight_first : lifted_of tight (ascii "a") 1 ≡ (Err (refusal 20), tight)
  pub loose_first : lifted_of tight [] 1 ≡ (Ok 1, loosened)
  pub loose_then : lifted_of loosened (ascii "a") 1 ≡ (Ok 1, both_lifted)

pub computed : Computed
unfolding kind_of first zero_at zeros_in digits onto unsync utf8_from all_id_bytes ext_of header_refusal head_of stripped counter_bytes names_len body_refusal run_of body_bytes encode refusal_of blocks_for with_blocks all_zero frame_look on_look look_for look_at tag_look body_in is_mine field_in field_at places_from counted_tag fitted put_in lift_to lifted_of
computed = record {
  within = refl;
  within_wide = refl;
  twelve = refl;
  nothing_more = refl;
  replaces_22 = refl;
  replaces_23 = refl;
  replaces_24 = refl;
  from_nothing = refl;
  fits = refl;
  fits_most = refl;
  fits_not = refl;
  no_padding = refl;
  no_padding_22 = refl;
  no_padding_23 = refl;
  length_lost = refl;
  length_kept = refl;
  frees = refl;
  frees_none = refl;
  status_lost = refl;
  status_kept = refl;
  moves = refl;
  last = refl;
  largest = refl;
  largest_one = refl;
  large_first = refl;
  absent = refl;
  chapter_only = refl;
  twice = refl;
  not_zero = refl;
  short_padding = refl;
  encrypted = refl;
  tight_first = refl;
  loose_first = refl;
  loose_then = refl;
}
