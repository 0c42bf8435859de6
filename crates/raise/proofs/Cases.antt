-- Small tags by computation: a raise, and each number that is this request's own. Assumes nothing.
use mathlib.Core.Path.{◌≡◌, refl}
use Prim.Native.Nat.{ℕ, ◌+◌}
use mathlib.Core.List.{List, [], ◌∷◌, ◌++◌}
use lib.ListN.{replicate}
use Rattle.format.specs.Bytes.{first, zero_at, zeros_in, zeros, ascii}
use Rattle.format.specs.Numbers.{digits, onto}
use Rattle.format.specs.Ids.{utf8_from, kind_of}
use Rattle.format.specs.Header.{ext_of, header_refusal}
use Rattle.format.specs.Frame.{head_of}
use Rattle.format.specs.Chapter.{names_len}
use Rattle.format.specs.Record.{body_refusal, run_of}
use Rattle.blocks.specs.Blocks.{blocks_for}
use Rattle.format.specs.Looks.{all_zero, frame_look, on_look, look_for, look_at, tag_look}
use Rattle.raise.specs.Raise.{body_in, is_mine, field_in, field_at, places_from, counted_tag, raise_to, raised_of}
use Rattle.std.specs.Prelude.{Ok, Err}
use Rattle.format.specs.Refusals.{refusal}

-- a 2.4 tag: header with its size, then these bytes
abbrev tag4 : ℕ → ℕ → List ℕ → List ℕ
tag4 flags size s = ascii "ID3" ++ (4 ∷ 0 ∷ flags ∷ 0 ∷ 0 ∷ 0 ∷ size ∷ s)

-- a frame with its flags, and a popularimeter's body of user, rating 9 and counter bytes
abbrev frame4 : List ℕ → ℕ → ℕ → List ℕ → List ℕ
frame4 id size flags b = id ++ (0 ∷ 0 ∷ 0 ∷ size ∷ 0 ∷ flags ∷ b)

abbrev rated : List ℕ → List ℕ → List ℕ
rated user counter = user ++ (0 ∷ 9 ∷ counter)

-- two users, a byte of padding, sound behind
abbrev two : List ℕ → List ℕ → List ℕ
two a b = tag4 0 31 (frame4 (ascii "POPM") 5 0 (rated (ascii "a") a) ++ (frame4 (ascii "POPM") 5 0 (rated (ascii "b") b) ++ (0 ∷ 255 ∷ 251 ∷ [])))

abbrev one : ℕ → List ℕ → List ℕ
one flags rest = tag4 0 16 (frame4 (ascii "POPM") 4 flags (rated (ascii "a") (7 ∷ [])) ++ rest)

-- one popularimeter, its counter's bytes given, in each edition; the size says the frame's body
abbrev alone : ℕ → ℕ → List ℕ → List ℕ → List ℕ
alone size flags user counter = tag4 0 (10 + size) (frame4 (ascii "POPM") size flags (rated user counter))

abbrev alone3 : List ℕ → List ℕ
alone3 counter = ascii "ID3" ++ (3 ∷ 0 ∷ 0 ∷ 0 ∷ 0 ∷ 0 ∷ 15 ∷ frame4 (ascii "POPM") 5 0 (rated (ascii "a") counter))

abbrev alone2 : List ℕ → List ℕ
alone2 counter = ascii "ID3" ++ (2 ∷ 0 ∷ 0 ∷ 0 ∷ 0 ∷ 0 ∷ 11 ∷ ascii "POP" ++ (0 ∷ 0 ∷ 5 ∷ rated (ascii "a") counter))

-- with a data length of four bytes in front of its body
abbrev lengthened : ℕ → List ℕ
lengthened counter = tag4 0 18 (frame4 (ascii "POPM") 8 1 (0 ∷ 0 ∷ 0 ∷ 4 ∷ rated (ascii "a") (counter ∷ [])))

-- inside a chapter, and nowhere else
abbrev inside : List ℕ
inside = tag4 0 42 (frame4 (ascii "CHAP") 32 0 (0x63 ∷ 0 ∷ zeros 16 ++ frame4 (ascii "POPM") 4 0 (rated (ascii "a") (7 ∷ []))))

pub record Computed : Type 0 where
  pub raises_23 : raised_of (alone3 (0 ∷ 255 ∷ [])) (ascii "a") 1 ≡ (Ok 256, alone3 (1 ∷ 0 ∷ []))
  pub raises_22 : raised_of (alone2 (0 ∷ 255 ∷ [])) (ascii "a") 1 ≡ (Ok 256, alone2 (1 ∷ 0 ∷ []))
  pub data_length : raised_of (lengthened 7) (ascii "a") 1 ≡ (Ok 8, lengthened 8)
  pub twelve : raised_of (alone 15 0 (ascii "a") (zeros 11 ++ (255 ∷ []))) (ascii "a") 1 ≡ (Ok 256, alone 15 0 (ascii "a") (zeros 10 ++ (1 ∷ 0 ∷ [])))
  pub no_bytes : raised_of (alone 3 0 (ascii "a") []) (ascii "a") 0 ≡ (Ok 0, alone 3 0 (ascii "a") [])
  pub no_bytes_one : (raised_of (alone 3 0 (ascii "a") []) (ascii "a") 1).0 ≡ Err (refusal 44)
  pub largest : raised_of (alone 11 0 (ascii "a") (replicate 8 255)) (ascii "a") 0 ≡ (Ok 0xFFFF_FFFF_FFFF_FFFF, alone 11 0 (ascii "a") (replicate 8 255))
  pub largest_one : (raised_of (alone 11 0 (ascii "a") (replicate 8 255)) (ascii "a") 1).0 ≡ Err (refusal 43)
  pub nobody : raised_of (alone 3 0 [] (7 ∷ [])) [] 1 ≡ (Ok 8, alone 3 0 [] (8 ∷ []))
  pub high_user : (raised_of (alone 4 0 (0xE9 ∷ []) (7 ∷ [])) (0xE9 ∷ []) 1).0 ≡ Ok 8
  pub chapter_only : (raised_of inside (ascii "a") 1).0 ≡ Err (refusal 41)
  pub raises : raised_of (two (0 ∷ 255 ∷ []) (0 ∷ 1 ∷ [])) (ascii "a") 1 ≡ (Ok 256, two (1 ∷ 0 ∷ []) (0 ∷ 1 ∷ []))
  pub other : raised_of (two (0 ∷ 255 ∷ []) (0 ∷ 1 ∷ [])) (ascii "b") 65534 ≡ (Ok 65535, two (0 ∷ 255 ∷ []) (255 ∷ 255 ∷ []))
  pub short_padding : (raised_of (one 0 (0 ∷ [])) (ascii "a") 1).0 ≡ Err (refusal 40)
  pub last_padding : (raised_of (one 0 (0 ∷ 0 ∷ [])) (ascii "a") 1).0 ≡ Ok 8
  pub not_zero : (raised_of (one 0 (0 ∷ 1 ∷ [])) (ascii "a") 1).0 ≡ Err (refusal 40)
  pub flagged : (raised_of (one 2 (0 ∷ 0 ∷ [])) (ascii "a") 1).0 ≡ Err (refusal 40)
  pub compressed : (raised_of (one 8 (0 ∷ 0 ∷ [])) (ascii "a") 1).0 ≡ Err (refusal 40)
  pub encrypted : (raised_of (one 4 (0 ∷ 0 ∷ [])) (ascii "a") 1).0 ≡ Err (refusal 8)
  pub absent : (raised_of (one 0 (0 ∷ 0 ∷ [])) (ascii "b") 1).0 ≡ Err (refusal 41)
  pub with_zero : (raised_of (one 0 (0 ∷ 0 ∷ [])) (ascii "a" ++ (0 ∷ [])) 1).0 ≡ Err (refusal 41)
  pub twice : (raised_of (tag4 0 28 (frame4 (ascii "POPM") 4 0 (rated (ascii "a") (7 ∷ [])) ++ frame4 (ascii "POPM") 4 0 (rated (ascii "a") (7 ∷ [])))) (ascii "a") 1).0
      ≡ Err (refusal 42)
  pub over : (raised_of (one 0 (0 ∷ 0 ∷ [])) (ascii "a") 0xFFFF_FFFF_FFFF_FFFF).0 ≡ Err (refusal 43)
  pub wide : (raised_of (one 0 (0 ∷ 0 ∷ [])) (ascii "a") 249).0 ≡ Err (refusal 44)
  pub full : (raised_of (one 0 (0 ∷ 0 ∷ [])) (ascii "a") 248).0 ≡ Ok 255

pub computed : Computed
unfolding kind_of first zero_at zeros_in digits onto utf8_from ext_of header_refusal head_of names_len body_refusal run_of blocks_for all_zero frame_look on_look look_for look_at tag_look body_in is_mine field_in field_at places_from counted_tag raise_to raised_of
computed = record {
  raises_23 = refl;
  raises_22 = refl;
  data_length = refl;
  twelve = refl;
  no_bytes = refl;
  no_bytes_one = refl;
  largest = refl;
  largest_one = refl;
  nobody = refl;
  high_user = refl;
  chapter_only = refl;
  raises = refl;
  other = refl;
  short_padding = refl;
  last_padding = refl;
  not_zero = refl;
  flagged = refl;
  compressed = refl;
  encrypted = refl;
  absent = refl;
  with_zero = refl;
  twice = refl;
  over = refl;
  wide = refl;
  full = refl;
}
