-- Small tags by computation: each edit, each number that is this request's own, and its nearest neighbour that passes. Assumes nothing.
use mathlib.Core.Path.{◌≡◌, refl}
use Prim.Native.Nat.{ℕ, ◌^◌}
use mathlib.Core.List.{List, [], ◌∷◌, ◌++◌}
use Rattle.format.specs.Bytes.{first, zero_at, zeros_in, zeros, named, ascii}
use Rattle.format.specs.Numbers.{digits, onto}
use Rattle.format.specs.Unsynch.{unsync}
use Rattle.format.specs.Ids.{utf8_from, all_id_bytes, kind_of}
use Rattle.format.specs.Header.{ext_of, header_refusal}
use Rattle.format.specs.Frame.{head_of}
use Rattle.format.specs.Text.{zero_pair_at, trimmed, closing}
use Rattle.format.specs.Popularimeter.{stripped, counter_bytes}
use Rattle.format.specs.Chapter.{names_len}
use Rattle.format.specs.Record.{Rec, text, popularimeter, chapter, raw, body_refusal, run_of}
use Rattle.format.specs.Walk.{inside_of, on_head, step_of, walk_bytes, walked}
use Rattle.format.specs.Encode.{body_bytes, encode, refusal_of}
use Rattle.format.specs.Looks.{all_zero, frame_look, on_look, look_for, look_at, tag_look}
use Rattle.promises.specs.Samples.{plain}
use Rattle.blocks.specs.Blocks.{blocks_for, with_blocks}
use Rattle.edit.specs.Edit.{Edit, fitted, put_in, replaced_of, removed_of, appended_of}
use Rattle.std.specs.Prelude.{Ok, Err}
use Rattle.format.specs.Refusals.{refusal}
use mathlib.Core.Bool.{true, false}

-- ---- tags of frames, in each edition: the size, then these bytes and three bytes of sound

abbrev sound : List ℕ
sound = 255 ∷ 251 ∷ 144 ∷ []

abbrev tag_in : ℕ → ℕ → ℕ → List ℕ → List ℕ
tag_in edition flags size s = ascii "ID3" ++ (edition ∷ 0 ∷ flags ∷ 0 ∷ 0 ∷ 0 ∷ size ∷ s ++ sound)

abbrev frame : List ℕ → ℕ → ℕ → List ℕ → List ℕ
frame id size flags b = id ++ (0 ∷ 0 ∷ 0 ∷ size ∷ 0 ∷ flags ∷ b)

abbrev small : List ℕ → ℕ → List ℕ → List ℕ
small id size b = id ++ (0 ∷ 0 ∷ size ∷ b)

-- ---- 2.4: a user's counter, a title, four bytes of padding

abbrev meter : List ℕ → ℕ → Rec
meter user counter = plain (named "POPM") (popularimeter user 9 counter)

abbrev counted : ℕ → List ℕ → List ℕ → List ℕ
counted size user counter = frame (ascii "POPM") size 0 (user ++ (0 ∷ 9 ∷ counter))

abbrev mine : List ℕ
mine = counted 4 (ascii "a") (7 ∷ [])

abbrev title : Rec
title = plain (named "TIT2") (text 0 (ascii "t"))

abbrev titled : List ℕ
titled = frame (ascii "TIT2") 2 0 (0 ∷ ascii "t")

abbrev two : List ℕ
two = tag_in 4 0 30 (mine ++ (titled ++ zeros 4))

abbrev done : List ℕ → Edit
done s = (Ok tt, tag_in 4 0 30 s)

-- a frame whose data length is longer than its size: fourteen bytes
abbrev lengthened : List ℕ
lengthened = frame (ascii "XABC") 2 1 (0 ∷ 0 ∷ 0 ∷ 9 ∷ [])

-- a chapter with padding in its run, and with a compressed subframe
abbrev chapter_of : List ℕ → Rec
chapter_of run = plain (named "CHAP") (chapter (ascii "c") 0 0 0 0 run)

abbrev chaptered : ℕ → List ℕ → List ℕ
chaptered size run = frame (ascii "CHAP") size 0 (0x63 ∷ 0 ∷ zeros 16 ++ run)

abbrev packed : List ℕ
packed = frame (ascii "TIT2") 2 8 (0 ∷ ascii "t")

abbrev roomy : List ℕ → List ℕ
roomy s = tag_in 4 0 54 (mine ++ s)

pub record Computed : Type 0 where
  -- replaced by a shorter, an equal and a longer one; the frame after it is there as it was
  pub shorter : replaced_of two 0 (meter [] 7) ≡ done (counted 3 [] (7 ∷ []) ++ (titled ++ zeros 5))
  pub equal : replaced_of two 0 (meter (ascii "a") 8) ≡ done (counted 4 (ascii "a") (8 ∷ []) ++ (titled ++ zeros 4))
  pub longer : replaced_of two 0 (meter (ascii "a") (2 ^ 24)) ≡ done (counted 7 (ascii "a") (1 ∷ zeros 3) ++ (titled ++ zeros 1))
  pub last_longer : replaced_of two 1 (meter (ascii "b") (2 ^ 16)) ≡ done (mine ++ counted 6 (ascii "b") (1 ∷ zeros 2))
  -- exact fit, and one byte more
  pub exact : replaced_of two 0 (meter (ascii "a") (2 ^ 32)) ≡ done (counted 8 (ascii "a") (1 ∷ zeros 4) ++ titled)
  pub one_more_lem : replaced_of two 0 (meter (ascii "a") (2 ^ 40)) ≡ (Err (refusal 20), two)
  -- removed, and the freed bytes zeros
  pub without_first : removed_of two 0 ≡ done (titled ++ zeros 18)
  pub without_last : removed_of two 1 ≡ done (mine ++ zeros 16)
  pub without_all : removed_of (removed_of two 0).1 0 ≡ done (zeros 30)
  -- added after the last: exact fit, one byte more, and in what a removal freed
  pub one_after : appended_of (tag_in 4 0 26 (mine ++ zeros 12)) title ≡ (Ok tt, tag_in 4 0 26 (mine ++ titled))
  pub none_after : appended_of (tag_in 4 0 25 (mine ++ zeros 11)) title ≡ (Err (refusal 20), tag_in 4 0 25 (mine ++ zeros 11))
  pub after_removal : appended_of (removed_of two 0).1 (meter (ascii "b") 7) ≡ done (titled ++ (counted 4 (ascii "b") (7 ∷ []) ++ zeros 4))
  -- into a tag without frames, and without any bytes
  pub first_of_all : appended_of (tag_in 4 0 12 (zeros 12)) title ≡ (Ok tt, tag_in 4 0 12 titled)
  pub no_bytes : (appended_of (tag_in 4 0 0 []) title).0 ≡ Err (refusal 20)
  -- 46, and the last number that is there
  pub no_number : replaced_of two 2 title ≡ (Err (refusal 46), two)
  pub last_number : replaced_of two 1 title ≡ (Ok tt, two)
  pub none_removed : removed_of two 2 ≡ (Err (refusal 46), two)
  pub far_number : (removed_of two (2 ^ 32)).0 ≡ Err (refusal 46)
  pub no_frame : (removed_of (tag_in 4 0 12 (zeros 12)) 0).0 ≡ Err (refusal 46)
  -- adding's: a lower-case id, and its neighbour; and the order of the numbers
  pub lower_case : replaced_of two 0 (plain (named "xABC") (raw (7 ∷ []))) ≡ (Err (refusal 21), two)
  pub upper_case : replaced_of two 0 (plain (named "XABC") (raw (7 ∷ []))) ≡ done (frame (ascii "XABC") 1 0 (7 ∷ []) ++ (titled ++ zeros 7))
  pub number_first : (replaced_of two 2 (plain (named "xABC") (raw (7 ∷ [])))).0 ≡ Err (refusal 46)
  pub adding_first : (replaced_of two 0 (plain (named "xABC") (raw (zeros 20)))).0 ≡ Err (refusal 21)
  pub then_room : (replaced_of two 0 (plain (named "XABC") (raw (zeros 20)))).0 ≡ Err (refusal 20)
  -- those of reading and 40 come before
  pub as_reading : (removed_of (tag_in 4 0 14 (frame (ascii "POPM") 4 4 (0x61 ∷ 0 ∷ 9 ∷ 7 ∷ []))) 1).0 ≡ Err (refusal 8)
  pub not_plain : (removed_of (tag_in 4 0 14 (frame (ascii "POPM") 4 8 (0x61 ∷ 0 ∷ 9 ∷ 7 ∷ []))) 1).0 ≡ Err (refusal 40)
  pub at_once : (removed_of (tag_in 3 0x80 14 mine) 1).0 ≡ Err (refusal 40)
  -- a frame reaches to where the next begins, and is moved as it is
  pub fourteen : removed_of (tag_in 4 0 26 (lengthened ++ titled)) 0 ≡ (Ok tt, tag_in 4 0 26 (titled ++ zeros 14))
  pub as_it_is : removed_of (tag_in 4 0 28 (mine ++ lengthened)) 0 ≡ (Ok tt, tag_in 4 0 28 (lengthened ++ zeros 14))
  pub run_padded : removed_of (roomy (chaptered 30 titled)) 0 ≡ (Ok tt, tag_in 4 0 54 (chaptered 30 titled ++ zeros 14))
  pub run_moves : removed_of (roomy (chaptered 22 (zeros 4) ++ zeros 8)) 0 ≡ (Ok tt, tag_in 4 0 54 (chaptered 22 (zeros 4) ++ zeros 22))
  pub run_refused : (replaced_of (roomy (chaptered 22 (zeros 4) ++ zeros 8)) 1 (chapter_of (zeros 4))).0 ≡ Err (refusal 29)
  -- the one exception: a compressed subframe passes, and the tag is then not plain
  pub packs : appended_of (roomy (zeros 40)) (chapter_of packed) ≡ (Ok tt, roomy (chaptered 30 packed))
  pub packed_odd : tag_look (roomy (chaptered 30 packed)) ≡ Ok false
  pub packed_next : (removed_of (roomy (chaptered 30 packed)) 1).0 ≡ Err (refusal 40)
  pub unpacked : appended_of (roomy (zeros 40)) (chapter_of titled) ≡ (Ok tt, roomy (chaptered 30 titled))
  pub unpacked_plain : tag_look (roomy (chaptered 30 titled)) ≡ Ok true
  -- 2.3
  pub replaced_23 : replaced_of (tag_in 3 0 20 (mine ++ zeros 6)) 0 title ≡ (Ok tt, tag_in 3 0 20 (titled ++ zeros 8))
  pub removed_23 : removed_of (tag_in 3 0 26 (mine ++ titled)) 0 ≡ (Ok tt, tag_in 3 0 26 (titled ++ zeros 14))
  pub appended_23 : appended_of (tag_in 3 0 26 (mine ++ zeros 12)) title ≡ (Ok tt, tag_in 3 0 26 (mine ++ titled))
  -- 2.2, where an empty body is refused
  pub replaced_22 : replaced_of (tag_in 2 0 12 (small (ascii "TT2") 2 (0 ∷ ascii "t") ++ zeros 4)) 0 (plain (named "POP") (popularimeter (ascii "a") 9 256))
      ≡ (Ok tt, tag_in 2 0 12 (small (ascii "POP") 5 (0x61 ∷ 0 ∷ 9 ∷ 1 ∷ 0 ∷ []) ++ zeros 1))
  pub removed_22 : removed_of (tag_in 2 0 12 (small (ascii "TT2") 2 (0 ∷ ascii "t") ++ zeros 4)) 0 ≡ (Ok tt, tag_in 2 0 12 (zeros 12))
  pub appended_22 : appended_of (tag_in 2 0 15 (small (ascii "TT2") 2 (0 ∷ ascii "t") ++ zeros 7)) (plain (named "XAB") (raw (7 ∷ [])))
      ≡ (Ok tt, tag_in 2 0 15 (small (ascii "TT2") 2 (0 ∷ ascii "t") ++ small (ascii "XAB") 1 (7 ∷ [])))
  pub empty_22 : (appended_of (tag_in 2 0 15 (small (ascii "TT2") 2 (0 ∷ ascii "t") ++ zeros 7)) (plain (named "XAB") (raw []))).0 ≡ Err (refusal 22)

pub computed : Computed
unfolding kind_of first zero_at zeros_in digits onto unsync utf8_from all_id_bytes ext_of header_refusal head_of zero_pair_at trimmed closing stripped counter_bytes names_len body_refusal run_of inside_of on_head step_of walk_bytes walked body_bytes encode refusal_of blocks_for all_zero frame_look on_look look_for look_at tag_look with_blocks fitted put_in replaced_of removed_of appended_of
computed = record {
  shorter = refl;
  equal = refl;
  longer = refl;
  last_longer = refl;
  exact = refl;
  one_more_lem = refl;
  without_first = refl;
  without_last = refl;
  without_all = refl;
  one_after = refl;
  none_after = refl;
  after_removal = refl;
  first_of_all = refl;
  no_bytes = refl;
  no_number = refl;
  last_number = refl;
  none_removed = refl;
  far_number = refl;
  no_frame = refl;
  lower_case = refl;
  upper_case = refl;
  number_first = refl;
  adding_first = refl;
  then_room = refl;
  as_reading = refl;
  not_plain = refl;
  at_once = refl;
  fourteen = refl;
  as_it_is = refl;
  run_padded = refl;
  run_moves = refl;
  run_refused = refl;
  packs = refl;
  packed_odd = refl;
  packed_next = refl;
  unpacked = refl;
  unpacked_plain = refl;
  replaced_23 = refl;
  removed_23 = refl;
  appended_23 = refl;
  replaced_22 = refl;
  removed_22 = refl;
  appended_22 = refl;
  empty_22 = refl;
}
