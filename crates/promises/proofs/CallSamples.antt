-- The wider promises speak of something: a tag of 2.4 in crate mode, its altered mark on, with a finishing and a refused call between the calls of add. Assumes nothing.
use mathlib.Core.Path.{◌≡◌, refl}
use Prim.Native.Nat.{ℕ}
use native.Mathlib.Omega.{arith}
use mathlib.Core.Bool.{true}
use mathlib.Core.List.{List, [], ◌∷◌, ◌++◌}
use lib.ListN.{replicate}
use Rattle.format.specs.Bytes.{first, named, ascii, among, zero_at, zeros_in}
use Rattle.format.specs.Numbers.{digits, onto}
use Rattle.format.specs.Unsynch.{resync, unsync}
use Rattle.format.specs.Ids.{utf8_from, all_id_bytes, kind_of}
use Rattle.format.specs.Header.{ext_of, header_refusal}
use Rattle.format.specs.Frame.{head_of}
use Rattle.format.specs.Text.{zero_pair_at, trimmed, closing}
use Rattle.format.specs.Popularimeter.{stripped, counter_bytes}
use Rattle.format.specs.Table.{spread, gathered, filled, pack, unpack, fit}
use Rattle.format.specs.Chapter.{names_len}
use Rattle.format.specs.Record.{text, popularimeter, Rec, body_refusal, run_of, parts_of, view_of}
use Rattle.format.specs.Walk.{inside_of, resynced_of, on_head, walk_bytes, walked, on_shown, frame_of}
use Rattle.format.specs.Walk as walk
use Rattle.format.specs.Encode.{last_or, body_bytes, encode, refusal_of, tag_of}
use Rattle.format.specs.declared.Version.TheVariants.{Id3v24}
use Rattle.format.specs.declared.Mode.TheVariants.{Crate}
use Rattle.writer.specs.Writer.{begin_of, add_of, finish_of}
use Rattle.writer.specs.declared.Writer.{Writer}
use Rattle.reader.specs.Reader.{open_whole, open_of, step_of}
use Rattle.promises.specs.Written.{WrittenAs}
use Rattle.promises.specs.Reading.{Reading, ended, refused, read_from, read_for, read_all}
use Rattle.promises.specs.Calls.{Call, add, finish, Ran, ran}
use Rattle.promises.specs.Samples.{plain}
use Rattle.promises.proofs.Calls.{any_calls}
use Rattle.promises.proofs.Altered.{kept_back}

-- lost by an altered file; refused with 12; two that are kept, of which the second has FF 00
abbrev tlen : Rec
tlen = plain (named "TLEN") (text 0 (ascii "9"))

abbrev wrong : Rec
wrong = plain (named "TIT2") (text 9 [])

abbrev title : Rec
title = plain (named "TIT2") (text 0 (ascii "a"))

abbrev meter : Rec
meter = plain (named "POPM") (popularimeter (ascii "a") 5 65280)

abbrev calls : List Call
calls = add tlen ∷ add title ∷ finish 0 (replicate 40 1) ∷ add wrong ∷ finish 0 [] ∷ add meter ∷ []

abbrev start : Writer
start = record { version = Id3v24; mode = Crate; altered = true; used = 0 }

sevens : List ℕ
sevens = replicate 60 7

after : Ran
unfolding
    first among zero_at zeros_in digits onto unsync all_id_bytes kind_of zero_pair_at trimmed closing stripped counter_bytes filled pack fit last_or body_bytes encode refusal_of tag_of add_of finish_of ran sevens
after = ran calls start sevens

abbrev tag : List ℕ
tag =
    ascii "ID3" ++ (4 ∷ 0 ∷ 0x80 ∷ 0 ∷ 0 ∷ 0 ∷ 30
    ∷ ascii "TIT2" ++ (0 ∷ 0 ∷ 0 ∷ 2 ∷ 0 ∷ 2 ∷ 0 ∷ 0x61
    ∷ ascii "POPM" ++ (0 ∷ 0 ∷ 0 ∷ 6 ∷ 0 ∷ 2 ∷ 0x61 ∷ 0 ∷ 5 ∷ 0xFF ∷ 0 ∷ 0 ∷ 0 ∷ 0 ∷ [])))

pub is_written : WrittenAs 4 1 true 2 (tlen ∷ title ∷ meter ∷ []) tag
unfolding begin_of after
is_written = record {
  first = start;
  last = after.1;
  collecting = sevens;
  collected = after.2;
  output = sevens;
  begins = refl;
  adds = any_calls calls start sevens (omega arith);
  done = refl;
  reported = refl;
}

-- the two that are kept are read back
pub is_read : read_all tag (replicate 40 7) ≡ (title ∷ meter ∷ [], ended)
unfolding among
is_read = (kept_back 4 1 2 true (tlen ∷ title ∷ meter ∷ []) tag (replicate 40 7) is_written (omega arith)).0

-- with room for the first and not for the second
read_with : List ℕ → Reading
unfolding
    first zero_at zeros_in digits onto resync utf8_from kind_of ext_of header_refusal head_of zero_pair_at trimmed closing spread gathered unpack names_len
    body_refusal run_of parts_of view_of inside_of resynced_of on_head walk.step_of walk_bytes walked on_shown frame_of open_whole open_of step_of read_from read_for
read_with work = read_all tag work

pub first_only : read_all tag (replicate 4 7) ≡ (title ∷ [], refused 14)
unfolding read_with
first_only = refl

pub none_at_all : read_all tag [] ≡ ([], refused 14)
unfolding read_with
none_at_all = refl
