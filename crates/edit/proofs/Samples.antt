-- The promise of written tags speaks of something: in each edition the sample of all kinds, written with mode off, is edited. Assumes nothing.
use mathlib.Core.Path.{◌≡◌, refl}
use Prim.Native.Nat.{ℕ, ◌^◌}
use native.Mathlib.Omega.{arith}
use mathlib.Core.Bool.{false}
use mathlib.Core.List.{List, [], ◌∷◌}
use lib.ListN.{take, replicate}
use Rattle.format.specs.Bytes.{first, zero_at, named, ascii}
use Rattle.format.specs.Numbers.{digits, onto}
use Rattle.format.specs.Unsynch.{unsync}
use Rattle.format.specs.Ids.{all_id_bytes, kind_of}
use Rattle.format.specs.Header.{version_of}
use Rattle.format.specs.Popularimeter.{stripped, counter_bytes}
use Rattle.format.specs.Text.{zero_pair_at, trimmed, closing}
use Rattle.format.specs.Record.{Rec, Fits, text, popularimeter}
use Rattle.format.specs.Encode.{body_bytes, encode, refusal_of, tag_of}
use Rattle.promises.specs.Written.{accepted, none, Written}
use Rattle.promises.specs.Samples.{plain, sample_of}
use Rattle.promises.proofs.Samples.{off_22, off_23, off_24}
use Rattle.format.specs.Looks.{look_for, look_at}
use Rattle.format.specs.declared.Mode.{Mode}
use Rattle.writer.specs.Writer.{begin_of, add_of, Finishing, finish_of}
use Rattle.writer.specs.Answers.{begun_writer, added_number, added_writer, finished_number, finished_count}
use Rattle.writer.specs.declared.Writer.{Writer}
use Rattle.raise.specs.Promises.{PlainRuns}
use Rattle.raise.proofs.Samples.{runs_22, runs_23, runs_24}
use Rattle.edit.specs.Edit.{replaced_of, removed_of, appended_of}
use Rattle.edit.specs.Promises.{replacing, removing, appending, HasRoom}
use Rattle.edit.proofs.Written.{written_edits, written_freed}
use Rattle.std.specs.Prelude.{Result, Ok}
use Rattle.format.specs.declared.refusals.Refusal.{Refusal}

-- the empty user's counter, of two bytes, becomes one of four, which no raise could write there
abbrev larger : ℕ → Rec
larger id = plain id (popularimeter [] 255 (2 ^ 24))

room_22 : HasRoom (version_of 2) 3 (sample_of (version_of 2)) (replacing 5 (larger (named "POP")))
unfolding first zero_at digits onto unsync all_id_bytes kind_of stripped counter_bytes body_bytes encode refusal_of
room_22 = (omega arith, refl, omega arith)

room_23 : HasRoom (version_of 3) 3 (sample_of (version_of 3)) (replacing 7 (larger (named "POPM")))
unfolding first zero_at digits onto unsync all_id_bytes kind_of stripped counter_bytes body_bytes encode refusal_of
room_23 = (omega arith, refl, omega arith)

room_24 : HasRoom (version_of 4) 3 (sample_of (version_of 4)) (replacing 7 (larger (named "POPM")))
unfolding first zero_at digits onto unsync all_id_bytes kind_of stripped counter_bytes body_bytes encode refusal_of
room_24 = (omega arith, refl, omega arith)

pub replaced_22 : (replaced_of off_22.tag 5 (larger (named "POP"))).0 ≡ Ok tt
replaced_22 = written_edits 2 3 (sample_of (version_of 2)) off_22.tag (replacing 5 (larger (named "POP"))) off_22.is_written runs_22 room_22

pub replaced_23 : (replaced_of off_23.tag 7 (larger (named "POPM"))).0 ≡ Ok tt
replaced_23 = written_edits 3 3 (sample_of (version_of 3)) off_23.tag (replacing 7 (larger (named "POPM"))) off_23.is_written runs_23 room_23

pub replaced_24 : (replaced_of off_24.tag 7 (larger (named "POPM"))).0 ≡ Ok tt
replaced_24 = written_edits 4 3 (sample_of (version_of 4)) off_24.tag (replacing 7 (larger (named "POPM"))) off_24.is_written runs_24 room_24

-- a chapter goes, or in 2.2 a table
pub removed_22 : (removed_of off_22.tag 1).0 ≡ Ok tt
removed_22 = written_edits 2 3 (sample_of (version_of 2)) off_22.tag (removing 1) off_22.is_written runs_22 (omega arith)

pub removed_23 : (removed_of off_23.tag 3).0 ≡ Ok tt
removed_23 = written_edits 3 3 (sample_of (version_of 3)) off_23.tag (removing 3) off_23.is_written runs_23 (omega arith)

pub removed_24 : (removed_of off_24.tag 3).0 ≡ Ok tt
removed_24 = written_edits 4 3 (sample_of (version_of 4)) off_24.tag (removing 3) off_24.is_written runs_24 (omega arith)

-- ---- one more

-- in the place that it left, and that the padding adds to, another stands, after the last
freed : (version padding : ℕ) (records : List Rec) (tag : List ℕ) (i : ℕ) (r : Rec) → Written version 0 padding records tag → PlainRuns (version_of version) records
    → (removed_of tag i).0 ≡ Ok tt → HasRoom (version_of version) padding records (replacing i r) → (appended_of (removed_of tag i).1 r).0 ≡ Ok tt
freed version padding records tag i r w runs e h = written_freed version padding records tag (removed_of tag i).1 i r w runs (λ j. (e j, (removed_of tag i).1)) h

pub freed_22 : (appended_of (removed_of off_22.tag 5).1 (larger (named "POP"))).0 ≡ Ok tt
freed_22 =
    freed 2 3 (sample_of (version_of 2)) off_22.tag 5 (larger (named "POP")) off_22.is_written runs_22
    (written_edits 2 3 (sample_of (version_of 2)) off_22.tag (removing 5) off_22.is_written runs_22 (omega arith)) room_22

pub freed_23 : (appended_of (removed_of off_23.tag 7).1 (larger (named "POPM"))).0 ≡ Ok tt
freed_23 =
    freed 3 3 (sample_of (version_of 3)) off_23.tag 7 (larger (named "POPM")) off_23.is_written runs_23
    (written_edits 3 3 (sample_of (version_of 3)) off_23.tag (removing 7) off_23.is_written runs_23 (omega arith)) room_23

pub freed_24 : (appended_of (removed_of off_24.tag 7).1 (larger (named "POPM"))).0 ≡ Ok tt
freed_24 =
    freed 4 3 (sample_of (version_of 4)) off_24.tag 7 (larger (named "POPM")) off_24.is_written runs_24
    (written_edits 4 3 (sample_of (version_of 4)) off_24.tag (removing 7) off_24.is_written runs_24 (omega arith)) room_24

-- ---- padding for one more

-- what the buffers hold at first
abbrev sevens : List ℕ
sevens = replicate 60 7

-- one record, written with 24 bytes of padding
module _ (version : ℕ) (r : Rec) where
  abbrev begun : Writer
  begun = record { version = version_of version; mode = Mode.Off; altered = false; used = 0 }

  abbrev last : Writer
  last = added_writer (add_of begun r sevens).0

  abbrev finished : Finishing
  finished = finish_of last 24 (add_of begun r sevens).1 sevens

  abbrev padded : List ℕ
  padded = take (finished_count finished.0) finished.1

  padded_written : begun_writer (begin_of version 0 false) ≡ begun ∷ [] → Fits r.content → added_number (add_of begun r sevens).0 ≡ 0 → finished_number finished.0 ≡ 0
      → Written version 0 24 (r ∷ []) padded
  padded_written begins fits adds done = record {
    first = begun;
    last = last;
    collecting = sevens;
    collected = (add_of begun r sevens).1;
    output = sevens;
    begins = begins;
    adds = accepted fits adds none;
    done = done;
    reported = refl;
  }

-- a title after it
abbrev title : ℕ → Rec
title id = plain id (text 0 (ascii "t"))

pub appended_22 : (appended_of (padded 2 (larger (named "POP"))) (title (named "TT2"))).0 ≡ Ok tt
unfolding
    first zero_at digits onto unsync all_id_bytes kind_of trimmed closing zero_pair_at stripped counter_bytes body_bytes encode refusal_of tag_of begin_of add_of finish_of look_at look_for
appended_22 =
    written_edits 2 24 (larger (named "POP") ∷ []) (padded 2 (larger (named "POP"))) (appending (title (named "TT2")))
    (padded_written 2 (larger (named "POP")) refl (omega arith) refl refl) (PlainRuns.also refl PlainRuns.none) (refl, omega arith)

pub appended_23 : (appended_of (padded 3 (larger (named "POPM"))) (title (named "TIT2"))).0 ≡ Ok tt
unfolding
    first zero_at digits onto unsync all_id_bytes kind_of trimmed closing zero_pair_at stripped counter_bytes body_bytes encode refusal_of tag_of begin_of add_of finish_of look_at look_for
appended_23 =
    written_edits 3 24 (larger (named "POPM") ∷ []) (padded 3 (larger (named "POPM"))) (appending (title (named "TIT2")))
    (padded_written 3 (larger (named "POPM")) refl (omega arith) refl refl) (PlainRuns.also refl PlainRuns.none) (refl, omega arith)

pub appended_24 : (appended_of (padded 4 (larger (named "POPM"))) (title (named "TIT2"))).0 ≡ Ok tt
unfolding
    first zero_at digits onto unsync all_id_bytes kind_of trimmed closing zero_pair_at stripped counter_bytes body_bytes encode refusal_of tag_of begin_of add_of finish_of look_at look_for
appended_24 =
    written_edits 4 24 (larger (named "POPM") ∷ []) (padded 4 (larger (named "POPM"))) (appending (title (named "TIT2")))
    (padded_written 4 (larger (named "POPM")) refl (omega arith) refl refl) (PlainRuns.also refl PlainRuns.none) (refl, omega arith)
