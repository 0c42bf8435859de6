-- The promises speak of something: in each edition and each mode the sample is written, and read back, by computation. Assumes nothing.
use mathlib.Core.Path.{◌≡◌, refl}
use Prim.Native.Nat.{ℕ, zero, suc}
use native.Mathlib.Omega.{arith}
use mathlib.Core.Bool.{Bool, true, false}
use mathlib.Core.List.{List, [], ◌∷◌}
use lib.ListN.{length, take, replicate}
use Rattle.laws.proofs.Bools.{false_not_true}
use Rattle.format.specs.Bytes.{first, zero_at, zeros_in}
use Rattle.format.specs.Numbers.{digits, onto}
use Rattle.format.specs.Unsynch.{resync, unsync}
use Rattle.format.specs.Ids.{utf8_from, all_id_bytes, kind_of}
use Rattle.format.specs.Header.{version_of, ext_of, header_refusal}
use Rattle.format.specs.Frame.{head_of}
use Rattle.format.specs.Text.{zero_pair_at, trimmed, closing}
use Rattle.format.specs.Popularimeter.{stripped, counter_bytes}
use Rattle.format.specs.Table.{spread, gathered, filled, pack, unpack, fit}
use Rattle.format.specs.Chapter.{names_len}
use Rattle.format.specs.Record.{Rec, Fits, body_refusal, run_of, parts_of, view_of}
use Rattle.format.specs.Walk.{inside_of, resynced_of, on_head, walk_bytes, walked, on_shown, frame_of}
use Rattle.format.specs.Walk as walk
use Rattle.format.specs.Encode.{last_or, body_bytes, encode, refusal_of, tag_of}
use Rattle.format.specs.declared.Version.{Version}
use Rattle.format.specs.declared.Version.TheVariants.{Id3v22, Id3v23, Id3v24}
use Rattle.writer.specs.Writer.{begin_of, add_of, finish_of}
use Rattle.writer.specs.Answers.{begun_writer, added_number, added_writer, finished_number, finished_count}
use Rattle.writer.specs.declared.Writer.{Writer}
use Rattle.reader.specs.Reader.{open_whole, open_of, step_of}
use Rattle.promises.specs.Written.{Adds, none, accepted, Written}
use Rattle.promises.specs.Reading.{Reading, ended, read_from, read_for, read_all}
use Rattle.promises.specs.Samples.{inner, sample_of}

-- ---- a run of the calls, and whether each accepted

-- after the calls of add: the writer and the collecting buffer
abbrev Ran : Type 0
Ran = Bool × Writer × List ℕ

on_added : (Writer → List ℕ → Ran) → ℕ → Writer → List ℕ → Ran
on_added go zero w buffer = go w buffer
on_added go (suc k) w buffer = (false, w, buffer)

add_all : List Rec → Writer → List ℕ → Ran
add_all [] w buffer = (true, w, buffer)
add_all (r ∷ rs) w buffer = let o = add_of w r buffer in on_added (add_all rs) (added_number o.0) (added_writer o.0) o.1

-- after finishing: the part of the output that it reports
abbrev Made : Type 0
Made = Bool × List ℕ

on_finished : ℕ → ℕ → List ℕ → Made
on_finished zero n output = (true, take n output)
on_finished (suc k) n output = (false, [])

finish_all : ℕ → List ℕ → Bool → Writer → List ℕ → Made
finish_all padding output true w buffer =
    let o = finish_of w padding buffer output in
    on_finished (finished_number o.0) (finished_count o.0) o.1
finish_all padding output false w buffer = (false, [])

on_begun : ℕ → List Rec → List ℕ → List ℕ → List Writer → Made
on_begun padding rs collecting output [] = (false, [])
on_begun padding rs collecting output (w ∷ []) = let a = add_all rs w collecting in finish_all padding output a.0 a.1 a.2
on_begun padding rs collecting output (w ∷ _ ∷ _) = (false, [])

write_all : ℕ → ℕ → ℕ → List Rec → List ℕ → List ℕ → Made
write_all version mode padding rs collecting output = on_begun padding rs collecting output (begun_writer (begin_of version mode false))

-- ---- a run in which each call accepted

abbrev AllFit : List Rec → Type 0
AllFit [] = Unit {0}
AllFit (r ∷ rs) = Fits r.content × AllFit rs

-- that the calls of add accept these records, if all of them do
abbrev Accepts : List Rec → Writer → List ℕ → Type 0
Accepts rs w buffer = (add_all rs w buffer).0 ≡ true → Adds w buffer rs (add_all rs w buffer).1 (add_all rs w buffer).2

-- one call, and those after it
one_more_lem : (w : Writer) (b : List ℕ) (r : Rec) (rs : List Rec) (k : ℕ) → Fits r.content → added_number (add_of w r b).0 ≡ k →
    let o = add_of w r b in
    let on = on_added (add_all rs) k (added_writer o.0) o.1 in
    Accepts rs (added_writer o.0) o.1 → on.0 ≡ true → Adds w b (r ∷ rs) on.1 on.2
unfolding on_added
one_more_lem w b r rs zero f e go h = accepted f e (go h)
one_more_lem w b r rs (suc k) f e go h = absurd (false_not_true h)

accepts : (rs : List Rec) (w : Writer) (buffer : List ℕ) → AllFit rs → Accepts rs w buffer
unfolding add_all
accepts [] w buffer f h = none
accepts (r ∷ rs) w buffer f h =
    let o = add_of w r buffer in
    one_more_lem w buffer r rs (added_number o.0) f.0 refl (accepts rs (added_writer o.0) o.1 f.1) h

module _ (version mode padding : ℕ) (rs : List Rec) (collecting output : List ℕ) (fits : AllFit rs) where
  module _ (first last : Writer) (collected : List ℕ) (begins : begun_writer (begin_of version mode false) ≡ first ∷ [])
      (adds : Adds first collecting rs last collected) where
    finished : (k : ℕ) → finished_number (finish_of last padding collected output).0 ≡ k →
        let o = finish_of last padding collected output in
        let on = on_finished k (finished_count o.0) o.1 in
        on.0 ≡ true → Written version mode padding rs on.1
    unfolding on_finished
    finished zero e h = record {
      first = first;
      last = last;
      collecting = collecting;
      collected = collected;
      output = output;
      begins = begins;
      adds = adds;
      done = e;
      reported = refl;
    }
    finished (suc k) e h = absurd (false_not_true h)

  added : (first : Writer) (all : Bool) → begun_writer (begin_of version mode false) ≡ first ∷ [] → (add_all rs first collecting).0 ≡ all
      → (finish_all padding output all (add_all rs first collecting).1 (add_all rs first collecting).2).0 ≡ true
      → Written version mode padding rs (finish_all padding output all (add_all rs first collecting).1 (add_all rs first collecting).2).1
  unfolding finish_all
  added first true begins e h =
      let a = add_all rs first collecting in
      finished first a.1 a.2 begins (accepts rs first collecting fits e) (finished_number (finish_of a.1 padding a.2 output).0) refl h
  added first false begins e h = absurd (false_not_true h)

  begun : (l : List Writer) → begun_writer (begin_of version mode false) ≡ l → (on_begun padding rs collecting output l).0 ≡ true
      → Written version mode padding rs (on_begun padding rs collecting output l).1
  unfolding on_begun
  begun [] e h = absurd (false_not_true h)
  begun (w ∷ []) e h = added w (add_all rs w collecting).0 e refl h
  begun (w ∷ _ ∷ _) e h = absurd (false_not_true h)

  -- the tag of a run in which each call accepted
  written : (write_all version mode padding rs collecting output).0 ≡ true
      → Written version mode padding rs (write_all version mode padding rs collecting output).1
  unfolding write_all
  written h = begun (begun_writer (begin_of version mode false)) refl h

-- ---- the sample

sample_fits : (v : Version) → AllFit (sample_of v)
sample_fits Id3v22 = omega arith
sample_fits Id3v23 = omega arith
sample_fits Id3v24 = omega arith

-- what the buffers hold at first
sevens : List ℕ
sevens = replicate 300 7

-- The tag, and what only writing looks into; with what reading looks into, below, it computes.
made : ℕ → ℕ → Made
unfolding
    unsync all_id_bytes stripped counter_bytes filled pack fit last_or body_bytes encode refusal_of tag_of begin_of add_of finish_of on_added add_all on_finished
    finish_all on_begun write_all inner sevens
made version mode = write_all version mode 3 (sample_of (version_of version)) sevens sevens

-- a tag read with a work buffer of its length
read_back : List ℕ → Reading
unfolding
    first zero_at zeros_in digits onto resync utf8_from kind_of ext_of header_refusal head_of zero_pair_at trimmed closing spread gathered unpack names_len
    body_refusal run_of parts_of view_of inside_of resynced_of on_head walk.step_of walk_bytes walked on_shown frame_of open_whole open_of step_of read_from read_for
read_back tag = read_all tag (replicate (length tag) 7)

-- With a version and a mode the sample is written with three bytes of padding, and reading the tag gives it back.
pub record Sampled (version mode : ℕ) : Type 0 where
  pub tag : List ℕ
  pub is_written : Written version mode 3 (sample_of (version_of version)) tag
  pub is_read : read_all tag (replicate (length tag) 7) ≡ (sample_of (version_of version), ended)

sampled : (version mode : ℕ) → (made version mode).0 ≡ true → read_back (made version mode).1 ≡ (sample_of (version_of version), ended) → Sampled version mode
unfolding made read_back
sampled version mode all-accepted same = record {
  tag = (made version mode).1;
  is_written = written version mode 3 (sample_of (version_of version)) sevens sevens (sample_fits (version_of version)) all-accepted;
  is_read = same;
}

-- ---- version 2, 3, 4; mode 0 (off), 1 (crate), 2 (standard)

pub off_22 : Sampled 2 0
unfolding made read_back
off_22 = sampled 2 0 refl refl

pub crate_22 : Sampled 2 1
unfolding made read_back
crate_22 = sampled 2 1 refl refl

pub standard_22 : Sampled 2 2
unfolding made read_back
standard_22 = sampled 2 2 refl refl

pub off_23 : Sampled 3 0
unfolding made read_back
off_23 = sampled 3 0 refl refl

pub crate_23 : Sampled 3 1
unfolding made read_back
crate_23 = sampled 3 1 refl refl

pub standard_23 : Sampled 3 2
unfolding made read_back
standard_23 = sampled 3 2 refl refl

pub off_24 : Sampled 4 0
unfolding made read_back
off_24 = sampled 4 0 refl refl

pub crate_24 : Sampled 4 1
unfolding made read_back
crate_24 = sampled 4 1 refl refl

pub standard_24 : Sampled 4 2
unfolding made read_back
standard_24 = sampled 4 2 refl refl
