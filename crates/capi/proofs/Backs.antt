-- What is stored in words is loaded again, and the words after stay. Assumes nothing.
use mathlib.Core.Path.{◌≡◌, refl, sym, ap, ◌∙◌}
use Prim.Native.Nat.{ℕ, ◌+◌, ◌^◌, ◌≤◌, ◌<◌}
use native.Mathlib.Omega.{arith}
use native.Mathlib.Nat.{min-eq_left}
use mathlib.Core.Bool.{Bool, true, false}
use mathlib.Core.List.{List, [], ◌∷◌, ◌++◌}
use lib.ListN.{length, get_or, drop, get_or-append}
use lib.Seq.{sets, sets-eq}
use lib.Dec.{leb, eqb}
use borrow.Author.Tests.{eqb-true, eqb-false, leb-true, le-leb, lt-ltb}
use Rattle.laws.proofs.Stores.{drop_behind}
use Rattle.format.specs.Header.{version_of}
use Rattle.format.specs.Numbered.{is_version, mode_number, mode_of, version_number}
use Rattle.format.specs.declared.Version.{Version}
use Rattle.format.specs.declared.Mode.{Mode}
use Rattle.format.specs.declared.Fields.{Fields}
use Rattle.format.specs.declared.Record.{Record}
use Rattle.reader.specs.declared.Header.{Header}
use Rattle.reader.specs.declared.Stop.{Stop}
use Rattle.reader.specs.declared.Reader.{Reader}
use Rattle.meter.specs.declared.Meter.{Meter}
use Rattle.meter.specs.declared.Metered.{Metered}
use Rattle.writer.specs.declared.Writer.{Writer}
use Rattle.capi.specs.Words.{word, flag, is_flag, stop_number, failure, is_stop, stop_of, reader_list, reader_words, reader_of, header_words, writer_list, writer_words, writer_of, numbers_of, heading_list, place_list, record_words, cap8, cap32, fields_of, is_mark, heading_of, StopFits, FieldsFit, HeadingFits}
use Rattle.capi.specs.Meters.{meter_list, meter_words, meter_of, metered_words}
use Rattle.std.specs.Prelude.{Some}

-- ---- words

-- a word that was stored
stored : (words l : List ℕ) (i : ℕ) → i < length l → length l ≤ length words → word i (sets words 0 l) ≡ get_or l i 0
stored words l i h fits = ap (λ (m : List ℕ). get_or m i 0) (sets-eq l words 0 (omega arith)) ∙ get_or-append l (drop (0 + length l) words) 0 i h

-- ---- single words

version_known : (v : Version) → is_version (version_number v) ≡ true
version_known Version.Id3v22 = refl
version_known Version.Id3v23 = refl
version_known Version.Id3v24 = refl

version_back : (v : Version) → version_of (version_number v) ≡ v
version_back Version.Id3v22 = refl
version_back Version.Id3v23 = refl
version_back Version.Id3v24 = refl

flag_known : (b : Bool) → is_flag (flag b) ≡ true
flag_known true = refl
flag_known false = refl

pub flag_back : (b : Bool) → eqb (flag b) 1 ≡ b
flag_back true = refl
flag_back false = refl

-- a word that is a flag is that of what it says
pub flag_same : (n : ℕ) → is_flag n ≡ true → flag (eqb n 1) ≡ n
flag_same n e = same_by_test (eqb n 1) refl
  where
    same_by_test : (a : Bool) → eqb n 1 ≡ a → flag a ≡ n
    same_by_test true ea = sym (eqb-true n 1 ea)
    same_by_test false ea = let l = leb-true n 1 e in let h = eqb-false n 1 ea in omega (arith, h)

mark_back : (b : Bool) → is_mark (flag b) ≡ b
mark_back true = refl
mark_back false = refl

mode_known : (m : Mode) → leb (mode_number m) 2 ≡ true
mode_known Mode.Off = refl
mode_known Mode.Crate = refl
mode_known Mode.Standard = refl

mode_back : (m : Mode) → mode_of (mode_number m) ≡ m
mode_back Mode.Off = refl
mode_back Mode.Crate = refl
mode_back Mode.Standard = refl

stop_known : (s : Stop) → StopFits s → is_stop (stop_number s) (failure s) ≡ true
stop_known Stop.Running fits = refl
stop_known Stop.Ended fits = refl
stop_known (Stop.Failed k) fits = rw (le-leb 1 k.number fits.0, le-leb k.number 255 fits.1)

stop_back : (s : Stop) → stop_of (stop_number s) (failure s) ≡ s
stop_back Stop.Running = refl
stop_back Stop.Ended = refl
stop_back (Stop.Failed k) = refl

fits_8 : (n : ℕ) → n < 2 ^ 8 → cap8 n ≡ n
fits_8 n h = min-eq_left (omega arith)

fits_32 : (n : ℕ) → n < 2 ^ 32 → cap32 n ≡ n
fits_32 n h = min-eq_left (omega arith)

fields_back : (f : Fields) → FieldsFit f → fields_of (numbers_of f).kind (numbers_of f).a (numbers_of f).b (numbers_of f).c (numbers_of f).d (numbers_of f).e ≡ Some f
unfolding fields_of
fields_back (Fields.Text e) fits = rw (fits_8 e fits)
fields_back (Fields.Popularimeter r c) fits = rw (lt-ltb r 256 fits)
fields_back (Fields.Table f b m v w) fits = rw (lt-ltb f (2 ^ 16) fits.0, fits_32 b fits.1, fits_32 m fits.2, fits_8 v fits.3, fits_8 w fits.4)
fields_back (Fields.Chapter a b c d) fits = rw (lt-ltb a (2 ^ 32) fits.0, lt-ltb b (2 ^ 32) fits.1, lt-ltb c (2 ^ 32) fits.2, lt-ltb d (2 ^ 32) fits.3)
fields_back (Fields.Contents t o) fits = rw (flag_known t, flag_known o, flag_back t, flag_back o)
fields_back Fields.Raw fits = refl

-- ---- readers, meters, writers and headings

pub reader_back : (r : Reader) (words : List ℕ) → 7 ≤ length words → StopFits r.stop → reader_of (reader_words r words) ≡ Some r
unfolding reader_of reader_words
reader_back r words h fits =
    let word_at : (i : ℕ) → i < 7 → word i (sets words 0 (reader_list r)) ≡ get_or (reader_list r) i 0 = λ i k. stored words (reader_list r) i k h in
    rw (
      word_at 0 (omega arith),
      word_at 1 (omega arith),
      word_at 2 (omega arith),
      word_at 3 (omega arith),
      word_at 4 (omega arith),
      word_at 5 (omega arith),
      word_at 6 (omega arith),
      version_known r.version,
      version_back r.version,
      flag_known r.in_work,
      flag_back r.in_work,
      stop_known r.stop fits,
      stop_back r.stop,
    )

pub meter_back : (m : Meter) (words : List ℕ) → 11 ≤ length words → StopFits m.reader.stop → meter_of (meter_words m words) ≡ m ∷ []
unfolding meter_of meter_words
meter_back m words h fits =
    let word_at : (i : ℕ) → i < 11 → word i (sets words 0 (meter_list m)) ≡ get_or (meter_list m) i 0 = λ i k. stored words (meter_list m) i k h in
    rw (
      word_at 0 (omega arith),
      word_at 1 (omega arith),
      word_at 2 (omega arith),
      word_at 3 (omega arith),
      word_at 4 (omega arith),
      word_at 5 (omega arith),
      word_at 6 (omega arith),
      word_at 7 (omega arith),
      word_at 8 (omega arith),
      word_at 9 (omega arith),
      word_at 10 (omega arith),
      version_known m.reader.version,
      version_back m.reader.version,
      flag_known m.reader.in_work,
      flag_back m.reader.in_work,
      stop_known m.reader.stop fits,
      stop_back m.reader.stop,
      flag_known m.short,
      flag_back m.short,
      flag_known m.compressed,
      flag_back m.compressed,
      flag_known m.missing,
      flag_back m.missing,
    )

pub writer_back : (w : Writer) (words : List ℕ) → 4 ≤ length words → writer_of (writer_words w words) ≡ Some w
unfolding writer_of writer_words
writer_back w words h =
    let word_at : (i : ℕ) → i < 4 → word i (sets words 0 (writer_list w)) ≡ get_or (writer_list w) i 0 = λ i k. stored words (writer_list w) i k h in
    rw (
      word_at 0 (omega arith),
      word_at 1 (omega arith),
      word_at 2 (omega arith),
      word_at 3 (omega arith),
      version_known w.version,
      version_back w.version,
      mode_known w.mode,
      mode_back w.mode,
      flag_known w.altered,
      flag_back w.altered,
    )

-- what a step stores as a record, adding takes for the same heading
pub heading_back : (r : Record) (words : List ℕ) → 19 ≤ length words → HeadingFits r.heading → heading_of (record_words r words) ≡ Some r.heading
unfolding heading_of record_words
heading_back r words h fits =
    let l = heading_list r.heading ++ place_list r in
    let word_at : (i : ℕ) → i < 19 → word i (sets words 0 l) ≡ get_or l i 0 = λ i k. stored words l i k h in
    rw (
      word_at 0 (omega arith),
      word_at 1 (omega arith),
      word_at 2 (omega arith),
      word_at 3 (omega arith),
      word_at 4 (omega arith),
      word_at 5 (omega arith),
      word_at 6 (omega arith),
      word_at 7 (omega arith),
      word_at 8 (omega arith),
      lt-ltb r.heading.id (2 ^ 32) fits.0,
      mark_back r.heading.short,
      mark_back r.heading.compressed,
      fields_back r.heading.fields fits.1,
    )

-- ---- the words after those that are named

pub header_behind : (h : Header) (words : List ℕ) → drop 4 (header_words h words) ≡ drop 4 words
unfolding header_words
header_behind h words = drop_behind 4 words 0 (version_number h.version ∷ h.flags ∷ h.size ∷ h.ext ∷ []) (omega arith)

pub reader_behind : (r : Reader) (words : List ℕ) → drop 7 (reader_words r words) ≡ drop 7 words
unfolding reader_words
reader_behind r words = drop_behind 7 words 0 (reader_list r) (omega arith)

pub meter_behind : (m : Meter) (words : List ℕ) → drop 11 (meter_words m words) ≡ drop 11 words
unfolding meter_words
meter_behind m words = drop_behind 11 words 0 (meter_list m) (omega arith)

pub metered_behind : (p : Metered) (words : List ℕ) → drop 6 (metered_words p words) ≡ drop 6 words
unfolding metered_words
metered_behind p words = drop_behind 6 words 0 (flag p.in_work ∷ p.user.start ∷ p.user.len ∷ p.rating ∷ p.counter ∷ p.frame ∷ []) (omega arith)

pub writer_behind : (w : Writer) (words : List ℕ) → drop 4 (writer_words w words) ≡ drop 4 words
unfolding writer_words
writer_behind w words = drop_behind 4 words 0 (writer_list w) (omega arith)

pub record_behind : (r : Record) (words : List ℕ) → drop 19 (record_words r words) ≡ drop 19 words
unfolding record_words
record_behind r words = drop_behind 19 words 0 (heading_list r.heading ++ place_list r) (omega arith)
