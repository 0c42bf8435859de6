-- The tests on the way to each answer of an exported function pick that case of its definition. Assumes nothing.
use mathlib.Core.Path.{◌≡◌}
use Prim.Native.Nat.{ℕ, ◌≤◌, ◌<◌}
use native.Mathlib.Omega.{arith}
use mathlib.Core.Bool.{true, false, ◌||◌}
use mathlib.Core.List.{List}
use lib.ListN.{length}
use lib.Seq.{set-set}
use lib.Dec.{eqb}
use borrow.Author.Tests.{le-ltb, lt-ltb, lt-leb, ltb-false}
use Rattle.laws.proofs.Bools.{or_false}
use Rattle.format.specs.Record.{rec_of}
use Rattle.format.specs.declared.Heading.{Heading}
use Rattle.reader.specs.Reader.{header_of, open_of, step_of, Step}
use Rattle.reader.specs.declared.Reader.{Reader}
use Rattle.writer.specs.Writer.{begin_of, add_of, Added}
use Rattle.writer.specs.declared.Writer.{Writer}
use Rattle.capi.specs.Words.{reader_of, writer_of, heading_of}
use Rattle.capi.specs.Calls.{short, counted, after_header, sv_header, after_open, sv_open, after_step, sv_step, after_begin, sv_begin, after_add, sv_add, after_unpack, references_of, sv_references}
use Rattle.std.specs.Prelude.{Result, Some, None}
use Rattle.format.specs.declared.refusals.Refusal.{Refusal}
use Rattle.reader.specs.declared.Header.{Header}

-- the words that are asked for are there
pub enough : (n : ℕ) (words : List ℕ) → short n words ≡ false → n ≤ length words
enough n words e = ltb-false (length words) n e

pub enough2 : (n m : ℕ) (words more : List ℕ) → (short n words || short m more) ≡ false → (n ≤ length words) × (m ≤ length more)
enough2 n m words more e = let f = or_false (short n words) (short m more) e in (enough n words f.0, enough m more f.1)

pub enough3 : (n m k : ℕ) (words more last : List ℕ) → (short n words || (short m more || short k last)) ≡ false
    → (n ≤ length words) × ((m ≤ length more) × (k ≤ length last))
enough3 n m k words more last e =
    let f = or_false (short n words) (short m more || short k last) e in
    (enough n words f.0, enough2 m k more last f.1)

-- the count is written last
pub counted_last : (count : List ℕ) (n m : ℕ) → counted m (counted n count) ≡ counted m count
counted_last count n m = set-set count 0 n m

-- ---- sv_header

module _ (tag header : List ℕ) where
  pub header_then : {found : Result Header Refusal} → 4 ≤ length header → header_of tag ≡ found → sv_header tag header ≡ after_header found header
  unfolding sv_header
  header_then h e = rw (le-ltb _ _ h, e)

-- ---- sv_open

module _ (tag work reader : List ℕ) where
  pub open_short : length reader < 7 → sv_open tag work reader ≡ (20, work, reader)
  unfolding sv_open
  open_short h = rw (lt-ltb _ _ h)

  pub open_then : {answer o : Result Reader Refusal} {left : List ℕ} → 7 ≤ length reader → (answer, left) ≡ open_of tag work → answer ≡ o
      → sv_open tag work reader ≡ after_open (o, left) reader
  unfolding sv_open
  open_then h e f = rw (le-ltb _ _ h, ← e, f)

-- ---- sv_step

module _ (tag work reader words : List ℕ) where
  pub step_short : (short 7 reader || short 19 words) ≡ true → sv_step tag work reader words ≡ (20, work, reader, words)
  unfolding sv_step
  step_short e = rw e

  module _ (e : (short 7 reader || short 19 words) ≡ false) where
    pub step_bad : reader_of reader ≡ None → sv_step tag work reader words ≡ (2, work, reader, words)
    unfolding sv_step
    step_bad f = rw (e, f)

    pub step_then : {r : Reader} {answer s : Step} {left : List ℕ} → reader_of reader ≡ Some r → (answer, left) ≡ step_of r tag work
        → answer ≡ s → sv_step tag work reader words ≡ after_step (s, left) reader words
    unfolding sv_step
    step_then f g h = rw (e, f, ← g, h)

-- ---- sv_begin

module _ (version mode altered : ℕ) (writer : List ℕ) where
  pub begin_then : 4 ≤ length writer → altered ≤ 1 → {b : Result Writer Refusal} → begin_of version mode (eqb altered 1) ≡ b
      → sv_begin version mode altered writer ≡ after_begin b writer
  unfolding sv_begin
  begin_then h a e = let f : altered < 2 = omega arith in rw (le-ltb _ _ h, lt-leb 2 altered f, e)

-- ---- sv_add

module _ (words name names rest deviations buffer writer count : List ℕ) where
  pub add_then : (short 19 words || (short 4 writer || short 1 count)) ≡ false → {w : Writer} → writer_of writer ≡ Some w
      → {h : Heading} {answer a : Added} {left : List ℕ} → heading_of words ≡ Some h
      → (answer, left) ≡ add_of w (rec_of h name names rest deviations) buffer → answer ≡ a
      → sv_add words name names rest deviations buffer writer count ≡ after_add (a, left) writer count
  unfolding sv_add
  add_then e f g k o = rw (e, f, g, ← k, o)

-- ---- sv_references

module _ (words rest deviations count : List ℕ) where
  pub references_then : (short 19 words || short 1 count) ≡ false → {h : Heading} {answer o : Result ℕ Refusal} {left : List ℕ} → heading_of words ≡ Some h
      → (answer, left) ≡ references_of h.fields rest deviations → answer ≡ o
      → sv_references words rest deviations count ≡ after_unpack (o, left) count
  unfolding sv_references
  references_then e f g o = rw (e, f, ← g, o)
