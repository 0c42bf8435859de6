-- What each exported function answers, and what it leaves in every buffer that it may change, in the order of its parameters:
-- the number comes first. Too few words are refused 20 before all else, and nothing is changed then. Assumes nothing.
use Rattle.std.specs.Prelude.{ℕ, Bool, ◌||◌, List, length, set, ltb, leb, eqb, Result, Option, Ok, Err, Some, None}
use Rattle.format.specs.Bytes.{pick}
use Rattle.format.specs.Record.{rec_of}
use Rattle.format.specs.declared.Fields.{Fields}
use Rattle.format.specs.declared.Heading.{Heading}
use Rattle.frame.specs.References.{unpack_of}
use Rattle.reader.specs.Reader.{header_of, open_of, step_of, Step}
use Rattle.writer.specs.Writer.{begin_of, add_of, finish_of, Added, Finished}
use Rattle.writer.specs.declared.Writer.{Writer}
use Rattle.capi.specs.Words.{header_words, reader_words, reader_of, record_words, heading_of, writer_words, writer_of}
use Rattle.format.specs.declared.refusals.Refusal.{Refusal}
use Rattle.reader.specs.declared.Header.{Header}
use Rattle.reader.specs.declared.Reader.{Reader}

-- fewer than n words
abbrev pub short : ℕ → List ℕ → Bool
short n words = ltb (length words) n

-- the number, and one, two or three buffers
abbrev pub Left1 : Type 0
Left1 = ℕ × List ℕ

abbrev pub Left2 : Type 0
Left2 = ℕ × List ℕ × List ℕ

abbrev pub Left3 : Type 0
Left3 = ℕ × List ℕ × List ℕ × List ℕ

-- ---- sv_header: header

abbrev pub after_header : Result Header Refusal → List ℕ → Left1
after_header (Ok h) header = (0, header_words h header)
after_header (Err k) header = (k.number, header)

unfoldable pub sv_header : List ℕ → List ℕ → Left1
sv_header tag header = pick (short 4 header) (20, header) (after_header (header_of tag) header)

-- ---- sv_open: work, reader

abbrev pub after_open : Result Reader Refusal × List ℕ → List ℕ → Left2
after_open (Ok r, work) reader = (0, work, reader_words r reader)
after_open (Err k, work) reader = (k.number, work, reader)

unfoldable pub sv_open : List ℕ → List ℕ → List ℕ → Left2
sv_open tag work reader = pick (short 7 reader) (20, work, reader) (after_open (open_of tag work) reader)

-- ---- sv_step: work, reader, record; the end is 256

abbrev pub after_step : Step × List ℕ → List ℕ → List ℕ → Left3
after_step ((Ok (Some rec), r), work) reader words = (0, work, reader_words r reader, record_words rec words)
after_step ((Ok None, r), work) reader words = (256, work, reader_words r reader, words)
after_step ((Err k, r), work) reader words = (k.number, work, reader_words r reader, words)

abbrev pub step_with : Option Reader → List ℕ → List ℕ → List ℕ → List ℕ → Left3
step_with None tag work reader words = (2, work, reader, words)
step_with (Some r) tag work reader words = after_step (step_of r tag work) reader words

unfoldable pub sv_step : List ℕ → List ℕ → List ℕ → List ℕ → Left3
sv_step tag work reader words =
    pick (short 7 reader || short 19 words) (20, work, reader, words) (step_with (reader_of reader) tag work reader words)

-- ---- sv_begin, sv_begin_plain: writer

abbrev pub after_begin : Result Writer Refusal → List ℕ → Left1
after_begin (Ok w) writer = (0, writer_words w writer)
after_begin (Err k) writer = (k.number, writer)

unfoldable pub sv_begin : ℕ → ℕ → ℕ → List ℕ → Left1
sv_begin version mode altered writer =
    pick (short 4 writer) (20, writer)
    (pick (leb 2 altered) (2, writer) (after_begin (begin_of version mode (eqb altered 1)) writer))

-- mode 0 (off), and altered 0
abbrev pub sv_begin_plain : ℕ → List ℕ → Left1
sv_begin_plain version writer = sv_begin version 0 0 writer

-- ---- sv_add: buffer, writer, count; a refusal has count 0 and changes nothing else

abbrev pub counted : ℕ → List ℕ → List ℕ
counted n count = set count 0 n

abbrev pub after_add : Added × List ℕ → List ℕ → List ℕ → Left3
after_add ((Ok n, w), buffer) writer count = (0, buffer, writer_words w writer, counted n count)
after_add ((Err k, w), buffer) writer count = (k.number, buffer, writer, counted 0 count)

-- 2 for words that are no writer, then 21 for words that are no record
abbrev pub add_with : Option Writer → Option Heading → (Writer → Heading → Added × List ℕ) → List ℕ → List ℕ → List ℕ → Left3
add_with None h add buffer writer count = (2, buffer, writer, counted 0 count)
add_with (Some w) None add buffer writer count = (21, buffer, writer, counted 0 count)
add_with (Some w) (Some h) add buffer writer count = after_add (add w h) writer count

unfoldable pub sv_add : List ℕ → List ℕ → List ℕ → List ℕ → List ℕ → List ℕ → List ℕ → List ℕ → Left3
sv_add words name names rest deviations buffer writer count =
    pick (short 19 words || (short 4 writer || short 1 count)) (20, buffer, writer, count)
    (add_with (writer_of writer) (heading_of words) (λ w h. add_of w (rec_of h name names rest deviations) buffer) buffer writer count)

-- ---- sv_finish: output, count

abbrev pub after_finish : Finished × List ℕ → List ℕ → Left2
after_finish ((Ok n, w), output) count = (0, output, counted n count)
after_finish ((Err k, w), output) count = (k.number, output, counted 0 count)

abbrev pub finish_with : Option Writer → ℕ → List ℕ → List ℕ → List ℕ → Left2
finish_with None padding buffer output count = (2, output, counted 0 count)
finish_with (Some w) padding buffer output count = after_finish (finish_of w padding buffer output) count

unfoldable pub sv_finish : ℕ → List ℕ → List ℕ → List ℕ → List ℕ → Left2
sv_finish padding buffer output writer count =
    pick (short 4 writer || short 1 count) (20, output, count) (finish_with (writer_of writer) padding buffer output count)

-- ---- sv_references: deviations, count

abbrev pub after_unpack : Result ℕ Refusal × List ℕ → List ℕ → Left2
after_unpack (Ok n, deviations) count = (0, deviations, counted n count)
after_unpack (Err k, deviations) count = (k.number, deviations, counted 0 count)

-- the deviations of a table; a record of another kind has none
abbrev pub references_of : Fields → List ℕ → List ℕ → Result ℕ Refusal × List ℕ
references_of (Fields.Text e) rest deviations = (Ok 0, deviations)
references_of (Fields.Popularimeter r c) rest deviations = (Ok 0, deviations)
references_of (Fields.Table f b m v w) rest deviations = unpack_of v w rest deviations
references_of (Fields.Chapter a b c d) rest deviations = (Ok 0, deviations)
references_of (Fields.Contents t o) rest deviations = (Ok 0, deviations)
references_of Fields.Raw rest deviations = (Ok 0, deviations)

abbrev pub references_with : Option Heading → List ℕ → List ℕ → List ℕ → Left2
references_with None rest deviations count = (21, deviations, counted 0 count)
references_with (Some h) rest deviations count = after_unpack (references_of h.fields rest deviations) count

unfoldable pub sv_references : List ℕ → List ℕ → List ℕ → List ℕ → Left2
sv_references words rest deviations count =
    pick (short 19 words || short 1 count) (20, deviations, count) (references_with (heading_of words) rest deviations count)
