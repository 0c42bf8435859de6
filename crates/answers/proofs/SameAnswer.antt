-- What a call answers hangs on the bytes and numbers that it was given alone, and not on where they lie. Assumes nothing.
use mathlib.Core.Path.{sym, ap, ◌∙◌}
use Prim.Native.Nat.{ℕ}
use mathlib.Core.List.{List}
use lib.Seq.{slice}
use Rattle.unsynch
use Rattle.walk
use Rattle.reader
use Rattle.frame
use Rattle.writer
use Rattle.capi
use Rattle.format.specs.declared.Record.{Record}
use Rattle.format.specs.Unsynch.{resynchronised}
use Rattle.unsynch.specs.Puts.{into_of}
use mathlib.Core.Bool.{Bool}
use Rattle.walk.specs.Sources.{source_of}
use Rattle.reader.specs.Reader.{step_of, Step}
use Rattle.reader.specs.Answers.{step_number, step_record, step_reader}
use Rattle.reader.specs.declared.Reader.{Reader}
use Rattle.format.specs.Answers.{head_number}
use Rattle.format.specs.Frame.{head_of}
use Rattle.format.specs.Record.{Rec, given_rec}
use Rattle.format.specs.declared.Head.{Head}
use Rattle.format.specs.declared.Version.{Version}
use Rattle.writer.specs.Writer.{add_of, Added}
use Rattle.writer.specs.Answers.{added_number, added_count, added_writer}
use Rattle.writer.specs.declared.Writer.{Writer}
use Rattle.capi.specs.Calls.{sv_step}
use Rattle.answers.specs.OneAnswer.{Call, SameAnswer}
use Rattle.std.specs.Prelude.{Result, Option}
use Rattle.format.specs.declared.refusals.Refusal.{Refusal}

-- ---- resync_into: room, s, from and to; the answer and the room
abbrev pub Given : Type 0
Given = List ℕ × List ℕ × ℕ × ℕ

abbrev pub resync_given : Call unsynch.specs.contracts.resync_into.ended → Given
resync_given c = (c.args.0.now, c.args.1.0.now, c.args.1.1.0, c.args.1.1.1.0)

abbrev pub resync_told : Call unsynch.specs.contracts.resync_into.ended → Result ℕ Refusal × List ℕ
resync_told c = (c.answer, c.left.0)

pub resync_into_same : SameAnswer unsynch.specs.contracts.resync_into.ended unsynch.proofs.resync_into.Reads.Learnt resync_given resync_told
resync_into_same c d p q e = p ∙ ap (λ (i : Given). into_of (resynchronised (slice i.2 i.3 i.1)) i.0) e ∙ sym q

-- ---- Reader::step: the reader, work and tag; document 01's number and values, and the work buffer
abbrev pub step_given : Call reader.specs.contracts.Reader.step.ended → Reader × List ℕ × List ℕ
step_given c = (c.args.0, c.args.1.0.now, c.args.1.1.0.now)

abbrev pub Told : Type 0
Told = ℕ × List Record × Reader × List ℕ

abbrev pub answered : Step × List ℕ → Told
answered o = (step_number o.0, step_record o.0, step_reader o.0, o.1)

abbrev pub step_told : Call reader.specs.contracts.Reader.step.ended → Told
step_told c = answered (c.answer, c.left.1.0)

pub step_same : SameAnswer reader.specs.contracts.Reader.step.ended reader.proofs.Reader.step.Reads.Learnt step_given step_told
step_same c d p q e = ap answered (p ∙ ap (λ (i : Reader × List ℕ × List ℕ). step_of i.0 i.2 i.1) e ∙ sym q)

-- ---- heads::decode: the edition, s, from, to and the depth; document 01's number, and the head
abbrev pub head_given : Call frame.specs.contracts.heads.decode.ended → Version × List ℕ × ℕ × ℕ × ℕ
head_given c = (c.args.0, c.args.1.0.now, c.args.1.1.0, c.args.1.1.1.0, c.args.1.1.1.1.0)

abbrev pub head_told : Call frame.specs.contracts.heads.decode.ended → ℕ × Result (Option Head) Refusal
head_told c = (head_number c.answer, c.answer)

pub head_same : SameAnswer frame.specs.contracts.heads.decode.ended frame.proofs.heads.decode.Reads.Learnt head_given head_told
head_same c d p q e = ap (λ (o : Result (Option Head) Refusal). (head_number o, o)) (p ∙ ap (λ (i : Version × List ℕ × ℕ × ℕ × ℕ). head_of i.0 i.4 (slice i.2 i.3 i.1)) e ∙ sym q)

-- ---- Writer::add: the writer, the buffer and the record; document 01's number, count and writer, and the buffer
abbrev pub add_given : Call writer.specs.contracts.Writer.add.ended → Writer × List ℕ × Rec
add_given c = (c.args.0, c.args.1.0.now, given_rec c.args.1.1.0 c.args.1.1.1.0.now)

abbrev pub added : Added × List ℕ → ℕ × ℕ × Writer × List ℕ
added o = (added_number o.0, added_count o.0, added_writer o.0, o.1)

abbrev pub add_told : Call writer.specs.contracts.Writer.add.ended → ℕ × ℕ × Writer × List ℕ
add_told c = added (c.answer, c.left.1.0)

pub add_same : SameAnswer writer.specs.contracts.Writer.add.ended writer.proofs.Writer.add.Reads.Learnt add_given add_told
add_same c d p q e = ap added (p.0 ∙ ap (λ (i : Writer × List ℕ × Rec). add_of i.0 i.2 i.1) e ∙ sym q.0)

-- ---- sv_step: tag, work and the words of the reader and the record; the number, work and the words
abbrev pub sv_step_given : Call capi.specs.contracts.sv_step.ended → List ℕ × List ℕ × List ℕ × List ℕ
sv_step_given c = (c.args.0.now, c.args.1.0.now, c.args.1.1.0.now, c.args.1.1.1.0.now)

abbrev pub sv_step_told : Call capi.specs.contracts.sv_step.ended → ℕ × List ℕ × List ℕ × List ℕ
sv_step_told c = (c.answer, c.left.1.0, c.left.1.1.0, c.left.1.1.1.0)

pub sv_step_same : SameAnswer capi.specs.contracts.sv_step.ended capi.proofs.sv_step.Reads.Learnt sv_step_given sv_step_told
sv_step_same c d p q e = p ∙ ap (λ (i : List ℕ × List ℕ × List ℕ × List ℕ). sv_step i.0 i.1 i.2 i.3) e ∙ sym q

-- ---- record::source: where the frames lie, work and tag; the bytes that the answer refers to
abbrev pub source_given : Call walk.specs.contracts.record.source.ended → Bool × List ℕ × List ℕ
source_given c = (c.args.0, c.args.1.0.now, c.args.1.1.0.now)

abbrev pub source_told : Call walk.specs.contracts.record.source.ended → List ℕ
source_told c = c.answer.now

pub source_same : SameAnswer walk.specs.contracts.record.source.ended walk.proofs.record.source.Reads.Learnt source_given source_told
source_same c d p q e = p ∙ ap (λ (i : Bool × List ℕ × List ℕ). source_of i.0 i.1 i.2) e ∙ sym q
