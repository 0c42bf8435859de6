-- Every public function answers in one way: a theorem for each, of its own contract. Assumes nothing.
use mathlib.Core.Path.{◌≡◌, sym, ap, ◌∙◌}
use Rattle.format.specs.declared.Version.{Version}
use Rattle.format
use Rattle.loads
use Rattle.moves
use Rattle.unsynch
use Rattle.frame
use Rattle.walk
use Rattle.lines
use Rattle.reader
use Rattle.meter
use Rattle.checks
use Rattle.writer
use Rattle.printout
use Rattle.back
use Rattle.raise
use Rattle.edit
use Rattle.capi
use Rattle.answers.specs.OneAnswer.{OneAnswer}

-- two that equal a third are equal, and so is what is made of them
pub alike : {A B : Type 0} {x y z : A} → x ≡ z → y ≡ z → (f : A → B) → f x ≡ f y
alike p q f = ap f (p ∙ sym q)

-- ---- format

pub class_one : OneAnswer format.specs.contracts.classes.class.ended format.proofs.classes.class.Reads.Learnt
class_one κs a x y v w p q = alike p q λ o. (o, v)

pub has_one : OneAnswer format.specs.contracts.small.has.ended format.proofs.small.has.Reads.Learnt
has_one κs a x y v w p q = alike p q λ o. (o, v)

pub zeros_in_one : OneAnswer format.specs.contracts.small.zeros_in.ended format.proofs.small.zeros_in.Reads.Learnt
zeros_in_one κs a x y v w p q = alike p q λ o. (o, v)

pub version_of_one : OneAnswer format.specs.contracts.numbered.version_of.ended format.proofs.numbered.version_of.Reads.Learnt
version_of_one κs a x y v w p q = alike p q λ o. (o, v)

pub is_version_one : OneAnswer format.specs.contracts.numbered.is_version.ended format.proofs.numbered.is_version.Reads.Learnt
is_version_one κs a x y v w p q = alike p q λ o. (o, v)

pub head_len_one : OneAnswer format.specs.contracts.numbered.head_len.ended format.proofs.numbered.head_len.Reads.Learnt
head_len_one κs a x y v w p q = alike p.0 q.0 λ o. (o, v)

pub version_try_from_one : OneAnswer format.specs.contracts.numbered.VersionTryFromU64.try_from.ended format.proofs.numbered.VersionTryFromU64.try_from.Reads.Learnt
version_try_from_one κs a x y v w p q = alike p q λ o. (o, v)

pub version_u8_from_one : OneAnswer format.specs.contracts.numbered.U8FromVersion.from.ended format.proofs.numbered.U8FromVersion.from.Reads.Learnt
version_u8_from_one κs a x y v w p q = alike p q λ o. (o, v)

pub mode_of_one : OneAnswer format.specs.contracts.numbered.mode_of.ended format.proofs.numbered.mode_of.Reads.Learnt
mode_of_one κs a x y v w p q = alike p q λ o. (o, v)

pub mode_try_from_one : OneAnswer format.specs.contracts.numbered.ModeTryFromU64.try_from.ended format.proofs.numbered.ModeTryFromU64.try_from.Reads.Learnt
mode_try_from_one κs a x y v w p q = alike p q λ o. (o, v)

pub mode_u8_from_one : OneAnswer format.specs.contracts.numbered.U8FromMode.from.ended format.proofs.numbered.U8FromMode.from.Reads.Learnt
mode_u8_from_one κs a x y v w p q = alike p q λ o. (o, v)

-- ---- loads

pub read32_one : OneAnswer loads.specs.contracts.read32.ended loads.proofs.read32.Reads.Learnt
read32_one κs a x y v w p q = alike p q λ o. (o, v)

pub read64_one : OneAnswer loads.specs.contracts.read64.ended loads.proofs.read64.Reads.Learnt
read64_one κs a x y v w p q = alike p q λ o. (o, v)

pub read_few_one : OneAnswer loads.specs.contracts.read_few.ended loads.proofs.read_few.Reads.Learnt
read_few_one κs a x y v w p q = alike p.0 q.0 λ o. (o, v)

-- ---- moves

pub shift_one : OneAnswer moves.specs.contracts.shift.ended moves.proofs.shift.Reads.Learnt
shift_one κs a x y v w p q = alike p q λ o. (tt, (o, v.1))

-- ---- unsynch

pub encode_u32_one : OneAnswer unsynch.specs.contracts.encode_u32.ended unsynch.proofs.encode_u32.Reads.Learnt
encode_u32_one κs a x y v w p q = alike p q λ o. (o, v)

pub decode_u32_one : OneAnswer unsynch.specs.contracts.decode_u32.ended unsynch.proofs.decode_u32.Reads.Learnt
decode_u32_one κs a x y v w p q = alike p q λ o. (o, v)

pub is_guarded_one : OneAnswer unsynch.specs.contracts.is_guarded.ended unsynch.proofs.is_guarded.Reads.Learnt
is_guarded_one κs a x y v w p q = alike p q λ o. (o, v)

pub unsync_len_one : OneAnswer unsynch.specs.contracts.unsync_len.ended unsynch.proofs.unsync_len.Reads.Learnt
unsync_len_one κs a x y v w p q = alike p q λ o. (o, v)

pub resync_into_one : OneAnswer unsynch.specs.contracts.resync_into.ended unsynch.proofs.resync_into.Reads.Learnt
resync_into_one κs a x y v w p q = alike p q λ o. (o.0, (o.1, v.1))

pub unsync_into_one : OneAnswer unsynch.specs.contracts.unsync_into.ended unsynch.proofs.unsync_into.Reads.Learnt
unsync_into_one κs a x y v w p q = alike p q λ o. (o.0, (o.1, v.1))

pub resync_in_one : OneAnswer unsynch.specs.contracts.resync_in.ended unsynch.proofs.resync_in.Reads.Learnt
resync_in_one κs a x y v w p q = alike p q λ o. (o.0, (o.1, v.1))

-- ---- frame

pub heads_one : OneAnswer frame.specs.contracts.heads.decode.ended frame.proofs.heads.decode.Reads.Learnt
heads_one κs a x y v w p q = alike p q λ o. (o, v)

pub zero_at_one : OneAnswer frame.specs.contracts.parts.zero_at.ended frame.proofs.parts.zero_at.Reads.Learnt
zero_at_one κs a x y v w p q = alike p q λ o. (o, v)

pub kind_of_one : OneAnswer frame.specs.contracts.body.kind_of.ended frame.proofs.body.kind_of.Reads.Learnt
kind_of_one κs a x y v w p q = alike p q λ o. (o, v)

pub parse_one : OneAnswer frame.specs.contracts.body.parse.ended frame.proofs.body.parse.Reads.Learnt
parse_one κs a x y v w p q = alike p q λ o. (o, v)

pub parse_chapter_one : OneAnswer frame.specs.contracts.chapter.parse_chapter.ended frame.proofs.chapter.parse_chapter.Reads.Learnt
parse_chapter_one κs a x y v w p q = alike (p Version.Id3v24) (q Version.Id3v24) λ o. (o, v)

pub parse_contents_one : OneAnswer frame.specs.contracts.chapter.parse_contents.ended frame.proofs.chapter.parse_contents.Reads.Learnt
parse_contents_one κs a x y v w p q = alike (p Version.Id3v24) (q Version.Id3v24) λ o. (o, v)

pub parse_popularimeter_one : OneAnswer frame.specs.contracts.popularimeter.parse.ended frame.proofs.popularimeter.parse.Reads.Learnt
parse_popularimeter_one κs a x y v w p q = alike (p Version.Id3v24) (q Version.Id3v24) λ o. (o, v)

pub parse_table_one : OneAnswer frame.specs.contracts.table.parse.ended frame.proofs.table.parse.Reads.Learnt
parse_table_one κs a x y v w p q = alike (p Version.Id3v24) (q Version.Id3v24) λ o. (o, v)

pub text_end_one : OneAnswer frame.specs.contracts.text.text_end.ended frame.proofs.text.text_end.Reads.Learnt
text_end_one κs a x y v w p q = alike p q λ o. (o, v)

pub widths_refusal_one : OneAnswer frame.specs.contracts.table.widths_refusal.ended frame.proofs.table.widths_refusal.Reads.Learnt
widths_refusal_one κs a x y v w p q = alike p q λ o. (o, v)

pub unpack_one : OneAnswer frame.specs.contracts.table.unpack.ended frame.proofs.table.unpack.Reads.Learnt
unpack_one κs a x y v w p q = alike p q λ o. (o.0, (o.1, v.1))

-- ---- walk

pub walk_one : OneAnswer walk.specs.contracts.run.walk.ended walk.proofs.run.walk.Reads.Learnt
walk_one κs a x y v w p q = alike p q λ o. (o.0, (o.1, v.1))

pub frame_at_one : OneAnswer walk.specs.contracts.record.frame_at.ended walk.proofs.record.frame_at.Reads.Learnt
frame_at_one κs a x y v w p q = alike p q λ o. (o.0, (o.1, v.1))

pub pass_at_one : OneAnswer walk.specs.contracts.passing.pass_at.ended walk.proofs.passing.pass_at.Reads.Learnt
pass_at_one κs a x y v w p q = alike (p 0) (q 0) λ o. (o.0, (o.1, v.1))

pub read_as_one : OneAnswer walk.specs.contracts.passing.read_as.ended walk.proofs.passing.read_as.Reads.Learnt
read_as_one κs a x y v w p q = alike (p Version.Id3v24 0 0 0 0) (q Version.Id3v24 0 0 0 0) λ o. (o, v)

pub look_at_one : OneAnswer walk.specs.contracts.plain.look_at.ended walk.proofs.plain.look_at.Reads.Learnt
look_at_one κs a x y v w p q = alike p q λ o. (o, v)

pub all_zero_one : OneAnswer walk.specs.contracts.zeros.all_zero.ended walk.proofs.zeros.all_zero.Reads.Learnt
all_zero_one κs a x y v w p q = alike p q λ o. (o, v)

-- ---- lines

pub tag_line_one : OneAnswer lines.specs.contracts.tag_line.ended lines.proofs.tag_line.Reads.Learnt
tag_line_one κs a x y v w p q = alike p q λ o. (o.0, (o.1, v.1))

pub frame_line_one : OneAnswer lines.specs.contracts.frame_line.ended lines.proofs.frame_line.Reads.Learnt
frame_line_one κs a x y v w p q = alike p q λ o. (o.0, (o.1, v.1))

pub end_line_one : OneAnswer lines.specs.contracts.end_line.ended lines.proofs.end_line.Reads.Learnt
end_line_one κs a x y v w p q = alike p q λ o. (o.0, (o.1, v.1))

pub refused_line_one : OneAnswer lines.specs.contracts.refused_line.ended lines.proofs.refused_line.Reads.Learnt
refused_line_one κs a x y v w p q = alike p q λ o. (o.0, (o.1, v.1))

-- ---- reader

pub header_one : OneAnswer reader.specs.contracts.headers.header.ended reader.proofs.headers.header.Reads.Learnt
header_one κs a x y v w p q = alike p q λ o. (o, v)

pub is_whole_one : OneAnswer reader.specs.contracts.opening.is_whole.ended reader.proofs.opening.is_whole.Reads.Learnt
is_whole_one κs a x y v w p q = alike p q λ o. (o, v)

pub open_one : OneAnswer reader.specs.contracts.opening.open.ended reader.proofs.opening.open.Reads.Learnt
open_one κs a x y v w p q = alike p q λ o. (o.0, (o.1, v.1))

pub step_one : OneAnswer reader.specs.contracts.Reader.step.ended reader.proofs.Reader.step.Reads.Learnt
step_one κs a x y v w p q = alike p q λ o. (o.0, (v.0, (o.1, v.1.1)))

-- ---- meter

pub meter_open_one : OneAnswer meter.specs.contracts.opening.open.ended meter.proofs.opening.open.Reads.Learnt
meter_open_one κs a x y v w p q = alike p q λ o. (o.0, (o.1, v.1))

pub next_one : OneAnswer meter.specs.contracts.Meter.next.ended meter.proofs.Meter.next.Reads.Learnt
next_one κs a x y v w p q = alike p q λ o. (o.0, (v.0, (o.1, v.1.1)))

-- ---- checks

pub record_check_one : OneAnswer checks.specs.contracts.record.record_check.ended checks.proofs.record.record_check.Reads.Learnt
record_check_one κs a x y v w p q = alike p q λ o. (o, v)

pub is_lost_one : OneAnswer checks.specs.contracts.ids.is_lost.ended checks.proofs.ids.is_lost.Reads.Learnt
is_lost_one κs a x y v w p q = alike p q λ o. (o, v)

pub size_check_one : OneAnswer checks.specs.contracts.sizes.size_check.ended checks.proofs.sizes.size_check.Reads.Learnt
size_check_one κs a x y v w p q = alike p q λ o. (o, v)

-- ---- writer

pub begin_one : OneAnswer writer.specs.contracts.begin.begin.ended writer.proofs.begin.begin.Reads.Learnt
begin_one κs a x y v w p q = alike p q λ o. (o, v)

pub begin_plain_one : OneAnswer writer.specs.contracts.begin.begin_plain.ended writer.proofs.begin.begin_plain.Reads.Learnt
begin_plain_one κs a x y v w p q = alike p q λ o. (o, v)

pub add_one : OneAnswer writer.specs.contracts.Writer.add.ended writer.proofs.Writer.add.Reads.Learnt
add_one κs a x y v w p q = alike p.0 q.0 λ o. (o.0, (v.0, (o.1, v.1.1)))

pub finish_one : OneAnswer writer.specs.contracts.Writer.finish.ended writer.proofs.Writer.finish.Reads.Learnt
finish_one κs a x y v w p q = alike p q λ o. (o.0, (v.0, (o.1, v.1.1)))

pub put_between_one : OneAnswer writer.specs.contracts.between.put_between.ended writer.proofs.between.put_between.Reads.Learnt
put_between_one κs a x y v w p q = alike p q λ o. (o.0, (o.1, v.1))

-- ---- printout

pub list_one : OneAnswer printout.specs.contracts.list.ended printout.proofs.list.Reads.Learnt
list_one κs a x y v w p q = alike p q λ o. (o.0, (o.1.0, (o.1.1, v.1.1)))

-- ---- back

pub there_and_back_one : OneAnswer back.specs.contracts.there_and_back.ended back.proofs.there_and_back.Reads.Learnt
there_and_back_one κs a x y v w p q = alike p.0 q.0 λ o. (o.0, (o.1.0, (o.1.1.0, (o.1.1.1, v.1.1.1))))

-- ---- raise

pub raise_one : OneAnswer raise.specs.contracts.raise.ended raise.proofs.raise.Reads.Learnt
raise_one κs a x y v w p q = alike p q λ o. (o.0, (o.1, v.1))

pub frames_one : OneAnswer raise.specs.contracts.frames.frames.ended raise.proofs.frames.frames.Reads.Learnt
frames_one κs a x y v w p q = alike p q λ o. (o, v)

pub is_plain_end_one : OneAnswer raise.specs.contracts.frames.is_plain_end.ended raise.proofs.frames.is_plain_end.Reads.Learnt
is_plain_end_one κs a x y v w p q = alike p q λ o. (o, v)

pub scan_one : OneAnswer raise.specs.contracts.scanning.scan.ended raise.proofs.scanning.scan.Reads.Learnt
scan_one κs a x y v w p q = alike p q λ o. (o, v)

pub seek_one : OneAnswer raise.specs.contracts.seeking.seek.ended raise.proofs.seeking.seek.Reads.Learnt
seek_one κs a x y v w p q = alike p q λ o. (o, v)

pub raise_at_one : OneAnswer raise.specs.contracts.counter.raise_at.ended raise.proofs.counter.raise_at.Reads.Learnt
raise_at_one κs a x y v w p q = alike p q λ o. (o.0, (o.1, v.1))

-- ---- edit

pub replace_one : OneAnswer edit.specs.contracts.replace.ended edit.proofs.replace.Reads.Learnt
replace_one κs a x y v w p q = alike p.0 q.0 λ o. (o.0, (o.1, v.1))

pub remove_one : OneAnswer edit.specs.contracts.remove.ended edit.proofs.remove.Reads.Learnt
remove_one κs a x y v w p q = alike p q λ o. (o.0, (o.1, v.1))

pub append_one : OneAnswer edit.specs.contracts.append.ended edit.proofs.append.Reads.Learnt
append_one κs a x y v w p q = alike p.0 q.0 λ o. (o.0, (o.1, v.1))

pub lift_one : OneAnswer edit.specs.contracts.lift.ended edit.proofs.lift.Reads.Learnt
lift_one κs a x y v w p q = alike p q λ o. (o.0, (o.1, v.1))

-- ---- capi

pub sv_header_one : OneAnswer capi.specs.contracts.sv_header.ended capi.proofs.sv_header.Reads.Learnt
sv_header_one κs a x y v w p q = alike p q λ o. (o.0, (v.0, (o.1, v.1.1)))

pub sv_open_one : OneAnswer capi.specs.contracts.sv_open.ended capi.proofs.sv_open.Reads.Learnt
sv_open_one κs a x y v w p q = alike p q λ o. (o.0, (v.0, (o.1, (o.2, v.1.1.1))))

pub sv_step_one : OneAnswer capi.specs.contracts.sv_step.ended capi.proofs.sv_step.Reads.Learnt
sv_step_one κs a x y v w p q = alike p q λ o. (o.0, (v.0, (o.1, (o.2, (o.3, v.1.1.1.1)))))

pub sv_begin_one : OneAnswer capi.specs.contracts.sv_begin.ended capi.proofs.sv_begin.Reads.Learnt
sv_begin_one κs a x y v w p q = alike p q λ o. (o.0, (v.0, (v.1.0, (v.1.1.0, (o.1, v.1.1.1.1)))))

pub sv_begin_plain_one : OneAnswer capi.specs.contracts.sv_begin_plain.ended capi.proofs.sv_begin_plain.Reads.Learnt
sv_begin_plain_one κs a x y v w p q = alike p q λ o. (o.0, (v.0, (o.1, v.1.1)))

pub sv_add_one : OneAnswer capi.specs.contracts.sv_add.ended capi.proofs.sv_add.Reads.Learnt
sv_add_one κs a x y v w p q = alike p q λ o. (o.0, (v.0, (v.1.0, (v.1.1.0, (v.1.1.1.0, (v.1.1.1.1.0, (o.1, (o.2, (o.3, tt)))))))))

pub sv_finish_one : OneAnswer capi.specs.contracts.sv_finish.ended capi.proofs.sv_finish.Reads.Learnt
sv_finish_one κs a x y v w p q = alike p q λ o. (o.0, (v.0, (v.1.0, (o.1, (v.1.1.1.0, (o.2, tt))))))

pub sv_references_one : OneAnswer capi.specs.contracts.sv_references.ended capi.proofs.sv_references.Reads.Learnt
sv_references_one κs a x y v w p q = alike p q λ o. (o.0, (v.0, (v.1.0, (o.1, (o.2, tt)))))

pub sv_meter_open_one : OneAnswer capi.specs.contracts.sv_meter_open.ended capi.proofs.sv_meter_open.Reads.Learnt
sv_meter_open_one κs a x y v w p q = alike p q λ o. (o.0, (v.0, (o.1, (o.2, v.1.1.1))))

pub sv_raise_one : OneAnswer capi.specs.contracts.sv_raise.ended capi.proofs.sv_raise.Reads.Learnt
sv_raise_one κs a x y v w p q = alike p q λ o. (o.0, (o.1, (v.1.0, (v.1.1.0, (o.2, v.1.1.1.1)))))

pub sv_replace_one : OneAnswer capi.specs.contracts.sv_replace.ended capi.proofs.sv_replace.Reads.Learnt
sv_replace_one κs a x y v w p q = alike p q λ o. (o.0, (o.1, v.1))

pub sv_remove_one : OneAnswer capi.specs.contracts.sv_remove.ended capi.proofs.sv_remove.Reads.Learnt
sv_remove_one κs a x y v w p q = alike p q λ o. (o.0, (o.1, v.1))

pub sv_append_one : OneAnswer capi.specs.contracts.sv_append.ended capi.proofs.sv_append.Reads.Learnt
sv_append_one κs a x y v w p q = alike p q λ o. (o.0, (o.1, v.1))

pub sv_lift_one : OneAnswer capi.specs.contracts.sv_lift.ended capi.proofs.sv_lift.Reads.Learnt
sv_lift_one κs a x y v w p q = alike p q λ o. (o.0, (o.1, (v.1.0, (v.1.1.0, (o.2, v.1.1.1.1)))))

pub sv_meter_next_one : OneAnswer capi.specs.contracts.sv_meter_next.ended capi.proofs.sv_meter_next.Reads.Learnt
sv_meter_next_one κs a x y v w p q = alike p q λ o. (o.0, (v.0, (o.1, (o.2, (o.3, v.1.1.1.1)))))
