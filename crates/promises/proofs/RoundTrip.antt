-- Demand 3: what was written is read back, so no two lists share a tag. Assumes nothing.
use mathlib.Core.Path.{◌≡◌, sym, ap, ◌∙◌}
use Prim.Native.Nat.{ℕ, zero, suc, ◌^◌, ◌≤◌, ◌<◌}
use native.Mathlib.Omega.{arith}
use mathlib.Core.Bool.{false}
use mathlib.Core.List.{List, [], ◌∷◌, ◌++◌, append_assoc}
use lib.ListN.{length, length-append, length-replicate}
use lib.Seq.{slice}
use Rattle.format.specs.Bytes.{zeros}
use Rattle.format.specs.Header.{version_of}
use Rattle.format.specs.Numbered.{mode_of}
use Rattle.format.specs.Unsynch.{guards}
use Rattle.format.specs.Frame.{head_len}
use Rattle.format.specs.Record.{Rec}
use Rattle.format.specs.Encode.{encode, whole_of, region_bytes, tag_of}
use Rattle.format.specs.declared.Version.{Version}
use Rattle.format.specs.declared.Version.TheVariants.{Id3v22, Id3v23, Id3v24}
use Rattle.format.specs.declared.Mode.{Mode}
use Rattle.format.proofs.Unsynch.{unsync_longer}
use Rattle.format.proofs.Encoded.{encode_length}
use Rattle.format.proofs.Tags.{whole_by, tag_headed}
use Rattle.reader.specs.Reader.{Stepped}
use Rattle.promises.specs.Reading.{ended, Reading, on_step, read_from, on_open, read_for, read_all}
use Rattle.promises.specs.Promises.{NoneShort, none, also as short-also, RoundTrip, OneList, frames_of, WrittenTag}
use Rattle.promises.proofs.Sounds.{Sounds, nothing, also}
use Rattle.promises.proofs.Adding.{told_written}
use Rattle.promises.proofs.Opening.{source, opened}
use Rattle.promises.proofs.Stepping.{reader, pads, step_back}
use Rattle.std.specs.Prelude.{Result}
use Rattle.format.specs.declared.refusals.Refusal.{Refusal}
use Rattle.reader.specs.declared.Reader.{Reader}

-- ---- the steps

-- in more steps than there are records
reads : (v : Version) (m : Mode) (n begin at end p : ℕ) (tag work : List ℕ) {rs : List Rec} → Sounds v m rs → length tag ≤ length work
    → slice at end (source (whole_by v m) tag work) ≡ frames_of v m rs ++ zeros p → length rs < n
    → read_from n tag (reader v (whole_by v m) begin at end) work ≡ (rs, ended)
unfolding read_from
reads v m zero begin at end p tag work s room e h = absurd (omega arith)
reads v m (suc n) begin at end p tag work nothing room e h = rw (pads v (whole_by v m) begin at end p tag work e)
reads v m (suc n) begin at end p tag work (also {r} {rs} s ss) room e h =
    let b = step_back v m begin at end tag work r s (frames_of v m rs ++ zeros p) room (e ∙ append_assoc (encode v m r) (frames_of v m rs) (zeros p)) in
    let go = reads v m n begin b.next end p tag b.left ss (omega (arith, b.same)) b.follows (omega arith) in
    ap (λ (o : Stepped). on_step (read_from n tag) tag o.0 o.1) b.steps ∙ rw (b.view, go)

-- ---- the tag

head_some : (v : Version) → 1 ≤ head_len v
head_some Id3v22 = omega arith
head_some Id3v23 = omega arith
head_some Id3v24 = omega arith

whole_longer : (v : Version) (m : Mode) (f : List ℕ) → length f ≤ length (whole_of v m f)
whole_longer Id3v22 m f = unsync_longer (guards m) false f
whole_longer Id3v23 m f = unsync_longer (guards m) false f
whole_longer Id3v24 m f = omega arith

-- there are fewer records than bytes
no_more_records : (v : Version) (m : Mode) (rs : List Rec) → length rs ≤ length (frames_of v m rs)
no_more_records v m [] = omega arith
no_more_records v m (r ∷ rs) =
    omega (arith, length-append (encode v m r) (frames_of v m rs), no_more_records v m rs, encode_length v m r, head_some v)

pub none_short : (v : Version) (m : Mode) {rs : List Rec} → Sounds v m rs → NoneShort rs
none_short v m nothing = none
none_short v m (also s ss) = short-also s.whole (none_short v m ss)

pub fewer : (v : Version) (m : Mode) (p : ℕ) (rs : List Rec) → length (region_bytes v m p (frames_of v m rs)) < 2 ^ 28
    → length rs < length (tag_of v m p (frames_of v m rs))
fewer v m p rs small =
    let f = frames_of v m rs in
    omega (arith, (tag_headed v m p f small).long, no_more_records v m rs, whole_longer v m f, length-append (whole_of v m f) (zeros p))

pub tag_back : (v : Version) (m : Mode) (p : ℕ) (rs : List Rec) (work : List ℕ) → Sounds v m rs → length (region_bytes v m p (frames_of v m rs)) < 2 ^ 28
    → length (tag_of v m p (frames_of v m rs)) ≤ length work → read_all (tag_of v m p (frames_of v m rs)) work ≡ (rs, ended)
unfolding read_for
tag_back v m p rs work ss small room =
    let f = frames_of v m rs in
    let tag = tag_of v m p f in
    let o = opened v m p f work small room in
    ap (λ (x : Result Reader Refusal × List ℕ). on_open (length tag) tag x.0 x.1) o.opens
    ∙ reads v m (length tag) o.begin o.begin o.end o.padding tag o.left ss (omega (arith, o.same)) o.lies (fewer v m p rs small)

-- ---- the promises

pub round_trip : RoundTrip
round_trip version mode padding records tag work w room =
    let t = told_written version mode padding records tag w in
    let v = version_of version in
    let m = mode_of mode in (
      rw t.is_tag_lem (tag_back v m padding records work t.sounds t.small (rw t.is_tag_lem at room)),
      none_short v m t.sounds,
    )

pub one_list : OneList
one_list version mode padding records records' tag w w' =
    let work = zeros (length tag) in
    let room : length tag ≤ length work = simp length-replicate (omega arith) in
    let a = (round_trip version mode padding records tag work w room).0 in
    let b = (round_trip version mode padding records' tag work w' room).0 in
    ap (λ (x : Reading). x.0) (sym a ∙ b)

pub written_tag : WrittenTag
written_tag version mode padding records tag w =
    let t = told_written version mode padding records tag w in
    (t.is_tag_lem, t.is_count)
