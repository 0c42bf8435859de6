-- Reading a written tag with any work buffer. Assumes nothing.
use mathlib.Core.Path.{◌≡◌, sym, ap, ◌∙◌, subst}
use mathlib.Core.Logic.{◌⊎◌, inl, inr}
use Prim.Native.Nat.{ℕ, zero, suc, ◌^◌, ◌<◌}
use native.Mathlib.Omega.{arith}
use mathlib.Core.Bool.{false}
use mathlib.Core.List.{List, ◌∷◌, ◌++◌, append_assoc}
use lib.ListN.{length}
use lib.Seq.{slice}
use Rattle.format.specs.Bytes.{zeros}
use Rattle.format.specs.Header.{version_of}
use Rattle.format.specs.Numbered.{mode_of}
use Rattle.format.specs.Record.{Rec}
use Rattle.format.specs.Encode.{encode, region_bytes, tag_of}
use Rattle.format.specs.declared.Version.{Version}
use Rattle.format.specs.declared.Mode.{Mode}
use Rattle.format.specs.declared.Mode.TheVariants.{Off}
use Rattle.format.proofs.Encoded.{flagged_by, off_flagged}
use Rattle.format.proofs.Accepted.{Sound}
use Rattle.format.proofs.Tags.{whole_by, off_whole}
use Rattle.reader.specs.Reader.{open_of, Stepped}
use Rattle.promises.specs.Reading.{Reading, ended, and_record, on_step, read_from, on_open, read_for, read_all}
use Rattle.promises.specs.Promises.{frames_of}
use Rattle.promises.specs.Rooms.{AllOrFirst, AnyRoom, OffNeedsNone, KeptAnyRoom, KeptNeedsNone}
use Rattle.promises.proofs.Sounds.{Sounds, nothing, also}
use Rattle.promises.proofs.Adding.{told_as, all_kept}
use Rattle.promises.proofs.Opening.{source, Opening, opened_plain, opened_any}
use Rattle.promises.proofs.Stepping.{reader, pads, Back, NoRoom, step_any, step_plain}
use Rattle.promises.proofs.RoundTrip.{fewer}
use Rattle.std.specs.Prelude.{Result, Err}
use Rattle.format.specs.declared.refusals.Refusal.{Refusal}
use Rattle.format.specs.Refusals.{refusal}
use Rattle.reader.specs.declared.Reader.{Reader}

-- ---- the steps

and_first : (r : Rec) {rs : List Rec} {o : Reading} → AllOrFirst rs o → AllOrFirst (r ∷ rs) (and_record r o)
and_first r (inl e) = inl (ap (and_record r) e)
and_first r (inr (n, h, e)) = inr (suc n, omega arith, ap (and_record r) e)

module _ (v : Version) (m : Mode) (begin end p : ℕ) (tag : List ℕ) where
  -- a frame is shown, and then go
  shown_on : (n at : ℕ) (work : List ℕ) (r : Rec) (rest : List ℕ) (b : Back v (whole_by v m) begin at end tag work r rest)
      → read_from (suc n) tag (reader v (whole_by v m) begin at end) work ≡ and_record r (read_from n tag (reader v (whole_by v m) begin b.next end) b.left)
  unfolding read_from
  shown_on n at work r rest b = ap (λ (o : Stepped). on_step (read_from n tag) tag o.0 o.1) b.steps ∙ rw b.view

  -- what is read from a place on
  abbrev Any : ℕ → List Rec → Type 0
  Any n rs = (at : ℕ) (work : List ℕ) → slice at end (source (whole_by v m) tag work) ≡ frames_of v m rs ++ zeros p
      → AllOrFirst rs (read_from n tag (reader v (whole_by v m) begin at end) work)

  next_any : (n at : ℕ) (work : List ℕ) (r : Rec) (sound : Sound v m r) {rs : List Rec} → Any n rs
      → Back v (whole_by v m) begin at end tag work r (frames_of v m rs ++ zeros p)
      ⊎ NoRoom v m begin at end tag work r sound (frames_of v m rs ++ zeros p) (whole_by v m)
      → AllOrFirst (r ∷ rs) (read_from (suc n) tag (reader v (whole_by v m) begin at end) work)
  unfolding read_from
  next_any n at work r sound {rs} go (inl b) =
      subst (AllOrFirst (r ∷ rs)) (sym (shown_on n at work r (frames_of v m rs ++ zeros p) b)) (and_first r (go b.next b.left b.follows))
  next_any n at work r sound go (inr e) = inr (0, omega arith, ap (λ (o : Stepped). on_step (read_from n tag) tag o.0 o.1) e)

  -- in more steps than there are records
  reads_any : (n : ℕ) {rs : List Rec} → Sounds v m rs → length rs < n → Any n rs
  unfolding read_from
  reads_any zero s h at work e = absurd (omega arith)
  reads_any (suc n) nothing h at work e = inl (rw (pads v (whole_by v m) begin at end p tag work e))
  reads_any (suc n) (also {r} {rs} s ss) h at work e =
      next_any n at work r s (reads_any n ss (omega arith))
      (step_any v m begin at end tag work r s (frames_of v m rs ++ zeros p) (e ∙ append_assoc (encode v m r) (frames_of v m rs) (zeros p)))

  -- where nothing is flagged all are read
  reads_plain : flagged_by v m ≡ false → (n at : ℕ) (work : List ℕ) {rs : List Rec} → Sounds v m rs → length rs < n
      → slice at end (source (whole_by v m) tag work) ≡ frames_of v m rs ++ zeros p → read_from n tag (reader v (whole_by v m) begin at end) work ≡ (rs, ended)
  unfolding read_from
  reads_plain f zero at work s h e = absurd (omega arith)
  reads_plain f (suc n) at work nothing h e = rw (pads v (whole_by v m) begin at end p tag work e)
  reads_plain f (suc n) at work (also {r} {rs} s ss) h e =
      let b = step_plain v m begin at end tag work r s (frames_of v m rs ++ zeros p) f (e ∙ append_assoc (encode v m r) (frames_of v m rs) (zeros p)) in
      shown_on n at work r (frames_of v m rs ++ zeros p) b ∙ ap (and_record r) (reads_plain f n b.next b.left ss (omega arith) b.follows)

-- ---- the tag

module _ (v : Version) (m : Mode) (p : ℕ) (rs : List Rec) (work : List ℕ) (ss : Sounds v m rs) (small : length (region_bytes v m p (frames_of v m rs)) < 2 ^ 28) where
  abbrev tag : List ℕ
  tag = tag_of v m p (frames_of v m rs)

  begins : (o : Result Reader Refusal × List ℕ) → open_of tag work ≡ o → read_all tag work ≡ on_open (length tag) tag o.0 o.1
  unfolding read_for
  begins o e = ap (λ (x : Result Reader Refusal × List ℕ). on_open (length tag) tag x.0 x.1) e

  open_any : Opening v m tag work (frames_of v m rs) ⊎ (open_of tag work ≡ (Err (refusal 14), work)) → AllOrFirst rs (read_all tag work)
  open_any (inl o) =
      subst (AllOrFirst rs) (sym (begins _ o.opens))
      (reads_any v m o.begin o.end o.padding tag (length tag) ss (fewer v m p rs small) o.begin o.left o.lies)
  open_any (inr e) = inr (0, omega arith, begins _ e)

  tag_any : AllOrFirst rs (read_all tag work)
  tag_any = open_any (opened_any v m p (frames_of v m rs) work small)

  tag_plain : whole_by v m ≡ false → flagged_by v m ≡ false → read_all tag work ≡ (rs, ended)
  tag_plain w f =
      let o = opened_plain v m p (frames_of v m rs) work small w in
      begins _ o.opens
      ∙ reads_plain v m o.begin o.end o.padding tag f (length tag) o.begin o.left ss (fewer v m p rs small) o.lies

-- ---- the promises

pub kept_any_room : KeptAnyRoom
kept_any_room version mode padding altered records tag work w =
    let t = told_as version mode altered padding records tag w in
    rw t.is_tag_lem (tag_any (version_of version) (mode_of mode) padding _ work t.sounds t.small)

pub any_room : AnyRoom
any_room version mode padding records tag work w =
    rw all_kept at (kept_any_room version mode padding false records tag work w)

pub kept_needs_none : KeptNeedsNone
kept_needs_none version padding altered records tag work w =
    let v = version_of version in
    let t = told_as version 0 altered padding records tag w in
    rw t.is_tag_lem (tag_plain v Off padding _ work t.sounds t.small (off_whole v) (off_flagged v))

pub off_needs_none : OffNeedsNone
off_needs_none version padding records tag work w =
    rw all_kept at (kept_needs_none version padding false records tag work w)
