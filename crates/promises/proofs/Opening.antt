-- Opening a finished tag: the frames and some padding lie before the reader. Assumes nothing.
use mathlib.Core.Path.{◌≡◌, refl, sym, ap, ◌∙◌}
use mathlib.Core.Logic.{◌⊎◌, inl, inr}
use Prim.Native.Nat.{ℕ, ◌+◌, ◌^◌, ◌≤◌, ◌<◌}
use native.Mathlib.Omega.{arith}
use mathlib.Core.Bool.{Bool, true, false}
use mathlib.Core.List.{List, ◌++◌}
use lib.ListN.{length, drop}
use lib.Seq.{slice, take-append_seam}
use lib.Dec.{ltb}
use borrow.Author.Tests.{ltb-false, le-ltb}
use Rattle.laws.proofs.Bools.{false_not_true}
use Rattle.laws.proofs.Slices.{front_length}
use Rattle.format.specs.Bytes.{pick, zeros, put_front}
use Rattle.format.specs.Unsynch.{resync, resynchronised, ends_ff}
use Rattle.format.specs.Encode.{whole_of, region_bytes, tag_of}
use Rattle.format.specs.declared.Version.{Version}
use Rattle.format.specs.declared.Version.TheVariants.{Id3v22, Id3v23, Id3v24}
use Rattle.format.specs.declared.Mode.{Mode}
use Rattle.format.specs.declared.Mode.TheVariants.{Off, Crate, Standard}
use Rattle.format.proofs.Unsynch.{back_with_more, unsync_off, padding_back, resync_shorter}
use Rattle.format.proofs.Tags.{whole_by, Headed, tag_headed}
use Rattle.reader.specs.Reader.{reader_at, open_whole, open_of}
use Rattle.std.specs.Prelude.{Ok, Err}
use Rattle.format.specs.Refusals.{refusal}

-- where the frames of a reader lie
abbrev pub source : Bool → List ℕ → List ℕ → List ℕ
source inWork tag work = pick inWork work tag

-- frames that are not resynchronised as a whole are stored as they are
plain_whole_lem : (v : Version) (m : Mode) (f : List ℕ) → whole_by v m ≡ false → whole_of v m f ≡ f
plain_whole_lem Id3v22 Off f e = unsync_off false f
plain_whole_lem Id3v22 Crate f e = absurd (false_not_true (sym e))
plain_whole_lem Id3v22 Standard f e = absurd (false_not_true (sym e))
plain_whole_lem Id3v23 Off f e = unsync_off false f
plain_whole_lem Id3v23 Crate f e = absurd (false_not_true (sym e))
plain_whole_lem Id3v23 Standard f e = absurd (false_not_true (sym e))
plain_whole_lem Id3v24 m f e = refl

-- others come back, with padding after them
whole_back : (v : Version) (m : Mode) (f z : List ℕ) → whole_by v m ≡ true → resynchronised (whole_of v m f ++ z) ≡ f ++ resync (ends_ff false f) z
whole_back Id3v22 m f z e = back_with_more m e false f z
whole_back Id3v23 m f z e = back_with_more m e false f z
whole_back Id3v24 m f z e = absurd (false_not_true e)

pub record Opening (v : Version) (m : Mode) (tag work frames : List ℕ) : Type 0 where
  pub begin : ℕ
  pub end : ℕ
  pub padding : ℕ
  pub left : List ℕ
  pub opens : open_of tag work ≡ (Ok (reader_at v (whole_by v m) begin end), left)
  pub lies : slice begin end (source (whole_by v m) tag left) ≡ frames ++ zeros padding
  pub same : length left ≡ length work

module _ (v : Version) (m : Mode) (p : ℕ) (f work : List ℕ) (small : length (region_bytes v m p f) < 2 ^ 28) where
  abbrev tag : List ℕ
  tag = tag_of v m p f

  abbrev region : List ℕ
  region = region_bytes v m p f

  headed : Headed v m tag region
  headed = tag_headed v m p f small

  -- frames that are not resynchronised as a whole lie in the tag
  pub opened_plain : whole_by v m ≡ false → Opening v m tag work f
  unfolding open_of
  opened_plain e = record {
    begin = 10;
    end = 10 + length region;
    padding = p;
    left = work;
    opens = rw (headed.taken, headed.whole, e, headed.version, headed.start, headed.end);
    lies = rw e (headed.lies ∙ ap (λ (l : List ℕ). l ++ zeros p) (plain_whole_lem v m f e));
    same = refl;
  }

  -- others are put into the work buffer: the frames and what is left of the padding
  abbrev padded : (n : ℕ) × (resync (ends_ff false f) (zeros p) ≡ zeros n)
  padded = padding_back (ends_ff false f) p

  abbrev shown : List ℕ
  shown = f ++ zeros padded.0

  shown_is : whole_by v m ≡ true → resynchronised region ≡ shown
  shown_is e = whole_back v m f (zeros p) e ∙ ap (λ (l : List ℕ). f ++ l) padded.1

  opened_whole : whole_by v m ≡ true → length shown ≤ length work → Opening v m tag work f
  unfolding open_of open_whole
  opened_whole e fits = record {
    begin = 0;
    end = length shown;
    padding = padded.0;
    left = put_front shown work;
    opens = rw (headed.taken, headed.whole, e, headed.version, headed.start, headed.end, headed.lies, shown_is e, le-ltb (length work) (length shown) fits);
    lies = rw e (take-append_seam shown (drop (length shown) work));
    same = front_length shown work fits;
  }

  refused_whole : whole_by v m ≡ true → ltb (length work) (length shown) ≡ true → open_of tag work ≡ (Err (refusal 14), work)
  unfolding open_of open_whole
  refused_whole e t = rw (headed.taken, headed.whole, e, headed.version, headed.start, headed.end, headed.lies, shown_is e, t)

  -- a work buffer as long as the tag is enough
  enough : whole_by v m ≡ true → length tag ≤ length work → length shown ≤ length work
  enough e room = omega (arith, resync_shorter false region, ap length (shown_is e), headed.long)

  by_whole : (b : Bool) → whole_by v m ≡ b → length tag ≤ length work → Opening v m tag work f
  by_whole true e room = opened_whole e (enough e room)
  by_whole false e room = opened_plain e

  pub opened : length tag ≤ length work → Opening v m tag work f
  opened room = by_whole (whole_by v m) refl room

  -- with any work buffer, opening lays the frames before the reader or is refused with 14
  whole_any : whole_by v m ≡ true → (t : Bool) → ltb (length work) (length shown) ≡ t → Opening v m tag work f ⊎ (open_of tag work ≡ (Err (refusal 14), work))
  whole_any e true t = inr (refused_whole e t)
  whole_any e false t = inl (opened_whole e (ltb-false (length work) (length shown) t))

  any_by : (b : Bool) → whole_by v m ≡ b → Opening v m tag work f ⊎ (open_of tag work ≡ (Err (refusal 14), work))
  any_by true e = whole_any e (ltb (length work) (length shown)) refl
  any_by false e = inl (opened_plain e)

  pub opened_any : Opening v m tag work f ⊎ (open_of tag work ≡ (Err (refusal 14), work))
  opened_any = any_by (whole_by v m) refl
