-- A tag that is there whole reads with other bytes after it as it does alone. Assumes nothing.
use mathlib.Core.Path.{◌≡◌, refl, sym, ap, ◌∙◌}
use Prim.Native.Nat.{ℕ, ◌+◌, ◌%◌, ◌≤◌}
use native.Mathlib.Omega.{arith}
use mathlib.Core.Bool.{Bool, true, false, not, ◌&&◌}
use mathlib.Core.List.{List, [], ◌∷◌, ◌++◌}
use lib.ListN.{length, take, length-append, length-take}
use lib.Seq.{slice, take-append-le}
use lib.Dec.{ltb, leb, eqb}
use borrow.Author.Tests.{eqb-true, le-leb, ltb-false}
use Rattle.laws.proofs.Slices.{slice_front}
use Rattle.format.specs.Bytes.{pick, first, named, put_front}
use Rattle.format.specs.Unsynch.{resynchronised}
use Rattle.format.specs.Numbers.{number, from_synchsafe}
use Rattle.format.specs.Header.{edition_of, flags_of, size_of, version_of, is_whole, is_extended, cut_of, ext_of, header_checks, header_refusal, region_start, region_end, region_of}
use Rattle.format.specs.Numbered.{mode_of}
use Rattle.format.specs.declared.Version.{Version}
use Rattle.format.proofs.Checks.{of_picked, none_of, first_stops}
use Rattle.format.proofs.Fronts.{front_take}
use Rattle.format.proofs.Tags.{tag_headed}
use Rattle.reader.specs.Reader.{reader_at, open_whole, open_of}
use Rattle.promises.specs.Reading.{unfinished, read_from, on_open, read_for, read_all}
use Rattle.promises.specs.Written.{kept_of}
use Rattle.promises.specs.Promises.{frames_of}
use Rattle.promises.proofs.Opening.{source}
use Rattle.promises.proofs.Stepping.{reader}
use Rattle.promises.proofs.Bounds.{finishes}
use Rattle.promises.proofs.Adding.{told_as}
use Rattle.promises.proofs.Headers.{size_there}
use Rattle.blocks.specs.Promises.{Followed, WrittenFollowed}
use Rattle.blocks.proofs.Headers.{same_edition, same_flags, same_version, same_whole, same_size, same_extended}
use Rattle.blocks.proofs.Regions.{more_steps}
use Rattle.blocks.proofs.Anywhere.{same_read}
use Rattle.std.specs.Prelude.{Result, Ok, Err}
use Rattle.format.specs.declared.refusals.Refusal.{Refusal}
use Rattle.format.specs.Refusals.{refusal}
use Rattle.reader.specs.declared.Reader.{Reader}

-- opening by what the header says
abbrev open_by : ℕ → Bool → Version → ℕ → ℕ → List ℕ → List ℕ → Result Reader Refusal × List ℕ
open_by k whole v start end region work =
    pick (not (eqb k 0)) (Err (refusal k), work)
    (pick whole (open_whole v (resynchronised region) work) (Ok (reader_at v false start end), work))

-- a header that is refused
opens_not : (tag work : List ℕ) → (header_refusal tag ≡ 0 → ⊥) → open_of tag work ≡ (Err (refusal (header_refusal tag)), work)
unfolding open_of
opens_not tag work ne = by_header _ (eqb (header_refusal tag) 0) refl
  where
    by_header : (o : Result Reader Refusal × List ℕ) (t : Bool) → eqb (header_refusal tag) 0 ≡ t → pick (not t) (Err (refusal (header_refusal tag)), work) o ≡ (Err (refusal (header_refusal tag)), work)
    by_header o true e = absurd (ne (eqb-true (header_refusal tag) 0 e))
    by_header o false e = refl

-- the checks before the size of the extended header, and that one
abbrev five_checks : List ℕ → List ℕ
five_checks tag =
    pick (leb 10 (length tag) && eqb (number (take 3 tag)) (named "ID3")) 0 1
    ∷ pick (leb 2 (edition_of tag) && leb (edition_of tag) 4) 0 2
    ∷ pick (eqb (flags_of tag % 16) 0) 0 3
    ∷ pick (eqb (edition_of tag) 2 && is_extended tag) 4 0
    ∷ pick (is_extended tag && ltb (length (cut_of tag)) 16) 5 0
    ∷ []

abbrev sixth_check : List ℕ → ℕ
sixth_check tag = pick (is_extended tag && ltb (ext_of tag) 6) 6 0

module _ (tag more work : List ℕ) (there : 10 + size_of tag ≤ length tag) where
  abbrev longer : List ℕ
  longer = tag ++ more

  ten : 10 ≤ length tag
  ten = omega (arith, there)

  front : (n : ℕ) → n ≤ length tag → take n tag ≡ take n longer
  front n h = sym (take-append-le n tag more h)

  ten_same : take 10 tag ≡ take 10 longer
  ten_same = front 10 ten

  -- ---- the header

  same_cut : cut_of longer ≡ cut_of tag
  same_cut = rw (same_size tag longer ten_same) (sym (front (10 + size_of tag) there))

  same_end : region_end longer ≡ region_end tag
  same_end = ap length same_cut

  long_there : leb 10 (length longer) ≡ leb 10 (length tag)
  long_there = le-leb 10 (length longer) (omega (arith, length-append tag more)) ∙ sym (le-leb 10 (length tag) ten)

  -- the extended header is the same where it matters
  ext_at : (x : Bool) → is_extended tag ≡ x → 14 ≤ length tag → ext_of longer ≡ ext_of tag
  unfolding ext_of
  ext_at false e h = rw (same_extended tag longer ten_same, e)
  ext_at true e h = rw (same_extended tag longer ten_same, e) (ap from_synchsafe (sym (slice_front 14 10 14 tag longer (front 14 h) (omega arith))))

  no_ext : is_extended tag ≡ false → ext_of longer ≡ ext_of tag
  unfolding ext_of
  no_ext e = rw (same_extended tag longer ten_same, e)

  same_checks : ext_of longer ≡ ext_of tag → header_checks longer ≡ header_checks tag
  same_checks e =
      rw (long_there, ← front_take 10 tag longer ten_same 3 (omega arith), same_edition tag longer ten_same, same_flags tag longer ten_same, same_cut, e)

  same_refusal_by : ext_of longer ≡ ext_of tag → header_refusal longer ≡ header_refusal tag
  unfolding header_refusal
  same_refusal_by e = ap first (same_checks e)

  -- ---- opening, where the extended header is the same

  region_there : slice (region_start tag) (region_end tag) longer ≡ region_of tag
  region_there =
      sym (slice_front (length tag) (region_start tag) (region_end tag) tag longer (front (length tag) (omega arith)) (omega (arith, length-take (10 + size_of tag) tag)))

  same_open_by : ext_of longer ≡ ext_of tag → open_of longer work ≡ open_of tag work
  unfolding open_of
  same_open_by e =
      let start : region_start longer ≡ region_start tag = rw (e, same_end) in
      let region : region_of longer ≡ region_of tag = rw (start, same_end) region_there in
      let refusal = same_refusal_by e in
      let whole = same_whole tag longer ten_same in
      let version = same_version tag longer ten_same in
      λ i. open_by (refusal i) (whole i) (version i) (start i) (same_end i) (region i) work

  -- ---- an extended header that is not there whole is refused

  module _ (extended : is_extended tag ≡ true) (short : ltb (length (cut_of tag)) 16 ≡ true) where
    five_same : five_checks longer ≡ five_checks tag
    five_same =
        rw (long_there, ← front_take 10 tag longer ten_same 3 (omega arith), same_edition tag longer ten_same, same_flags tag longer ten_same, same_cut)

    five_stop : first (five_checks tag) ≡ 0 → ⊥
    five_stop z = let e : ◌≡◌ {A = ℕ} 5 0 = rw (extended, short) at (none_of (five_checks tag) z 4) in omega arith

    tag_stops : header_refusal tag ≡ first (five_checks tag)
    unfolding header_refusal
    tag_stops = first_stops (five_checks tag) (sixth_check tag ∷ []) five_stop

    longer_stops : header_refusal longer ≡ first (five_checks tag)
    unfolding header_refusal
    longer_stops =
        first_stops (five_checks longer) (sixth_check longer ∷ []) (λ z. five_stop (sym (ap first five_same) ∙ z))
        ∙ ap first five_same

    refused_open : open_of longer work ≡ open_of tag work
    refused_open =
        opens_not longer work (λ z. five_stop (sym longer_stops ∙ z))
        ∙ ap {B = Result Reader Refusal × List ℕ} (λ (k : ℕ). (Err (refusal k), work)) (longer_stops ∙ sym tag_stops)
        ∙ sym (opens_not tag work (λ z. five_stop (sym tag_stops ∙ z)))

  -- Both are opened alike.
  extended_open : is_extended tag ≡ true → (t : Bool) → ltb (length (cut_of tag)) 16 ≡ t → open_of longer work ≡ open_of tag work
  extended_open e true t = refused_open e t
  extended_open e false t =
      let long : 16 ≤ length (cut_of tag) = ltb-false (length (cut_of tag)) 16 t in
      same_open_by (ext_at true e (omega (arith, length-take (10 + size_of tag) tag)))

  open_by_lem : (x : Bool) → is_extended tag ≡ x → open_of longer work ≡ open_of tag work
  open_by_lem true e = extended_open e (ltb (length (cut_of tag)) 16) refl
  open_by_lem false e = same_open_by (no_ext e)

  same_open : open_of longer work ≡ open_of tag work
  same_open = open_by_lem (is_extended tag) refl

  -- ---- reading

  -- what was opened reads the same in both
  abbrev Follows : Result Reader Refusal × List ℕ → Type 0
  Follows o = ((on_open (length tag) tag o.0 o.1).1 ≡ unfinished → ⊥) → on_open (length longer) longer o.0 o.1 ≡ on_open (length tag) tag o.0 o.1

  ready_follows : (v : Version) (w : Bool) (begin end : ℕ) (left : List ℕ) → slice begin end (source w longer left) ≡ slice begin end (source w tag left)
      → Follows (Ok (reader_at v w begin end), left)
  ready_follows v w begin end left e finishing =
      ap (λ (k : ℕ). read_from k longer (reader v w begin begin end) left) (length-append tag more)
      ∙ same_read v w longer tag begin end begin end (length tag + length more) begin begin left left e refl
      ∙ more_steps (length tag) (length more) tag (reader v w begin begin end) left finishing

  open_follows : Follows (open_of tag work)
  unfolding open_of open_whole
  open_follows =
      let v = version_of (edition_of tag) in
      let u = resynchronised (region_of tag) in
      of_picked Follows (not (eqb (header_refusal tag) 0)) (λ t f. refl)
      (λ t. of_picked Follows (is_whole tag)
      (λ s. of_picked Follows (ltb (length work) (length u)) (λ l f. refl) (λ l. ready_follows v true 0 (length u) (put_front u work) refl))
      (λ s. ready_follows v false (region_start tag) (region_end tag) work region_there))

  reads_same : read_all longer work ≡ read_all tag work
  unfolding read_for
  reads_same = ap (λ (o : Result Reader Refusal × List ℕ). on_open (length longer) longer o.0 o.1) same_open ∙ open_follows (finishes tag work)

-- ---- the promises

pub followed : Followed
followed tag more work there = reads_same tag more work there

pub written_followed : WrittenFollowed
written_followed version mode padding altered records tag sound work w =
    let t = told_as version mode altered padding records tag w in
    let v = version_of version in
    let m = mode_of mode in
    let f = frames_of v m (kept_of v altered records) in
    followed tag sound work (rw t.is_tag_lem (omega (arith, size_there v m padding f t.small, (tag_headed v m padding f t.small).long)))
