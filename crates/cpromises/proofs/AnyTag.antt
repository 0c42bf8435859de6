-- What is read of any bytes fits the words, so the exported functions read what the definitions read. Assumes nothing.
use mathlib.Core.Path.{◌≡◌, refl, sym, ap, ◌∙◌, subst}
use Prim.Native.Nat.{ℕ, zero, suc, ◌+◌, ◌*◌, ◌^◌, ◌≤◌, ◌<◌}
use native.Mathlib.Omega.{arith}
use mathlib.Core.Bool.{Bool, true, false, not, ◌&&◌}
use mathlib.Core.List.{List, [], ◌∷◌, ◌++◌}
use lib.ListN.{length, take, drop, get_or, length-take, length-drop}
use lib.Seq.{slice, take-append_seam}
use lib.Dec.{ltb, eqb}
use borrow.Author.Tests.{eqb-true}
use Rattle.laws.proofs.Slices.{slice_drop}
use Rattle.format.specs.Bytes.{only_if, pick, zero_at, put_front}
use Rattle.format.specs.Numbers.{onto, number}
use Rattle.format.specs.Unsynch.{resync, resynchronised}
use Rattle.format.specs.Ids.{id_len}
use Rattle.format.specs.Header.{edition_of, version_of, is_whole, header_refusal, region_start, region_end, region_of}
use Rattle.format.specs.Frame.{head_of}
use Rattle.format.specs.Chapter.{time_in}
use Rattle.format.specs.Record.{body_refusal, Rec}
use Rattle.format.specs.Walk.{Out, inside_of, resynced_of, is_resynced, shown_body, body_of, shown_kind, walked}
use Rattle.format.specs.declared.Version.{Version}
use Rattle.format.specs.declared.Version.TheVariants.{Id3v22, Id3v23, Id3v24}
use Rattle.format.specs.declared.Kind.{Kind}
use Rattle.format.specs.declared.Head.{Head}
use Rattle.format.proofs.Checks.{of_picked, first_none, none_else}
use Rattle.format.proofs.Heads.{stands}
use Rattle.format.proofs.Popularimeter.{taken_counted}
use Rattle.reader.specs.Reader.{open_whole, open_of}
use Rattle.promises.specs.Reading.{Reading, read_from, on_open, read_for, read_all}
use Rattle.promises.proofs.Opening.{source}
use Rattle.promises.proofs.Stepping.{reader}
use Rattle.blocks.specs.Blocks.{Sight, refuses, shows, on_sight}
use Rattle.blocks.proofs.Seen.{content_in}
use Rattle.blocks.proofs.Sights.{out_of, rec_in, sight_is}
use Rattle.blocks.proofs.Reading.{room_of, work_then, go_on, first_read, end_read, refused_read}
use Rattle.blocks.proofs.Regions.{source_then}
use Rattle.blocks.proofs.Followed.{followed}
use Rattle.cpromises.specs.Promises.{deviation_count, AtMost}
use Rattle.cpromises.specs.AnyTag.{AllBytes, SvReads, SvAnyFollowed}
use Rattle.cpromises.proofs.Fitting.{ContentFits}
use Rattle.cpromises.proofs.Showing.{Given, Showable}
use Rattle.cpromises.proofs.Reading.{AllShow, nothing, also, sv_reads}
use Rattle.std.specs.Prelude.{Result, Option, Ok, Err, Some, None}
use Rattle.format.specs.declared.refusals.Refusal.{Refusal}
use Rattle.reader.specs.declared.Reader.{Reader}

-- ---- bytes

bytes_take : (n : ℕ) (s : List ℕ) → AllBytes s → AllBytes (take n s)
bytes_take zero [] b = tt
bytes_take zero (x ∷ s) b = tt
bytes_take (suc n) [] b = tt
bytes_take (suc n) (x ∷ s) b = (b.0, bytes_take n s b.1)

bytes_drop : (n : ℕ) (s : List ℕ) → AllBytes s → AllBytes (drop n s)
bytes_drop zero [] b = tt
bytes_drop zero (x ∷ s) b = b
bytes_drop (suc n) [] b = tt
bytes_drop (suc n) (x ∷ s) b = bytes_drop n s b.1

byte_at : (i : ℕ) (s : List ℕ) → AllBytes s → get_or s i 0 < 2 ^ 8
byte_at i [] b = omega arith
byte_at zero (x ∷ s) b = b.0
byte_at (suc i) (x ∷ s) b = byte_at i s b.1

bytes_if : (t : Bool) (x : ℕ) (s : List ℕ) → x < 2 ^ 8 → AllBytes s → AllBytes (only_if t x s)
bytes_if true x s h b = (h, b)
bytes_if false x s h b = b

bytes_resync : (prev : Bool) (s : List ℕ) → AllBytes s → AllBytes (resync prev s)
unfolding resync
bytes_resync prev [] b = tt
bytes_resync prev (x ∷ s) b = bytes_if (not (prev && eqb x 0)) x (resync (eqb x 255) s) b.0 (bytes_resync (eqb x 255) s b.1)

bytes_front : (s t : List ℕ) → AllBytes (s ++ t) → AllBytes s
bytes_front [] t b = tt
bytes_front (x ∷ s) t b = (b.0, bytes_front s t b.1)

-- ---- numbers of so many bytes

of_two : (s : List ℕ) → length s ≤ 2 → AllBytes s → number s < 2 ^ 16
unfolding onto
of_two [] h b = omega arith
of_two (x ∷ []) h b = omega arith
of_two (x ∷ y ∷ []) h b = omega arith
of_two (x ∷ y ∷ z ∷ s) h b = absurd (omega arith)

of_four : (s : List ℕ) → length s ≤ 4 → AllBytes s → number s < 2 ^ 32
unfolding onto
of_four [] h b = omega arith
of_four (x ∷ []) h b = omega arith
of_four (x ∷ y ∷ []) h b = omega arith
of_four (x ∷ y ∷ z ∷ []) h b = omega arith
of_four (x ∷ y ∷ z ∷ w ∷ []) h b = omega arith
of_four (x ∷ y ∷ z ∷ w ∷ v ∷ s) h b = absurd (omega arith)

part_bytes : (from n : ℕ) (s : List ℕ) → AllBytes s → AllBytes (take n (drop from s))
part_bytes from n s b = bytes_take n (drop from s) (bytes_drop from s b)

slice_bytes : (from to : ℕ) (s : List ℕ) → AllBytes s → AllBytes (slice from to s)
slice_bytes from to s b = bytes_drop from (take to s) (bytes_take to s b)

-- ---- a body and a record

content_shows : (v : Version) (b : List ℕ) (kind : Kind) (n : ℕ) → AllBytes b → body_refusal kind b ≡ 0 → deviation_count (content_in v b kind) ≤ n
    → ContentFits (content_in v b kind) × Given n (content_in v b kind)
unfolding body_refusal
content_shows v b Kind.Text n h e d = (byte_at 0 b h, tt)
content_shows v b Kind.Popularimeter n h e d = ((byte_at (zero_at b + 1) b h, (taken_counted b e).fits), tt)
content_shows v b Kind.Table n h e d =
    let cut : (from to : ℕ) → to ≤ from + 4 → number (slice from to b) < 2 ^ 32 =
    λ from to l. of_four (slice from to b) (omega (arith, length-drop from (take to b), length-take to b)) (slice_bytes from to b h) in (
      (
        of_two (slice 0 2 b) (omega (arith, length-drop 0 (take 2 b), length-take 2 b)) (slice_bytes 0 2 b h),
        cut 2 5 (omega arith),
        cut 5 8 (omega arith),
        byte_at 8 b h,
        byte_at 9 b h,
      ),
      (none_else _ 29 (first_none _ _ (first_none _ _ e).1).0, d),
    )
content_shows v b Kind.Chapter n h e d =
    let time : (i : ℕ) → time_in i b < 2 ^ 32 =
    λ i.
    let from = zero_at b + (1 + 4 * i) in
    of_four (take 4 (drop from b)) (omega (arith, length-take 4 (drop from b))) (part_bytes from 4 b h) in
    ((time 0, time 1, time 2, time 3), tt)
content_shows v b Kind.Contents n h e d = (tt, tt)
content_shows v b Kind.Raw n h e d = (tt, tt)

id_fits : (v : Version) (s : List ℕ) → AllBytes s → number (take (id_len v) s) < 2 ^ 32
id_fits Id3v22 s b = of_four (take 3 s) (omega (arith, length-take 3 s)) (bytes_take 3 s b)
id_fits Id3v23 s b = of_four (take 4 s) (omega (arith, length-take 4 s)) (bytes_take 4 s b)
id_fits Id3v24 s b = of_four (take 4 s) (omega (arith, length-take 4 s)) (bytes_take 4 s b)

shown_bytes : (resynced : Bool) (b : List ℕ) → AllBytes b → AllBytes (shown_body resynced b)
shown_bytes true b h = bytes_resync false b h
shown_bytes false b h = h

-- a body whose outcome is no refusal was not refused itself
module _ (go : List ℕ → List ℕ → Out) (kind : Kind) where
  inside_taken : (b room : List ℕ) → (inside_of go kind b room).0 ≡ 0 → body_refusal kind b ≡ 0
  unfolding inside_of
  inside_taken b room =
      of_picked (λ (o : Out). o.0 ≡ 0 → body_refusal kind b ≡ 0) (eqb (body_refusal kind b) 0) (λ t z. eqb-true (body_refusal kind b) 0 t) (λ t z. z)

  pub body_taken : (resynced : Bool) (b room : List ℕ) → (body_of resynced go kind b room).0 ≡ 0 → body_refusal kind (shown_body resynced b) ≡ 0
  unfolding resynced_of
  body_taken true b room =
      let u = resynchronised b in
      of_picked (λ (o : Out). o.0 ≡ 0 → body_refusal kind u ≡ 0) (ltb (length room) (length u)) (λ t z. absurd (omega arith))
      (λ t z. inside_taken u (drop (length u) room) z)
  body_taken false b room = inside_taken b room

-- ---- the steps

abbrev Shown : ℕ → Reading → Type 0
Shown m o = AtMost m o.0 → AllShow m o.0

on_shown_lem : (m k : ℕ) (r : Rec) (go : List ℕ → Reading) (left : List ℕ) (t : Bool) → eqb k 0 ≡ t
    → (k ≡ 0 → deviation_count r.content ≤ m → Showable m r) → Shown m (go left) → Shown m (on_sight go (pick t (shows r) (refuses k)) left)
on_shown_lem m k r go left true z f p a = also (f (eqb-true k 0 z) a.0) (p a.1)
on_shown_lem m k r go left false z f p a = nothing

module _ (m : ℕ) (v : Version) (w : Bool) (begin end : ℕ) (tag : List ℕ) where
  abbrev From : ℕ → Type 0
  From n = (at : ℕ) (work : List ℕ) → AllBytes (slice at end (source w tag work)) → Shown m (read_from n tag (reader v w begin at end) work)

  module _ (n : ℕ) (go : From n) (at : ℕ) (work : List ℕ) (b : AllBytes (slice at end (source w tag work))) where
    abbrev s : List ℕ
    s = slice at end (source w tag work)

    shown_on_head : (x : Result (Option Head) Refusal) → head_of v 1 s ≡ x → Shown m (read_from (suc n) tag (reader v w begin at end) work)
    shown_on_head (Ok None) e = subst (Shown m) (sym (end_read v n begin at end tag work w e)) (λ a. nothing)
    shown_on_head (Err k) e = subst (Shown m) (sym (refused_read v n begin at end tag work w e)) (λ a. nothing)
    shown_on_head (Ok (Some h)) e =
        let stored = take h.len (drop h.start s) in
        let room = room_of w work in
        let kind = shown_kind v h.id h.compressed in
        let o = out_of v h.id h.compressed h.flagged stored room in
        let r = rec_in v h.id h.compressed h.flagged h.short stored in
        let k = h.start + h.len in
        let next = go_on n tag (reader v w begin (at + k) end) work in
        let read : read_from (suc n) tag (reader v w begin at end) work ≡ on_sight next (pick (eqb o.0 0) (shows r) (refuses o.0)) o.1 =
        first_read v n begin at end tag work w e ∙ ap (λ (x : Sight × List ℕ). on_sight next x.0 x.1) (sight_is v h.id h.compressed h.flagged h.short h.start h.len s e room) in
        let body : AllBytes (shown_body (is_resynced h.compressed h.flagged) stored) = shown_bytes (is_resynced h.compressed h.flagged) stored (part_bytes h.start h.len s b) in
        let id_small : h.id < 2 ^ 32 = rw (stands v 1 s h.id h.compressed h.flagged h.short h.start h.len e).is_id_lem (id_fits v s b) in
        let rest : AllBytes (slice (at + k) end (source w tag (work_then w work o.1))) =
        rw (source_then w tag work o.1, slice_drop at k end (source w tag work)) (bytes_drop k s b) in
        subst (Shown m) (sym read)
        (on_shown_lem m o.0 r next o.1 (eqb o.0 0) refl
        (λ z d.
        let q = content_shows v (shown_body (is_resynced h.compressed h.flagged) stored) kind m body (body_taken (walked false v 2) kind (is_resynced h.compressed h.flagged) stored room z) d in
        ((id_small, q.0), q.1))
        (go (at + k) (work_then w work o.1) rest))

  all_shown : (n : ℕ) → From n
  unfolding read_from
  all_shown zero at work b = λ a. nothing
  all_shown (suc n) at work b = shown_on_head n (all_shown n) at work b (head_of v 1 (slice at end (source w tag work))) refl

-- ---- a tag

module _ (m : ℕ) (tag work : List ℕ) (b : AllBytes tag) where
  abbrev Opens : Result Reader Refusal × List ℕ → Type 0
  Opens o = Shown m (on_open (length tag) tag o.0 o.1)

  opens : Opens (open_of tag work)
  unfolding open_of open_whole
  opens =
      let v = version_of (edition_of tag) in
      let u = resynchronised (region_of tag) in
      let region : AllBytes (region_of tag) = slice_bytes (region_start tag) (region_end tag) tag b in
      let whole : AllBytes (slice 0 (length u) (put_front u work)) = rw (take-append_seam u (drop (length u) work)) (bytes_resync false (region_of tag) region) in
      of_picked Opens (not (eqb (header_refusal tag) 0)) (λ t a. nothing)
      (λ t. of_picked Opens (is_whole tag)
      (λ s. of_picked Opens (ltb (length work) (length u)) (λ l a. nothing) (λ l. all_shown m v true 0 (length u) tag (length tag) 0 (put_front u work) whole))
      (λ s. all_shown m v false (region_start tag) (region_end tag) tag (length tag) (region_start tag) work region))

  -- All that is read is shown shown-on-head the words.
  tag_shown : AtMost m (read_all tag work).0 → AllShow m (read_all tag work).0
  unfolding read_for
  tag_shown = opens

pub sv_reads_any : SvReads
sv_reads_any tag work reader words numbers count b lent =
    sv_reads tag work reader words numbers count lent.reader_words_lem lent.record_words_lem lent.count_words refl (tag_shown (length numbers) tag work b lent.deviations_fit)

pub sv_any_followed : SvAnyFollowed
sv_any_followed tag more work reader words numbers count b there lent =
    let e = followed tag more work there in
    let shown = tag_shown (length numbers) tag work (bytes_front tag more b) lent.deviations_fit in
    sv_reads (tag ++ more) work reader words numbers count lent.reader_words_lem lent.record_words_lem lent.count_words e shown
    ∙ sym (sv_reads tag work reader words numbers count lent.reader_words_lem lent.record_words_lem lent.count_words refl shown)
