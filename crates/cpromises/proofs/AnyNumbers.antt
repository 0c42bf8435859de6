-- Whatever is read of any bytes has at most four deviations for each of them. Assumes nothing.
use mathlib.Core.Path.{◌≡◌, refl, sym, ap, ◌∙◌, subst}
use Prim.Native.Nat.{ℕ, zero, suc, ◌+◌, ◌-◌, ◌*◌, ◌/◌, ◌≤◌}
use native.Mathlib.Nat.{le_trans, mul-le-mul_left, div-mul-le_self}
use native.Mathlib.Omega.{arith}
use mathlib.Core.Bool.{Bool, true, false, not}
use mathlib.Core.List.{List}
use lib.ListN.{length, take, drop, length-take, length-drop}
use lib.Seq.{slice, take-append_seam}
use lib.Dec.{ltb, eqb}
use borrow.Author.Tests.{eqb-true}
use Rattle.laws.proofs.Slices.{slice_drop}
use Rattle.format.specs.Bytes.{pick, put_front}
use Rattle.format.specs.Unsynch.{resynchronised}
use Rattle.format.specs.Header.{edition_of, version_of, is_whole, header_refusal, region_start, region_end, region_of}
use Rattle.format.specs.Frame.{head_of}
use Rattle.format.specs.Table.{spread, unpack, byte_bits_in, milli_bits_in}
use Rattle.format.specs.Record.{body_refusal, Rec}
use Rattle.format.specs.Walk.{is_resynced, shown_body, shown_kind, walked}
use Rattle.format.specs.declared.Version.{Version}
use Rattle.format.specs.declared.Kind.{Kind}
use Rattle.format.specs.declared.Head.{Head}
use Rattle.format.proofs.Checks.{of_picked, first_none}
use Rattle.format.proofs.Unsynch.{resync_shorter}
use Rattle.format.proofs.Table.{length_gathered, widths_sum}
use Rattle.reader.specs.Reader.{open_whole, open_of}
use Rattle.promises.specs.Reading.{Reading, read_from, on_open, read_for}
use Rattle.promises.proofs.Opening.{source}
use Rattle.promises.proofs.Stepping.{reader}
use Rattle.blocks.specs.Blocks.{Sight, refuses, shows, on_sight}
use Rattle.blocks.proofs.Seen.{content_in}
use Rattle.blocks.proofs.Sights.{out_of, rec_in, sight_is}
use Rattle.blocks.proofs.Reading.{room_of, work_then, go_on, first_read, end_read, refused_read}
use Rattle.blocks.proofs.Regions.{source_then}
use Rattle.cpromises.specs.Promises.{deviation_count, AtMost}
use Rattle.cpromises.specs.AnyTag.{SvAnyNumbers}
use Rattle.cpromises.proofs.AnyTag.{body_taken}
use Rattle.std.specs.Prelude.{Result, Option, Ok, Err, Some, None}
use Rattle.format.specs.declared.refusals.Refusal.{Refusal}
use Rattle.reader.specs.declared.Reader.{Reader}

-- ---- a body

half : (q n : ℕ) → q * 4 ≤ 8 * n → q * 2 ≤ 4 * n
half q n h = omega arith

unpack_short : (v w : ℕ) (s : List ℕ) → 4 ≤ v + w → length (unpack v w s) ≤ 4 * length s
unfolding unpack
unpack_short v w s h =
    let q = 8 * length s / (v + w) in
    rw (length_gathered (q * 2) v w (spread 8 8 s)) (half q (length s) (le_trans (mul-le-mul_left q h) (div-mul-le_self (8 * length s) (v + w))))

content_few : (v : Version) (b : List ℕ) (kind : Kind) → body_refusal kind b ≡ 0 → deviation_count (content_in v b kind) ≤ 4 * length b
unfolding body_refusal
content_few v b Kind.Text e = omega arith
content_few v b Kind.Popularimeter e = omega arith
content_few v b Kind.Table e =
    let x = byte_bits_in b in
    let y = milli_bits_in b in
    let rest = take (length b - 10) (drop 10 b) in
    let sum = widths_sum x y (first_none _ _ e).1 in
    let four : 4 ≤ x + y = omega (arith, sum.0, sum.1) in
    let cut : length rest ≤ length b = omega (arith, length-take (length b - 10) (drop 10 b)) in
    omega (arith, unpack_short x y rest four)
content_few v b Kind.Chapter e = omega arith
content_few v b Kind.Contents e = omega arith
content_few v b Kind.Raw e = omega arith

shown_shorter : (resynced : Bool) (b : List ℕ) → length (shown_body resynced b) ≤ length b
shown_shorter true b = resync_shorter false b
shown_shorter false b = omega arith

-- ---- the steps

abbrev Few : ℕ → Reading → Type 0
Few m o = AtMost m o.0

on_few : (m k : ℕ) (r : Rec) (go : List ℕ → Reading) (left : List ℕ) (t : Bool) → eqb k 0 ≡ t
    → (k ≡ 0 → deviation_count r.content ≤ m) → Few m (go left) → Few m (on_sight go (pick t (shows r) (refuses k)) left)
on_few m k r go left true z f p = (f (eqb-true k 0 z), p)
on_few m k r go left false z f p = tt

module _ (n₀ : ℕ) (v : Version) (w : Bool) (begin end : ℕ) (tag : List ℕ) where
  abbrev From : ℕ → Type 0
  From n = (at : ℕ) (work : List ℕ) → length (slice at end (source w tag work)) ≤ n₀ → Few (4 * n₀) (read_from n tag (reader v w begin at end) work)

  module _ (n : ℕ) (go : From n) (at : ℕ) (work : List ℕ) (short : length (slice at end (source w tag work)) ≤ n₀) where
    abbrev s : List ℕ
    s = slice at end (source w tag work)

    few_on_head : (x : Result (Option Head) Refusal) → head_of v 1 s ≡ x → Few (4 * n₀) (read_from (suc n) tag (reader v w begin at end) work)
    few_on_head (Ok None) e = subst (Few (4 * n₀)) (sym (end_read v n begin at end tag work w e)) tt
    few_on_head (Err k) e = subst (Few (4 * n₀)) (sym (refused_read v n begin at end tag work w e)) tt
    few_on_head (Ok (Some h')) e =
        let stored = take h'.len (drop h'.start s) in
        let room = room_of w work in
        let kind = shown_kind v h'.id h'.compressed in
        let o = out_of v h'.id h'.compressed h'.flagged stored room in
        let b = shown_body (is_resynced h'.compressed h'.flagged) stored in
        let k = h'.start + h'.len in
        let next = go_on n tag (reader v w begin (at + k) end) work in
        let read : read_from (suc n) tag (reader v w begin at end) work ≡ on_sight next (pick (eqb o.0 0) (shows (rec_in v h'.id h'.compressed h'.flagged h'.short stored)) (refuses o.0)) o.1 =
        first_read v n begin at end tag work w e ∙ ap (λ (x : Sight × List ℕ). on_sight next x.0 x.1) (sight_is v h'.id h'.compressed h'.flagged h'.short h'.start h'.len s e room) in
        let part : length b ≤ n₀ = omega (arith, shown_shorter (is_resynced h'.compressed h'.flagged) stored, length-take h'.len (drop h'.start s), length-drop h'.start s) in
        let rest : length (slice (at + k) end (source w tag (work_then w work o.1))) ≤ n₀ =
        rw (source_then w tag work o.1, slice_drop at k end (source w tag work)) (omega (arith, length-drop k s)) in
        subst (Few (4 * n₀)) (sym read)
        (on_few (4 * n₀) o.0 (rec_in v h'.id h'.compressed h'.flagged h'.short stored) next o.1 (eqb o.0 0) refl
        (λ z. omega (arith, content_few v b kind (body_taken (walked false v 2) kind (is_resynced h'.compressed h'.flagged) stored room z)))
        (go (at + k) (work_then w work o.1) rest))

  all_few : (n : ℕ) → From n
  unfolding read_from
  all_few zero at work h = tt
  all_few (suc n) at work h = few_on_head n (all_few n) at work h (head_of v 1 (slice at end (source w tag work))) refl

-- ---- a tag

module _ (tag work : List ℕ) where
  abbrev Opens : Result Reader Refusal × List ℕ → Type 0
  Opens o = Few (4 * length tag) (on_open (length tag) tag o.0 o.1)

  opens : Opens (open_of tag work)
  unfolding open_of open_whole
  opens =
      let v = version_of (edition_of tag) in
      let u = resynchronised (region_of tag) in
      let region : length (region_of tag) ≤ length tag =
      omega (arith, length-drop (region_start tag) (take (region_end tag) tag), length-take (region_end tag) tag) in
      let whole : length (slice 0 (length u) (put_front u work)) ≤ length tag =
      rw (take-append_seam u (drop (length u) work)) (omega (arith, resync_shorter false (region_of tag))) in
      of_picked Opens (not (eqb (header_refusal tag) 0)) (λ t. tt)
      (λ t. of_picked Opens (is_whole tag)
      (λ s. of_picked Opens (ltb (length work) (length u)) (λ l. tt) (λ l. all_few (length tag) v true 0 (length u) tag (length tag) 0 (put_front u work) whole))
      (λ s. all_few (length tag) v false (region_start tag) (region_end tag) tag (length tag) (region_start tag) work region))

pub sv_any_numbers : SvAnyNumbers
unfolding read_for
sv_any_numbers tag work = opens tag work
