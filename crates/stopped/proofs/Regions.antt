-- The region of a tag that was cut: the frames that are there whole, and what begins no whole frame. Assumes nothing.
use mathlib.Core.Path.{◌≡◌, refl, sym, ap, ◌∙◌, subst}
use Prim.Native.Nat.{ℕ, suc, ◌+◌, ◌-◌, ◌^◌, ◌≤◌, ◌<◌}
use native.Mathlib.Omega.{arith}
use mathlib.Core.Bool.{Bool, true, false}
use mathlib.Core.List.{List, [], ◌∷◌, ◌++◌, append-nil}
use lib.ListN.{length, take, drop, length-take, length-drop}
use lib.Seq.{slice, take_all, take-take}
use lib.Dec.{ltb}
use borrow.Author.Tests.{ltb-true, ltb-false}
use Rattle.laws.proofs.Cuts.{take_drop}
use Rattle.format.specs.Bytes.{zeros}
use Rattle.format.specs.Header.{size_of, region_of}
use Rattle.format.specs.Frame.{head_of}
use Rattle.format.specs.Record.{Rec}
use Rattle.format.specs.Walk.{shown_body}
use Rattle.format.specs.Encode.{encode, whole_of, region_bytes, tag_of}
use Rattle.format.specs.declared.Version.{Version}
use Rattle.format.specs.declared.Mode.{Mode}
use Rattle.format.specs.declared.Head.{Head}
use Rattle.format.proofs.CutHeads.{cut_short}
use Rattle.format.proofs.Accepted.{Sound}
use Rattle.format.proofs.Tags.{whole_by, Headed, tag_headed}
use Rattle.promises.specs.Promises.{frames_of}
use Rattle.promises.proofs.Sounds.{Sounds, also}
use Rattle.blocks.specs.Blocks.{Block, block_len, NoBlock}
use Rattle.blocks.proofs.Edits.{zeros_quiet}
use Rattle.blocks.proofs.Encoded.{encode_block}
use Rattle.blocks.proofs.Tails.{quiet_no_block}
use Rattle.blocks.proofs.Writes.{tag_plain}
use Rattle.blocks.proofs.Headers.{same_region}
use Rattle.stopped.specs.Stopped.{reach_of, whole_in}
use Rattle.stopped.proofs.Members.{member}
use Rattle.stopped.proofs.Counts.{frames_append, there_reach, there_next}
use Rattle.stopped.proofs.Cuts.{cut_inside, cut_behind}
use Rattle.std.specs.Prelude.{Result, Option, Ok, Err, Some, None}
use Rattle.format.specs.declared.refusals.Refusal.{Refusal}

-- ---- a part of a block

-- A part of a block that is not all of it begins no whole frame.
pub part_no_block : (v : Version) (b : List ℕ) (n : ℕ) → Block v b → n < length b → NoBlock v (take n b)
part_no_block v b n w lt = by_head (head_of v 1 (take n b)) refl
  where
    by_head : (x : Result (Option Head) Refusal) → head_of v 1 (take n b) ≡ x → block_len x ≡ 0
    by_head (Ok None) e = refl
    by_head (Err k) e = refl
    by_head (Ok (Some h)) e = rw (cut_short v 1 b w.head n (omega (arith, w.ends)) e)

-- ---- the cut tag

sounds_at : {v : Version} {m : Mode} (before : List Rec) (r : Rec) (after : List Rec) → Sounds v m (before ++ (r ∷ after)) → Sound v m r
sounds_at [] r after (also s ss) = s
sounds_at (q ∷ before) r after (also s ss) = sounds_at before r after ss

-- the frames of the first k records, and so many bytes of the next one's
pub record CutFrame (v : Version) (m : Mode) (k : ℕ) (rs : List Rec) (shown : List ℕ) : Type 0 where
  pub one : Rec
  pub more : List Rec
  pub place : rs ≡ take k rs ++ (one ∷ more)
  pub sound : Sound v m one
  pub there : ℕ
  pub less : there < length (encode v m one)
  pub is : shown ≡ frames_of v m (take k rs) ++ take there (encode v m one)

module _ (v : Version) (m : Mode) (p n : ℕ) (rs : List Rec) (small : length (region_bytes v m p (frames_of v m rs)) < 2 ^ 28) (ten : 10 ≤ n) where
  abbrev tag : List ℕ
  tag = tag_of v m p (frames_of v m rs)

  abbrev region : List ℕ
  region = region_bytes v m p (frames_of v m rs)

  headed : Headed v m tag region
  headed = tag_headed v m p (frames_of v m rs) small

  pub long_tag : 10 ≤ length (tag_of v m p (frames_of v m rs))
  long_tag = omega (arith, headed.long)

  pub ten_left : 10 ≤ length (take n (tag_of v m p (frames_of v m rs)))
  ten_left = omega (arith, long_tag, length-take n tag)

  pub same_front : take 10 (tag_of v m p (frames_of v m rs)) ≡ take 10 (take n (tag_of v m p (frames_of v m rs)))
  same_front = sym (take-take 10 n tag ten)

  pub region_there : drop 10 (tag_of v m p (frames_of v m rs)) ≡ region_bytes v m p (frames_of v m rs)
  region_there = sym (ap (drop 10) (take_all (10 + length region) tag (omega (arith, headed.long)))) ∙ headed.lies

  -- the region of the cut tag is cut ten bytes earlier
  pub region_cut : region_of (take n (tag_of v m p (frames_of v m rs))) ≡ take (n - 10) (region_bytes v m p (frames_of v m rs))
  region_cut =
      let cut = take n tag in
      let h = headed in
      let size : length region ≤ size_of tag = omega (arith, h.end, h.long, length-take (10 + size_of tag) tag) in
      let all : length (drop 10 cut) ≤ size_of tag = omega (arith, length-drop 10 cut, length-take n tag, h.long) in
      let is : 10 + (n - 10) ≡ n = omega arith in
      same_region tag cut same_front ten_left (tag_plain v m p (frames_of v m rs))
      ∙ take_all (size_of tag) (drop 10 cut) all
      ∙ sym (take_drop (n - 10) 10 tag ∙ ap (λ (i : ℕ). slice 10 i tag) is)
      ∙ ap (take (n - 10)) region_there

  abbrev shown : List ℕ
  shown = shown_body (whole_by v m) (region_of (take n tag))

  -- cut behind the last frame: all frames, and zeros
  pub shown_behind : reach_of v m rs ≤ n → (k : ℕ) × (shown_body (whole_by v m) (region_of (take n (tag_of v m p (frames_of v m rs)))) ≡ frames_of v m rs ++ zeros k)
  shown_behind h =
      let o = cut_behind v m p (n - 10) (frames_of v m rs) (omega arith) in
      (o.0, ap (shown_body (whole_by v m)) region_cut ∙ o.1)

  module _ (ss : Sounds v m rs) where
    abbrev k : ℕ
    k = whole_in v m n rs

    -- the frames that are there whole, and a tail that begins none
    abbrev Front : Type 0
    Front = (tail : List ℕ) × (NoBlock v tail) × (shown ≡ frames_of v m (take k rs) ++ tail)

    -- the frame that is cut: a part of it is there, but not all
    pub cut_frame : whole_in v m n rs < length rs → CutFrame v m (whole_in v m n rs) rs (shown_body (whole_by v m) (region_of (take n (tag_of v m p (frames_of v m rs)))))
    cut_frame lt =
        let o = member k rs lt in
        let a = frames_of v m (take k rs) in
        let b = encode v m o.one in
        let all : frames_of v m rs ≡ a ++ (b ++ frames_of v m o.more) = ap (frames_of v m) o.all ∙ frames_append v m (take k rs) (o.one ∷ o.more) in
        let one_more_lem : frames_of v m (take (suc k) rs) ≡ a ++ b =
        ap (frames_of v m) o.next ∙ frames_append v m (take k rs) (o.one ∷ []) ∙ ap (λ (l : List ℕ). a ++ l) (append-nil b) in
        let next : n < reach_of v m (take (suc k) rs) = there_next v m n rs (suc k) (omega arith) (omega arith) in
        let beyond : n - 10 < length (whole_of v m (a ++ b)) = rw (← one_more_lem) (omega arith) in
        let c = cut_inside v m p (n - 10) a b (frames_of v m o.more) (omega (arith, there_reach v m n rs ten)) beyond in
        record {
          one = o.one;
          more = o.more;
          place = o.all;
          sound = sounds_at (take k rs) o.one o.more (subst (Sounds v m) o.all ss);
          there = c.0;
          less = c.1;
          is = ap (shown_body (whole_by v m)) (region_cut ∙ ap (λ (l : List ℕ). take (n - 10) (region_bytes v m p l)) all) ∙ c.2;
        }

    inside : k < length rs → Front
    inside lt =
        let c = cut_frame lt in
        let b = encode v m c.one in
        (take c.there b, part_no_block v b c.there (encode_block v m c.one c.sound) c.less, c.is)

    behind : length rs ≤ k → Front
    behind le =
        let all : take k rs ≡ rs = take_all k rs le in
        let o = shown_behind (rw all at (there_reach v m n rs ten)) in
        (zeros o.0, quiet_no_block v (zeros o.0) (zeros_quiet v o.0), o.1 ∙ ap (λ (l : List Rec). frames_of v m l ++ zeros o.0) (sym all))

    -- What a cut tag shows: the frames that are there whole, and then what begins no whole frame.
    pub shown_front : (tail : List ℕ) × (NoBlock v tail)
        × (shown_body (whole_by v m) (region_of (take n (tag_of v m p (frames_of v m rs)))) ≡ frames_of v m (take (whole_in v m n rs) rs) ++ tail)
    shown_front = by_count (ltb k (length rs)) refl
      where
        by_count : (t : Bool) → ltb k (length rs) ≡ t → Front
        by_count true e = inside (ltb-true _ _ e)
        by_count false e = behind (ltb-false _ _ e)
