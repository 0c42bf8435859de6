-- How reading ends where a written tag was cut: which refusals there can be. Assumes nothing.
use mathlib.Core.Path.{◌≡◌, refl, sym, ap, ◌∙◌, subst}
use mathlib.Core.Logic.{◌⊎◌, inl, inr}
use Prim.Native.Nat.{ℕ, ◌-◌, ◌^◌, ◌≤◌, ◌<◌}
use native.Mathlib.Omega.{arith}
use mathlib.Core.Bool.{Bool, true, false}
use mathlib.Core.List.{List, [], ◌∷◌, ◌++◌, append-nil}
use lib.ListN.{length, take, drop, length-take}
use lib.Seq.{take_all}
use lib.Dec.{ltb, eqb}
use borrow.Author.Tests.{ltb-true, ltb-false}
use Rattle.laws.proofs.Bools.{false_not_true}
use Rattle.laws.proofs.Results.{found_same}
use Rattle.format.specs.Bytes.{pick}
use Rattle.format.specs.Header.{version_of}
use Rattle.format.specs.Numbered.{mode_of}
use Rattle.format.specs.Frame.{head_of}
use Rattle.format.specs.Record.{Rec}
use Rattle.format.specs.Encode.{encode, region_bytes, tag_of}
use Rattle.format.specs.declared.Version.{Version}
use Rattle.format.specs.declared.Version.TheVariants.{Id3v23}
use Rattle.format.specs.declared.Mode.{Mode}
use Rattle.format.specs.declared.Head.{Head}
use Rattle.format.proofs.CutHeads.{of_whole, cut_short, cut_refused, never_short}
use Rattle.format.proofs.Accepted.{Sound}
use Rattle.format.proofs.Encoded.{flagged_by, encode_length}
use Rattle.format.proofs.Tags.{whole_by}
use Rattle.promises.specs.Reading.{Reading, Ending, ended, refused, read_all}
use Rattle.promises.specs.Promises.{frames_of}
use Rattle.promises.proofs.Adding.{told_written}
use Rattle.promises.proofs.Sounds.{Sounds}
use Rattle.blocks.specs.Blocks.{refuses, shows, and_records, sight_of}
use Rattle.blocks.proofs.Sights.{out_of, rec_in, sight_is}
use Rattle.blocks.proofs.Encoded.{encode_block}
use Rattle.blocks.proofs.Reading.{room_of}
use Rattle.stopped.specs.Stopped.{whole_in}
use Rattle.stopped.specs.Endings.{OfNext, NextThen, StoppedNext, StoppedRoom, Stopped23}
use Rattle.stopped.proofs.Counts.{there_reach, whole_in_lem}
use Rattle.stopped.proofs.Regions.{part_no_block, cut_frame}
use Rattle.stopped.proofs.Tails.{sight_nothing, sight_refuses, then_end, last_reads}
use Rattle.stopped.proofs.Rooms.{ended_not, head_is, cut_fits}
use Rattle.stopped.proofs.Reading.{flagged_room, tail_fits, last_then, all_read}
use Rattle.std.specs.Prelude.{Result, Option, Ok, Err, Some, None}
use Rattle.format.specs.declared.refusals.Refusal.{Refusal}

-- ---- a frame of 2.3 that is cut

abbrev EndOrFive : Reading → Type 0
EndOrFive o = (o ≡ ([], ended)) ⊎ (o ≡ ([], refused 5))

module _ (m : Mode) (r : Rec) (sound : Sound Id3v23 m r) (n : ℕ) (less : n < length (encode Id3v23 m r)) (room : List ℕ) where
  abbrev part : List ℕ
  part = take n (encode Id3v23 m r)

  by_head : (x : Result (Option Head) Refusal) → head_of Id3v23 1 part ≡ x → EndOrFive (then_end (sight_of Id3v23 part room).0)
  by_head (Ok None) e = inl (ap then_end (sight_nothing Id3v23 part room e))
  by_head (Err k) e =
      let five : k.number ≡ 5 = cut_refused Id3v23 1 n (encode Id3v23 m r) (encode_block Id3v23 m r sound).head e in
      inr (ap then_end (sight_refuses Id3v23 part room e) ∙ ap {B = Reading} (λ (j : ℕ). ([], refused j)) five)
  by_head (Ok (Some h)) e =
      let b = encode_block Id3v23 m r sound in
      absurd (false_not_true (sym (never_short 1 part e) ∙ cut_short Id3v23 1 (encode Id3v23 m r) b.head n (omega (arith, b.ends)) e))

  cut_23 : EndOrFive (then_end (sight_of Id3v23 (take n (encode Id3v23 m r)) room).0)
  cut_23 = by_head (head_of Id3v23 1 part) refl

-- ---- any frame that is cut

of_verdict : (one r : Rec) (t : Bool) (k : ℕ) → r.short ≡ true → r.id ≡ one.id → r.compressed ≡ false → OfNext one (then_end (pick t (shows r) (refuses k)))
of_verdict one r true k short id compressed = OfNext.short r short id compressed
of_verdict one r false k short id compressed = OfNext.stops k

module _ (v : Version) (m : Mode) (one : Rec) (sound : Sound v m one) (n : ℕ) (less : n < length (encode v m one)) (room : List ℕ) where
  abbrev piece : List ℕ
  piece = take n (encode v m one)

  of_head : (x : Result (Option Head) Refusal) → head_of v 1 piece ≡ x → OfNext one (then_end (sight_of v piece room).0)
  of_head (Ok None) e = rw (sight_nothing v piece room e) OfNext.ends
  of_head (Err k) e = rw (sight_refuses v piece room e) (OfNext.stops k.number)
  of_head (Ok (Some h)) e =
      let w = of_whole v 1 n (encode v m one) e in
      let same = found_same (sym w.head ∙ head_is v m one sound) in
      let is_id_lem : h.id ≡ one.id = ap (λ (x : Head). x.id) same in
      let is_compressed_lem : h.compressed ≡ false = ap (λ (x : Head). x.compressed) same in
      let is_short_lem = cut_short v 1 (encode v m one) (head_is v m one sound) n (omega (arith, encode_length v m one)) e in
      let stored = take h.len (drop h.start piece) in
      let k = (out_of v h.id h.compressed h.flagged stored room).0 in
      rw (sight_is v h.id h.compressed h.flagged h.short h.start h.len piece e room) (of_verdict one (rec_in v h.id h.compressed h.flagged h.short stored) (eqb k 0) k is_short_lem is_id_lem is_compressed_lem)

  -- A part of the frame is read as that frame, short, or refused, or nothing of it is read.
  piece_read : OfNext one (then_end (sight_of v (take n (encode v m one)) room).0)
  piece_read = of_head (head_of v 1 piece) refl

-- ---- a tag of accepted records

-- what is read of a cut tag: all records, or the first so many and then a part of the next one's frame, with the room that it needs
data Cut (v : Version) (m : Mode) (k : ℕ) (rs : List Rec) : Reading → Type 0 where
  none : k ≡ length rs → take k rs ≡ rs → Cut v m k rs (take k rs, ended)
  cut : (r : Rec) (more : List Rec) (n : ℕ) (left : List ℕ) → rs ≡ take k rs ++ (r ∷ more) → Sound v m r → n < length (encode v m r)
      → (flagged_by v m ≡ true → n ≤ length (room_of (whole_by v m) left))
      → Cut v m k rs (and_records (take k rs) (last_reads v (whole_by v m) (take n (encode v m r)) left))

module _ (v : Version) (m : Mode) (p n : ℕ) (rs : List Rec) (work : List ℕ) (small : length (region_bytes v m p (frames_of v m rs)) < 2 ^ 28) (ten : 10 ≤ n)
    (room : length (take n (tag_of v m p (frames_of v m rs))) - 10 ≤ length work) (ss : Sounds v m rs) where
  abbrev k : ℕ
  k = whole_in v m n rs

  abbrev read : Reading
  read = read_all (take n (tag_of v m p (frames_of v m rs))) work

  abbrev CutTag : Reading → Type 0
  CutTag = Cut v m k rs

  by_count : (t : Bool) → ltb k (length rs) ≡ t → CutTag read
  by_count true e =
      let c = cut_frame v m p n rs small ten ss (ltb-true _ _ e) in
      let b = encode v m c.one in
      let begins = part_no_block v b c.there (encode_block v m c.one c.sound) c.less in
      let o = last_then v m p n rs work small ten room ss k (take c.there b) begins c.is in
      let fits = tail_fits v m p n rs work small ten room ss (frames_of v m (take k rs)) (take c.there b) c.is in
      let long : flagged_by v m ≡ true → c.there ≤ length (room_of (whole_by v m) o.0) =
      λ f. rw (flagged_room v m f) (omega (arith, rw (flagged_room v m f) at o.1, length-take c.there b, c.less)) in
      subst CutTag (sym o.2) (cut c.one c.more c.there o.0 c.place c.sound c.less long)
  by_count false e =
      let all : take k rs ≡ rs = take_all k rs (ltb-false _ _ e) in
      let is : read ≡ (take k rs, ended) =
      all_read v m p n rs work small ten room ss (rw all at (there_reach v m n rs ten)) ∙ ap {B = Reading} (λ (l : List Rec). (l, ended)) (sym all) in
      subst CutTag (sym is) (none (omega (arith, (whole_in_lem v m n rs).0, ltb-false k (length rs) e)) all)

  cut_read : Cut v m (whole_in v m n rs) rs (read_all (take n (tag_of v m p (frames_of v m rs))) work)
  cut_read = by_count (ltb k (length rs)) refl

-- ---- the promises

end_or_five : {m : Mode} {k : ℕ} {rs : List Rec} {o : Reading} → Cut Id3v23 m k rs o → (o ≡ (take k rs, ended)) ⊎ (o ≡ (take k rs, refused 5))
end_or_five (none z all) = inl refl
end_or_five {m} {k} {rs} (cut r more n left place sound less long) = by_end (cut_23 m r sound n less (room_of (whole_by Id3v23 m) left))
  where
    then : (x : Ending) {o : Reading} → o ≡ ([], x) → and_records (take k rs) o ≡ (take k rs, x)
    then x e = ap (and_records (take k rs)) e ∙ ap {B = Reading} (λ (l : List Rec). (l, x)) (append-nil (take k rs))

    by_end : {o : Reading} → EndOrFive o → (and_records (take k rs) o ≡ (take k rs, ended)) ⊎ (and_records (take k rs) o ≡ (take k rs, refused 5))
    by_end (inl e) = inl (then ended e)
    by_end (inr e) = inr (then (refused 5) e)

then_next : {v : Version} {m : Mode} {k : ℕ} {rs : List Rec} {o : Reading} → Cut v m k rs o → NextThen k rs o
then_next {k = k} {rs = rs} (none z all) = subst (λ (l : List Rec). NextThen k rs (l, ended)) (sym all) (NextThen.all z)
then_next {v} {m} (cut r more n left place sound less long) = NextThen.next r more _ place (piece_read v m r sound n less (room_of (whole_by v m) left))

pub stopped_next : StoppedNext
stopped_next version mode padding n records tag work s =
    let t = told_written version mode padding records tag s.is_written in
    rw t.is_tag_lem
    (then_next (cut_read (version_of version) (mode_of mode) padding n records work t.small s.ten (rw t.is_tag_lem at s.room) t.sounds))

pub stopped_23 : Stopped23
stopped_23 mode padding n records tag work s =
    let t = told_written 3 mode padding records tag s.is_written in
    let v = version_of 3 in
    rw t.is_tag_lem (end_or_five (cut_read v (mode_of mode) padding n records work t.small s.ten (rw t.is_tag_lem at s.room) t.sounds))

room_enough : {v : Version} {m : Mode} {k : ℕ} {rs : List Rec} {o : Reading} → Cut v m k rs o → o.1 ≡ refused 14 → ⊥
room_enough (none z all) e = ended_not 14 e
room_enough {v} {m} (cut r more n left place sound less long) e = cut_fits v m r sound (room_of (whole_by v m) left) n long e

pub stopped_room : StoppedRoom
stopped_room version mode padding n records tag work s =
    let t = told_written version mode padding records tag s.is_written in
    let v = version_of version in
    rw t.is_tag_lem (room_enough (cut_read v (mode_of mode) padding n records work t.small s.ten (rw t.is_tag_lem at s.room) t.sounds))
