-- What is read of a tag that was written and then cut. Assumes nothing.
use mathlib.Core.Path.{◌≡◌, refl, sym, ap, ◌∙◌}
use Prim.Native.Nat.{ℕ, zero, suc, ◌-◌, ◌^◌, ◌≤◌, ◌<◌}
use native.Mathlib.Nat.{le_refl}
use native.Mathlib.Omega.{arith}
use mathlib.Core.Bool.{Bool, true, false}
use mathlib.Core.List.{List, [], ◌∷◌, ◌++◌, append_assoc, append-nil}
use lib.ListN.{length, take, drop, length-take, length-append, take-append-drop}
use lib.Seq.{take-add, take-length, take-append_seam}
use Rattle.laws.proofs.Bools.{false_not_true}
use Rattle.format.specs.Bytes.{pick, zeros}
use Rattle.format.specs.Header.{version_of, is_whole, region_of}
use Rattle.format.specs.Numbered.{mode_of}
use Rattle.format.specs.Record.{Rec}
use Rattle.format.specs.Walk.{shown_body}
use Rattle.format.specs.Encode.{whole_of, region_bytes, tag_of}
use Rattle.format.specs.declared.Version.{Version}
use Rattle.format.specs.declared.Version.TheVariants.{Id3v22, Id3v23, Id3v24}
use Rattle.format.specs.declared.Mode.{Mode}
use Rattle.format.proofs.Unsynch.{resync_shorter}
use Rattle.format.proofs.Encoded.{flagged_by}
use Rattle.format.proofs.Tags.{whole_by, Headed, tag_headed}
use Rattle.promises.specs.Reading.{Reading, ended, read_all}
use Rattle.promises.specs.Promises.{frames_of}
use Rattle.promises.proofs.Adding.{told_written}
use Rattle.promises.proofs.Sounds.{Sounds, nothing, also}
use Rattle.blocks.specs.Blocks.{NoBlock, joined, AllBlocks, Blocks, Reads, and_records, AtMostShort, blocks_in, read_blocks}
use Rattle.blocks.specs.Promises.{version_in, frames_in, room_in, CanOpen}
use Rattle.blocks.proofs.Reading.{room_of}
use Rattle.blocks.proofs.Regions.{reads_blocks, records_read}
use Rattle.blocks.proofs.Edits.{zeros_quiet}
use Rattle.blocks.proofs.Encoded.{encoded, joined_encoded, sounds_read}
use Rattle.blocks.proofs.CutUp.{only_blocks}
use Rattle.blocks.proofs.Writes.{tag_plain}
use Rattle.blocks.proofs.Headers.{same_taken, same_version, same_whole}
use Rattle.blocks.proofs.Anywhere.{tag_reads, any_reads}
use Rattle.stopped.specs.Stopped.{reach_of, whole_in, not_short}
use Rattle.stopped.specs.Promises.{FirstThen, Reaches, StoppedReads, StoppedWhole, StoppedBehind}
use Rattle.stopped.proofs.Counts.{frames_append, whole_append}
use Rattle.stopped.proofs.Tails.{last_reads, last_reads_lem}
use Rattle.stopped.proofs.Regions.{long_tag, region_there, ten_left, same_front, region_cut, shown_behind, shown_front}

-- ---- rooms

-- a frame that is unsynchronised by itself has the work buffer as its room
pub flagged_room : (v : Version) (m : Mode) → flagged_by v m ≡ true → whole_by v m ≡ false
flagged_room Id3v22 m f = absurd (false_not_true f)
flagged_room Id3v23 m f = absurd (false_not_true f)
flagged_room Id3v24 m f = refl

shown_shorter : (w : Bool) (s : List ℕ) → length (shown_body w s) ≤ length s
shown_shorter true s = resync_shorter false s
shown_shorter false s = le_refl (length s)

sounds_take : (v : Version) (m : Mode) (i : ℕ) {rs : List Rec} → Sounds v m rs → Sounds v m (take i rs)
sounds_take v m zero s = nothing
sounds_take v m (suc i) nothing = nothing
sounds_take v m (suc i) (also s ss) = also s (sounds_take v m i ss)

-- ---- any tag

-- Blocks that read as these records, and a tail that begins no whole frame: the records, and then at most one short frame and the end, or a refusal.
pub blocks_then_lem : (v : Version) (tag work : List ℕ) {room : ℕ} {bs : List (List ℕ)} {rs : List Rec} (tail : List ℕ) → CanOpen tag work → version_in tag ≡ v
    → Reads v room bs rs → room ≤ length (room_in tag work) → NoBlock v tail → frames_in tag ≡ joined bs ++ tail
    → (after : Reading) × AtMostShort after × (read_all tag work ≡ and_records rs after)
blocks_then_lem v tag work {bs = bs} tail opens version reads enough none is =
    let only : blocks_in v (frames_in tag) ≡ bs = only_blocks v tail (frames_in tag) (reads_blocks reads) none is in
    let any = any_reads tag work opens in
    let o = records_read reads any.0 (room_in tag work) enough in
    let read : read_all tag work ≡ read_blocks v (blocks_in v (frames_in tag)) any.0 (room_in tag work) = rw version at any.2 in
    (any.0 o.0, any.1 o.0, read ∙ rw only o.1.1)

-- ---- a tag of accepted records

module _ (v : Version) (m : Mode) (p n : ℕ) (rs : List Rec) (work : List ℕ) (small : length (region_bytes v m p (frames_of v m rs)) < 2 ^ 28) (ten : 10 ≤ n)
    (room : length (take n (tag_of v m p (frames_of v m rs))) - 10 ≤ length work) (ss : Sounds v m rs) where
  abbrev tag : List ℕ
  tag = tag_of v m p (frames_of v m rs)

  abbrev cut : List ℕ
  cut = take n tag

  headed : Headed v m tag (region_bytes v m p (frames_of v m rs))
  headed = tag_headed v m p (frames_of v m rs) small

  is_version_lem : version_in cut ≡ v
  is_version_lem = same_version tag cut (same_front v m p n rs small ten) ∙ headed.version

  is_whole_lem : is_whole cut ≡ whole_by v m
  is_whole_lem = same_whole tag cut (same_front v m p n rs small ten) ∙ headed.whole

  region_fits : length (region_of cut) ≤ length work
  region_fits =
      let r = region_bytes v m p (frames_of v m rs) in
      omega (arith, ap length (region_cut v m p n rs small ten), length-take (n - 10) r, length-take n tag, headed.long)

  pub can_open : CanOpen (take n (tag_of v m p (frames_of v m rs))) work
  can_open = record {
    taken =
        same_taken tag cut (same_front v m p n rs small ten) (long_tag v m p n rs small ten) (ten_left v m p n rs small ten) (tag_plain v m p (frames_of v m rs))
        headed.taken;
    room = λ w. region_fits;
  }

  -- the first i frames, if they are there, read as the first i records
  front_reads : (i : ℕ) (tail : List ℕ) → shown_body (whole_by v m) (region_of cut) ≡ frames_of v m (take i rs) ++ tail
      → Reads v (length (room_in cut work)) (encoded v m (take i rs)) (take i rs)
  front_reads i tail is =
      sounds_read v m (length (room_in cut work)) (sounds_take v m i ss)
      (λ f. rw (is_whole_lem, flagged_room v m f)
      (omega (
        arith,
        region_fits,
        shown_shorter (whole_by v m) (region_of cut),
        ap length is,
        length-append (frames_of v m (take i rs)) tail,
      )))

  in_blocks : (i : ℕ) (tail : List ℕ) → shown_body (whole_by v m) (region_of cut) ≡ frames_of v m (take i rs) ++ tail
      → frames_in cut ≡ joined (encoded v m (take i rs)) ++ tail
  in_blocks i tail is = rw is_whole_lem (is ∙ ap (λ (l : List ℕ). l ++ tail) (sym (joined_encoded v m (take i rs))))

  pub first_then : FirstThen (whole_in v m n rs) rs (read_all (take n (tag_of v m p (frames_of v m rs))) work)
  first_then =
      let k = whole_in v m n rs in
      let f = shown_front v m p n rs small ten ss in
      let reads = front_reads k f.0 f.2 in
      let o = blocks_then_lem v cut work f.0 can_open is_version_lem reads (le_refl (length (room_in cut work))) f.1 (in_blocks k f.0 f.2) in
      record { after = o.0; is = o.2; most = o.1 }

  -- what follows frames is no longer than the work buffer
  pub tail_fits : (before tail : List ℕ) → shown_body (whole_by v m) (region_of (take n (tag_of v m p (frames_of v m rs)))) ≡ before ++ tail → length tail ≤ length work
  tail_fits before tail is =
      omega (arith, region_fits, shown_shorter (whole_by v m) (region_of cut), ap length is, length-append before tail)

  -- the frames that are there whole, and then what follows them, as if it stood alone, in a room as long as at first
  pub last_then : (i : ℕ) (tail : List ℕ) → NoBlock v tail
      → shown_body (whole_by v m) (region_of (take n (tag_of v m p (frames_of v m rs)))) ≡ frames_of v m (take i rs) ++ tail
      → (left : List ℕ) × (length left ≡ length (room_of (whole_by v m) work))
      × (read_all (take n (tag_of v m p (frames_of v m rs))) work ≡ and_records (take i rs) (last_reads v (whole_by v m) tail left))
  last_then i tail none is =
      let bs = encoded v m (take i rs) in
      let reads = front_reads i tail is in
      let whole : AllBlocks (version_in cut) bs = rw is_version_lem (reads_blocks reads) in
      let read = last_reads_lem cut work bs tail can_open whole (rw is_version_lem none) (in_blocks i tail is) in
      let o = records_read reads (last_reads v (whole_by v m) tail) (room_in cut work) (le_refl (length (room_in cut work))) in
      let same : length (room_in cut work) ≡ length (room_of (whole_by v m) work) = ap (λ (w : Bool). length (room_of w work)) is_whole_lem in (
        o.0,
        o.1.0 ∙ same,
        read
            ∙ ap (λ (w : Bool). read_blocks (version_in cut) bs (last_reads (version_in cut) w tail) (room_in cut work)) is_whole_lem
            ∙ ap (λ (x : Version). read_blocks x bs (last_reads x (whole_by v m) tail) (room_in cut work)) is_version_lem
            ∙ o.1.1,
      )

  pub all_read : reach_of v m rs ≤ n → read_all (take n (tag_of v m p (frames_of v m rs))) work ≡ (rs, ended)
  all_read far =
      let b = shown_behind v m p n rs small ten far in
      let all : take (length rs) rs ≡ rs = take-length rs in
      let is = b.1 ∙ ap (λ (l : List Rec). frames_of v m l ++ zeros b.0) (sym all) in
      let reads = rw all at (front_reads (length rs) (zeros b.0) is) in
      let there : Blocks (version_in cut) (encoded v m rs) (zeros b.0) (frames_in cut) =
      rw is_version_lem record { whole = reads_blocks reads; quiet = zeros_quiet v b.0; is = rw all at (in_blocks (length rs) (zeros b.0) is) } in
      let o = records_read reads (λ (left : List ℕ). ([], ended)) (room_in cut work) (le_refl (length (room_in cut work))) in
      tag_reads cut work (encoded v m rs) (zeros b.0) can_open there
      ∙ rw is_version_lem o.1.1
      ∙ ap {B = Reading} (λ (l : List Rec). (l, ended)) (append-nil rs)

-- ---- the promises

pub stopped_reads : StoppedReads
stopped_reads version mode padding n records tag work s =
    let t = told_written version mode padding records tag s.is_written in
    rw t.is_tag_lem
    (first_then (version_of version) (mode_of mode) padding n records work t.small s.ten (rw t.is_tag_lem at s.room) t.sounds)

pub stopped_behind : StoppedBehind
stopped_behind version mode padding n records tag work s far =
    let t = told_written version mode padding records tag s.is_written in
    rw t.is_tag_lem
    (all_read (version_of version) (mode_of mode) padding n records work t.small s.ten (rw t.is_tag_lem at s.room) t.sounds far)

-- accepted records are not short, and of what follows them all is
none_short : {v : Version} {m : Mode} (i : ℕ) {rs : List Rec} (qs : List Rec) → Sounds v m rs → not_short qs ≡ [] → not_short (take i rs ++ qs) ≡ take i rs
none_short zero qs ss e = e
none_short (suc i) qs nothing e = e
none_short (suc i) qs (also {r} {rs} s ss) e =
    let more = not_short (take i rs ++ qs) in
    ap (λ (t : Bool). pick t more (r ∷ more)) s.whole ∙ ap (λ (l : List Rec). r ∷ l) (none_short i qs ss e)

after_short : {o : Reading} → AtMostShort o → not_short o.0 ≡ []
after_short AtMostShort.ends = refl
after_short (AtMostShort.stops k) = refl
after_short (AtMostShort.short r h) = rw h

pub stopped_whole : StoppedWhole
stopped_whole version mode padding n records tag work s =
    let t = told_written version mode padding records tag s.is_written in
    let f = stopped_reads version mode padding n records tag work s in
    ap (λ (o : Reading). not_short o.0) f.is ∙ none_short (whole_in (version_of version) (mode_of mode) n records) f.after.0 t.sounds (after_short f.most)

-- ---- where the frames end

pub reaches : Reaches
reaches version mode padding i records tag w =
    let t = told_written version mode padding records tag w in
    let v = version_of version in
    let m = mode_of mode in
    let front = frames_of v m (take i records) in
    let more = frames_of v m (drop i records) in
    let region = region_bytes v m padding (frames_of v m records) in
    let c = whole_append v m front more in
    let all : frames_of v m records ≡ front ++ more =
    ap (frames_of v m) (sym (take-append-drop i records)) ∙ frames_append v m (take i records) (drop i records) in
    let parts : region ≡ whole_of v m front ++ (c.0 ++ zeros padding) =
    ap (λ (l : List ℕ). whole_of v m l ++ zeros padding) all
    ∙ ap (λ (l : List ℕ). l ++ zeros padding) c.1
    ∙ append_assoc (whole_of v m front) c.0 (zeros padding) in
    take-add 10 (length (whole_of v m front)) tag
    ∙ ap (λ (l : List ℕ). take 10 tag ++ take (length (whole_of v m front)) l)
    (ap (drop 10) t.is_tag_lem ∙ region_there v m padding 10 records t.small (le_refl 10) ∙ parts)
    ∙ ap (λ (l : List ℕ). take 10 tag ++ l) (take-append_seam (whole_of v m front) (c.0 ++ zeros padding))
