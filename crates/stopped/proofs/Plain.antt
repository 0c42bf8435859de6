-- What is read and metered of a tag of the plain sort that was cut. Assumes nothing.
use mathlib.Core.Path.{◌≡◌, refl, sym, ap, ◌∙◌, subst}
use Prim.Native.Nat.{ℕ, zero, suc, ◌+◌, ◌-◌, ◌≤◌, ◌<◌}
use native.Mathlib.Omega.{arith}
use mathlib.Core.Bool.{Bool, true, false}
use mathlib.Core.List.{List, [], ◌∷◌, ◌++◌, append-nil}
use lib.ListN.{length, take, drop, length-take, length-append}
use lib.Seq.{take_all, take-take}
use lib.Dec.{ltb}
use borrow.Author.Tests.{ltb-true, ltb-false}
use Rattle.laws.proofs.Bools.{false_not_true}
use Rattle.laws.proofs.Cuts.{drop_part}
use Rattle.format.specs.Bytes.{zeros}
use Rattle.format.specs.Header.{size_of, is_whole, region_of}
use Rattle.format.specs.Record.{Rec}
use Rattle.format.specs.declared.Version.{Version}
use Rattle.meter.specs.Meter.{is_missing}
use Rattle.promises.specs.Reading.{Reading, read_all}
use Rattle.blocks.specs.Blocks.{Block, NoBlock, joined, AllBlocks, also, PlainTag}
use Rattle.blocks.specs.Promises.{version_in, frames_in, CanOpen}
use Rattle.blocks.proofs.Regions.{reads_blocks}
use Rattle.blocks.proofs.Edits.{joined_append, zeros_quiet, reads_take}
use Rattle.blocks.proofs.Tails.{quiet_no_block}
use Rattle.blocks.proofs.Headers.{same_taken, same_version, same_whole, same_size, same_region}
use Rattle.blocks.proofs.Plain.{plain_reads}
use Rattle.raise.specs.Raise.{tag_blocks}
use Rattle.raise.proofs.Plainness.{tag_plain}
use Rattle.stopped.specs.Stopped.{most_in}
use Rattle.stopped.specs.Promises.{FirstThen}
use Rattle.stopped.specs.Plain.{plain_reach, PlainWhole, PlainStopped, PlainStoppedMeters}
use Rattle.stopped.proofs.Members.{take_more, member}
use Rattle.stopped.proofs.Counts.{most, there_by, most_exactly}
use Rattle.stopped.proofs.Cuts.{plain_inside, take_behind}
use Rattle.stopped.proofs.Regions.{part_no_block}
use Rattle.stopped.proofs.Reading.{blocks_then_lem}
use Rattle.stopped.proofs.Metering.{cut_missing, first_meters}

-- ---- blocks

-- more blocks reach further
joined_longer : (bs : List (List ℕ)) (i j : ℕ) → i ≤ j → length (joined (take i bs)) ≤ length (joined (take j bs))
joined_longer bs i j le =
    let rest = drop i (take j bs) in
    let bytes = ap joined (take_more i j bs le) ∙ joined_append (take i bs) rest in
    omega (arith, ap length bytes, length-append (joined (take i bs)) (joined rest))

blocks_at : {v : Version} (before : List (List ℕ)) (b : List ℕ) (after : List (List ℕ)) → AllBlocks v (before ++ (b ∷ after)) → Block v b
blocks_at [] b after (also w ws) = w
blocks_at (c ∷ before) b after (also w ws) = blocks_at before b after ws

-- of two front parts the shorter one
take_swap : (i j : ℕ) (l : List ℕ) → take i (take j l) ≡ take j (take i l)
take_swap zero zero l = refl
take_swap zero (suc j) [] = refl
take_swap zero (suc j) (x ∷ l) = refl
take_swap (suc i) zero [] = refl
take_swap (suc i) zero (x ∷ l) = refl
take_swap (suc i) (suc j) [] = refl
take_swap (suc i) (suc j) (x ∷ l) = ap {B = List ℕ} (λ (s : List ℕ). x ∷ s) (take_swap i j l)

-- ---- a tag of blocks that need no room

module _ (v : Version) (bs : List (List ℕ)) (rs : List Rec) (p : ℕ) (tag : List ℕ) (t : PlainTag v bs rs p tag) (n : ℕ) (ten : 10 ≤ n) where
  abbrev cut : List ℕ
  cut = take n tag

  abbrev reach : ℕ → ℕ
  reach i = 10 + length (joined (take i bs))

  abbrev k : ℕ
  k = most_in reach n (length bs)

  same_ten : take 10 tag ≡ take 10 cut
  same_ten = sym (take-take 10 n tag ten)

  ten_left : 10 ≤ length cut
  ten_left = omega (arith, length-take n tag, t.all_there)

  region_cut : region_of cut ≡ take (n - 10) (joined bs ++ zeros p)
  region_cut =
      same_region tag cut same_ten ten_left t.no_extended
      ∙ ap (take (size_of tag)) (drop_part 10 n tag)
      ∙ take_swap (size_of tag) (n - 10) (drop 10 tag)
      ∙ ap (take (n - 10)) t.region

  no_whole : is_whole cut ≡ false
  no_whole = same_whole tag cut same_ten ∙ t.no_whole

  pub plain_open : (work : List ℕ) → CanOpen (take n tag) work
  plain_open work = record {
    taken = same_taken tag cut same_ten (omega (arith, t.all_there)) ten_left t.no_extended t.taken;
    room = λ w. absurd (false_not_true (sym no_whole ∙ w));
  }

  -- the blocks that are there whole, and a tail that begins none
  abbrev Front : Type 0
  Front = (tail : List ℕ) × NoBlock v tail × (region_of cut ≡ joined (take k bs) ++ tail)

  within : length (joined (take k bs)) ≤ n - 10
  within = omega (arith, there_by reach n (length bs) ten)

  inside : k < length bs → Front
  inside lt =
      let o = member k bs lt in
      let a = joined (take k bs) in
      let b = o.one in
      let all : joined bs ≡ a ++ (b ++ joined o.more) = ap joined o.all ∙ joined_append (take k bs) (b ∷ o.more) in
      let one_more_lem : joined (take (suc k) bs) ≡ a ++ b =
      ap joined o.next ∙ joined_append (take k bs) (b ∷ []) ∙ ap (λ (l : List ℕ). a ++ l) (append-nil b) in
      let next : n < reach (suc k) = (most reach n (length bs)).no_more (suc k) (omega arith) (omega arith) in
      let beyond : n - 10 < length (a ++ b) = omega (arith, ap length one_more_lem) in
      let c = plain_inside p (n - 10) a b (joined o.more) within beyond in
      let block : Block v b = blocks_at (take k bs) b o.more (subst (AllBlocks v) o.all (reads_blocks t.reads)) in
      (take c.0 b, part_no_block v b c.0 block c.1, region_cut ∙ ap (λ (l : List ℕ). take (n - 10) (l ++ zeros p)) all ∙ c.2)

  behind : length bs ≤ k → Front
  behind le =
      let all : take k bs ≡ bs = take_all k bs le in
      let z = take_behind (n - 10) p (joined bs) (rw all at within) in
      (zeros z.0, quiet_no_block v (zeros z.0) (zeros_quiet v z.0), region_cut ∙ z.1 ∙ ap (λ (l : List (List ℕ)). joined l ++ zeros z.0) (sym all))

  front : Front
  front = by_count (ltb k (length bs)) refl
    where
      by_count : (b : Bool) → ltb k (length bs) ≡ b → Front
      by_count true e = inside (ltb-true k (length bs) e)
      by_count false e = behind (ltb-false k (length bs) e)

  pub plain_then : (work : List ℕ) → FirstThen (most_in (λ (i : ℕ). 10 + length (joined (take i bs))) n (length bs)) rs (read_all (take n tag) work)
  plain_then work =
      let f = front in
      let version : version_in cut ≡ v = same_version tag cut same_ten ∙ t.version in
      let is : frames_in cut ≡ joined (take k bs) ++ f.0 = rw no_whole f.2 in
      let o = blocks_then_lem v cut work f.0 (plain_open work) version (reads_take k t.reads) (omega arith) f.1 is in
      record { after = o.0; is = o.2; most = o.1 }

  pub plain_missing : is_missing (take n tag) ≡ ltb n (10 + size_of tag)
  plain_missing = rw (same_size tag cut same_ten, length-take n tag) (cut_missing n (length tag) (10 + size_of tag) t.all_there)

-- ---- the promises

pub plain_whole_lem : PlainWhole
plain_whole_lem n tag = most_exactly (plain_reach tag) n (length (tag_blocks tag)) (λ i j le. omega (arith, joined_longer (tag_blocks tag) i j le))

pub plain_stopped : PlainStopped
plain_stopped n tag work plain ten =
    let p = tag_plain tag plain in
    let read = plain_reads p.is work in
    rw (ap (λ (o : Reading). o.0) read) (plain_then _ _ _ _ tag p.is n ten work)

pub plain_stopped_meters : PlainStoppedMeters
plain_stopped_meters n tag work plain ten =
    let p = tag_plain tag plain in
    let f = plain_stopped n tag work plain ten in
    let o = first_meters _ (read_all tag work).0 (take n tag) work (plain_open _ _ _ _ tag p.is n ten work) f in
    let last = o.2 in
    (o.0, o.1, (last.0, last.1, last.2, last.2.missing ∙ plain_missing _ _ _ _ tag p.is n ten))
