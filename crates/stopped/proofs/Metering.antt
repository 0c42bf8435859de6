-- What the meter answers of a tag that was written and then cut. Assumes nothing.
use mathlib.Core.Path.{◌≡◌, refl, sym, ap, ◌∙◌}
use Prim.Native.Nat.{ℕ, ◌+◌, ◌≤◌, min}
use native.Mathlib.Nat.{le_refl}
use native.Mathlib.Omega.{arith}
use mathlib.Core.Bool.{Bool, true, false}
use mathlib.Core.List.{List, [], ◌∷◌, ◌++◌}
use lib.ListN.{length, take, length-take, length-append}
use lib.Dec.{ltb}
use borrow.Author.Tests.{ltb-true, ltb-false, lt-ltb, le-ltb}
use Rattle.format.specs.Bytes.{zeros}
use Rattle.format.specs.Header.{size_of, version_of, is_whole}
use Rattle.format.specs.Numbered.{mode_of}
use Rattle.format.specs.Record.{Rec}
use Rattle.format.specs.Encode.{whole_of, region_bytes, tag_of}
use Rattle.format.proofs.Tags.{tag_headed}
use Rattle.reader.specs.Reader.{reader_at}
use Rattle.meter.specs.Meter.{is_missing, meter_at, opened_as, meter_open_of, one_more}
use Rattle.meter.specs.Answers.{opened_meter}
use Rattle.meter.specs.declared.Meter.{Meter}
use Rattle.promises.specs.Reading.{Reading, ended, read_all}
use Rattle.promises.specs.Promises.{frames_of}
use Rattle.promises.specs.Metering.{Counted, counted_in, counters_from, counters_of, meter_all}
use Rattle.promises.specs.Money.{Marked, Last, one, owed}
use Rattle.promises.proofs.Adding.{told_written}
use Rattle.promises.proofs.Headers.{size_there}
use Rattle.promises.proofs.Money.{meter_reads, owed_read}
use Rattle.blocks.specs.Blocks.{AtMostShort}
use Rattle.blocks.specs.Promises.{version_in, CanOpen}
use Rattle.blocks.proofs.Headers.{same_size}
use Rattle.blocks.proofs.Opens.{opened}
use Rattle.stopped.specs.Stopped.{reach_of, whole_in}
use Rattle.stopped.specs.Promises.{Stopped, FirstThen, StoppedMeters, StoppedTold, StoppedOwed}
use Rattle.stopped.proofs.Regions.{same_front}
use Rattle.stopped.proofs.Reading.{can_open, stopped_reads, stopped_behind}
use Rattle.std.specs.Prelude.{Result}
use Rattle.format.specs.declared.refusals.Refusal.{Refusal}
use Rattle.reader.specs.declared.Reader.{Reader}

-- ---- counters

-- what follows the whole frames adds no counter
counters_then : (n : ℕ) (rs : List Rec) {o : Reading} → AtMostShort o → counters_from n (rs ++ o.0) ≡ counters_from n rs
counters_then n [] AtMostShort.ends = refl
counters_then n [] (AtMostShort.stops k) = refl
counters_then n [] (AtMostShort.short r h) = rw h
counters_then n (r ∷ rs) a = ap (λ (l : List Counted). counted_in n r ++ l) (counters_then (one_more n) rs a)

owed_then : (user : List ℕ) (rs : List Rec) {o : Reading} → AtMostShort o → owed user (rs ++ o.0) ≡ owed user rs
owed_then user [] AtMostShort.ends = refl
owed_then user [] (AtMostShort.stops k) = refl
owed_then user [] (AtMostShort.short r h) = rw h
owed_then user (r ∷ rs) a = rw (owed_then user rs a)

-- ---- the marks

-- where a tag can be opened there is a meter
opened_meter_lem : (tag work : List ℕ) → CanOpen tag work → (first : Meter) × (opened_meter (meter_open_of tag work).0 ≡ first ∷ [])
unfolding meter_open_of
opened_meter_lem tag work o =
    let w = is_whole tag in
    let p = opened (version_in tag) tag work o.taken refl w refl o.room in
    let r = reader_at (version_in tag) w p.begin p.end in
    (meter_at (is_missing tag) r, ap (λ (x : Result Reader Refusal × List ℕ). opened_meter (opened_as (is_missing tag) x.0)) p.opens)

last_is : {tag : List ℕ} {rs : List Rec} {first : Meter} {l : List Meter} → Last tag rs (first ∷ []) l → (m : Meter) × (l ≡ m ∷ []) × Marked tag rs m
last_is (one {m = m} marked) = (m, refl, marked)

-- of what is lent, which has all bytes of the tag, fewer than these are left exactly if the cut is before the tag's end
pub cut_missing : (n lent end : ℕ) → end ≤ lent → ltb (min n lent) end ≡ ltb n end
cut_missing n lent end there = by_test (ltb n end) refl
  where
    by_test : (t : Bool) → ltb n end ≡ t → ltb (min n lent) end ≡ t
    by_test true e = lt-ltb (min n lent) end (omega (arith, ltb-true n end e))
    by_test false e = le-ltb (min n lent) end (omega (arith, ltb-false n end e))

-- where reading gives the first so many records and then at most one short frame, the meter answers just their popularimeters
pub first_meters : (k : ℕ) (rs : List Rec) (tag work : List ℕ) → CanOpen tag work → FirstThen k rs (read_all tag work)
    → ((meter_all tag work).counted ≡ counters_of (take k rs))
    × ((meter_all tag work).ending ≡ (read_all tag work).1)
    × ((m : Meter) × ((meter_all tag work).last ≡ m ∷ []) × Marked tag (read_all tag work).0 m)
first_meters k rs tag work opens f =
    let reads = meter_reads tag work in
    let first = opened_meter_lem tag work opens in (
      reads.0 ∙ ap (λ (o : Reading). counters_of o.0) f.is ∙ counters_then 0 (take k rs) f.most,
      reads.1,
      last_is (rw first.1 at reads.2),
    )

-- ---- the promises

pub stopped_meters : StoppedMeters
stopped_meters version mode padding n records tag work s =
    let t = told_written version mode padding records tag s.is_written in
    let v = version_of version in
    let m = mode_of mode in
    let cut = take n tag in
    let f = frames_of v m records in
    let opens : CanOpen cut work =
    rw t.is_tag_lem (can_open v m padding n records work t.small s.ten (rw t.is_tag_lem at s.room) t.sounds) in
    let size : 10 + size_of cut ≡ length tag =
    rw t.is_tag_lem
    (omega (
      arith,
      same_size (tag_of v m padding f) (take n (tag_of v m padding f)) (same_front v m padding n records t.small s.ten),
      size_there v m padding f t.small,
      (tag_headed v m padding f t.small).long,
    )) in
    let missing : is_missing cut ≡ ltb n (length tag) = rw (size, length-take n tag) (cut_missing n (length tag) (length tag) (le_refl (length tag))) in
    let o = first_meters (whole_in v m n records) records cut work opens (stopped_reads version mode padding n records tag work s) in
    let last = o.2 in
    (o.0, o.1, (last.0, last.1, last.2, last.2.missing ∙ missing))

-- a cut that is none: all is counted
pub all_counted : (version mode padding n : ℕ) (records : List Rec) (tag work : List ℕ) → Stopped version mode padding n records tag work → ltb n (length tag) ≡ false
    → ((meter_all (take n tag) work).counted ≡ counters_of records) × ((meter_all (take n tag) work).ending ≡ ended)
all_counted version mode padding n records tag work s e =
    let t = told_written version mode padding records tag s.is_written in
    let v = version_of version in
    let m = mode_of mode in
    let f = frames_of v m records in
    let long : length tag ≡ 10 + length (region_bytes v m padding f) = ap length t.is_tag_lem ∙ (tag_headed v m padding f t.small).long in
    let all : length tag ≤ n = ltb-false n (length tag) e in
    let far : reach_of v m records ≤ n = omega (arith, length-append (whole_of v m f) (zeros padding)) in
    let read = stopped_behind version mode padding n records tag work s far in
    let reads = meter_reads (take n tag) work in
    (reads.0 ∙ ap (λ (o : Reading). counters_of o.0) read, reads.1 ∙ ap (λ (o : Reading). o.1) read)

pub stopped_told : StoppedTold
stopped_told version mode padding n records tag work m s last off =
    let c = (stopped_meters version mode padding n records tag work s).2 in
    let same : c.0 ≡ m = cc (c.1, last) in
    all_counted version mode padding n records tag work s (sym c.3 ∙ ap (λ (x : Meter). x.missing) same ∙ off)

pub stopped_owed : StoppedOwed
stopped_owed version mode padding n records user tag work s =
    let k = whole_in (version_of version) (mode_of mode) n records in
    let f = stopped_reads version mode padding n records tag work s in
    owed_read user (take n tag) work ∙ ap (λ (o : Reading). owed user o.0) f.is ∙ owed_then user (take k records) f.most
