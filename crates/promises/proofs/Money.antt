-- The promise on money: what is counted is what was read, and what was written; and the marks are true. Assumes nothing.
use mathlib.Core.Path.{◌≡◌, refl, sym, ap, ◌∙◌, subst}
use Prim.Native.Nat.{ℕ, suc, ◌+◌, ◌%◌, ◌^◌, ◌≤◌, ◌<◌}
use native.Mathlib.Omega.{arith}
use mathlib.Core.Bool.{Bool, true, false, not}
use mathlib.Core.List.{List, [], ◌∷◌, ◌++◌}
use lib.ListN.{length}
use lib.Dec.{ltb, eqb}
use borrow.Author.Tests.{le-ltb, eqb-true, eq-eqb}
use Rattle.laws.proofs.Bools.{false_not_true, and_true}
use Rattle.laws.proofs.Results.{ok_same, err_not_ok}
use Rattle.format.specs.Bytes.{pick, put_front}
use Rattle.format.specs.Unsynch.{resynchronised}
use Rattle.format.specs.Header.{edition_of, size_of, version_of, is_whole, header_refusal, region_start, region_end, region_of}
use Rattle.format.specs.Numbered.{mode_of}
use Rattle.format.specs.Record.{Content, text, popularimeter, table, chapter, contents, raw, Rec}
use Rattle.format.specs.Encode.{region_bytes, tag_of}
use Rattle.format.specs.declared.Version.{Version}
use Rattle.format.specs.declared.Mode.{Mode}
use Rattle.format.proofs.Checks.{of_picked}
use Rattle.format.proofs.Tags.{tag_headed}
use Rattle.reader.specs.Reader.{reader_at, open_whole, open_of}
use Rattle.reader.specs.declared.Reader.{Reader}
use Rattle.meter.specs.Meter.{is_missing, meter_at, opened_as, meter_open_of, one_more, next_of, Next}
use Rattle.meter.specs.Answers.{opened_meter, next_number, next_metered, next_meter}
use Rattle.meter.specs.declared.Meter.{Meter}
use Rattle.promises.specs.Written.{kept_of}
use Rattle.promises.specs.Reading.{Ending, ended, unfinished, Reading, on_open, read_for, read_all}
use Rattle.promises.specs.Promises.{NoneShort, none as none_left, also as also-whole, frames_of}
use Rattle.promises.specs.Metering.{Counted, counted_as, counters_from, counters_of, Metering, meter_all}
use Rattle.promises.specs.Metering as metering
use Rattle.promises.specs.Money.{any_short, any_packed, Marked, Last, none, one, MeterReads, MeterFinishes, MeterStays, MeterStaysRefused, MeterStaysEnded, MeterWritten, MeterKept, same_bytes, total, owed_as, owed, SameBytes, OwedRead, OwedWritten, OwedKept}
use Rattle.promises.proofs.Sounds.{Sounds, nothing, also}
use Rattle.promises.proofs.Adding.{told_as, all_kept}
use Rattle.promises.proofs.RoundTrip.{round_trip}
use Rattle.promises.proofs.Altered.{kept_back}
use Rattle.promises.proofs.Headers.{size_there}
use Rattle.promises.proofs.Bounds.{few_frames, finishes}
use Rattle.promises.proofs.Metering.{frames_from, from_meters, Stays, stays}
use Rattle.std.specs.Prelude.{Result, Ok, Err, Some, None}
use Rattle.format.specs.declared.refusals.Refusal.{Refusal}
use Rattle.format.specs.Refusals.{refusal}

-- ---- opening

-- a reader that was opened is of the tag's edition
abbrev OfEdition : List ℕ → Result Reader Refusal × List ℕ → Type 0
OfEdition tag o = (r : Reader) → o.0 ≡ Ok r → r.version ≡ version_of (edition_of tag)

refused_edition : (tag work : List ℕ) (k : Refusal) → OfEdition tag (Err k, work)
refused_edition tag work k r e = err_not_ok e

ready_edition : (tag work : List ℕ) (inWork : Bool) (begin end : ℕ) → OfEdition tag (Ok (reader_at (version_of (edition_of tag)) inWork begin end), work)
ready_edition tag work inWork begin end r e = ap (λ (x : Reader). x.version) (sym (ok_same e))

open_edition : (tag work : List ℕ) → OfEdition tag (open_of tag work)
unfolding open_of open_whole
open_edition tag work =
    let u = resynchronised (region_of tag) in
    of_picked (OfEdition tag) (not (eqb (header_refusal tag) 0))
    (λ t. refused_edition tag work (refusal (header_refusal tag)))
    (λ t. of_picked (OfEdition tag) (is_whole tag)
    (λ t. of_picked (OfEdition tag) (ltb (length work) (length u))
    (λ t. refused_edition tag work (refusal 14))
    (λ t. ready_edition tag (put_front u work) true 0 (length u)))
    (λ t. ready_edition tag work false (region_start tag) (region_end tag)))

-- ---- any bytes

frames_counted : (n : ℕ) (rs : List Rec) → n < 2 ^ 64 → frames_from n rs ≡ (n + length rs) % 2 ^ 64
frames_counted n [] h = omega arith
frames_counted n (r ∷ rs) h = omega (arith, frames_counted (one_more n) rs (omega arith))

opened_reads : (n : ℕ) (tag work : List ℕ) (x : Result Reader Refusal) → ((r : Reader) → x ≡ Ok r → r.version ≡ version_of (edition_of tag))
    → ((on_open n tag x work).1 ≡ unfinished → ⊥)
    → ((metering.on_open n tag (opened_as (is_missing tag) x) work).counted ≡ counters_of (on_open n tag x work).0)
    × ((metering.on_open n tag (opened_as (is_missing tag) x) work).ending ≡ (on_open n tag x work).1)
    × Last tag (on_open n tag x work).0 (opened_meter (opened_as (is_missing tag) x)) (metering.on_open n tag (opened_as (is_missing tag) x) work).last
opened_reads n tag work (Ok r) edition fin =
    let b = from_meters (version_of (edition_of tag)) n n tag (meter_at (is_missing tag) r) work (omega arith) (edition r refl) fin in
    let marked : Marked tag (on_open n tag (Ok r) work).0 b.last = record {
      short = b.short;
      compressed = b.compressed;
      missing = b.missing;
      frames = omega (arith, b.frames, frames_counted 0 (on_open n tag (Ok r) work).0 (omega arith));
    } in
    (b.counted, b.ending, rw b.is_last (one marked))
opened_reads n tag work (Err k) edition fin = (refl, refl, none)

pub meter_reads : MeterReads
unfolding read_for meter_all meter_open_of
meter_reads tag work = opened_reads (length tag) tag (open_of tag work).1 (open_of tag work).0 (open_edition tag work) (finishes tag work)

pub meter_finishes : MeterFinishes
meter_finishes tag work e = finishes tag work (sym (meter_reads tag work).1 ∙ e)

module _ (tag' work' : List ℕ) where
  -- a call without a popularimeter
  again : (k : ℕ) (x : Next) → Stays x → next_number x ≡ k → next_metered x ≡ [] → MeterStays k (next_meter x) work' (next_of (next_meter x) tag' work')
  again k (Ok (Some p), m) s n l = absurd (let z : ◌≡◌ {A = ℕ} 0 1 = cc in omega arith)
  again k (Ok None, m) s n l = rw (s tag' work') (n, refl, refl, refl)
  again k (Err j, m) s n l = rw (s tag' work') (n, refl, refl, refl)

none_metered : (k : ℕ) (x : Next) → next_number x ≡ suc k → next_metered x ≡ []
none_metered k (Ok (Some p), m) n = absurd (omega arith)
none_metered k (Ok None, m) n = refl
none_metered k (Err j, m) n = refl

pub meter_stays_refused : MeterStaysRefused
meter_stays_refused m tag work tag' work' k n =
    again tag' work' (suc k) (next_of m tag work).0 (stays tag m work) n (none_metered k (next_of m tag work).0 n)

pub meter_stays_ended : MeterStaysEnded
meter_stays_ended m tag work tag' work' n l = again tag' work' 0 (next_of m tag work).0 (stays tag m work) n l

-- ---- a written tag

none_missing : (v : Version) (m : Mode) (p : ℕ) (f : List ℕ) → length (region_bytes v m p f) < 2 ^ 28 → is_missing (tag_of v m p f) ≡ false
none_missing v m p f small =
    let tag = tag_of v m p f in
    le-ltb (length tag) (10 + size_of tag) (omega (arith, size_there v m p f small, (tag_headed v m p f small).long))

none_short : {rs : List Rec} → NoneShort rs → any_short rs ≡ false
none_short none_left = refl
none_short (also-whole e ss) = rw (e, none_short ss)

none_packed : (u v : Version) (m : Mode) {rs : List Rec} → Sounds v m rs → any_packed u rs ≡ false
none_packed u v m nothing = refl
none_packed u v m (also s ss) = rw (s.plain, none_packed u v m ss)

metering_is : (o : Metering) (cs : List Counted) (e : Ending) (l : List Meter) → o.counted ≡ cs → o.ending ≡ e → o.last ≡ l
    → o ≡ record { counted = cs; ending = e; last = l }
metering_is o cs e l p q s = λ i. record { counted = p i; ending = q i; last = s i }

-- opening was not refused, so that there is a meter
last_marked : (n : ℕ) (tag work : List ℕ) (x : Result Reader Refusal) (rs : List Rec) (l : List Meter) → (on_open n tag x work).1 ≡ ended → Last tag rs (opened_meter (opened_as (is_missing tag) x)) l
    → (m : Meter) × (l ≡ m ∷ []) × Marked tag rs m
last_marked n tag work (Ok r) rs l e (one {m} marked) = (m, refl, marked)
last_marked n tag work (Err k) rs l e none = absurd (let z : ◌≡◌ {A = ℕ} 0 1 = cc in omega arith)

pub meter_kept : MeterKept
unfolding read_for meter_open_of
meter_kept version mode padding altered records tag work w room =
    let t = told_as version mode altered padding records tag w in
    let v = version_of version in
    let m = mode_of mode in
    let kept = kept_of v altered records in
    let f = frames_of v m kept in
    let back = kept_back version mode padding altered records tag work w room in
    let reads = meter_reads tag work in
    let rs : (read_all tag work).0 ≡ kept = ap (λ (o : Reading). o.0) back.0 in
    let end : (read_all tag work).1 ≡ ended = ap (λ (o : Reading). o.1) back.0 in
    let last = last_marked (length tag) tag (open_of tag work).1 (open_of tag work).0 kept (meter_all tag work).last end (rw rs at reads.2) in
    let marked = last.2 in
    let long : length tag ≡ 10 + length (region_bytes v m padding f) = rw t.is_tag_lem (tag_headed v m padding f t.small).long in
    let few : length kept ≤ length tag = omega (arith, few_frames (length tag) tag work, ap length rs) in (
      last.0,
      metering_is (meter_all tag work) (counters_of kept) ended (last.0 ∷ []) (reads.0 ∙ ap counters_of rs) (reads.1 ∙ end) last.1,
      record {
        short = marked.short ∙ none_short back.1;
        compressed = marked.compressed ∙ none_packed (version_of (edition_of tag)) v m t.sounds;
        missing = marked.missing ∙ ap is_missing t.is_tag_lem ∙ none_missing v m padding f t.small;
        frames = omega (arith, marked.frames, t.small);
      },
    )

pub meter_written : MeterWritten
meter_written version mode padding records tag work w room = rw all_kept at (meter_kept version mode padding false records tag work w room)

-- ---- one user's counters

pub same_bytes_lem : SameBytes
same_bytes_lem s t = (same s t, λ e. subst (λ (x : List ℕ). same_bytes s x ≡ true) e (itself s))
  where
    itself : (s : List ℕ) → same_bytes s s ≡ true
    itself [] = refl
    itself (x ∷ s) = rw (eq-eqb x x refl, itself s)

    same : (s t : List ℕ) → same_bytes s t ≡ true → s ≡ t
    same [] [] e = refl
    same [] (y ∷ t) e = absurd (false_not_true e)
    same (x ∷ s) [] e = absurd (false_not_true e)
    same (x ∷ s) (y ∷ t) e =
        let b = and_true (eqb x y) (same_bytes s t) e in
        rw (eqb-true x y b.0, same s t b.1)

total_one : (user : List ℕ) (n : ℕ) (short : Bool) (c : Content) (cs : List Counted)
    → total user (pick short [] (counted_as n c) ++ cs) ≡ pick short 0 (owed_as user c) + total user cs
total_one user n true c cs = omega arith
total_one user n false (text e s) cs = omega arith
total_one user n false (popularimeter owner r k) cs = refl
total_one user n false (table f b k v w ds) cs = omega arith
total_one user n false (chapter e a b c d run) cs = omega arith
total_one user n false (contents e t o children run) cs = omega arith
total_one user n false (raw body) cs = omega arith

total_owed : (user : List ℕ) (n : ℕ) (rs : List Rec) → total user (counters_from n rs) ≡ owed user rs
total_owed user n [] = refl
total_owed user n (r ∷ rs) = total_one user n r.short r.content (counters_from (one_more n) rs) ∙ rw (total_owed user (one_more n) rs)

pub owed_read : OwedRead
owed_read user tag work = rw (meter_reads tag work).0 (total_owed user 0 (read_all tag work).0)

pub owed_written : OwedWritten
owed_written version mode padding records user tag work w room =
    let back = round_trip version mode padding records tag work w room in
    owed_read user tag work ∙ ap (λ (o : Reading). owed user o.0) back.0

pub owed_kept : OwedKept
owed_kept version mode padding altered records user tag work w room =
    let back = kept_back version mode padding altered records tag work w room in
    owed_read user tag work ∙ ap (λ (o : Reading). owed user o.0) back.0
