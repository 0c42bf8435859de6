-- The promise on money, of the exported functions: what is counted is what was read, and what was written; and the marks are true. Assumes nothing.
use mathlib.Core.Path.{◌≡◌, refl, sym, ap, ◌∙◌, subst}
use Prim.Native.Nat.{ℕ, zero, suc}
use native.Mathlib.Omega.{arith}
use mathlib.Core.Bool.{Bool, true, false, ◌&&◌}
use mathlib.Core.List.{List, [], ◌∷◌}
use Rattle.laws.proofs.Bools.{and_true}
use Rattle.format.specs.Bytes.{pick}
use Rattle.format.specs.Header.{version_of}
use Rattle.format.specs.Record.{Rec}
use Rattle.meter.specs.declared.Meter.{Meter}
use Rattle.promises.specs.Reading.{read_all}
use Rattle.promises.specs.Metering.{Metering, counters_of, meter_all}
use Rattle.promises.specs.Money.{Last, none, one, total}
use Rattle.promises.proofs.Adding.{all_kept}
use Rattle.promises.proofs.Money.{meter_reads, meter_kept, owed_kept}
use Rattle.capi.specs.Words.{word, flag, is_flag, stop_of, is_reader}
use Rattle.capi.specs.Meters.{is_meter, meter_with, meter_of, sv_meter_open}
use Rattle.capi.proofs.Backs.{flag_same}
use Rattle.cpromises.specs.Reading.{SvReading, sv_reading}
use Rattle.cpromises.specs.AnyTag.{end_number}
use Rattle.cpromises.specs.Metering.{sv_metering}
use Rattle.cpromises.specs.Money.{SaysLast, SvMarked, SvMeterReads, SvMeterWritten, SvMeterKept, SvOwedWritten, SvOwedKept}
use Rattle.cpromises.proofs.Writing.{written}
use Rattle.cpromises.proofs.AnyTag.{sv_reads_any}
use Rattle.cpromises.proofs.Metering.{sv_meters}

-- ---- the marks in the words of a meter

pub record Marks (words : List ℕ) (m : Meter) : Type 0 where
  pub frames : word 7 words ≡ m.frames
  pub short : word 8 words ≡ flag m.short
  pub compressed : word 9 words ≡ flag m.compressed
  pub missing : word 10 words ≡ flag m.missing

pub marks : (words : List ℕ) (m : Meter) → meter_of words ≡ m ∷ [] → Marks words m
unfolding meter_of
marks words m = by_test (is_meter words) refl
  where
    said : Meter
    said = meter_with (version_of (word 0 words)) (stop_of (word 5 words) (word 6 words)) words

    by_test : (t : Bool) → is_meter words ≡ t → pick t (said ∷ []) [] ≡ m ∷ [] → Marks words m
    by_test true is e =
        let reads = is_reader (word 0 words) (word 1 words) (word 5 words) (word 6 words) in
        let flags = (and_true reads (is_flag (word 8 words) && (is_flag (word 9 words) && is_flag (word 10 words))) is).1 in
        let first = and_true (is_flag (word 8 words)) (is_flag (word 9 words) && is_flag (word 10 words)) flags in
        let rest = and_true (is_flag (word 9 words)) (is_flag (word 10 words)) first.1 in
        let same : said ≡ m = cc in
        record {
          frames = ap (λ (x : Meter). x.frames) same;
          short = sym (flag_same (word 8 words) first.0) ∙ ap (λ (x : Meter). flag x.short) same;
          compressed = sym (flag_same (word 9 words) rest.0) ∙ ap (λ (x : Meter). flag x.compressed) same;
          missing = sym (flag_same (word 10 words) rest.1) ∙ ap (λ (x : Meter). flag x.missing) same;
        }
    by_test false is e = absurd (let z : ◌≡◌ {A = ℕ} 0 1 = cc in omega arith)

-- the meter that the words left say
pub says_last : (n : ℕ) (meter left : List ℕ) (last : List Meter) (m : Meter) → last ≡ m ∷ [] → SaysLast n meter left last → meter_of left ≡ m ∷ []
says_last zero meter left last m e s = s.2 ∙ sym s.1 ∙ e
says_last (suc k) meter left last m e s = absurd (let z : ◌≡◌ {A = List Meter} [] (m ∷ []) = sym s.0 ∙ e in let o : ◌≡◌ {A = ℕ} 0 1 = cc in omega arith)

-- ---- any bytes

marked : (tag : List ℕ) (records : List Rec) (meter left : List ℕ) (first last : List Meter) → SaysLast 0 meter left last → Last tag records first last → SvMarked tag records left
marked tag records meter left first last s none = absurd (let z = s.1 in let o : ◌≡◌ {A = ℕ} 0 1 = cc in omega arith)
marked tag records meter left first last s (one {m} t) =
    let g = marks left m (says_last 0 meter left last m refl s) in
    record {
      frames = g.frames ∙ t.frames;
      short = g.short ∙ ap flag t.short;
      compressed = g.compressed ∙ ap flag t.compressed;
      missing = g.missing ∙ ap flag t.missing;
    }

pub sv_meter_reads : SvMeterReads
sv_meter_reads tag work meter metered reader words numbers count b lent room =
    let o = sv_meters tag work meter metered lent in
    let d = meter_reads tag work in
    let r = sv_reads_any tag work reader words numbers count b room in
    let left = (sv_metering tag work meter metered).left in
    let last = (meter_all tag work).last in
    let read : (sv_reading tag work reader words numbers count).0 ≡ (read_all tag work).0 = ap (λ (z : SvReading). z.0) r in (
      o.0 ∙ d.0 ∙ ap counters_of (sym read),
      o.1 ∙ ap end_number d.1 ∙ sym (ap (λ (z : SvReading). z.1) r),
      λ z.
          let says : SaysLast 0 meter left last = subst (λ (n : ℕ). SaysLast n meter left last) z o.2 in
          subst (λ (rs : List Rec). SvMarked tag rs left) (sym read) (marked tag (read_all tag work).0 meter left _ last says d.2),
    )

-- ---- a written tag

pub sv_meter_kept : SvMeterKept
sv_meter_kept version mode padding altered records tag work meter metered s room lent =
    let o = sv_meters tag work meter metered lent in
    let c = meter_kept version mode padding altered records tag work (written s).0 room in
    let left = (sv_metering tag work meter metered).left in
    let is_last = ap (λ (d : Metering). d.last) c.1 in
    let g = marks left c.0 (says_last (sv_meter_open tag work meter).0 meter left (meter_all tag work).last c.0 is_last o.2) in
    let t = c.2 in (
      o.0 ∙ ap (λ (d : Metering). d.counted) c.1,
      o.1 ∙ ap (λ (d : Metering). end_number d.ending) c.1,
      record {
        frames = g.frames ∙ t.frames;
        short = g.short ∙ ap flag t.short;
        compressed = g.compressed ∙ ap flag t.compressed;
        missing = g.missing ∙ ap flag t.missing;
      },
    )

pub sv_meter_written : SvMeterWritten
sv_meter_written version mode padding records tag work meter metered s room lent =
    rw all_kept at (sv_meter_kept version mode padding false records tag work meter metered s room lent)

-- ---- one user's counters

pub sv_owed_kept : SvOwedKept
sv_owed_kept version mode padding altered records user tag work meter metered s room lent =
    ap (total user) (sv_meters tag work meter metered lent).0 ∙ owed_kept version mode padding altered records user tag work (written s).0 room

pub sv_owed_written : SvOwedWritten
sv_owed_written version mode padding records user tag work meter metered s room lent =
    rw all_kept at (sv_owed_kept version mode padding false records user tag work meter metered s room lent)
