-- The meter, step by step: what it counts and marks of what is read, and that it stays stopped. Assumes nothing.
use mathlib.Core.Path.{◌≡◌, refl, sym, ap, ◌∙◌, subst}
use Prim.Native.Nat.{ℕ, zero, suc, ◌≤◌, ◌<◌}
use native.Mathlib.Omega.{arith}
use mathlib.Core.Bool.{Bool, true, false, ◌||◌, or_assoc, or-false}
use mathlib.Core.List.{List, [], ◌∷◌, ◌++◌}
use Rattle.format.specs.Bytes.{pick, part}
use Rattle.format.specs.Record.{content_of, deviations_of, buffer_of, Rec, view_of}
use Rattle.format.specs.declared.Version.{Version}
use Rattle.format.specs.declared.Fields.{Fields}
use Rattle.format.specs.declared.Record.{Record}
use Rattle.reader.specs.Reader.{step_of, Step}
use Rattle.reader.specs.declared.Reader.{Reader}
use Rattle.meter.specs.Meter.{one_more, with_reader, passed_over, metered_as, metered_in, Nexted, or_on, on_step, left_of, next_of, Next}
use Rattle.meter.specs.declared.Meter.{Meter}
use Rattle.meter.specs.declared.Metered.{Metered}
use Rattle.meter.proofs.Nexts.{step_left, next_eq}
use Rattle.promises.specs.Reading.{Ending, unfinished, ending_of, Reading, and_record, read_from}
use Rattle.promises.specs.Reading as reading
use Rattle.promises.specs.Metering.{Counted, counted_as, counted_in, counters_from, Metering, stopped, counted_of, on_next, meter_from}
use Rattle.promises.specs.Money.{any_short, any_packed}
use Rattle.promises.proofs.Bounds.{step_version, refused_again, ended_again}
use Rattle.std.specs.Prelude.{Ok, Err, Some, None}

-- ---- one frame

-- what is answered of a frame is the popularimeter of its record
data Same (tag work : List ℕ) : List Metered → List Counted → Type 0 where
  none : Same tag work [] []
  one : (p : Metered) → Same tag work (p ∷ []) (counted_of p tag work ∷ [])

same : (n : ℕ) (rec : Record) (tag work : List ℕ) → Same tag work (metered_in n rec) (counted_in n (view_of rec tag work))
unfolding view_of
same n rec tag work = by_fields rec.heading.short rec.heading.fields
  where
    s : List ℕ
    s = buffer_of rec tag work

    by_fields : (t : Bool) (f : Fields)
        → Same tag work (pick t [] (metered_as f n rec))
        (pick t [] (counted_as n (content_of f (part rec.name s) (part rec.names s) (part rec.rest s) (deviations_of f (part rec.rest s)))))
    by_fields true f = none
    by_fields false (Fields.Text e) = none
    by_fields false (Fields.Popularimeter r c) = one _
    by_fields false (Fields.Table f b k v w) = none
    by_fields false (Fields.Chapter a b c d) = none
    by_fields false (Fields.Contents t o) = none
    by_fields false Fields.Raw = none

-- ---- what a meter makes of what is read from its place on

-- the number of the frame after these
abbrev pub frames_from : ℕ → List Rec → ℕ
frames_from n [] = n
frames_from n (r ∷ rs) = frames_from (one_more n) rs

-- what a metering from m on gives, where this is what the reader reads from there
pub record Meters (v : Version) (m : Meter) (read : Reading) (o : Metering) : Type 0 where
  pub counted : o.counted ≡ counters_from m.frames read.0
  pub ending : o.ending ≡ read.1
  pub last : Meter
  pub is_last : o.last ≡ last ∷ []
  pub short : last.short ≡ (m.short || any_short read.0)
  pub compressed : last.compressed ≡ (m.compressed || any_packed v read.0)
  pub missing : last.missing ≡ m.missing
  pub frames : last.frames ≡ frames_from m.frames read.0

stops : (v : Version) (m : Meter) (r : Reader) (e : Ending) → Meters v m ([], e) (stopped e (with_reader r m ∷ []))
stops v m r e = record {
  counted = refl;
  ending = refl;
  last = with_reader r m;
  is_last = refl;
  short = sym (or-false m.short);
  compressed = sym (or-false m.compressed);
  missing = refl;
  frames = refl;
}

abbrev with_counted : List Counted → Metering → Metering
with_counted cs o = record { counted = cs ++ o.counted; ending = o.ending; last = o.last }

-- after a frame
turn : (v : Version) (m : Meter) (rec : Record) (r : Reader) (tag work : List ℕ) (read : Reading) (o : Metering) → r.version ≡ v
    → Meters v (passed_over rec.heading r m) read o
    → Meters v m (and_record (view_of rec tag work) read) (with_counted (counted_in m.frames (view_of rec tag work)) o)
unfolding view_of
turn v m rec r tag work read o kept b = record {
  counted = ap (λ (l : List Counted). counted_in m.frames (view_of rec tag work) ++ l) b.counted;
  ending = b.ending;
  last = b.last;
  is_last = b.is_last;
  short = b.short ∙ or_assoc m.short rec.heading.short (any_short read.0);
  compressed = b.compressed ∙ rw kept (or_assoc m.compressed _ (any_packed v read.0));
  missing = b.missing;
  frames = b.frames;
}

module _ (v : Version) (n k : ℕ) (tag : List ℕ)
    (go : (j : ℕ) (m : Meter) (work : List ℕ) → k ≤ j → m.reader.version ≡ v → ((read_from n tag m.reader work).1 ≡ unfinished → ⊥)
    → Meters v m (read_from n tag m.reader work) (meter_from j tag m work)) where
  -- the call goes on from the meter after the frame, or ends there
  frame_meters : {m m' : Meter} {read read' : Reading} {l : List Metered} {c : List Counted} (work : List ℕ) → Same tag work l c
      → ((o : Metering) → Meters v m' read' o → Meters v m read (with_counted c o))
      → Meters v m' read' (meter_from k tag m' work) → Meters v m' read' (meter_from (suc k) tag m' work)
      → Meters v m read (let x = or_on (λ m w. next_of m tag w) l m' work in on_next (meter_from k tag) tag x.0 x.1)
  unfolding meter_from
  frame_meters work none f less more = f _ more
  frame_meters work (one p) f less more = f _ less

  on_meters : (m : Meter) (work left : List ℕ) (x : Step) → (step_of m.reader tag work).0 ≡ x → m.reader.version ≡ v
      → ((reading.on_step (read_from n tag) tag x left).1 ≡ unfinished → ⊥)
      → Meters v m (reading.on_step (read_from n tag) tag x left)
      (let o = on_step (λ m w. next_of m tag w) m x left in on_next (meter_from k tag) tag o.0 o.1)
  on_meters m work left (Ok (Some rec), r) e kept fin =
      let m' = passed_over rec.heading r m in
      let kept' : r.version ≡ v = step_version m.reader tag work rec r e ∙ kept in
      frame_meters left (same m.frames rec tag left)
      (λ o b. turn v m rec r tag left (read_from n tag r left) o kept' b)
      (go k m' left (omega arith) kept' fin)
      (go (suc k) m' left (omega arith) kept' fin)
  on_meters m work left (Ok None, r) e kept fin = stops v m r (ending_of 0)
  on_meters m work left (Err j, r) e kept fin = stops v m r (ending_of j.number)

-- In at least as many calls as the reader has steps, if these are enough.
pub from_meters : (v : Version) (n k : ℕ) (tag : List ℕ) (m : Meter) (work : List ℕ) → n ≤ k → m.reader.version ≡ v
    → ((read_from n tag m.reader work).1 ≡ unfinished → ⊥) → Meters v m (read_from n tag m.reader work) (meter_from k tag m work)
unfolding read_from meter_from
from_meters v zero k tag m work h kept fin = absurd (fin refl)
from_meters v (suc n) zero tag m work h kept fin = absurd (omega arith)
from_meters v (suc n) (suc k) tag m work h kept fin =
    subst (λ (o : Nexted). Meters v m (read_from (suc n) tag m.reader work) (on_next (meter_from k tag) tag o.0 o.1)) (sym (next_eq m tag work))
    (on_meters v n k tag (λ j m' w le. from_meters v n j tag m' w (omega arith)) m work (step_of m.reader tag work).1 (step_of m.reader tag work).0 refl kept fin)

-- ---- a meter that stopped

-- what a call answers it answers again
abbrev pub Stays : Next → Type 0
Stays (Ok (Some p), m) = Unit {0}
Stays (Ok None, m) = (tag work : List ℕ) → next_of m tag work ≡ ((Ok None, m), work)
Stays (Err k, m) = (tag work : List ℕ) → next_of m tag work ≡ ((Err k, m), work)

module _ (tag : List ℕ) (m : Meter) (work left : List ℕ)
    (go : (m' : Meter) (w : List ℕ) → left_of m'.reader < left_of m.reader → Stays (next_of m' tag w).0) where
  or_stays : (l : List Metered) (m' : Meter) → left_of m'.reader < left_of m.reader → Stays (or_on (λ m w. next_of m tag w) l m' left).0
  or_stays [] m' h = go m' left h
  or_stays (p ∷ ps) m' h = tt

  on_stays : (x : Step) → step_of m.reader tag work ≡ (x, left) → Stays (on_step (λ m w. next_of m tag w) m x left).0
  on_stays (Ok (Some rec), r) e = or_stays (metered_in m.frames rec) (passed_over rec.heading r m) (step_left m.reader tag work rec r (ap (λ (o : Step × List ℕ). o.0) e))
  on_stays (Ok None, r) e =
      λ tag' work'. next_eq (with_reader r m) tag' work' ∙ rw (ended_again m.reader r tag work tag' work' (ap (λ (o : Step × List ℕ). o.0) e))
  on_stays (Err k, r) e =
      λ tag' work'. next_eq (with_reader r m) tag' work' ∙ rw (refused_again m.reader r tag work tag' work' k (ap (λ (o : Step × List ℕ). o.0) e))

stays_for : (n : ℕ) (tag : List ℕ) (m : Meter) (work : List ℕ) → left_of m.reader < n → Stays (next_of m tag work).0
stays_for zero tag m work h = absurd (omega arith)
stays_for (suc n) tag m work h =
    subst (λ (o : Nexted). Stays o.0) (sym (next_eq m tag work))
    (on_stays tag m work (step_of m.reader tag work).1 (λ m' w lt. stays_for n tag m' w (omega arith)) (step_of m.reader tag work).0 refl)

pub stays : (tag : List ℕ) (m : Meter) (work : List ℕ) → Stays (next_of m tag work).0
stays tag m work = stays_for (suc (left_of m.reader)) tag m work (omega arith)
