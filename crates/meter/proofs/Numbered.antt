-- Every refusal of a meter has a number. Assumes nothing.
use Rattle.std.proofs.Common.{ℕ, zero, suc, Bool, Result, Ok, Err, Some, None, List, [], ◌∷◌}
use Rattle.format.specs.declared.refusals.Refusal.{Refusal}
use Rattle.reader.specs.Reader.{Step, open_of, step_of}
use Rattle.reader.specs.declared.Reader.{Reader}
use Rattle.reader.proofs.Numbered.{Number, Stopped, OfStep, step_number_lem, OfOpened, open_stopped}
use Rattle.meter.specs.Meter.{is_missing, opened_as, meter_open_of, passed_over, metered_in, Next, Nexted, or_on, on_step, next_in, left_of, next_of}
use Rattle.meter.specs.declared.Meter.{Meter}
use Rattle.meter.specs.declared.Metered.{Metered}

-- ---- opening

abbrev pub OfOpen : Result Meter Refusal → Type 0
OfOpen (Ok m) = Stopped m.reader.stop
OfOpen (Err k) = Number k.number

opened_number_lem : (missing : Bool) (o : Result Reader Refusal × List ℕ) → OfOpened o → OfOpen (opened_as missing o.0)
opened_number_lem missing (Ok r, work) h = h
opened_number_lem missing (Err k, work) h = h

pub open_number : (tag work : List ℕ) → OfOpen (meter_open_of tag work).0
unfolding meter_open_of
open_number tag work = opened_number_lem (is_missing tag) (open_of tag work) (open_stopped tag work)

-- ---- the next popularimeter

abbrev pub OfNext : Next → Type 0
OfNext (Ok (Some p), m) = Stopped m.reader.stop
OfNext (Ok None, m) = Unit {0}
OfNext (Err k, m) = Number k.number

module _ (go : Meter → List ℕ → Nexted) (later : (m : Meter) (w : List ℕ) → Stopped m.reader.stop → OfNext (go m w).0) where
  or_number : (p : List Metered) (m : Meter) (work : List ℕ) → Stopped m.reader.stop → OfNext (or_on go p m work).0
  or_number [] m work h = later m work h
  or_number (p ∷ ps) m work h = h

  on_number_lem : (m : Meter) (x : Step) (work : List ℕ) → OfStep x → OfNext (on_step go m x work).0
  on_number_lem m (Ok (Some rec), r) work h = or_number (metered_in m.frames rec) (passed_over rec.heading r m) work h
  on_number_lem m (Ok None, r) work h = tt
  on_number_lem m (Err k, r) work h = h.0

in_number : (n : ℕ) (tag : List ℕ) (m : Meter) (work : List ℕ) → Stopped m.reader.stop → OfNext (next_in n tag m work).0
unfolding next_in
in_number zero tag m work h = tt
in_number (suc n) tag m work h =
    let o = step_of m.reader tag work in
    on_number_lem (next_in n tag) (in_number n tag) m o.0 o.1 (step_number_lem m.reader tag work h)

pub next_number_lem : (m : Meter) (tag work : List ℕ) → Stopped m.reader.stop → OfNext (next_of m tag work).0
unfolding next_of
next_number_lem m tag work h = in_number (suc (left_of m.reader)) tag m work h
