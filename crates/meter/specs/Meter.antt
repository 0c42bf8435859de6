-- The meter: the reader's steps up to the next whole popularimeter (document 01, "Header and walk", "Five kinds"). Assumes nothing.
use Rattle.std.specs.Prelude.{ℕ, zero, suc, ◌+◌, ◌-◌, ◌%◌, ◌^◌, Bool, false, ◌&&◌, ◌||◌, Result, Ok, Err, Option, Some, None, List, [], ◌∷◌, length, nat_lt}
use Rattle.format.specs.Bytes.{pick}
use Rattle.format.specs.Header.{size_of}
use Rattle.format.specs.declared.Version.{Version}
use Rattle.format.specs.declared.Fields.{Fields}
use Rattle.format.specs.declared.Heading.{Heading}
use Rattle.format.specs.declared.Record.{Record}
use Rattle.format.specs.declared.refusals.Refusal.{Refusal}
use Rattle.walk.specs.Passing.{is_meter_id}
use Rattle.reader.specs.Reader.{Step, open_of, step_of}
use Rattle.reader.specs.declared.Reader.{Reader}
use Rattle.meter.specs.declared.Meter.{Meter}
use Rattle.meter.specs.declared.Metered.{Metered}

-- ---- opening

-- the tag has fewer bytes than its header says
abbrev pub is_missing : List ℕ → Bool
is_missing tag = nat_lt (length tag) (10 + size_of tag)

-- a meter that has passed nothing yet
abbrev pub meter_at : Bool → Reader → Meter
meter_at missing r = record { reader = r; frames = 0; short = false; compressed = false; missing = missing }

abbrev pub opened_as : Bool → Result Reader Refusal → Result Meter Refusal
opened_as missing (Ok r) = Ok (meter_at missing r)
opened_as missing (Err k) = Err k

-- opens as the reader does
unfoldable pub meter_open_of : List ℕ → List ℕ → Result Meter Refusal × List ℕ
meter_open_of tag work = (opened_as (is_missing tag) (open_of tag work).0, (open_of tag work).1)

-- ---- after a frame

-- one more, as a number of 64 bits
abbrev pub one_more : ℕ → ℕ
one_more n = (n + 1) % 2 ^ 64

-- a compressed frame under a popularimeter's id, which is shown raw
abbrev pub is_packed : Version → Heading → Bool
is_packed v h = h.compressed && is_meter_id v h.id

abbrev pub with_reader : Reader → Meter → Meter
with_reader r m = record { reader = r; frames = m.frames; short = m.short; compressed = m.compressed; missing = m.missing }

-- the meter after a frame, with the moved reader
abbrev pub passed_over : Heading → Reader → Meter → Meter
passed_over h r m = record {
  reader = r;
  frames = one_more m.frames;
  short = m.short || h.short;
  compressed = m.compressed || is_packed r.version h;
  missing = m.missing;
}

-- the popularimeter that a record is, none or one: a short one does not count
abbrev pub metered_as : Fields → ℕ → Record → List Metered
metered_as (Fields.Text e) n rec = []
metered_as (Fields.Popularimeter rating counter) n rec =
    record { in_work = rec.in_work; user = rec.name; rating = rating; counter = counter; frame = n } ∷ []
metered_as (Fields.Table f b k v w) n rec = []
metered_as (Fields.Chapter a b c d) n rec = []
metered_as (Fields.Contents t o) n rec = []
metered_as Fields.Raw n rec = []

abbrev pub metered_in : ℕ → Record → List Metered
metered_in n rec = pick rec.heading.short [] (metered_as rec.heading.fields n rec)

-- ---- the next popularimeter

-- a popularimeter, the end or a refusal, with the moved meter
abbrev pub Next : Type 0
Next = Result (Option Metered) Refusal × Meter

abbrev pub Nexted : Type 0
Nexted = Next × List ℕ

-- answers the popularimeter, or goes on after a frame that is none
abbrev pub or_on : (Meter → List ℕ → Nexted) → List Metered → Meter → List ℕ → Nexted
or_on go [] m work = go m work
or_on go (p ∷ _) m work = ((Ok (Some p), m), work)

-- what the meter makes of a step
abbrev pub on_step : (Meter → List ℕ → Nexted) → Meter → Step → List ℕ → Nexted
on_step go m (Ok (Some rec), r) work = or_on go (metered_in m.frames rec) (passed_over rec.heading r m) work
on_step go m (Ok None, r) work = ((Ok None, with_reader r m), work)
on_step go m (Err k, r) work = ((Err k, with_reader r m), work)

-- in at most so many steps
unfoldable pub next_in : ℕ → List ℕ → Meter → List ℕ → Nexted
next_in zero tag m work = ((Ok None, m), work)
next_in (suc n) tag m work = on_step (next_in n tag) m (step_of m.reader tag work).0 (step_of m.reader tag work).1

-- how many bytes lie between a reader's place and its end: no more steps than these have a frame
abbrev pub left_of : Reader → ℕ
left_of r = r.end - r.at

unfoldable pub next_of : Meter → List ℕ → List ℕ → Nexted
next_of m tag work = next_in (suc (left_of m.reader)) tag m work
