-- The tag header, opening a reader, and its steps (document 01, "Header and walk"). Assumes nothing.
use Rattle.std.specs.Prelude.{ℕ, Bool, true, false, not, Result, Ok, Err, Option, Some, None, List, [], length, ltb, eqb}
use Rattle.std.proofs.Math.Seq.{slice}
use Rattle.format.specs.Bytes.{pick, put_front}
use Rattle.format.specs.Unsynch.{resynchronised}
use Rattle.format.specs.Header.{edition_of, flags_of, size_of, version_of, ext_of, is_whole, header_refusal, region_start, region_end, region_of}
use Rattle.format.specs.Walk.{Shown, frame_of}
use Rattle.format.specs.Refusals.{refusal, checked}
use Rattle.format.specs.declared.Version.{Version}
use Rattle.format.specs.declared.Record.{Record}
use Rattle.format.specs.declared.refusals.Refusal.{Refusal}
use Rattle.reader.specs.declared.Header.{Header}
use Rattle.reader.specs.declared.Stop.{Stop}
use Rattle.reader.specs.declared.Reader.{Reader}

-- ---- the header

abbrev pub fields_of : List ℕ → Header
fields_of tag = record { version = version_of (edition_of tag); flags = flags_of tag; size = size_of tag; ext = ext_of tag }

unfoldable pub header_of : List ℕ → Result Header Refusal
header_of tag = checked (header_refusal tag) (fields_of tag)

-- ---- opening

abbrev pub reader_at : Version → Bool → ℕ → ℕ → Reader
reader_at v inWork begin end = record { version = v; in_work = inWork; begin = begin; at = begin; end = end; stop = Stop.Running }

-- the region u, resynchronised, goes to the front of the work buffer, if it has the room
unfoldable pub open_whole : Version → List ℕ → List ℕ → Result Reader Refusal × List ℕ
open_whole v u work =
    pick (ltb (length work) (length u)) (Err (refusal 14), work) (Ok (reader_at v true 0 (length u)), put_front u work)

-- the header's checks, then the region: as it lies in the tag, or resynchronised (2.2 and 2.3)
unfoldable pub open_of : List ℕ → List ℕ → Result Reader Refusal × List ℕ
open_of tag work =
    pick (not (eqb (header_refusal tag) 0)) (Err (refusal (header_refusal tag)), work)
    (pick (is_whole tag)
    (open_whole (version_of (edition_of tag)) (resynchronised (region_of tag)) work)
    (Ok (reader_at (version_of (edition_of tag)) false (region_start tag) (region_end tag)), work))

-- ---- a step

abbrev pub stopped_as : Stop → Reader → Reader
stopped_as stop r = record { version = r.version; in_work = r.in_work; begin = r.begin; at = r.at; end = r.end; stop = stop }

abbrev pub moved_to : ℕ → Reader → Reader
moved_to next r = record { version = r.version; in_work = r.in_work; begin = r.begin; at = next; end = r.end; stop = Stop.Running }

-- a record, the end or a refusal, with the moved reader
abbrev pub Step : Type 0
Step = Result (Option Record) Refusal × Reader

abbrev pub answer_of : Shown → Reader → Step
answer_of (Ok None) r = (Ok None, stopped_as Stop.Ended r)
answer_of (Err k) r = (Err k, stopped_as (Stop.Failed k) r)
answer_of (Ok (Some (rec, next))) r = (Ok (Some rec), moved_to next r)

abbrev pub Stepped : Type 0
Stepped = Step × List ℕ

-- the next frame, of those in the tag and of those in the work buffer: in 2.2 and 2.3 no frame is resynchronised by itself, so that these need no room
abbrev pub run_step : Bool → Reader → List ℕ → List ℕ → Stepped
run_step false r tag work =
    let o = frame_of r.version false r.begin r.at (slice r.at r.end tag) work in
    (answer_of o.0 r, o.1)
run_step true r tag work = (answer_of (frame_of r.version true r.begin r.at (slice r.at r.end work) []).0 r, work)

-- an ended reader stays ended, a refused one refused with its number
abbrev pub step_as : Stop → Reader → List ℕ → List ℕ → Stepped
step_as Stop.Running r tag work = run_step r.in_work r tag work
step_as Stop.Ended r tag work = ((Ok None, r), work)
step_as (Stop.Failed k) r tag work = ((Err k, r), work)

unfoldable pub step_of : Reader → List ℕ → List ℕ → Stepped
step_of r tag work = step_as r.stop r tag work
