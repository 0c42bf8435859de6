-- A tag metered whole: opening, then calls for the next popularimeter, each with the work buffer as the call before left it. Assumes nothing.
use Rattle.std.specs.Prelude.{ℕ, zero, suc, List, [], ◌∷◌, ◌++◌, length, Result}
use Rattle.format.specs.Bytes.{pick, part}
use Rattle.format.specs.Record.{Content, text, popularimeter, table, chapter, contents, raw, Rec}
use Rattle.meter.specs.Meter.{meter_open_of, one_more, next_of, Next}
use Rattle.meter.specs.declared.Meter.{Meter}
use Rattle.meter.specs.declared.Metered.{Metered}
use Rattle.meter.specs.Answers.{opened_number, opened_meter, next_number, next_metered, next_meter}
use Rattle.promises.specs.Reading.{Ending, refused, unfinished, ending_of}
use Rattle.format.specs.declared.refusals.Refusal.{Refusal}

-- ---- the whole popularimeters of a list of records

-- a popularimeter as such, with the number of its frame
pub record Counted : Type 0 where
  pub user : List ℕ
  pub rating : ℕ
  pub counter : ℕ
  pub frame : ℕ

abbrev pub counted_as : ℕ → Content → List Counted
counted_as n (text e s) = []
counted_as n (popularimeter user rating counter) = record { user = user; rating = rating; counter = counter; frame = n } ∷ []
counted_as n (table f b k v w ds) = []
counted_as n (chapter e a b c d run) = []
counted_as n (contents e t o children run) = []
counted_as n (raw body) = []

-- of one record, none or one: a short one does not count
abbrev pub counted_in : ℕ → Rec → List Counted
counted_in n r = pick r.short [] (counted_as n r.content)

-- of records of which the first is frame n
abbrev pub counters_from : ℕ → List Rec → List Counted
counters_from n [] = []
counters_from n (r ∷ rs) = counted_in n r ++ counters_from (one_more n) rs

abbrev pub counters_of : List Rec → List Counted
counters_of rs = counters_from 0 rs

-- ---- a tag metered whole

-- the popularimeters, the ending, and the meter that the last call handed back: none where opening was refused
pub record Metering : Type 0 where
  pub counted : List Counted
  pub ending : Ending
  pub last : List Meter

abbrev pub stopped : Ending → List Meter → Metering
stopped e l = record { counted = []; ending = e; last = l }

abbrev pub and_counted : Counted → Metering → Metering
and_counted c o = record { counted = c ∷ o.counted; ending = o.ending; last = o.last }

-- the popularimeter that is answered, its user taken from the buffers as they stand
abbrev pub counted_of : Metered → List ℕ → List ℕ → Counted
counted_of p tag work =
    record { user = part p.user (pick p.in_work work tag); rating = p.rating; counter = p.counter; frame = p.frame }

-- by a call's number and its none or one popularimeter
abbrev pub on_number : (Meter → List ℕ → Metering) → List ℕ → ℕ → List Metered → Meter → List ℕ → Metering
on_number go tag k [] m work = stopped (ending_of k) (m ∷ [])
on_number go tag k (p ∷ l) m work = and_counted (counted_of p tag work) (go m work)

abbrev pub on_next : (Meter → List ℕ → Metering) → List ℕ → Next → List ℕ → Metering
on_next go tag x work = on_number go tag (next_number x) (next_metered x) (next_meter x) work

-- in at most so many calls
unfoldable pub meter_from : ℕ → List ℕ → Meter → List ℕ → Metering
meter_from zero tag m work = stopped unfinished (m ∷ [])
meter_from (suc n) tag m work = on_next (meter_from n tag) tag (next_of m tag work).0 (next_of m tag work).1

-- by opening's number and its none or one meter
abbrev pub on_meter : ℕ → List ℕ → ℕ → List Meter → List ℕ → Metering
on_meter n tag k [] work = stopped (refused k) []
on_meter n tag k (m ∷ l) work = meter_from n tag m work

abbrev pub on_open : ℕ → List ℕ → Result Meter Refusal → List ℕ → Metering
on_open n tag x work = on_meter n tag (opened_number x) (opened_meter x) work

-- as many calls as the tag has bytes are enough
unfoldable pub meter_all : List ℕ → List ℕ → Metering
meter_all tag work = on_open (length tag) tag (meter_open_of tag work).0 (meter_open_of tag work).1
