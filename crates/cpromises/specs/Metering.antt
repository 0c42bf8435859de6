-- A tag metered whole by sv_meter_open and sv_meter_next, each popularimeter as the caller sees it when its call returns (document 01, "Header and walk"). Assumes nothing.
use Rattle.std.specs.Prelude.{ℕ, zero, suc, List, [], ◌∷◌, length, eqb}
use Rattle.format.specs.Bytes.{pick}
use Rattle.promises.specs.Metering.{Counted}
use Rattle.capi.specs.Words.{word}
use Rattle.capi.specs.Calls.{Left2, Left3}
use Rattle.capi.specs.Meters.{sv_meter_open, sv_meter_next}
use Rattle.cpromises.specs.Reading.{part_in}

-- ---- the popularimeter that a call shows

-- the buffer that its words name, and the user at its place there
abbrev pub user_in : List ℕ → List ℕ → List ℕ → List ℕ
user_in metered tag work = part_in 1 metered (pick (eqb (word 0 metered) 1) work tag)

abbrev pub counted_by : List ℕ → List ℕ → List ℕ → Counted
counted_by metered tag work =
    record { user = user_in metered tag work; rating = word 3 metered; counter = word 4 metered; frame = word 5 metered }

-- ---- the calls

-- the popularimeters, the number that the last call answers (256 at the end of the tag, 0 where the calls allowed were too few), and the meter's words as that call left them
pub record SvMetering : Type 0 where
  pub counted : List Counted
  pub number : ℕ
  pub left : List ℕ

abbrev pub stopped : ℕ → List ℕ → SvMetering
stopped k meter = record { counted = []; number = k; left = meter }

abbrev pub and_counted : Counted → SvMetering → SvMetering
and_counted c o = record { counted = c ∷ o.counted; number = o.number; left = o.left }

-- work, the words of meter and popularimeter: each call takes what the call before left
abbrev pub Goes : Type 0
Goes = List ℕ → List ℕ → List ℕ → SvMetering

abbrev pub on_next : List ℕ → Goes → Left3 → SvMetering
on_next tag go (zero, work, meter, metered) = and_counted (counted_by metered tag work) (go work meter metered)
on_next tag go (suc k, work, meter, metered) = stopped (suc k) meter

-- in at most so many calls
unfoldable pub sv_meter_from : ℕ → List ℕ → Goes
sv_meter_from zero tag work meter metered = stopped 0 meter
sv_meter_from (suc n) tag work meter metered = on_next tag (sv_meter_from n tag) (sv_meter_next tag work meter metered)

abbrev pub on_open : ℕ → List ℕ → List ℕ → Left2 → SvMetering
on_open n tag metered (zero, work, meter) = sv_meter_from n tag work meter metered
on_open n tag metered (suc k, work, meter) = stopped (suc k) meter

-- as many calls as the tag has bytes are enough
unfoldable pub sv_metering : List ℕ → Goes
sv_metering tag work meter metered = on_open (length tag) tag metered (sv_meter_open tag work meter)
