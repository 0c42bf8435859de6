-- What is promised of reading any bytes at all by the exported functions, with words and buffers of any length. Assumes nothing.
use Rattle.std.specs.Prelude.{◌≡◌, ℕ, suc, ◌/◌, ◌≤◌, List, length}
use Rattle.capi.specs.Calls.{sv_step}
use Rattle.cpromises.specs.Reading.{sv_read_for, sv_reading}

-- A slice of n bytes yields at most n/6 frames, in any number of steps.
abbrev pub SvFewFrames : Type 0
SvFewFrames = (steps : ℕ) (tag work reader words numbers count : List ℕ)
    → length (sv_read_for steps tag work reader words numbers count).0 ≤ length tag / 6

-- Every reading of a whole tag comes to 256 or to a refusal's number.
abbrev pub SvFinishes : Type 0
SvFinishes = (tag work reader words numbers count : List ℕ) → (sv_reading tag work reader words numbers count).1 ≡ 0 → ⊥

-- What a step answers other than 0, a refusal's number or 256, the end, the next step answers again, whatever tag, work buffer and words come with that reader:
-- they and the reader's words stay as they are. Both steps are lent words enough, else they answer 20.
abbrev pub SvStays : Type 0
SvStays = (tag work reader words tag' work' words' : List ℕ) (k : ℕ) → 7 ≤ length reader → 19 ≤ length words → 19 ≤ length words' →
    let o = sv_step tag work reader words in
    o.0 ≡ suc k → sv_step tag' work' o.2 words' ≡ (suc k, work', o.2, words')
