-- How the calls over meters come to what Meters says: words that say a running meter are told from all others, and only the words that
-- change are stored. Assumes nothing.
use Rattle.std.specs.Prelude.{ℕ, Bool, ◌&&◌, List, [], ◌∷◌, set, eqb, Ok, Err, Some, None}
use Rattle.std.proofs.lemmas.List.Edits.{sets}
use Rattle.format.specs.Bytes.{pick}
use Rattle.format.specs.Numbered.{version_number}
use Rattle.meter.specs.declared.Meter.{Meter}
use Rattle.meter.specs.Meter.{Next}
use Rattle.capi.specs.Words.{word, flag, is_flag}
use Rattle.capi.specs.Calls.{Left2}
use Rattle.capi.specs.Meters.{is_meter, metered_words}

-- ---- opening

-- a meter that was opened runs, and has passed nothing
unfoldable pub opened_words : Meter → List ℕ → List ℕ
opened_words m words =
    let r = m.reader in
    sets words 0 (version_number r.version ∷ flag r.in_work ∷ r.begin ∷ r.at ∷ r.end ∷ 0 ∷ 0 ∷ 0 ∷ 0 ∷ 0 ∷ flag m.missing ∷ [])

-- ---- going on

-- whether words say a running meter, if the first says an edition
abbrev pub is_running : List ℕ → Bool
is_running words =
    (eqb (word 5 words) 0 && eqb (word 6 words) 0)
    && (is_flag (word 1 words) && (is_flag (word 8 words) && (is_flag (word 9 words) && is_flag (word 10 words))))

-- of words that say no running meter
abbrev pub stopped_of : List ℕ → ℕ
stopped_of words = pick (is_meter words) (pick (eqb (word 5 words) 1) 256 (word 6 words)) 2

-- the meter's words but those for how it has stopped; the others do not change
unfoldable pub moved_words : Meter → List ℕ → List ℕ
moved_words m words = sets (set words 3 m.reader.at) 7 (m.frames ∷ flag m.short ∷ flag m.compressed ∷ [])

-- meter, metered
abbrev pub answered_of : Next → List ℕ → List ℕ → Left2
answered_of (Ok (Some p), m) meter metered = (0, moved_words m meter, metered_words p metered)
answered_of (Ok None, m) meter metered = (256, set (moved_words m meter) 5 1, metered)
answered_of (Err k, m) meter metered = (k.number, sets (moved_words m meter) 5 (2 ∷ k.number ∷ []), metered)
