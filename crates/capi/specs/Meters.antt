-- Meters and metered popularimeters as words, in the places that include/streamvault.h names, and what the exported functions over them
-- answer and leave, as in Calls. Assumes nothing.
use Rattle.std.specs.Prelude.{ℕ, Bool, ◌&&◌, ◌||◌, List, [], ◌∷◌, ◌++◌, eqb, Result, Ok, Err, Some, None}
use Rattle.std.proofs.lemmas.List.Edits.{sets}
use Rattle.format.specs.Bytes.{pick}
use Rattle.format.specs.Header.{version_of}
use Rattle.format.specs.declared.Version.{Version}
use Rattle.reader.specs.declared.Stop.{Stop}
use Rattle.meter.specs.Meter.{Nexted, meter_open_of, next_of}
use Rattle.meter.specs.declared.Meter.{Meter}
use Rattle.meter.specs.declared.Metered.{Metered}
use Rattle.capi.specs.Words.{word, flag, is_flag, stop_of, reader_list, is_reader}
use Rattle.capi.specs.Calls.{short, Left2, Left3}
use Rattle.format.specs.declared.refusals.Refusal.{Refusal}

-- ---- a meter, eleven words: a reader's, and what it passed

abbrev pub meter_list : Meter → List ℕ
meter_list m = reader_list m.reader ++ (m.frames ∷ flag m.short ∷ flag m.compressed ∷ flag m.missing ∷ [])

unfoldable pub meter_words : Meter → List ℕ → List ℕ
meter_words m words = sets words 0 (meter_list m)

abbrev pub is_meter : List ℕ → Bool
is_meter words =
    is_reader (word 0 words) (word 1 words) (word 5 words) (word 6 words)
    && (is_flag (word 8 words) && (is_flag (word 9 words) && is_flag (word 10 words)))

-- the meter that words say, but for the edition and how it has stopped
abbrev pub meter_with : Version → Stop → List ℕ → Meter
meter_with v stop words = record {
  reader = record {
    version = v;
    in_work = eqb (word 1 words) 1;
    begin = word 2 words;
    at = word 3 words;
    end = word 4 words;
    stop = stop;
  };
  frames = word 7 words;
  short = eqb (word 8 words) 1;
  compressed = eqb (word 9 words) 1;
  missing = eqb (word 10 words) 1;
}

-- none or one
unfoldable pub meter_of : List ℕ → List Meter
meter_of words = pick (is_meter words) (meter_with (version_of (word 0 words)) (stop_of (word 5 words) (word 6 words)) words ∷ []) []

-- ---- a metered popularimeter, six words

unfoldable pub metered_words : Metered → List ℕ → List ℕ
metered_words p words = sets words 0 (flag p.in_work ∷ p.user.start ∷ p.user.len ∷ p.rating ∷ p.counter ∷ p.frame ∷ [])

-- ---- sv_meter_open: work, meter

abbrev pub after_meter_open : Result Meter Refusal × List ℕ → List ℕ → Left2
after_meter_open (Ok m, work) meter = (0, work, meter_words m meter)
after_meter_open (Err k, work) meter = (k.number, work, meter)

unfoldable pub sv_meter_open : List ℕ → List ℕ → List ℕ → Left2
sv_meter_open tag work meter = pick (short 11 meter) (20, work, meter) (after_meter_open (meter_open_of tag work) meter)

-- ---- sv_meter_next: work, meter, metered; the end is 256

abbrev pub after_next : Nexted → List ℕ → List ℕ → Left3
after_next ((Ok (Some p), m), work) meter metered = (0, work, meter_words m meter, metered_words p metered)
after_next ((Ok None, m), work) meter metered = (256, work, meter_words m meter, metered)
after_next ((Err k, m), work) meter metered = (k.number, work, meter_words m meter, metered)

abbrev pub next_with : List Meter → List ℕ → List ℕ → List ℕ → List ℕ → Left3
next_with [] tag work meter metered = (2, work, meter, metered)
next_with (m ∷ _) tag work meter metered = after_next (next_of m tag work) meter metered

unfoldable pub sv_meter_next : List ℕ → List ℕ → List ℕ → List ℕ → Left3
sv_meter_next tag work meter metered =
    pick (short 11 meter || short 6 metered) (20, work, meter, metered) (next_with (meter_of meter) tag work meter metered)
