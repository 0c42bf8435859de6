-- The frames of a tag that is to be changed in place, by its header, and an answer by the look at them (document 01, "Raising a counter"; request f). Assumes nothing.
use Rattle.std.specs.Prelude.{ℕ, Bool, not, ◌&&◌, List, eqb, Result, Ok, Err, true, false}
use Rattle.format.specs.Bytes.{pick}
use Rattle.format.specs.Header.{edition_of, version_of, is_whole, header_refusal, region_start, region_end}
use Rattle.format.specs.Looks.{Look, is_simple}
use Rattle.format.specs.declared.refusals.Refusal.{Refusal}
use Rattle.format.specs.Refusals.{refusal}
use Rattle.format.specs.declared.Version.{Version}
use Rattle.raise.specs.declared.frames.Framed.{Framed}

-- the place of the frames by its parts
abbrev pub framed_with : Version → ℕ → ℕ → Bool → Framed
framed_with v begin end odd = record { version = v; begin = begin; end = end; odd = odd }

-- where the frames lie: the header's refusals, and 40 at once where all is unsynchronised
unfoldable pub framed_of : List ℕ → Result Framed Refusal
framed_of tag =
    let found = pick (is_whole tag) (Err (refusal 40)) (Ok (framed_with (version_of (edition_of tag)) (region_start tag) (region_end tag) (not (is_simple tag)))) in
    pick (eqb (header_refusal tag) 0) found (Err (refusal (header_refusal tag)))

-- an answer of the blocks, after the look at them
abbrev pub looked_as : {A : Type 0} → Look → Result A Refusal → Result A Refusal
looked_as (Err k) x = Err k
looked_as (Ok false) x = Err (refusal 40)
looked_as (Ok true) x = x

-- behind the last frame
abbrev pub ended_as : {A : Type 0} → Bool → Bool → Result A Refusal → Result A Refusal
ended_as odd zero x = pick (not odd && zero) x (Err (refusal 40))
