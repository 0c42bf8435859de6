-- A record's frame put in the place of other bytes, with what follows moved along (document 01, "Room inside the tag"; request j). Assumes nothing.
use Rattle.std.specs.Prelude.{ℕ, ◌+◌, ◌-◌, Bool, false, not, ◌&&◌, List, ◌++◌, length, leb, eqb, Result, Ok, Err}
use Rattle.std.proofs.Math.Seq.{slice}
use Rattle.std.proofs.lemmas.List.Edits.{sets}
use Rattle.format.specs.Bytes.{pick, zeros}
use Rattle.format.specs.Record.{Rec}
use Rattle.format.specs.Encode.{refusal_of, encode}
use Rattle.format.specs.declared.Version.{Version}
use Rattle.format.specs.declared.Mode.{Mode}
use Rattle.writer.specs.declared.between.Gap.{Gap}
use Rattle.format.specs.declared.refusals.Refusal.{Refusal}
use Rattle.format.specs.Refusals.{refusal}

-- the places come one after the other, and in the buffer
abbrev pub is_ordered : Gap → ℕ → Bool
is_ordered g n = leb g.from g.to && (leb g.to g.last && (leb g.last g.end && leb g.end n))

-- a frame of n bytes and what follows it still end before the end
abbrev pub has_room : Gap → ℕ → Bool
has_room g n = leb (g.from + (n + (g.last - g.to))) g.end

-- the frame, what follows it, and zeros where that ends earlier than before
unfoldable pub refitted : Gap → List ℕ → List ℕ → List ℕ
refitted g frame s = sets s g.from (frame ++ (slice g.to g.last s ++ zeros (g.to - (g.from + length frame))))

-- 20: no such places, or no room
unfoldable pub refit_of : Gap → List ℕ → List ℕ → Result Unit Refusal × List ℕ
refit_of g frame s = pick (is_ordered g (length s) && has_room g (length frame)) (Ok tt, refitted g frame s) (Err (refusal 20), s)

-- those of adding first, with mode and mark off
unfoldable pub placed_of : Version → Gap → Rec → List ℕ → Result Unit Refusal × List ℕ
placed_of v g r s =
    let k = refusal_of v Mode.Off false r in
    pick (not (eqb k 0)) (Err (refusal k), s) (refit_of g (encode v Mode.Off r) s)
