-- What the functions after finishing a tag answer (document 01, "Writing"). Assumes nothing.
use Rattle.std.specs.Prelude.{ℕ, ◌+◌, List, ◌∷◌, ◌++◌, length, ltb, Ok, Err}
use Rattle.std.proofs.lemmas.List.Edits.{sets}
use Rattle.format.specs.Bytes.{pick, ascii}
use Rattle.format.specs.Numbers.{synchsafe}
use Rattle.format.specs.Encode.{edition_byte, flags_byte}
use Rattle.format.specs.declared.Version.{Version}
use Rattle.format.specs.declared.Version.TheVariants.{Id3v22, Id3v23, Id3v24}
use Rattle.format.specs.declared.Mode.{Mode}
use Rattle.format.specs.declared.Mode.TheVariants.{Off}
use Rattle.unsynch.specs.Puts.{Out}
use Rattle.format.specs.Refusals.{refusal}

-- the mode by which frames are unsynchronised as a whole: those of 2.4 are not
abbrev pub whole_mode : Version → Mode → Mode
whole_mode Id3v22 m = m
whole_mode Id3v23 m = m
whole_mode Id3v24 m = Off

-- the ten bytes before a region of a size
abbrev pub header_bytes : Version → Mode → ℕ → List ℕ
header_bytes v m size = ascii "ID3" ++ (edition_byte v ∷ 0 ∷ flags_byte m ∷ synchsafe size)

-- frames after the place of the header, or 20 and the output as it was, where that leaves no room for the padding
abbrev pub frames_put : List ℕ → ℕ → List ℕ → Out
frames_put u padding output =
    pick (ltb (length output) (10 + (length u + padding))) (Err (refusal 20), output) (Ok (length u), sets output 10 u)
