-- The editions and the modes as numbers: 2, 3 and 4, and 0, 1 and 2 (document 01, "Writing"). Assumes nothing.
use Rattle.std.specs.Prelude.{ℕ, Bool, ◌&&◌, Result, Ok, Err, eqb, leb}
use Rattle.format.specs.Bytes.{pick}
use Rattle.format.specs.Header.{version_of}
use Rattle.format.specs.Refusals.{refusal}
use Rattle.format.specs.declared.Version.{Version}
use Rattle.format.specs.declared.Version.TheVariants.{Id3v22, Id3v23, Id3v24}
use Rattle.format.specs.declared.Mode.{Mode}
use Rattle.format.specs.declared.refusals.Refusal.{Refusal}
use Rattle.format.specs.declared.Mode.TheVariants.{Off, Crate, Standard}

-- the edition that a number says stands in Header.antt: version_of
abbrev pub version_number : Version → ℕ
version_number Id3v22 = 2
version_number Id3v23 = 3
version_number Id3v24 = 4

abbrev pub is_version : ℕ → Bool
is_version n = leb 2 n && leb n 4

-- the edition, or 2 where a number says none
abbrev pub version_said : ℕ → Result Version Refusal
version_said n = pick (is_version n) (Ok (version_of n)) (Err (refusal 2))

abbrev pub mode_of : ℕ → Mode
mode_of mode = pick (eqb mode 0) Off (pick (eqb mode 1) Crate Standard)

abbrev pub is_mode : ℕ → Bool
is_mode n = leb n 2

-- the mode, or 2 where a number says none
abbrev pub mode_said : ℕ → Result Mode Refusal
mode_said n = pick (is_mode n) (Ok (mode_of n)) (Err (refusal 2))

abbrev pub mode_number : Mode → ℕ
mode_number Off = 0
mode_number Crate = 1
mode_number Standard = 2
