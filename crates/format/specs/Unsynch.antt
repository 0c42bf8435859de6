-- Unsynchronising and back (document 01, "Numbers and bytes"; 2.4.0 structure, section 6.1). Assumes nothing.
use Rattle.std.specs.Prelude.{◌≡◌, ℕ, suc, ◌+◌, ◌<◌, Bool, true, false, not, ◌&&◌, ◌||◌, List, [], ◌∷◌, get_or, eqb, leb}
use Rattle.format.specs.Bytes.{only_if, pick}
use Rattle.format.specs.declared.Mode.{Mode}
use Rattle.format.specs.declared.Mode.TheVariants.{Off, Crate, Standard}

-- one 00 directly after each FF goes; prev says that the byte before was FF
unfoldable pub resync : Bool → List ℕ → List ℕ
resync prev [] = []
resync prev (x ∷ s) = only_if (not (prev && eqb x 0)) x (resync (eqb x 255) s)

abbrev pub resynchronised : List ℕ → List ℕ
resynchronised s = resync false s

-- how many bytes go so
unfoldable pub dropped : Bool → List ℕ → ℕ
dropped prev [] = 0
dropped prev (x ∷ s) = pick (prev && eqb x 0) 1 0 + dropped (eqb x 255) s

-- which byte after an FF gets a 00 before it
abbrev pub guards : Mode → ℕ → Bool
guards Off x = false
guards Crate x = eqb x 0
guards Standard x = eqb x 0 || leb 0xE0 x

-- a 00 goes in after each FF whose next byte the guard names
unfoldable pub unsync : (ℕ → Bool) → Bool → List ℕ → List ℕ
unsync guard prev [] = []
unsync guard prev (x ∷ s) = only_if (prev && guard x) 0 (x ∷ unsync guard (eqb x 255) s)

abbrev pub unsynchronised : Mode → List ℕ → List ℕ
unsynchronised m s = unsync (guards m) false s

-- whether the last byte is FF; of no bytes, what was before
unfoldable pub ends_ff : Bool → List ℕ → Bool
ends_ff prev [] = prev
ends_ff prev (x ∷ s) = ends_ff (eqb x 255) s

-- whether a mode is on
abbrev pub is_on : Mode → Bool
is_on Off = false
is_on Crate = true
is_on Standard = true

-- ---- what standard mode is for

-- no FF is directly followed by E0 or above
abbrev pub NoSync : List ℕ → Type 0
NoSync s = (i : ℕ) → get_or s i 0 ≡ 0xFF → get_or s (suc i) 0 < 0xE0
