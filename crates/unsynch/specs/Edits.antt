-- Resynchronising and unsynchronising as one edit of the bytes directly after an FF, which the private functions share. Assumes nothing.
use Rattle.std.specs.Prelude.{◌≡◌, ℕ, ◌+◌, Bool, true, false, cond, ◌&&◌, ◌||◌, List, [], ◌∷◌, length, get_or, eqb, leb}
use Rattle.std.proofs.Math.Seq.{slice}
use Rattle.std.proofs.lemmas.List.Edits.{sets}
use Rattle.format.specs.Bytes.{pick}
use Rattle.format.specs.Unsynch.{is_on}
use Rattle.format.specs.declared.Mode.{Mode}
use Rattle.format.specs.declared.Mode.TheVariants.{Off, Crate, Standard}
use Rattle.unsynch.specs.declared.loops.How.{How}

-- the bytes that an edit concerns: 00, and E0 to FF, each where its switch is on
abbrev pub concerns : How → ℕ → Bool
concerns how x = (how.zero && eqb x 0) || (how.high && leb 0xE0 x)

-- the edit that resynchronises, and the edit of each mode that unsynchronises
abbrev pub resync_by : How
resync_by = record { insert = false; zero = true; high = false }

abbrev pub is_standard : Mode → Bool
is_standard Off = false
is_standard Crate = false
is_standard Standard = true

abbrev pub unsync_by : Mode → How
unsync_by m = record { insert = true; zero = is_on m; high = is_standard m }

-- the edits that there are: bytes go only to resynchronise, and E0 to FF get a 00 only where 00 does
pub record Known (how : How) : Type 0 where
  pub drops : how.insert ≡ false → how ≡ resync_by
  pub inserts : how.zero ≡ false → how.high ≡ false

-- each byte directly after an FF that the edit concerns gets a 00 before it (insert), or goes
unfoldable pub edited : How → Bool → List ℕ → List ℕ
edited how prev [] = []
edited how prev (x ∷ s) =
    let l = edited how (eqb x 255) s in
    pick (prev && concerns how x) (pick how.insert (0 ∷ x ∷ l) l) (x ∷ l)

-- how many bytes it concerns
unfoldable pub hits : How → Bool → List ℕ → ℕ
hits how prev [] = 0
hits how prev (x ∷ s) = cond (prev && concerns how x) 1 0 + hits how (eqb x 255) s

-- whether one of the bytes is FF
unfoldable pub any_ff : List ℕ → Bool
any_ff [] = false
any_ff (x ∷ l) = eqb x 255 || any_ff l

-- edited, and how many it concerns, after place from up to place to
abbrev pub edited_after : How → List ℕ → ℕ → ℕ → List ℕ
edited_after how s from to = edited how (eqb (get_or s from 0) 255) (slice (from + 1) to s)

abbrev pub hits_after : How → List ℕ → ℕ → ℕ → ℕ
hits_after how s from to = hits how (eqb (get_or s from 0) 255) (slice (from + 1) to s)

-- the place after u, stored from a place on, and the buffer then
abbrev pub stored : List ℕ → ℕ → List ℕ → ℕ × List ℕ
stored u at buffer = (at + length u, sets buffer at u)
