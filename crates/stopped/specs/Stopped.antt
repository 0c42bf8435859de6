-- A tag that was written and then cut: how many of its frames are there whole (document 02, m). Assumes nothing.
use Rattle.std.specs.Prelude.{ℕ, zero, suc, ◌+◌, List, [], ◌∷◌, length, take, leb}
use Rattle.format.specs.Bytes.{pick}
use Rattle.format.specs.Record.{Rec}
use Rattle.format.specs.Encode.{whole_of}
use Rattle.format.specs.declared.Version.{Version}
use Rattle.format.specs.declared.Mode.{Mode}
use Rattle.promises.specs.Promises.{frames_of}

-- how many bytes of a tag there are up to the last stored byte of these records' frames: header, and frames as they are stored
abbrev pub reach_of : Version → Mode → List Rec → ℕ
reach_of v m rs = 10 + length (whole_of v m (frames_of v m rs))

-- by how far the first ones reach: the most of the first j that reach no further than n bytes
unfoldable pub most_in : (ℕ → ℕ) → ℕ → ℕ → ℕ
most_in reach n zero = 0
most_in reach n (suc j) = pick (leb (reach (suc j)) n) (suc j) (most_in reach n j)

-- how many records have their frames whole in the first n bytes of the tag
abbrev pub whole_in : Version → Mode → ℕ → List Rec → ℕ
whole_in v m n rs = most_in (λ (i : ℕ). reach_of v m (take i rs)) n (length rs)

-- the records that are not marked short
abbrev pub not_short : List Rec → List Rec
not_short [] = []
not_short (r ∷ rs) = pick r.short (not_short rs) (r ∷ not_short rs)
