-- Bytes moved inside one buffer, and zeros where that frees the place behind them (document 01, "Room inside the tag"; request j). Assumes nothing.
use Rattle.std.specs.Prelude.{ℕ, ◌+◌, ◌-◌, Bool, ◌&&◌, List, ◌++◌, length, leb}
use Rattle.std.proofs.Math.Seq.{slice}
use Rattle.std.proofs.lemmas.List.Edits.{sets}
use Rattle.format.specs.Bytes.{pick, zeros}

-- the bytes from `from` up to `to` are there, and so is the room from `at` on
abbrev pub is_movable : ℕ → ℕ → ℕ → List ℕ → Bool
is_movable from to at s = leb from to && (leb to (length s) && leb (at + (to - from)) (length s))

-- Those bytes from `at` on. Moved down they free as many bytes behind them, which are zeros then; moved up they free none.
unfoldable pub shifted : ℕ → ℕ → ℕ → List ℕ → List ℕ
shifted from to at s = pick (is_movable from to at s) (sets s at (slice from to s ++ zeros (from - at))) s
