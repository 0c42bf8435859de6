-- What reading the packed references of a lookup table answers (document 01, "Five kinds", MLLT). Assumes nothing.
use Rattle.std.specs.Prelude.{ℕ, ◌&&◌, List, length, leb, Result, Ok, Err}
use Rattle.format.specs.Bytes.{pick, put_front}
use Rattle.format.specs.Refusals.{refusal}
use Rattle.format.specs.Table.{is_width, unpack}
use Rattle.format.specs.declared.refusals.Refusal.{Refusal}

-- all deviations, two by two, at the front of a buffer of numbers that has the room
unfoldable pub unpack_of : ℕ → ℕ → List ℕ → List ℕ → Result ℕ Refusal × List ℕ
unpack_of v w s out =
    pick (is_width v && is_width w)
    (pick (leb (length (unpack v w s)) (length out)) (Ok (length (unpack v w s)), put_front (unpack v w s) out) (Err (refusal 20), out))
    (Err (refusal 30), out)
