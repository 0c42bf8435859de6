-- What a body's length is refused for (document 01, "Refusal numbers", 22, 23 and 24). Assumes nothing.
use Rattle.std.specs.Prelude.{ℕ, ◌^◌, [], ◌∷◌, leb, eqb}
use Rattle.format.specs.Bytes.{pick, first}
use Rattle.format.specs.declared.Version.{Version}
use Rattle.format.specs.declared.Version.TheVariants.{Id3v22, Id3v23, Id3v24}

-- the length of a body as it is stored
unfoldable pub size_refusal : Version → ℕ → ℕ
size_refusal Id3v22 n = first (pick (eqb n 0) 22 0 ∷ pick (leb (2 ^ 24) n) 23 0 ∷ [])
size_refusal Id3v23 n = first (pick (leb (2 ^ 28) n) 24 0 ∷ [])
size_refusal Id3v24 n = first (pick (leb (2 ^ 28) n) 24 0 ∷ [])
