-- Text frames (document 01, "Five kinds", Text; 2.4.0 frames, section 4.2). Assumes nothing.
use Rattle.std.specs.Prelude.{ℕ, suc, Bool, true, false, ◌&&◌, ◌||◌, List, [], ◌∷◌, length, drop, get_or, eqb, leb}
use Rattle.format.specs.Bytes.{pick, first, zero_at}
use Rattle.format.specs.declared.Version.{Version}
use Rattle.format.specs.declared.Version.TheVariants.{Id3v22, Id3v23, Id3v24}

-- ---- where a text ends, in bytes

-- before the first zero pair at an even place, else at the end
unfoldable pub zero_pair_at : List ℕ → ℕ
zero_pair_at [] = 0
zero_pair_at (x ∷ []) = 1
zero_pair_at (x ∷ y ∷ s) = pick (eqb x 0 && eqb y 0) 0 (suc (suc (zero_pair_at s)))

-- after the last byte that is not zero
unfoldable pub trimmed : List ℕ → ℕ
trimmed [] = 0
trimmed (x ∷ s) = let n = trimmed s in pick (eqb x 0 && eqb n 0) 0 (suc n)

-- after the last pair that is not zero; a last odd byte is in no pair
unfoldable pub trimmed_pairs : List ℕ → ℕ
trimmed_pairs [] = 0
trimmed_pairs (x ∷ []) = 0
trimmed_pairs (x ∷ y ∷ s) = let n = trimmed_pairs s in pick ((eqb x 0 && eqb y 0) && eqb n 0) 0 (suc (suc n))

-- `find_closing_delim`: closing zeros are dropped, but index 0 is never tested, and where only zeros follow it nothing is dropped
unfoldable pub closing : List ℕ → ℕ
closing [] = 0
closing (x ∷ s) = let n = trimmed s in pick (eqb n 0) (suc (length s)) (suc n)

-- the same by pairs, the first of which is never tested
unfoldable pub closing_pairs : List ℕ → ℕ
closing_pairs [] = 0
closing_pairs (x ∷ []) = 1
closing_pairs (x ∷ y ∷ s) = let n = trimmed_pairs s in pick (eqb n 0) (suc (suc (length s))) (suc (suc n))

-- encodings 1 and 2 go by pairs
abbrev pub is_paired : ℕ → Bool
is_paired encoding = eqb encoding 1 || eqb encoding 2

abbrev pub text_end : Version → ℕ → List ℕ → ℕ
text_end Id3v22 encoding s = pick (is_paired encoding) (zero_pair_at s) (zero_at s)
text_end Id3v23 encoding s = pick (is_paired encoding) (zero_pair_at s) (zero_at s)
text_end Id3v24 encoding s = pick (is_paired encoding) (closing_pairs s) (closing s)

-- ---- the body: encoding byte, text

abbrev pub text_refusal : List ℕ → ℕ
text_refusal b = first (pick (eqb (length b) 0) 11 0 ∷ pick (leb 4 (get_or b 0 0)) 12 0 ∷ [])

abbrev pub text_body : ℕ → List ℕ → List ℕ
text_body encoding text = encoding ∷ text
