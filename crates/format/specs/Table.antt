-- Lookup tables (document 01, "Five kinds", MLLT; 2.4.0 frames, section 4.6). Assumes nothing.
use Rattle.std.specs.Prelude.{ℕ, zero, suc, ◌+◌, ◌*◌, ◌/◌, ◌%◌, ◌^◌, Bool, true, false, ◌&&◌, ◌||◌, List, [], ◌∷◌, ◌++◌, length, take, drop, get_or, eqb, leb, ltb}
use Rattle.std.proofs.Math.Seq.{slice}
use Rattle.format.specs.Bytes.{pick, first, zeros}
use Rattle.format.specs.Numbers.{digits, onto, number, bytes_of}

-- ---- numbers packed as bits, highest first

-- the bits of numbers that have v and w bits by turns
unfoldable pub spread : ℕ → ℕ → List ℕ → List ℕ
spread v w [] = []
spread v w (x ∷ xs) = digits 2 v x ++ spread w v xs

-- the first n numbers of v and w bits by turns
unfoldable pub gathered : ℕ → ℕ → ℕ → List ℕ → List ℕ
gathered zero v w l = []
gathered (suc n) v w l = onto 2 0 (take v l) ∷ gathered n w v (drop v l)

-- bits as bytes, the last filled with 0 bits
unfoldable pub filled : List ℕ → List ℕ
filled l = gathered ((length l + 7) / 8) 8 8 (l ++ zeros 7)

-- deviations two by two as bytes
unfoldable pub pack : ℕ → ℕ → List ℕ → List ℕ
pack v w deviations = filled (spread v w deviations)

-- how many references fit whole in n bytes
abbrev pub count_of : ℕ → ℕ → ℕ → ℕ
count_of v w n = 8 * n / (v + w)

-- the deviations of the references that fit whole
unfoldable pub unpack : ℕ → ℕ → List ℕ → List ℕ
unpack v w s = gathered (count_of v w (length s) * 2) v w (spread 8 8 s)

-- whether each number fits its width
unfoldable pub fit : ℕ → ℕ → List ℕ → Bool
fit v w [] = true
fit v w (x ∷ xs) = ltb x (2 ^ v) && fit w v xs

-- ---- the widths

abbrev pub is_width : ℕ → Bool
is_width v = leb 1 v && leb v 32

abbrev pub width_checks : ℕ → ℕ → List ℕ
width_checks v w =
    pick (is_width v && is_width w) 0 30
    ∷ pick (eqb ((v + w) % 4) 0) 0 31
    ∷ pick (leb (v + w) 64) 0 32
    ∷ []

-- ---- the body: 2, 3, 3, 1 and 1 bytes, then the references

abbrev pub frames_in : List ℕ → ℕ
frames_in b = number (slice 0 2 b)

abbrev pub bytes_in : List ℕ → ℕ
bytes_in b = number (slice 2 5 b)

abbrev pub millis_in : List ℕ → ℕ
millis_in b = number (slice 5 8 b)

abbrev pub byte_bits_in : List ℕ → ℕ
byte_bits_in b = get_or b 8 0

abbrev pub milli_bits_in : List ℕ → ℕ
milli_bits_in b = get_or b 9 0

abbrev pub table_refusal : List ℕ → ℕ
table_refusal b = first (pick (ltb (length b) 10) 11 0 ∷ width_checks (byte_bits_in b) (milli_bits_in b))

abbrev pub table_body : ℕ → ℕ → ℕ → ℕ → ℕ → List ℕ → List ℕ
table_body frames bytes millis v w deviations =
    bytes_of 2 frames ++ (bytes_of 3 bytes ++ (bytes_of 3 millis ++ (v ∷ w ∷ pack v w deviations)))
