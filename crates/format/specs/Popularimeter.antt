-- Popularimeters (document 01, "Five kinds", Popularimeter, and request b; 2.4.0 frames, section 4.17). Assumes nothing.
use Rattle.std.specs.Prelude.{ℕ, zero, suc, ◌+◌, ◌^◌, List, [], ◌∷◌, ◌++◌, length, drop, get_or, ltb}
use Rattle.format.specs.Bytes.{pick, first, zero_at}
use Rattle.format.specs.Numbers.{number, bytes_of}

-- ---- the counter

-- one number, however many bytes; none means 0 (request b)
abbrev pub counter_of : List ℕ → ℕ
counter_of s = number s

-- what does not fit 64 bits is refused (request b)
abbrev pub counter_refusal : ℕ → ℕ
counter_refusal counter = pick (ltb counter (2 ^ 64)) 0 35

-- without zeros in front
unfoldable pub stripped : List ℕ → List ℕ
stripped [] = []
stripped (zero ∷ s) = stripped s
stripped (suc x ∷ s) = suc x ∷ s

-- as many bytes as the highest set bit needs, none for 0
unfoldable pub counter_bytes : ℕ → List ℕ
counter_bytes counter = stripped (bytes_of 8 counter)

-- ---- the body: user, zero, rating, counter

abbrev pub rating_in : List ℕ → ℕ
rating_in b = get_or b (zero_at b + 1) 0

abbrev pub counter_in : List ℕ → ℕ
counter_in b = counter_of (drop (zero_at b + 2) b)

-- no zero, or no rating after it
abbrev pub rating_refusal : List ℕ → ℕ
rating_refusal b = pick (ltb (zero_at b + 1) (length b)) 0 11

-- 35 after 11 (request b)
abbrev pub popularimeter_refusal : List ℕ → ℕ
popularimeter_refusal b = first (rating_refusal b ∷ counter_refusal (counter_in b) ∷ [])

abbrev pub popularimeter_body : List ℕ → ℕ → ℕ → List ℕ
popularimeter_body user rating counter = user ++ (0 ∷ rating ∷ counter_bytes counter)
