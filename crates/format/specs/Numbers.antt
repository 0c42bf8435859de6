-- Numbers as digits, highest first: bytes and synchsafe numbers (document 01, "Numbers and bytes"; 2.4.0 structure, section 6.2). Assumes nothing.
use Rattle.std.specs.Prelude.{ℕ, zero, suc, ◌+◌, ◌*◌, ◌/◌, ◌%◌, ◌^◌, List, [], ◌∷◌, get_or, ltb}
use Rattle.std.specs.Int.Bits.{bit_or}
use Rattle.format.specs.Bytes.{pick}

-- the lowest k digits of n to a base, highest first
unfoldable pub digits : ℕ → ℕ → ℕ → List ℕ
digits base zero n = []
digits base (suc k) n = n / base ^ k % base ∷ digits base k n

-- the number that digits make after what was read before, a
unfoldable pub onto : ℕ → ℕ → List ℕ → ℕ
onto base a [] = a
onto base a (x ∷ s) = onto base (a * base + x) s

-- a plain number, a digit a byte
abbrev pub number : List ℕ → ℕ
number s = onto 256 0 s

abbrev pub bytes_of : ℕ → ℕ → List ℕ
bytes_of k n = digits 256 k n

-- a synchsafe number: four bytes, each the next seven bits
abbrev pub synchsafe : ℕ → List ℕ
synchsafe n = digits 128 4 n

-- what does not fit 28 bits is refused
abbrev pub synchsafe_refusal : ℕ → ℕ
synchsafe_refusal n = pick (ltb n (2 ^ 28)) 0 24

-- decoding joins the bytes by or, each shifted to its seven-bit place; bit 7 is not cleared
abbrev pub from_synchsafe : List ℕ → ℕ
from_synchsafe s = bit_or (bit_or (bit_or (get_or s 0 0 * 2 ^ 21) (get_or s 1 0 * 2 ^ 14)) (get_or s 2 0 * 2 ^ 7)) (get_or s 3 0)
