-- Small things on lists of bytes that the other files use. Assumes nothing.
use Rattle.std.specs.Prelude.{ℕ, suc, ◌+◌, ◌*◌, ◌/◌, ◌%◌, Bool, true, false, List, [], ◌∷◌, ◌++◌, length, take, drop, replicate, eqb}
use Prim.Native.String.{String}
use Prim.Native.Char.{code}
use Rattle.format.specs.declared.Span.{Span}

-- the first where the test holds, else the second
abbrev pub pick : {A : Type 0} → Bool → A → A → A
pick true a b = a
pick false a b = b

-- a byte before a list, only where the test holds
abbrev pub only_if : Bool → ℕ → List ℕ → List ℕ
only_if true x l = x ∷ l
only_if false x l = l

-- the first number that is not 0: what a list of checks gives
unfoldable pub first : List ℕ → ℕ
first [] = 0
first (k ∷ l) = pick (eqb k 0) (first l) k

-- whether a bit is set in flags
abbrev pub has : ℕ → ℕ → Bool
has bit flags = eqb (flags / bit % 2) 1

abbrev pub zeros : ℕ → List ℕ
zeros n = replicate n 0

-- how many bytes come before the first zero; all, where there is none
unfoldable pub zero_at : List ℕ → ℕ
zero_at [] = 0
zero_at (x ∷ s) = pick (eqb x 0) 0 (suc (zero_at s))

-- how many zeros there are
unfoldable pub zeros_in : List ℕ → ℕ
zeros_in [] = 0
zeros_in (x ∷ s) = let n = zeros_in s in pick (eqb x 0) (suc n) n

-- whether a number stands in a list
unfoldable pub among : ℕ → List ℕ → Bool
among n [] = false
among n (x ∷ s) = pick (eqb n x) true (among n s)

-- the bytes of a text in ASCII, and the same as one number, highest first
abbrev pub ascii : String → List ℕ
ascii String.[] = []
ascii (String.◌∷◌ c s) = code c ∷ ascii s

abbrev pub named_from : ℕ → String → ℕ
named_from a String.[] = a
named_from a (String.◌∷◌ c s) = named_from (a * 256 + code c) s

abbrev pub named : String → ℕ
named s = named_from 0 s

-- a part of a buffer
abbrev pub span : ℕ → ℕ → Span
span start len = record { start = start; len = len }

abbrev pub part : Span → List ℕ → List ℕ
part p s = take p.len (drop p.start s)

-- a buffer with u at its front
abbrev pub put_front : List ℕ → List ℕ → List ℕ
put_front u buffer = u ++ drop (length u) buffer
