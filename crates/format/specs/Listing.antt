-- The lines of the listing program, each closed by a line feed (document 01, "The listing program"). Assumes nothing.
use Rattle.std.specs.Prelude.{ℕ, zero, suc, ◌+◌, ◌/◌, ◌%◌, Bool, true, false, List, [], ◌∷◌, ◌++◌, ltb}
use Rattle.format.specs.Bytes.{pick, ascii}
use Rattle.format.specs.declared.Fields.{Fields}

-- ---- numbers

-- the digits of the quotient by ten, if there is one, then the last digit, in at most k digits
unfoldable pub decimal_in : ℕ → ℕ → List ℕ
decimal_in zero n = []
decimal_in (suc k) n = pick (ltb n 10) [] (decimal_in k (n / 10)) ++ ((48 + n % 10) ∷ [])

-- up to twenty digits, enough for 64 bits
abbrev pub decimal : ℕ → List ℕ
decimal n = decimal_in 20 n

-- a digit of sixteen, 0-9 and A-F
abbrev pub hex_digit : ℕ → ℕ
hex_digit d = pick (ltb d 10) (48 + d) (55 + d)

unfoldable pub hex_in : List ℕ → List ℕ
hex_in [] = []
hex_in (x ∷ s) = hex_digit (x / 16) ∷ hex_digit (x % 16) ∷ hex_in s

-- bytes in hexadecimal, a dash for none
unfoldable pub hex : List ℕ → List ℕ
hex [] = 45 ∷ []
hex (x ∷ s) = hex_in (x ∷ s)

-- ---- words

abbrev pub word_short : Bool → List ℕ
word_short false = ascii " whole"
word_short true = ascii " short"

abbrev pub word_kind : Fields → List ℕ
word_kind (Fields.Text e) = ascii " text"
word_kind (Fields.Popularimeter r c) = ascii " popularimeter"
word_kind (Fields.Table f b m v w) = ascii " table"
word_kind (Fields.Chapter a b c d) = ascii " chapter"
word_kind (Fields.Contents t o) = ascii " contents"
word_kind Fields.Raw = ascii " raw"

-- a popularimeter goes on with user, rating and counter
abbrev pub detail : Fields → List ℕ → List ℕ
detail (Fields.Text e) user = []
detail (Fields.Popularimeter rating counter) user =
    ascii " user " ++ (hex user ++ (ascii " rating " ++ (decimal rating ++ (ascii " counter " ++ decimal counter))))
detail (Fields.Table f b m v w) user = []
detail (Fields.Chapter a b c d) user = []
detail (Fields.Contents t o) user = []
detail Fields.Raw user = []

abbrev pub newline : List ℕ
newline = ascii "\n"

-- ---- lines

unfoldable pub tag_line : ℕ → ℕ → ℕ → ℕ → List ℕ
tag_line edition size flags ext =
    ascii "tag 2."
    ++ (decimal edition
    ++ (ascii " size "
    ++ (decimal size ++ (ascii " flags " ++ (decimal flags ++ (ascii " ext " ++ (decimal ext ++ newline)))))))

-- the number of the frame, its id's bytes, its place, the bytes of its shown body, short or not, its fields and its user
unfoldable pub frame_line : ℕ → List ℕ → ℕ → ℕ → Bool → Fields → List ℕ → List ℕ
frame_line n id at body short fields user =
    ascii "frame "
    ++ (decimal n
    ++ (ascii " "
    ++ (id
    ++ (ascii " at "
    ++ (decimal at
    ++ (ascii " body "
    ++ (decimal body ++ (word_kind fields ++ (word_short short ++ (detail fields user ++ newline))))))))))

unfoldable pub end_line : ℕ → List ℕ
end_line n = ascii "end " ++ (decimal n ++ newline)

unfoldable pub refused_line : ℕ → List ℕ
refused_line k = ascii "refused " ++ (decimal k ++ newline)
