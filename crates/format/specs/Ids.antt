-- Frame ids: UTF-8 by RFC 3629, characters, kinds, and the ids that an altered file loses (document 01, "Header and walk", "Five kinds", "Writing"). Assumes nothing.
use Rattle.std.specs.Prelude.{ℕ, zero, suc, ◌+◌, ◌/◌, ◌^◌, Bool, true, false, not, ◌&&◌, ◌||◌, List, [], ◌∷◌, ltb, leb, eqb}
use Rattle.format.specs.Bytes.{pick, named}
use Rattle.format.specs.Numbers.{bytes_of}
use Rattle.format.specs.declared.Version.{Version}
use Rattle.format.specs.declared.Version.TheVariants.{Id3v22, Id3v23, Id3v24}
use Rattle.format.specs.declared.Kind.{Kind}

-- ---- UTF-8 (RFC 3629, section 4)

-- The class of a byte: 0 stands alone (00-7F); 1 is a tail (80-BF); 2 leads one tail (C2-DF); 3, 4, 5 lead two (E0; E1-EC, EE, EF; ED);
-- 6, 7, 8 lead three (F0; F1-F3; F4); 9 is in no UTF-8.
abbrev pub class_of : ℕ → ℕ
class_of b =
    pick (ltb b 0x80) 0
    (pick (ltb b 0xC0) 1
    (pick (ltb b 0xC2) 9
    (pick (ltb b 0xE0) 2
    (pick (eqb b 0xE0) 3
    (pick (eqb b 0xED) 5
    (pick (ltb b 0xF0) 4
    (pick (eqb b 0xF0) 6
    (pick (ltb b 0xF4) 7
    (pick (eqb b 0xF4) 8 9)))))))))

-- what may follow a byte of a class: how many tails, and where the first of them lies
abbrev pub tails_of : ℕ → ℕ
tails_of c = pick (leb c 1) 0 (pick (eqb c 2) 1 (pick (leb c 5) 2 3))

abbrev pub low_of : ℕ → ℕ
low_of c = pick (eqb c 3) 0xA0 (pick (eqb c 6) 0x90 0x80)

abbrev pub high_of : ℕ → ℕ
high_of c = pick (eqb c 5) 0x9F (pick (eqb c 8) 0x8F 0xBF)

-- UTF-8 where k tails are still due, the first of them from low to high
unfoldable pub utf8_from : ℕ → ℕ → ℕ → List ℕ → Bool
utf8_from zero low high [] = true
utf8_from (suc k) low high [] = false
utf8_from zero low high (x ∷ s) =
    not (eqb (class_of x) 1 || eqb (class_of x) 9) && utf8_from (tails_of (class_of x)) (low_of (class_of x)) (high_of (class_of x)) s
utf8_from (suc k) low high (x ∷ s) = (leb low x && leb x high) && utf8_from k 0x80 0xBF s

abbrev pub is_utf8 : List ℕ → Bool
is_utf8 s = utf8_from 0 0x80 0xBF s

-- ---- what an id is made of

abbrev pub id_len : Version → ℕ
id_len Id3v22 = 3
id_len Id3v23 = 4
id_len Id3v24 = 4

-- A-Z and 0-9
abbrev pub is_id_byte : ℕ → Bool
is_id_byte b = (leb 0x41 b && leb b 0x5A) || (leb 0x30 b && leb b 0x39)

unfoldable pub all_id_bytes : List ℕ → Bool
all_id_bytes [] = true
all_id_bytes (x ∷ s) = is_id_byte x && all_id_bytes s

-- an id that may be written: as many characters as the edition has
abbrev pub is_id : Version → ℕ → Bool
is_id v id = ltb id (256 ^ id_len v) && all_id_bytes (bytes_of (id_len v) id)

-- ---- which kind an id is of

abbrev pub kind3 : ℕ → Kind
kind3 id =
    pick (eqb (id / 256 ^ 2) (named "T") && not (eqb id (named "TXX"))) Kind.Text
    (pick (eqb id (named "POP")) Kind.Popularimeter (pick (eqb id (named "MLL")) Kind.Table Kind.Raw))

abbrev pub kind4 : ℕ → Kind
kind4 id =
    pick (eqb (id / 256 ^ 3) (named "T") && not (eqb id (named "TXXX"))) Kind.Text
    (pick (eqb id (named "POPM")) Kind.Popularimeter
    (pick (eqb id (named "MLLT")) Kind.Table (pick (eqb id (named "CHAP")) Kind.Chapter (pick (eqb id (named "CTOC")) Kind.Contents Kind.Raw))))

unfoldable pub kind_of : Version → ℕ → Kind
kind_of Id3v22 id = kind3 id
kind_of Id3v23 id = kind4 id
kind_of Id3v24 id = kind4 id

-- a number for each kind, to compare them by
abbrev pub kind_number : Kind → ℕ
kind_number Kind.Text = 0
kind_number Kind.Popularimeter = 1
kind_number Kind.Table = 2
kind_number Kind.Chapter = 3
kind_number Kind.Contents = 4
kind_number Kind.Raw = 5

-- ---- frames that an altered file loses

abbrev pub altered3 : List ℕ
altered3 = named "CRA" ∷ named "ETC" ∷ named "EQU" ∷ named "MLL" ∷ named "SLT" ∷ named "STC" ∷ named "RVA" ∷ named "TEN" ∷ named "TLE" ∷ named "TSI" ∷ []

abbrev pub altered4 : List ℕ
altered4 =
    named "AENC" ∷ named "ETCO" ∷ named "EQUA" ∷ named "MLLT" ∷ named "POSS" ∷ named "SYLT" ∷ named "SYTC" ∷ named "RVAD" ∷ named "TENC" ∷ named "TLEN" ∷ named "TSIZ" ∷ []

abbrev pub altered_ids : Version → List ℕ
altered_ids Id3v22 = altered3
altered_ids Id3v23 = altered4
altered_ids Id3v24 = altered4
