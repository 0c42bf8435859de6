-- A list with every kind that an edition has, and with the bytes that matter. Assumes nothing.
use Rattle.std.specs.Prelude.{ℕ, ◌-◌, ◌^◌, true, false, List, [], ◌∷◌, ◌++◌}
use Rattle.format.specs.Bytes.{named, ascii}
use Rattle.format.specs.Record.{Content, text, popularimeter, table, chapter, contents, raw, Rec}
use Rattle.format.specs.Encode.{encode}
use Rattle.format.specs.declared.Version.{Version}
use Rattle.format.specs.declared.Version.TheVariants.{Id3v22, Id3v23, Id3v24}
use Rattle.format.specs.declared.Mode.TheVariants.{Off}

abbrev pub plain : ℕ → Content → Rec
plain id c = record { id = id; short = false; compressed = false; content = c }

-- FF 00, FF E0 and FF FF, and an FF at the end
abbrev pub marks : List ℕ
marks = 0xFF ∷ 0x00 ∷ 0xFF ∷ 0xE0 ∷ 0xFF ∷ 0xFF ∷ []

-- counters 0, 255, 65,280 and 2^64-1
abbrev pub counters : ℕ → List Rec
counters id =
    plain id (popularimeter (ascii "a") 0 0)
    ∷ plain id (popularimeter (ascii "b") 1 255)
    ∷ plain id (popularimeter [] 255 65280)
    ∷ plain id (popularimeter (0xFF ∷ 0xE3 ∷ []) 5 (2 ^ 64 - 1))
    ∷ []

-- a chapter in a chapter, as one run
unfoldable pub inner : Version → List ℕ
inner v = encode v Off (plain (named "CHAP") (chapter (ascii "in") 1 2 3 4 (encode v Off (plain (named "TIT2") (text 3 (ascii "t"))))))

abbrev pub nested : Version → List Rec
nested v =
    plain (named "CHAP") (chapter (ascii "c") 0 0xFF00 0xFFE0 (2 ^ 32 - 1) (inner v))
    ∷ plain (named "CTOC") (contents (ascii "t") true false (ascii "c" ++ (0 ∷ ascii "d" ++ (0 ∷ []))) (inner v))
    ∷ []

abbrev pub sample_of : Version → List Rec
sample_of Id3v22 =
    plain (named "TT2") (text 0 (ascii "title"))
    ∷ plain (named "MLL") (table 1 2 3 8 8 (0xFF ∷ 0x00 ∷ 0xFF ∷ 0xE0 ∷ []))
    ∷ plain (named "XAB") (raw marks)
    ∷ counters (named "POP")
sample_of Id3v23 =
    plain (named "TIT2") (text 1 (0xFF ∷ 0xFE ∷ 0x41 ∷ 0x00 ∷ []))
    ∷ plain (named "MLLT") (table 1 2 3 4 8 (0x0A ∷ 0x5C ∷ 0x03 ∷ 0x01 ∷ []))
    ∷ plain (named "XABC") (raw marks)
    ∷ nested Id3v23 ++ counters (named "POPM")
sample_of Id3v24 =
    plain (named "TIT2") (text 0 (0x41 ∷ 0x00 ∷ []))
    ∷ plain (named "MLLT") (table 1 2 3 2 2 (3 ∷ 1 ∷ 2 ∷ 0 ∷ []))
    ∷ plain (named "XABC") (raw marks)
    ∷ nested Id3v24 ++ counters (named "POPM")
