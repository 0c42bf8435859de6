-- Document 01's cases marked (P), as one table. Assumes nothing.
use Rattle.std.specs.Prelude.{ℕ, List, [], ◌∷◌, take}
use Rattle.format.specs.Numbers.{synchsafe}
use Rattle.format.specs.Unsynch.{unsynchronised}
use Rattle.format.specs.Text.{text_end}
use Rattle.format.specs.Popularimeter.{counter_bytes}
use Rattle.format.specs.Table.{pack}
use Rattle.format.specs.declared.Version.{Version}
use Rattle.format.specs.declared.Version.TheVariants.{Id3v22, Id3v23, Id3v24}
use Rattle.format.specs.declared.Mode.{Mode}
use Rattle.format.specs.declared.Mode.TheVariants.{Off, Crate, Standard}

-- what is asked: bytes unsynchronised, a number in synchsafe bytes, a text in an encoding cut at its end, a counter's bytes, deviations packed
pub data Question : Type 0 where
  unsynchronise : Mode → List ℕ → Question
  encode : ℕ → Question
  cut : Version → ℕ → List ℕ → Question
  count : ℕ → Question
  references : ℕ → ℕ → List ℕ → Question

abbrev pub answer : Question → List ℕ
answer (unsynchronise m s) = unsynchronised m s
answer (encode n) = synchsafe n
answer (cut v e s) = take (text_end v e s) s
answer (count n) = counter_bytes n
answer (references v w ds) = pack v w ds

pub record Case : Type 0 where
  pub asked : Question
  pub gives : List ℕ

abbrev pub gives : Question → List ℕ → Case
gives q bytes = record { asked = q; gives = bytes }

abbrev pub table : List Case
table =
    gives (unsynchronise Crate (0xFF ∷ 0x00 ∷ [])) (0xFF ∷ 0x00 ∷ 0x00 ∷ [])
    ∷ gives (unsynchronise Standard (0xFF ∷ 0x00 ∷ [])) (0xFF ∷ 0x00 ∷ 0x00 ∷ [])
    ∷ gives (unsynchronise Crate (0xFF ∷ 0xE0 ∷ [])) (0xFF ∷ 0xE0 ∷ [])
    ∷ gives (unsynchronise Standard (0xFF ∷ 0xE0 ∷ [])) (0xFF ∷ 0x00 ∷ 0xE0 ∷ [])
    ∷ gives (unsynchronise Crate (0xFF ∷ 0xFF ∷ [])) (0xFF ∷ 0xFF ∷ [])
    ∷ gives (unsynchronise Standard (0xFF ∷ 0xFF ∷ [])) (0xFF ∷ 0x00 ∷ 0xFF ∷ [])
    ∷ gives (unsynchronise Crate (0xFF ∷ 0xDF ∷ [])) (0xFF ∷ 0xDF ∷ [])
    ∷ gives (unsynchronise Standard (0xFF ∷ 0xDF ∷ [])) (0xFF ∷ 0xDF ∷ [])
    ∷ gives (unsynchronise Crate (0xFF ∷ [])) (0xFF ∷ [])
    ∷ gives (unsynchronise Standard (0xFF ∷ [])) (0xFF ∷ [])
    ∷ gives (unsynchronise Crate []) []
    ∷ gives (unsynchronise Standard []) []
    ∷ gives (encode 255) (0x00 ∷ 0x00 ∷ 0x01 ∷ 0x7F ∷ [])
    ∷ gives (encode 268435455) (0x7F ∷ 0x7F ∷ 0x7F ∷ 0x7F ∷ [])
    ∷ gives (cut Id3v24 0 (0x41 ∷ 0x00 ∷ [])) (0x41 ∷ 0x00 ∷ [])
    ∷ gives (cut Id3v24 0 (0x41 ∷ 0x42 ∷ 0x00 ∷ [])) (0x41 ∷ 0x42 ∷ [])
    ∷ gives (count 65280) (0xFF ∷ 0x00 ∷ [])
    ∷ gives (references 4 8 (0x0A ∷ 0x5C ∷ 0x03 ∷ 0x01 ∷ [])) (0xA5 ∷ 0xC3 ∷ 0x01 ∷ [])
    ∷ []

abbrev pub answers : List Case → List (List ℕ)
answers [] = []
answers (c ∷ cs) = answer c.asked ∷ answers cs

abbrev pub given : List Case → List (List ℕ)
given [] = []
given (c ∷ cs) = c.gives ∷ given cs
