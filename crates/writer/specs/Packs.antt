-- Bits that wait to be put as bytes, while the references of a table are packed (document 01, "Five kinds", MLLT). Assumes nothing.
use Rattle.std.specs.Prelude.{◌≡◌, ℕ, ◌%◌, ◌≤◌, true, List, ◌++◌, length, drop}
use Rattle.format.specs.Numbers.{digits}
use Rattle.format.specs.Table.{spread, filled, fit}
use Rattle.writer.specs.declared.pack.Bits.{Bits}

-- the bytes that are left to put
abbrev pub left : Bits → List ℕ → List ℕ
left bits ds = filled (digits 2 bits.have bits.acc ++ spread bits.a bits.b (drop bits.i ds))

pub record Ready (ds : List ℕ) (bits : Bits) : Type 0 where
  pub few : bits.have ≤ 39
  pub first : bits.a ≤ 32
  pub second : bits.b ≤ 32
  pub within : bits.i ≤ length ds
  pub fits : fit bits.a bits.b (drop bits.i ds) ≡ true

-- what can be packed: deviations in pairs that fit their widths
pub record Packable (v w : ℕ) (ds : List ℕ) : Type 0 where
  pub first : v ≤ 32
  pub second : w ≤ 32
  pub pairs : length ds % 2 ≡ 0
  pub fits : fit v w ds ≡ true
