-- Four bytes as one number, the first lowest, and parts that end where eight bytes do. Assumes nothing.
use Rattle.std.specs.Prelude.{◌≡◌, ℕ, ◌+◌, ◌*◌, ◌≤◌, ◌<◌, List, get_or}

pub record Little (at : ℕ) (s : List ℕ) (r : ℕ) : Type 0 where
  pub first : get_or s at 0 < 256
  pub second : get_or s (at + 1) 0 < 256
  pub third : get_or s (at + 2) 0 < 256
  pub fourth : get_or s (at + 3) 0 < 256
  pub sum : r ≡ get_or s at 0 + get_or s (at + 1) 0 * 0x100 + get_or s (at + 2) 0 * 0x10000 + get_or s (at + 3) 0 * 0x1000000

pub record Near (len from to : ℕ) : Type 0 where
  pub within : to ≤ len
  pub eight : 8 ≤ to
  pub some : from < to
  pub few : to ≤ from + 8
