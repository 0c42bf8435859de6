-- What the code has in its hands while it puts a frame. Assumes nothing.
use Rattle.std.specs.Prelude.{◌≡◌, ℕ, ◌≤◌, List, length, take}
use Rattle.writer.specs.declared.small.Small.{Small}

-- the first bytes of a small array are l
pub record Holds (r : Small) (l : List ℕ) : Type 0 where
  pub is : take r.len r.bytes ≡ l
  pub fits : r.len ≤ length r.bytes
