-- Bytes that were stored from the front of a small array on. Assumes nothing.
use mathlib.Core.Path.{◌≡◌, ap, ◌∙◌}
use Prim.Native.Nat.{ℕ, ◌≤◌}
use native.Mathlib.Omega.{arith}
use mathlib.Core.List.{List}
use lib.ListN.{length, take, replicate}
use lib.Seq.{sets, length-sets, sets-eq, take-append_seam}
use Rattle.writer.specs.Smalls.{Holds}

-- what was stored from the front on is what stands there
front : (z l : List ℕ) → length l ≤ length z → take (length l) (sets z 0 l) ≡ l
front z l h = ap (take (length l)) (sets-eq l z 0 (omega arith)) ∙ take-append_seam l _

pub holds : {b : List ℕ} {n : ℕ} (l : List ℕ) → b ≡ sets (replicate 17 0) 0 l → n ≡ length l → length l ≤ 17 → Holds (record { bytes = b; len = n }) l
holds l e f h = rw (e, f) (record { is = front (replicate 17 0) l h; fits = rw (length-sets (replicate 17 0) 0 l) h })
