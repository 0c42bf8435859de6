-- The frame with a number, block by block, and what a scan comes to. Assumes nothing.
use mathlib.Core.Path.{◌≡◌, sym, ap, ◌∙◌}
use Prim.Native.Nat.{ℕ, ◌+◌, ◌≤◌}
use native.Mathlib.Omega.{arith}
use mathlib.Core.Bool.{Bool, false}
use mathlib.Core.List.{List, []}
use lib.ListN.{length}
use lib.Seq.{slice}
use Rattle.format.specs.Frame.{head_of}
use Rattle.format.specs.declared.Version.{Version}
use Rattle.format.specs.declared.Kind.{Kind}
use Rattle.blocks.specs.Blocks.{block_len, joined, blocks_in}
use Rattle.raise.proofs.Steps.{blocks_none}
use Rattle.raise.proofs.Looked.{Met, long, blocks_on, last_on, Turned}
use Rattle.raise.specs.declared.users.Found.{Found}
use Rattle.raise.specs.declared.scanning.Aim.{Aim}
use Rattle.raise.specs.Seeks.{found_on}
use Rattle.raise.specs.Scans.{aimed_at, aimed_on, scanned_with}
use Rattle.std.specs.Prelude.{Result, Ok, None}
use Rattle.format.specs.declared.refusals.Refusal.{Refusal}
use Rattle.raise.specs.declared.scanning.Scanned.{Scanned}

-- ---- along the frames

-- after a frame that is not odd
pub aim_turn : {v : Version} {at end : ℕ} {s : List ℕ} {next : ℕ} {odd : Bool} {kind : Kind} (le : end ≤ length s) (m : Met v at end s next odd kind) (aim : Aim)
    → odd ≡ false → aimed_on (aimed_at aim at next) next (blocks_in v (slice next end s)) ≡ aimed_on aim at (blocks_in v (slice at end s))
unfolding aimed_on
aim_turn {v} {at} {end} {s} {next} le m aim even =
    sym (ap (aimed_on aim at) (blocks_on le m even) ∙ ap (λ (n : ℕ). aimed_on (aimed_at aim at n) n (blocks_in v (slice next end s))) (long le m even))

-- what was found so far, with what the frames s at a place have, comes to this
pub record Along (v : Version) (user : List ℕ) (f : Found) (aim : Aim) (at : ℕ) (s : List ℕ) (g : Found) (x : Aim) (n : ℕ) : Type 0 where
  pub users : found_on v user f at (blocks_in v s) ≡ g
  pub numbers : aimed_on aim at (blocks_in v s) ≡ x
  pub last : at + length (joined (blocks_in v s)) ≡ n

-- it does so again after a turn
pub along_turn : {v : Version} {user : List ℕ} {f g : Found} {at end : ℕ} {s : List ℕ} {next : ℕ} {odd : Bool} (le : end ≤ length s) (t : Turned v user f g at end s next odd)
    (aim : Aim) → odd ≡ false → {h : Found} {x : Aim} {n : ℕ} → Along v user f aim at (slice at end s) h x n
    → Along v user g (aimed_at aim at next) next (slice next end s) h x n
along_turn le t aim even a = record {
  users = t.goes even ∙ a.users;
  numbers = aim_turn le t.met aim even ∙ a.numbers;
  last = last_on le t.met even ∙ a.last;
}

-- no frame is left: what was found is all that there is
pub all_scanned : {v : Version} (user : List ℕ) (at : ℕ) (rest : List ℕ) (f : Found) (aim : Aim) {g : Found} {x : Aim} {end n : ℕ} → head_of v 1 rest ≡ Ok None
    → Along v user f aim at rest g x n
    → ◌≡◌ {A = Result Scanned Refusal} (Ok (scanned_with v f aim at end)) (Ok (scanned_with v g x n end))
unfolding found_on aimed_on
all_scanned {v} user at rest f aim {g} {x} {end} {n} ends is =
    let none : blocks_in v rest ≡ [] = blocks_none v rest (ap block_len ends) in
    let found : f ≡ g = sym (ap (found_on v user f at) none) ∙ is.users in
    let numbered : aim ≡ x = sym (ap (aimed_on aim at) none) ∙ is.numbers in
    let last : at ≡ n = omega (arith, ap (λ (l : List (List ℕ)). length (joined l)) none, is.last) in
    rw (found, numbered, last)
