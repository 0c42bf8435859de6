-- `lines::fits` meets its contract. Assumes nothing.
use mathlib.Core.Path.{◌≡◌, refl, sym}
use Prim.Native.Nat.{ℕ, ◌+◌, ◌-◌, ◌≤◌}
use native.Mathlib.Omega.{arith}
use mathlib.Core.Bool.{Bool, true, false}
use lib.Dec.{leb}
use borrow.Author.Tests.{leb-true, leb-false, le-leb, lt-leb}
use Rattle.lines.proofs.fits.Statement.{statement}
use Rattle.lines.proofs.fits.Tie as tie

-- what lies after a place that is there
beyond : (at len end : ℕ) → at ≤ end → leb len (end - at) ≡ leb (at + len) end
beyond at len end h = by_test (leb len (end - at)) refl
  where
    by_test : (b : Bool) → leb len (end - at) ≡ b → b ≡ leb (at + len) end
    by_test true e = sym (le-leb (at + len) end (omega (arith, leb-true len (end - at) e)))
    by_test false e = sym (lt-leb (at + len) end (omega (arith, leb-false len (end - at) e)))

returns : tie.Need-returns-then-end-at
returns c = let a = c.before.args in sym (lt-leb (a.at + a.len) a.end (omega arith))

returns_2 : tie.Need-returns-else-end-at
returns_2 c = let a = c.before.args in beyond a.at a.len a.end c.if-end-at.false

pub fits_spec : {M : Type 1} → statement M
fits_spec = tie.close (tie.spec returns returns_2)
