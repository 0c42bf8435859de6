-- Laws of deviations that fit their widths, at positions, and of a table's checks. Assumes nothing.
use mathlib.Core.Path.{◌≡◌, refl}
use Prim.Native.Nat.{ℕ, ◌+◌, ◌^◌, ◌≤◌, ◌<◌}
use native.Mathlib.Numerals.{add-one}
use native.Mathlib.Omega.{arith}
use mathlib.Core.Bool.{true, false, ◌&&◌}
use mathlib.Core.List.{List, [], ◌∷◌}
use lib.ListN.{length, drop, get_or}
use lib.Seq.{drop-cons}
use lib.Dec.{ltb}
use lib.Pow.{pow_mono}
use borrow.Author.Tests.{lt-ltb}
use Rattle.format.specs.Table.{fit}

-- ---- one number

pub any_fits : (x width : ℕ) → x < 2 ^ 32 → 32 ≤ width → ltb x (2 ^ width) ≡ true
any_fits x width h g = lt-ltb x (2 ^ width) (omega (arith, pow_mono {i = 32} {j = width} g))

-- ---- all of them

module _ (ds : List ℕ) (i a b : ℕ) (lt : i < length ds) where
  fit_step : fit a b (drop i ds) ≡ (ltb (get_or ds i 0) (2 ^ a) && fit b a (drop (i + 1) ds))
  unfolding fit
  fit_step = rw (add-one, drop-cons ds i 0)

  pub one_over : ltb (get_or ds i 0) (2 ^ a) ≡ false → fit a b (drop i ds) ≡ false
  one_over e = rw (fit_step, e)

  pub one_fits : ltb (get_or ds i 0) (2 ^ a) ≡ true → fit a b (drop i ds) ≡ fit b a (drop (i + 1) ds)
  one_fits e = rw (fit_step, e)

pub none_left : (a b : ℕ) (l : List ℕ) → length l ≡ 0 → fit a b l ≡ true
unfolding fit
none_left a b [] h = refl
none_left a b (x ∷ l) h = absurd (omega arith)
