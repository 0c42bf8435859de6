-- The widths of a table's deviations. Assumes nothing.
use mathlib.Core.Path.{◌≡◌, refl}
use Prim.Native.Nat.{ℕ, ◌+◌, ◌%◌, ◌≤◌}
use native.Mathlib.Omega.{arith}
use mathlib.Core.Bool.{Bool, true, false, ◌&&◌}
use lib.Dec.{leb}
use borrow.Author.Tests.{leb-true, le-leb, eq-eqb, ne_eqb}
use Rattle.std.specs.Prelude.{Option, Some, None}
use Rattle.laws.proofs.Results.{some_same, some_not_none, none_not_some}
use Rattle.laws.proofs.Bools.{and_true}
use Rattle.format.specs.Bytes.{pick, first}
use Rattle.format.specs.Table.{is_width, width_checks}

-- ---- the sum of two widths

abbrev pub sum_of : ℕ → ℕ → Option ℕ
sum_of v w = pick (is_width v && is_width w) (Some (v + w)) None

width_bounds : (v : ℕ) → is_width v ≡ true → (1 ≤ v) × (v ≤ 32)
width_bounds v h =
    let t = and_true (leb 1 v) (leb v 32) h in
    (leb-true 1 v t.0, leb-true v 32 t.1)

-- what a sum tells of its widths
pub record Widths (v w sum : ℕ) : Type 0 where
  pub both : (is_width v && is_width w) ≡ true
  pub is : sum ≡ v + w
  pub first_least : 1 ≤ v
  pub first_most : v ≤ 32
  pub second_most : w ≤ 32

pub both_widths : (v w : ℕ) → (is_width v && is_width w) ≡ true → Widths v w (v + w)
both_widths v w h =
    let t = and_true (is_width v) (is_width w) h in
    let a = width_bounds v t.0 in
    let b = width_bounds w t.1 in
    record { both = h; is = refl; first_least = a.0; first_most = a.1; second_most = b.1 }

pub widths : (v w : ℕ) {sum : ℕ} → Some sum ≡ sum_of v w → Widths v w sum
widths v w {sum} e = by_widths (is_width v && is_width w) refl e
  where
    by_widths : (t : Bool) → (is_width v && is_width w) ≡ t → Some sum ≡ pick t (Some (v + w)) None → Widths v w sum
    by_widths true h e = rw (some_same e) (both_widths v w h)
    by_widths false h e = some_not_none e

pub no_widths : (v w : ℕ) → None ≡ sum_of v w → (is_width v && is_width w) ≡ false
no_widths v w e = by_widths (is_width v && is_width w) refl e
  where
    by_widths : (t : Bool) → (is_width v && is_width w) ≡ t → None ≡ pick t (Some (v + w)) None → t ≡ false
    by_widths true h e = none_not_some e
    by_widths false h e = refl

-- ---- the checks

module _ (v w : ℕ) where
  pub width_refused : (is_width v && is_width w) ≡ false → first (width_checks v w) ≡ 30
  unfolding first
  width_refused h = rw h

  module _ (sum : ℕ) (d : Widths v w sum) where
    pub fours_refused : (sum % 4 ≡ 0 → ⊥) → first (width_checks v w) ≡ 31
    unfolding first
    fours_refused h = rw (d.both, ne_eqb ((v + w) % 4) 0 (rw d.is at h))

    pub widths_taken : sum % 4 ≡ 0 → first (width_checks v w) ≡ 0
    unfolding first
    widths_taken h =
        let le : v + w ≤ 64 = omega arith in
        rw (d.both, eq-eqb ((v + w) % 4) 0 (rw d.is at h), le-leb (v + w) 64 le)
