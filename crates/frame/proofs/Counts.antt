-- How many references fit whole, without the product of the length. Assumes nothing.
use mathlib.Core.Path.{◌≡◌, sym, ap, ◌∙◌}
use Prim.Native.Nat.{ℕ, ◌+◌, ◌-◌, ◌*◌, ◌/◌, ◌%◌, ◌^◌, ◌≤◌, ◌<◌, min}
use native.Mathlib.Nat.{mul_right_comm, mul-add-div_right, div-lt_iff_lt-mul, div-add-mod', mod-lt}
use native.Mathlib.Omega.{arith}

module _ (n s : ℕ) (pos : 0 < s) where
  -- what the part below the eights gives
  pub count_low : n % s * 8 / s < 8
  count_low = (div-lt_iff_lt-mul pos).1 (omega (arith, mod-lt n pos))

  pub count_parts : n / s * 8 + n % s * 8 / s ≡ 8 * n / s
  count_parts =
      let e : n / s * 8 * s + n % s * 8 ≡ 8 * n = omega (arith, mul_right_comm (n / s) 8 s, div-add-mod' n s) in
      sym (mul-add-div_right pos (n / s * 8) (n % s * 8)) ∙ ap (λ (k : ℕ). k / s) e

  pub count_whole : n / s < 2 ^ 61 → n / s * 8 + n % s * 8 / s ≡ min (8 * n / s) (2 ^ 64 - 1)
  count_whole h = omega (arith, count_parts, count_low)

  pub count_capped : 2 ^ 61 ≤ n / s → 2 ^ 64 - 1 ≡ min (8 * n / s) (2 ^ 64 - 1)
  count_capped h = omega (arith, count_parts)
