-- Synchsafe numbers: encoding by masks, shifts and or, and by digits to the base 128; decoding by masks, shifts and or. Assumes nothing.
use mathlib.Core.Path.{◌≡◌, sym, ap, ap₂, ◌∙◌}
use Prim.Native.Nat.{ℕ, suc, ◌+◌, ◌-◌, ◌*◌, ◌/◌, ◌%◌, ◌^◌, ◌<◌}
use native.Mathlib.Nat.{mul_assoc, pow-suc, mod-eq_of_lt, div-one, div-div-eq-div-mul}
use native.Mathlib.Omega.{arith}
use lib.Bits.{bit_and, bit_or, and_mask, and_high, or_shifted_r}
use lib.Pow.{pow-add, shl_exact, shl-shr, high, low}
use lib.ListN.{get_or}
use Rattle.format.specs.Numbers.{digits, onto, number, synchsafe, bytes_of, from_synchsafe}
use Rattle.format.proofs.Numbers.{digits_back, synchsafe_below}

-- ---- encoding

-- one mask: in a word of j + 1 + k bits what stands from bit k on moves up by one
abbrev pub widened : ℕ → ℕ → ℕ → ℕ
widened j k x = bit_or (bit_and x (2 ^ k - 1)) (bit_and x (2 ^ (suc j + k) - 2 ^ k) * 2 % 2 ^ (suc j + k))

module _ (j k hi lo : ℕ) (fits : hi < 2 ^ j) (below : lo < 2 ^ k) where
  low_part : bit_and (hi * 2 ^ k + lo) (2 ^ k - 1) ≡ lo
  low_part = and_mask (hi * 2 ^ k + lo) k ∙ low hi k below

  high_part : bit_and (hi * 2 ^ k + lo) (2 ^ (suc j + k) - 2 ^ k) ≡ hi * 2 ^ k
  high_part =
      let less : hi < 2 ^ suc j = omega (arith, pow-suc 2 j) in
      and_high (hi * 2 ^ k + lo) (suc j) k
      ∙ ap (λ (q : ℕ). q % 2 ^ suc j * 2 ^ k) (high hi k below)
      ∙ ap (λ (q : ℕ). q * 2 ^ k) (mod-eq_of_lt less)

  moved : hi * 2 ^ k * 2 % 2 ^ (suc j + k) ≡ hi * 2 ^ suc k
  moved =
      let up : hi * 2 ^ k * 2 ≡ hi * 2 ^ suc k = mul_assoc hi (2 ^ k) 2 ∙ ap (λ (q : ℕ). hi * q) (sym (pow-suc 2 k)) in
      ap (λ (q : ℕ). q % 2 ^ (suc j + k)) up ∙ shl_exact j (suc k) (suc j + k) fits (omega arith)

  pub widen : widened j k (hi * 2 ^ k + lo) ≡ hi * 2 ^ suc k + lo
  widen =
      let less : lo < 2 ^ suc k = omega (arith, pow-suc 2 k) in
      ap₂ bit_or low_part (ap (λ (q : ℕ). q * 2 % 2 ^ (suc j + k)) high_part ∙ moved) ∙ or_shifted_r hi (suc k) lo less

-- four digits of seven bits become four bytes
spread : (a b c d : ℕ) → a < 128 → b < 128 → c < 128 → d < 128
    → widened 8 23 (widened 16 15 (widened 24 7 (((a * 128 + b) * 128 + c) * 128 + d))) ≡ ((a * 256 + b) * 256 + c) * 256 + d
spread a b c d ha hb hc hd =
    let first-mask : widened 24 7 (((a * 128 + b) * 128 + c) * 128 + d) ≡ (a * 128 + b) * 2 ^ 15 + (c * 256 + d) =
    widen 24 7 ((a * 128 + b) * 128 + c) d (omega arith) (omega arith) ∙ omega arith in
    let second-mask : widened 16 15 ((a * 128 + b) * 2 ^ 15 + (c * 256 + d)) ≡ a * 2 ^ 23 + (b * 2 ^ 16 + c * 256 + d) =
    widen 16 15 (a * 128 + b) (c * 256 + d) (omega arith) (omega arith) ∙ omega arith in
    let third-mask : widened 8 23 (a * 2 ^ 23 + (b * 2 ^ 16 + c * 256 + d)) ≡ ((a * 256 + b) * 256 + c) * 256 + d =
    widen 8 23 a (b * 2 ^ 16 + c * 256 + d) (omega arith) (omega arith) ∙ omega arith in
    ap (λ (x : ℕ). widened 8 23 (widened 16 15 x)) first-mask ∙ ap (widened 8 23) second-mask ∙ third-mask

pub encoded : (n : ℕ) → n < 2 ^ 28 → widened 8 23 (widened 16 15 (widened 24 7 n)) ≡ number (synchsafe n)
unfolding digits onto
encoded n h =
    let digit : ℕ → ℕ = λ i. get_or (synchsafe n) i 0 in
    let below = synchsafe_below n in
    let e : onto 128 0 (synchsafe n) ≡ n = digits_back 128 (omega arith) 4 n h in
    let f : n ≡ ((digit 0 * 128 + digit 1) * 128 + digit 2) * 128 + digit 3 = omega (arith, e) in
    ap (λ (x : ℕ). widened 8 23 (widened 16 15 (widened 24 7 x))) f
    ∙ spread (digit 0) (digit 1) (digit 2) (digit 3) (below 0) (below 1) (below 2) (below 3)
    ∙ omega arith

-- four digits to the base 128 make four bytes
pub encoded_by_digits : (n : ℕ)
    → n / 128 / 128 / 128 % 128 * 0x100_0000 + n / 128 / 128 % 128 * 0x1_0000 + n / 128 % 128 * 0x100 + n % 128 ≡ number (synchsafe n)
unfolding digits onto
encoded_by_digits n =
    let second : n / 128 / 128 ≡ n / 128 ^ 2 = div-div-eq-div-mul n 128 128 in
    let first : n / 128 / 128 / 128 ≡ n / 128 ^ 3 = ap (λ (q : ℕ). q / 128) second ∙ div-div-eq-div-mul n (128 ^ 2) 128 in
    rw (first, second, div-one) (omega arith)

-- ---- decoding

-- the byte from bit i + j on, moved down by j
moved_down : (n i j : ℕ) → bit_and n (2 ^ (8 + (i + j)) - 2 ^ (i + j)) / 2 ^ j ≡ n / 2 ^ (i + j) % 2 ^ 8 * 2 ^ i
moved_down n i j =
    let b : ℕ = n / 2 ^ (i + j) % 2 ^ 8 in
    let up : b * 2 ^ (i + j) ≡ b * 2 ^ i * 2 ^ j = ap (λ (q : ℕ). b * q) (pow-add 2 i j) ∙ sym (mul_assoc b (2 ^ i) (2 ^ j)) in
    ap (λ (q : ℕ). q / 2 ^ j) (and_high n 8 (i + j) ∙ up) ∙ shl-shr (b * 2 ^ i) j

pub decoded : (n : ℕ)
    → bit_or (bit_or (bit_or (bit_and n 0xFF00_0000 / 2 ^ 3) (bit_and n 0xFF_0000 / 2 ^ 2)) (bit_and n 0xFF00 / 2)) (bit_and n 0xFF)
    ≡ from_synchsafe (bytes_of 4 n)
unfolding digits
decoded n =
    let last : bit_and n 0xFF ≡ n / 1 % 256 = and_mask n 8 ∙ ap (λ (q : ℕ). q % 256) (sym (div-one n)) in
    ap₂ bit_or (ap₂ bit_or (ap₂ bit_or (moved_down n 21 3) (moved_down n 14 2)) (moved_down n 7 1)) last
