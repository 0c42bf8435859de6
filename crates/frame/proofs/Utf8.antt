-- UTF-8 byte by byte. Assumes nothing.
use mathlib.Core.Path.{◌≡◌, refl, sym, ap, ◌∙◌}
use Prim.Native.Nat.{ℕ, zero, suc, ◌-◌, ◌≤◌, ◌<◌}
use native.Mathlib.Omega.{arith}
use mathlib.Core.Bool.{Bool, true, false, not, ◌&&◌, ◌||◌}
use mathlib.Core.List.{List, [], ◌∷◌}
use lib.Dec.{ltb, eqb, eqb-suc-zero}
use Rattle.std.specs.List.{fold}
use lib.Bits.{bit_or, or_add_and, and_le_l, and_le_r}
use borrow.Author.Tests.{lt-ltb, le-leb, lt-leb, eqb-true, eqb-false}
use Rattle.format.specs.Bytes.{pick}
use Rattle.format.specs.Ids.{class_of, tails_of, low_of, high_of, utf8_from, is_utf8}

-- ---- where no tail is due

-- what may come after a byte of a class
abbrev pub behind : ℕ → List ℕ → Bool
behind k s = not (eqb k 1 || eqb k 9) && utf8_from (tails_of k) (low_of k) (high_of k) s

pub lead_of : (b k : ℕ) (s : List ℕ) → class_of b ≡ k → behind k s ≡ is_utf8 (b ∷ s)
unfolding utf8_from
lead_of b k s e = ap (λ (c : ℕ). behind c s) (sym e)

pick_below : (t : Bool) {x y : ℕ} → x ≤ 9 → y ≤ 9 → pick t x y ≤ 9
pick_below true hx hy = hx
pick_below false hx hy = hy

pub class_below : (b : ℕ) → class_of b ≤ 9
class_below b =
    pick_below (ltb b 0x80) (omega arith)
    (pick_below (ltb b 0xC0) (omega arith)
    (pick_below (ltb b 0xC2) (omega arith)
    (pick_below (ltb b 0xE0) (omega arith)
    (pick_below (eqb b 0xE0) (omega arith)
    (pick_below (eqb b 0xED) (omega arith)
    (pick_below (ltb b 0xF0) (omega arith)
    (pick_below (eqb b 0xF0) (omega arith) (pick_below (ltb b 0xF4) (omega arith) (pick_below (eqb b 0xF4) (omega arith) (omega arith))))))))))

-- one class fewer
one_fewer : {k : ℕ} (n : ℕ) → k ≤ suc n → (k ≡ suc n → ⊥) → k ≤ n
one_fewer n h ne = omega arith

only_one : {k : ℕ} → k ≤ 1 → (k ≡ 0 → ⊥) → k ≡ 1
only_one h ne = omega arith

module _ (k : ℕ) (s : List ℕ) where
  alone : (t : Bool) → eqb k 9 ≡ t → (t ≡ false → k ≡ 1) → behind k s ≡ false
  alone true e one = rw (eqb-true k 9 e)
  alone false e one = rw (one refl)

  -- the classes that lead nothing: 1 and 9
  pub no_lead : k ≤ 9 → (k ≡ 0 → ⊥) → (k ≡ 2 → ⊥) → (k ≡ 3 → ⊥) → (k ≡ 4 → ⊥) → (k ≡ 5 → ⊥) → (k ≡ 6 → ⊥) → (k ≡ 7 → ⊥) → (k ≡ 8 → ⊥) → behind k s ≡ false
  no_lead h h0 h2 h3 h4 h5 h6 h7 h8 =
      alone (eqb k 9) refl
      (λ e. only_one (one_fewer 1 (one_fewer 2 (one_fewer 3 (one_fewer 4 (one_fewer 5 (one_fewer 6 (one_fewer 7 (one_fewer 8 h (eqb-false k 9 e)) h8) h7) h6) h5) h4) h3) h2) h0)

-- ---- where tails are due

module _ (low high b : ℕ) (s : List ℕ) where
  pub tail : (k : ℕ) → (k ≡ 0 → ⊥) → low ≤ b → b ≤ high → utf8_from (k - 1) 0x80 0xBF s ≡ utf8_from k low high (b ∷ s)
  unfolding utf8_from
  tail zero ne hl hh = absurd (ne refl)
  tail (suc k) ne hl hh = let e : suc k - 1 ≡ k = omega arith in rw (e, le-leb low b hl, le-leb b high hh)

  pub tail_low : (k : ℕ) → (k ≡ 0 → ⊥) → b < low → false ≡ utf8_from k low high (b ∷ s)
  unfolding utf8_from
  tail_low zero ne h = absurd (ne refl)
  tail_low (suc k) ne h = rw (lt-leb low b h)

  pub tail_high : (k : ℕ) → (k ≡ 0 → ⊥) → low ≤ b → high < b → false ≡ utf8_from k low high (b ∷ s)
  unfolding utf8_from
  tail_high zero ne hl h = absurd (ne refl)
  tail_high (suc k) ne hl h = rw (le-leb low b hl, lt-leb b high h)

  pub none_due : (k : ℕ) → k ≡ 0 → is_utf8 (b ∷ s) ≡ utf8_from k low high (b ∷ s)
  unfolding utf8_from
  none_due k e = rw e

pub over : (k low high : ℕ) → eqb k 0 ≡ utf8_from k low high []
unfolding utf8_from
over zero low high = refl
over (suc k) low high = eqb-suc-zero k

-- ---- bytes below 80

or_below : (a b n : ℕ) → bit_or a b < n → (a < n) × (b < n)
or_below a b n h = omega (arith, or_add_and a b, and_le_l a b, and_le_r a b)

ascii : (b : ℕ) (s : List ℕ) → b < 0x80 → is_utf8 (b ∷ s) ≡ is_utf8 s
unfolding utf8_from
ascii b s h = rw (lt-ltb b 0x80 h)

-- all their bits, joined by or, lie below 80
joined_below : (l : List ℕ) (n : ℕ) → fold bit_or n l < 0x80 → n < 0x80
joined_below [] n h = h
joined_below (x ∷ l) n h = (or_below n x 0x80 (joined_below l (bit_or n x) h)).0

pub all_ascii : (l : List ℕ) (n : ℕ) → fold bit_or n l < 0x80 → is_utf8 l ≡ true
unfolding utf8_from
all_ascii [] n h = refl
all_ascii (x ∷ l) n h = ascii x l (or_below n x 0x80 (joined_below l (bit_or n x) h)).1 ∙ all_ascii l (bit_or n x) h
