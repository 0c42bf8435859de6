-- Laws of unsynchronising and resynchronising. Assumes nothing.
use mathlib.Core.Path.{◌≡◌, refl, sym, ap, ◌∙◌}
use Prim.Native.Nat.{ℕ, zero, suc, ◌+◌, ◌-◌, ◌*◌, ◌≤◌, ◌<◌}
use native.Mathlib.Nat.{sub-zero}
use native.Mathlib.Omega.{arith}
use mathlib.Core.Bool.{Bool, true, false, not, ◌&&◌}
use mathlib.Core.List.{List, [], ◌∷◌, ◌++◌, append-nil}
use lib.ListN.{length, take, length-take}
use lib.Dec.{eqb, leb}
use borrow.Author.Tests.{eqb-true, leb-false, ne_eqb}
use Rattle.laws.proofs.Bools.{false_not_true, or_false}
use Rattle.format.specs.Bytes.{only_if, pick, zeros}
use Rattle.format.specs.Unsynch.{resync, resynchronised, dropped, guards, unsync, unsynchronised, is_on, ends_ff, NoSync}
use Rattle.format.specs.declared.Mode.{Mode}
use Rattle.format.specs.declared.Mode.TheVariants.{Off, Crate, Standard}

-- ---- there and back

module _ (guard : ℕ → Bool) (zero-guarded : guard 0 ≡ true) where
  -- one byte: a zero that was put in goes, and a zero that was there stays
  byte_back : (prev g z : Bool) (x : ℕ) (s more : List ℕ) → guard x ≡ g → eqb x 0 ≡ z
      → resync prev (only_if (prev && guard x) 0 (x ∷ s) ++ more) ≡ x ∷ resync (eqb x 255) (s ++ more)
  unfolding resync
  byte_back false g z x s more eg ez = refl
  byte_back true true z x s more eg ez = rw eg
  byte_back true false true x s more eg ez = let e : x ≡ 0 = eqb-true x 0 ez in cc
  byte_back true false false x s more eg ez = rw (eg, ez)

  unsynced : (prev : Bool) (s more : List ℕ) → resync prev (unsync guard prev s ++ more) ≡ s ++ resync (ends_ff prev s) more
  unfolding unsync ends_ff resync
  unsynced prev [] more = refl
  unsynced prev (x ∷ s) more =
      byte_back prev (guard x) (eqb x 0) x (unsync guard (eqb x 255) s) more refl refl
      ∙ ap {B = List ℕ} (λ (l : List ℕ). x ∷ l) (unsynced (eqb x 255) s more)

-- Resynchronising what was unsynchronised gives the bytes back, with more bytes after them.
pub back_with_more : (m : Mode) → is_on m ≡ true → (prev : Bool) (s more : List ℕ)
    → resync prev (unsync (guards m) prev s ++ more) ≡ s ++ resync (ends_ff prev s) more
back_with_more Off on prev s more = absurd (false_not_true on)
back_with_more Crate on prev s more = unsynced (guards Crate) refl prev s more
back_with_more Standard on prev s more = unsynced (guards Standard) refl prev s more

all_back : (m : Mode) → is_on m ≡ true → (prev : Bool) (s : List ℕ) → resync prev (unsync (guards m) prev s) ≡ s
unfolding resync
all_back m on prev s = ap (resync prev) (sym (append-nil (unsync (guards m) prev s))) ∙ back_with_more m on prev s [] ∙ append-nil s

pub back : (m : Mode) → is_on m ≡ true → (s : List ℕ) → resynchronised (unsynchronised m s) ≡ s
back m on s = all_back m on false s

-- ---- lengths

only_if_le : (t : Bool) (x n : ℕ) (l : List ℕ) → length l ≤ n → length (only_if t x l) ≤ suc n
only_if_le true x n l h = omega arith
only_if_le false x n l h = omega arith

pub resync_shorter : (prev : Bool) (s : List ℕ) → length (resync prev s) ≤ length s
unfolding resync
resync_shorter prev [] = omega arith
resync_shorter prev (x ∷ s) = only_if_le (not (prev && eqb x 0)) x (length s) (resync (eqb x 255) s) (resync_shorter (eqb x 255) s)

only_if_longer : (t : Bool) (x : ℕ) (l : List ℕ) → length l ≤ length (only_if t x l)
only_if_longer true x l = omega arith
only_if_longer false x l = omega arith

pub unsync_longer : (guard : ℕ → Bool) (prev : Bool) (s : List ℕ) → length s ≤ length (unsync guard prev s)
unfolding unsync
unsync_longer guard prev [] = omega arith
unsync_longer guard prev (x ∷ s) =
    omega (arith, unsync_longer guard (eqb x 255) s, only_if_longer (prev && guard x) 0 (x ∷ unsync guard (eqb x 255) s))

pub doubled : (guard : ℕ → Bool) (prev : Bool) (s : List ℕ) → length (unsync guard prev s) ≤ 2 * length s
unfolding unsync
doubled guard prev [] = omega arith
doubled guard prev (x ∷ s) =
    let u = unsync guard (eqb x 255) s in
    omega (arith, doubled guard (eqb x 255) s, only_if_le (prev && guard x) 0 (length (x ∷ u)) (x ∷ u) (omega arith))

-- for n at least 1 at most 2n-1 bytes
pub unsync_length : (m : Mode) (s : List ℕ) → 1 ≤ length s → length (unsynchronised m s) + 1 ≤ 2 * length s
unfolding unsync
unsync_length m [] h = absurd (omega arith)
unsync_length m (x ∷ s) h = omega (arith, doubled (guards m) (eqb x 255) s)

-- ---- a front part

-- of FF 00 00 FF 00 FF the second byte goes and the fifth, and no other
two_go : dropped false (0xFF ∷ 0 ∷ 0 ∷ 0xFF ∷ 0 ∷ 0xFF ∷ []) ≡ 2
unfolding dropped
two_go = refl

-- each byte stays or goes
pub resync_length : (prev : Bool) (s : List ℕ) → length (resync prev s) + dropped prev s ≡ length s
unfolding resync dropped
resync_length prev [] = refl
resync_length prev (x ∷ s) = by_byte (prev && eqb x 0) (resync_length (eqb x 255) s)
  where
    by_byte : (t : Bool) → length (resync (eqb x 255) s) + dropped (eqb x 255) s ≡ length s
        → length (only_if (not t) x (resync (eqb x 255) s)) + (pick t 1 0 + dropped (eqb x 255) s) ≡ suc (length s)
    by_byte true e = omega (arith, e)
    by_byte false e = omega (arith, e)

pub resync_take : (prev : Bool) (m : ℕ) (s : List ℕ) → resync prev (take m s) ≡ take (m - dropped prev (take m s)) (resync prev s)
unfolding resync dropped
resync_take prev zero s = refl
resync_take prev (suc m) [] = rw sub-zero
resync_take prev (suc m) (x ∷ s) = by_byte (prev && eqb x 0) (resync_take (eqb x 255) m s)
  where
    by_byte : (t : Bool) → resync (eqb x 255) (take m s) ≡ take (m - dropped (eqb x 255) (take m s)) (resync (eqb x 255) s)
        → only_if (not t) x (resync (eqb x 255) (take m s))
        ≡ take (suc m - (pick t 1 0 + dropped (eqb x 255) (take m s))) (only_if (not t) x (resync (eqb x 255) s))
    by_byte true e =
        let n : suc m - (1 + dropped (eqb x 255) (take m s)) ≡ m - dropped (eqb x 255) (take m s) = omega arith in
        e ∙ ap (λ (k : ℕ). take k (resync (eqb x 255) s)) (sym n)
    by_byte false e =
        let few : dropped (eqb x 255) (take m s) ≤ m = omega (arith, resync_length (eqb x 255) (take m s), length-take m s) in
        let n : suc m - (0 + dropped (eqb x 255) (take m s)) ≡ suc (m - dropped (eqb x 255) (take m s)) = omega arith in
        ap {B = List ℕ} (λ (l : List ℕ). x ∷ l) e ∙ ap (λ (k : ℕ). take k (x ∷ resync (eqb x 255) s)) (sym n)

-- Resynchronising a front part gives a front part: so many bytes, less the zeros among them that go.
pub part_resynchronised : (m : ℕ) (s : List ℕ) → resynchronised (take m s) ≡ take (m - dropped false (take m s)) (resynchronised s)
part_resynchronised m s = resync_take false m s

module _ (guard : ℕ → Bool) (zero-guarded : guard 0 ≡ true) where
  -- one byte, and so many of those after it
  fewer_with : (prev g z : Bool) (n x : ℕ) (s u : List ℕ) → guard x ≡ g → eqb x 0 ≡ z → suc n < length (only_if (prev && guard x) 0 (x ∷ u))
      → ((k : ℕ) → k < length u → length (resync (eqb x 255) (take k u)) < length s)
      → length (resync prev (take (suc n) (only_if (prev && guard x) 0 (x ∷ u)))) < suc (length s)
  unfolding resync
  fewer_with false g z n x s u eg ez lt go = omega (arith, go n (omega arith))
  fewer_with true true z zero x s u eg ez lt go = rw eg (omega arith)
  fewer_with true true z (suc n) x s u eg ez lt go =
      let lt' : suc (suc n) < length (0 ∷ x ∷ u) = rw eg at lt in
      rw eg (omega (arith, go n (omega arith)))
  fewer_with true false true n x s u eg ez lt go = absurd (false_not_true (sym eg ∙ ap guard (eqb-true x 0 ez) ∙ zero-guarded))
  fewer_with true false false n x s u eg ez lt go =
      let lt' : suc n < length (x ∷ u) = rw eg at lt in
      rw (eg, ez) (omega (arith, go n (omega arith)))

  fewer : (prev : Bool) (n : ℕ) (s : List ℕ) → n < length (unsync guard prev s) → length (resync prev (take n (unsync guard prev s))) < length s
  unfolding unsync resync
  fewer prev n [] lt = absurd (omega arith)
  fewer prev zero (x ∷ s) lt = omega arith
  fewer prev (suc n) (x ∷ s) lt =
      fewer_with prev (guard x) (eqb x 0) n x s (unsync guard (eqb x 255) s) refl refl lt (λ k. fewer (eqb x 255) k s)

-- The last byte of what was unsynchronised is none that goes: without it fewer bytes come back.
pub fewer_back : (m : Mode) → is_on m ≡ true → (prev : Bool) (n : ℕ) (s : List ℕ) → n < length (unsync (guards m) prev s)
    → length (resync prev (take n (unsync (guards m) prev s))) < length s
fewer_back Off on prev n s = absurd (false_not_true on)
fewer_back Crate on prev n s = fewer (guards Crate) refl prev n s
fewer_back Standard on prev n s = fewer (guards Standard) refl prev n s

-- What was unsynchronised, cut before its last byte, comes back as a front part of it, and not as all.
pub part_back : (m : Mode) → is_on m ≡ true → (prev : Bool) (n : ℕ) (s : List ℕ) → n < length (unsync (guards m) prev s)
    → (j : ℕ) × (j < length s) × (resync prev (take n (unsync (guards m) prev s)) ≡ take j s)
part_back m on prev n s lt =
    let u = unsync (guards m) prev s in
    let j = n - dropped prev (take n u) in (
      j,
      omega (arith, fewer_back m on prev n s lt, resync_length prev (take n u), length-take n u),
      resync_take prev n u ∙ ap (take j) (all_back m on prev s),
    )

-- ---- parts, and what is off

only_if_append : (t : Bool) (x : ℕ) (l k : List ℕ) → only_if t x (l ++ k) ≡ only_if t x l ++ k
only_if_append true x l k = refl
only_if_append false x l k = refl

pub unsync_append : (guard : ℕ → Bool) (prev : Bool) (a b : List ℕ) → unsync guard prev (a ++ b) ≡ unsync guard prev a ++ unsync guard (ends_ff prev a) b
unfolding unsync ends_ff
unsync_append guard prev [] b = refl
unsync_append guard prev (x ∷ a) b =
    ap (λ (l : List ℕ). only_if (prev && guard x) 0 (x ∷ l)) (unsync_append guard (eqb x 255) a b)
    ∙ only_if_append (prev && guard x) 0 (x ∷ unsync guard (eqb x 255) a) (unsync guard (ends_ff (eqb x 255) a) b)

pub unsync_off : (prev : Bool) (s : List ℕ) → unsync (guards Off) prev s ≡ s
unfolding unsync
unsync_off prev [] = refl
unsync_off true (x ∷ s) = ap {B = List ℕ} (λ (l : List ℕ). x ∷ l) (unsync_off (eqb x 255) s)
unsync_off false (x ∷ s) = ap {B = List ℕ} (λ (l : List ℕ). x ∷ l) (unsync_off (eqb x 255) s)

zeros_stay : (k : ℕ) → resync false (zeros k) ≡ zeros k
unfolding resync
zeros_stay zero = refl
zeros_stay (suc k) = ap {B = List ℕ} (λ (l : List ℕ). 0 ∷ l) (zeros_stay k)

-- padding stays padding, at most one byte shorter
pub padding_back : (prev : Bool) (n : ℕ) → (k : ℕ) × (resync prev (zeros n) ≡ zeros k)
unfolding resync
padding_back prev zero = (0, refl)
padding_back true (suc n) = (n, zeros_stay n)
padding_back false (suc n) = (suc n, zeros_stay (suc n))

-- ---- standard mode

-- byte by byte: after an FF comes nothing from E0 on
unfoldable pub Quiet : Bool → List ℕ → Type 0
Quiet prev [] = Unit {0}
Quiet prev (x ∷ s) = (prev ≡ true → x < 0xE0) × Quiet (eqb x 255) s

pub quiet_at : (prev : Bool) (s : List ℕ) → Quiet prev s → NoSync s
unfolding Quiet
quiet_at prev [] q i e = omega arith
quiet_at prev (x ∷ []) q zero e = omega arith
quiet_at prev (x ∷ y ∷ s) q zero e = q.1.0 (rw e)
quiet_at prev (x ∷ s) q (suc i) e = quiet_at (eqb x 255) s q.1 i e

pub quiet_append : (prev : Bool) (a b : List ℕ) → Quiet prev a → Quiet (ends_ff prev a) b → Quiet prev (a ++ b)
unfolding Quiet ends_ff
quiet_append prev [] b qa qb = qb
quiet_append prev (x ∷ a) b qa qb = (qa.0, quiet_append (eqb x 255) a b qa.1 qb)

-- each byte is below E0
abbrev pub Low : List ℕ → Type 0
Low [] = Unit {0}
Low (x ∷ s) = (x < 0xE0) × Low s

pub quiet_low : (prev : Bool) (s : List ℕ) → Low s → Quiet prev s
unfolding Quiet
quiet_low prev [] low = tt
quiet_low prev (x ∷ s) low = ((λ e. low.0), quiet_low (eqb x 255) s low.1)

-- what comes before low bytes does not matter for what comes after them
pub quiet_behind_low : (prev : Bool) (a b : List ℕ) → 0 < length a → Low a → Quiet false b → Quiet prev (a ++ b)
unfolding Quiet
quiet_behind_low prev [] b some low q = absurd (omega arith)
quiet_behind_low prev (x ∷ []) b some low q =
    let e : eqb x 255 ≡ false = ne_eqb x 255 (omega arith) in
    ((λ p. low.0), rw e q)
quiet_behind_low prev (x ∷ y ∷ a) b some low q = ((λ p. low.0), quiet_behind_low (eqb x 255) (y ∷ a) b (omega arith) low.1 q)

-- what the standard's guard lets pass is below E0
unguarded : (x : ℕ) → guards Standard x ≡ false → x < 0xE0
unguarded x e = leb-false 0xE0 x (or_false (eqb x 0) (leb 0xE0 x) e).1

quiet_next : (prev g : Bool) (x : ℕ) (s : List ℕ) → guards Standard x ≡ g → Quiet (eqb x 255) s → Quiet prev (only_if (prev && guards Standard x) 0 (x ∷ s))
unfolding Quiet
quiet_next false g x s e q = ((λ h. absurd (false_not_true h)), q)
quiet_next true true x s e q = rw e ((λ h. omega arith), ((λ h. absurd (false_not_true h)), q))
quiet_next true false x s e q = rw e ((λ h. unguarded x e), q)

pub standard_quiet : (prev : Bool) (s : List ℕ) → Quiet prev (unsync (guards Standard) prev s)
unfolding unsync Quiet
standard_quiet prev [] = tt
standard_quiet prev (x ∷ s) =
    quiet_next prev (guards Standard x) x (unsync (guards Standard) (eqb x 255) s) refl (standard_quiet (eqb x 255) s)

-- After standard mode no FF is followed by E0 or above.
pub standard_no_sync : (s : List ℕ) → NoSync (unsynchronised Standard s)
standard_no_sync s = quiet_at false (unsynchronised Standard s) (standard_quiet false s)
