-- What a region shows of its frames when it is cut after any byte, in each edition and mode. Assumes nothing.
use mathlib.Core.Path.{◌≡◌, refl, ap, ◌∙◌}
use Prim.Native.Nat.{ℕ, zero, suc, ◌+◌, ◌-◌, ◌≤◌, ◌<◌}
use native.Mathlib.Omega.{arith}
use mathlib.Core.Bool.{true, false}
use mathlib.Core.List.{List, ◌∷◌, ◌++◌, append_assoc}
use lib.ListN.{length, take, length-append}
use lib.Seq.{take-append-le, take-append-add}
use Rattle.format.specs.Bytes.{zeros}
use Rattle.format.specs.Unsynch.{resynchronised, guards, unsync, unsynchronised, is_on, ends_ff}
use Rattle.format.specs.Walk.{shown_body}
use Rattle.format.specs.Encode.{whole_of, region_bytes}
use Rattle.format.specs.declared.Version.{Version}
use Rattle.format.specs.declared.Version.TheVariants.{Id3v22, Id3v23, Id3v24}
use Rattle.format.specs.declared.Mode.{Mode}
use Rattle.format.specs.declared.Mode.TheVariants.{Off, Crate, Standard}
use Rattle.format.proofs.Unsynch.{back_with_more, part_back, unsync_append, unsync_off, padding_back}
use Rattle.format.proofs.Tags.{whole_by}

-- ---- front parts

-- cut inside the second of three parts
take_inside : (q : ℕ) (a b c d : List ℕ) → length a ≤ q → q < length a + length b → take q ((a ++ (b ++ c)) ++ d) ≡ a ++ take (q - length a) b
take_inside q a b c d le lt =
    let r = q - length a in
    let is : q ≡ length a + r = omega arith in
    let parts : (a ++ (b ++ c)) ++ d ≡ a ++ (b ++ (c ++ d)) = append_assoc a (b ++ c) d ∙ ap (λ (l : List ℕ). a ++ l) (append_assoc b c d) in
    ap (take q) parts
    ∙ ap (λ (i : ℕ). take i (a ++ (b ++ (c ++ d)))) is
    ∙ take-append-add a (b ++ (c ++ d)) r
    ∙ ap (λ (l : List ℕ). a ++ l) (take-append-le r b (c ++ d) (omega arith))

-- a front part of zeros is zeros
take_zeros : (q p : ℕ) → (k : ℕ) × (take q (zeros p) ≡ zeros k)
take_zeros zero p = (0, refl)
take_zeros (suc q) zero = (0, refl)
take_zeros (suc q) (suc p) = let o = take_zeros q p in (suc o.0, ap {B = List ℕ} (λ (l : List ℕ). 0 ∷ l) o.1)

-- cut behind the first of two parts, of which the second is zeros
pub take_behind : (q p : ℕ) (a : List ℕ) → length a ≤ q → (k : ℕ) × (take q (a ++ zeros p) ≡ a ++ zeros k)
take_behind q p a le =
    let r = q - length a in
    let is : q ≡ length a + r = omega arith in
    let z = take_zeros r p in
    (z.0, ap (λ (i : ℕ). take i (a ++ zeros p)) is ∙ take-append-add a (zeros p) r ∙ ap (λ (l : List ℕ). a ++ l) z.1)

-- ---- a cut inside the frame b, with the frames a before it

-- the frames before it, and a part of it
abbrev pub Inside : List ℕ → List ℕ → List ℕ → Type 0
Inside a b s = (j : ℕ) × (j < length b) × (s ≡ a ++ take j b)

pub plain_inside : (p q : ℕ) (a b c : List ℕ) → length a ≤ q → q < length (a ++ b) → Inside a b (take q ((a ++ (b ++ c)) ++ zeros p))
plain_inside p q a b c le lt =
    let long = length-append a b in
    (q - length a, omega (arith, long), take_inside q a b c (zeros p) le (omega (arith, long)))

on_inside : (m : Mode) → is_on m ≡ true → (p q : ℕ) (a b c : List ℕ) → length (unsynchronised m a) ≤ q → q < length (unsynchronised m (a ++ b))
    → Inside a b (resynchronised (take q (unsynchronised m (a ++ (b ++ c)) ++ zeros p)))
on_inside m on p q a b c le lt =
    let g = guards m in
    let e = ends_ff false a in
    let ua = unsynchronised m a in
    let ub = unsync g e b in
    let uc = unsync g (ends_ff e b) c in
    let parts : unsynchronised m (a ++ (b ++ c)) ≡ ua ++ (ub ++ uc) =
    unsync_append g false a (b ++ c) ∙ ap (λ (l : List ℕ). ua ++ l) (unsync_append g e b c) in
    let long : length (unsynchronised m (a ++ b)) ≡ length ua + length ub = ap length (unsync_append g false a b) ∙ length-append ua ub in
    let r = q - length ua in
    let part = part_back m on e r b (omega arith) in (
      part.0,
      part.1,
      ap (λ (l : List ℕ). resynchronised (take q (l ++ zeros p))) parts
          ∙ ap resynchronised (take_inside q ua ub uc (zeros p) le (omega arith))
          ∙ back_with_more m on false a (take r ub)
          ∙ ap (λ (l : List ℕ). a ++ l) part.2,
    )

-- The frames before the cut frame are there whole, and of that frame a part is, but not all of it.
pub cut_inside : (v : Version) (m : Mode) (p q : ℕ) (a b c : List ℕ) → length (whole_of v m a) ≤ q → q < length (whole_of v m (a ++ b))
    → (j : ℕ) × (j < length b) × (shown_body (whole_by v m) (take q (region_bytes v m p (a ++ (b ++ c)))) ≡ a ++ take j b)
cut_inside Id3v22 Off p q a b c le lt = rw unsync_off (plain_inside p q a b c (rw unsync_off at le) (rw unsync_off at lt))
cut_inside Id3v22 Crate p q a b c le lt = on_inside Crate refl p q a b c le lt
cut_inside Id3v22 Standard p q a b c le lt = on_inside Standard refl p q a b c le lt
cut_inside Id3v23 Off p q a b c le lt = rw unsync_off (plain_inside p q a b c (rw unsync_off at le) (rw unsync_off at lt))
cut_inside Id3v23 Crate p q a b c le lt = on_inside Crate refl p q a b c le lt
cut_inside Id3v23 Standard p q a b c le lt = on_inside Standard refl p q a b c le lt
cut_inside Id3v24 m p q a b c le lt = plain_inside p q a b c le lt

-- ---- a cut behind the last frame

on_behind : (m : Mode) → is_on m ≡ true → (p q : ℕ) (a : List ℕ) → length (unsynchronised m a) ≤ q
    → (k : ℕ) × (resynchronised (take q (unsynchronised m a ++ zeros p)) ≡ a ++ zeros k)
on_behind m on p q a le =
    let z = take_behind q p (unsynchronised m a) le in
    let k = padding_back (ends_ff false a) z.0 in
    (k.0, ap resynchronised z.1 ∙ back_with_more m on false a (zeros z.0) ∙ ap (λ (l : List ℕ). a ++ l) k.1)

-- All frames are there whole, and then some zeros.
pub cut_behind : (v : Version) (m : Mode) (p q : ℕ) (a : List ℕ) → length (whole_of v m a) ≤ q
    → (k : ℕ) × (shown_body (whole_by v m) (take q (region_bytes v m p a)) ≡ a ++ zeros k)
cut_behind Id3v22 Off p q a le = rw unsync_off (take_behind q p a (rw unsync_off at le))
cut_behind Id3v22 Crate p q a le = on_behind Crate refl p q a le
cut_behind Id3v22 Standard p q a le = on_behind Standard refl p q a le
cut_behind Id3v23 Off p q a le = rw unsync_off (take_behind q p a (rw unsync_off at le))
cut_behind Id3v23 Crate p q a le = on_behind Crate refl p q a le
cut_behind Id3v23 Standard p q a le = on_behind Standard refl p q a le
cut_behind Id3v24 m p q a le = take_behind q p a le
