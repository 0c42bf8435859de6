-- A popularimeter that is taken, and one that was encoded and is read back. Assumes nothing.
use mathlib.Core.Path.{◌≡◌, refl, ap, ◌∙◌}
use Prim.Native.Nat.{ℕ, zero, suc, ◌+◌, ◌^◌, ◌<◌}
use native.Mathlib.Omega.{arith}
use mathlib.Core.Bool.{Bool, true, false}
use mathlib.Core.List.{List, [], ◌∷◌}
use lib.ListN.{length, drop, drop_of_length-le}
use lib.Dec.{ltb}
use borrow.Author.Tests.{lt-ltb, ltb-true, ltb-false}
use Rattle.format.specs.Bytes.{pick, first, zero_at}
use Rattle.format.specs.Numbers.{onto, number, bytes_of}
use Rattle.format.specs.Popularimeter.{
  counter_of,
  counter_refusal,
  stripped,
  counter_bytes,
  rating_in,
  counter_in,
  rating_refusal,
  popularimeter_refusal,
  popularimeter_body,
}
use Rattle.format.specs.Record.{body_refusal, run_of, parts_of, popularimeter}
use Rattle.format.specs.Encode.{body_bytes}
use Rattle.format.specs.declared.Version.{Version}
use Rattle.format.proofs.Checks.{none_else, first_none}
use Rattle.format.proofs.Numbers.{number_back}
use Rattle.format.proofs.Zeros.{length_named, drop_name, get_d_name}
use Rattle.format.proofs.ReadBack.{ReadBack, part_name}

-- ---- the counter

-- zeros in front say nothing
number_stripped : (s : List ℕ) → number (stripped s) ≡ number s
unfolding onto stripped
number_stripped [] = refl
number_stripped (zero ∷ s) = number_stripped s
number_stripped (suc x ∷ s) = refl

pub counter_back : (n : ℕ) → n < 2 ^ 64 → counter_of (counter_bytes n) ≡ n
unfolding counter_bytes
counter_back n h = number_stripped (bytes_of 8 n) ∙ number_back 8 n h

-- ---- a body that is taken

-- it has a rating after the zero, and a counter that fits 64 bits
pub record Counted (b : List ℕ) : Type 0 where
  pub rated : zero_at b + 1 < length b
  pub fits : counter_in b < 2 ^ 64

pub taken_counted : (b : List ℕ) → popularimeter_refusal b ≡ 0 → Counted b
taken_counted b e =
    let h = first_none _ _ e in
    record {
      rated = ltb-true _ _ (none_else _ 10 h.0);
      fits = ltb-true _ _ (none_else _ 34 (first_none _ _ h.1).0);
    }

pub counted_taken : {b : List ℕ} → Counted b → popularimeter_refusal b ≡ 0
unfolding first
counted_taken {b} h = rw (lt-ltb (zero_at b + 1) (length b) h.rated, lt-ltb (counter_in b) (2 ^ 64) h.fits)

-- Where 11 is given no counter byte is there, so that which of the two checks comes first cannot be seen.
either_first : (b : List ℕ) → first (counter_refusal (counter_in b) ∷ rating_refusal b ∷ []) ≡ popularimeter_refusal b
unfolding first onto
either_first b = by_rating (ltb (zero_at b + 1) (length b)) refl
  where
    by_rating : (t : Bool) → ltb (zero_at b + 1) (length b) ≡ t
        → first (counter_refusal (counter_in b) ∷ pick t 0 11 ∷ []) ≡ first (pick t 0 11 ∷ counter_refusal (counter_in b) ∷ [])
    by_rating true e = refl
    by_rating false e =
        let none : drop (zero_at b + 2) b ≡ [] = drop_of_length-le b {i = zero_at b + 2} (omega (arith, ltb-false (zero_at b + 1) (length b) e)) in
        rw none refl

-- ---- the body

pub popularimeter_back : (v : Version) (user : List ℕ) (rating counter : ℕ) → zero_at user ≡ length user → counter < 2 ^ 64
    → ReadBack v (popularimeter user rating counter)
unfolding body_refusal run_of parts_of body_bytes
popularimeter_back v user rating counter none small =
    let z = rating ∷ counter_bytes counter in
    let b = popularimeter_body user rating counter in
    let reaches : zero_at b + 1 < length b = omega (arith, length_named user z none) in
    let r : rating_in b ≡ rating = get_d_name user z none 0 in
    let c : counter_in b ≡ counter = ap counter_of (drop_name user z none 1) ∙ counter_back counter small in
    record {
      taken = counted_taken (record { rated = reaches; fits = rw c small });
      run = refl;
      view = λ at s lies. rw (part_name at user z s none lies, r, c);
    }
