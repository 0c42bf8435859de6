-- A popularimeter lifted twice is lifted once by the sum, whichever ways these go. Assumes nothing.
use mathlib.Core.Path.{◌≡◌, refl, sym, ap, ◌∙◌, subst}
use Prim.Native.Nat.{ℕ, ◌+◌, ◌^◌, ◌≤◌, ◌<◌}
use native.Mathlib.Omega.{arith}
use mathlib.Core.Bool.{Bool, true, false}
use mathlib.Core.List.{List, [], ◌∷◌, ◌++◌, append_assoc}
use lib.ListN.{length, length-append}
use lib.Seq.{sets}
use lib.Dec.{ltb}
use borrow.Author.Tests.{ltb-true, ltb-false, le-ltb}
use Rattle.format.specs.Bytes.{pick, zero_at}
use Rattle.format.specs.Numbers.{bytes_of}
use Rattle.format.specs.Frame.{head_len}
use Rattle.format.specs.Popularimeter.{counter_bytes, popularimeter_body}
use Rattle.format.specs.Encode.{body_bytes, head_bytes, encode, refusal_of}
use Rattle.format.specs.declared.Version.{Version}
use Rattle.format.specs.declared.Mode.TheVariants.{Off}
use Rattle.format.proofs.Numbers.{length_digits}
use Rattle.format.proofs.Frames.{plain_stored}
use Rattle.blocks.proofs.Places.{sets_right}
use Rattle.raise.specs.Raise.{field_in, field_at, field_of}
use Rattle.raise.proofs.Fields.{field_length, field_again}
use Rattle.raise.proofs.Stored.{sets_whole}
use Rattle.raise.proofs.Stores.{sets_twice}
use Rattle.format.proofs.Encoded.{off_flagged}
use Rattle.edit.specs.Lift.{meter_id, recounted}
use Rattle.edit.specs.LiftPromises.{too_long}
use Rattle.edit.proofs.LiftMeters.{Meter, meter_of, meter_again, counted_block, counted_field, counted_at, counted_meter, meter_len, body_long, frame_long, encoded_field, encoded_at, encoded_meter, adding_meter}
use Rattle.edit.proofs.LiftCounters.{same_bytes_lem}
use Rattle.edit.proofs.LiftAccepting.{fits_in, lift_block, lift_refusal}
use Rattle.edit.proofs.LiftAfter.{no_zero_in}

-- ---- the frame of a popularimeter: what stands before the counter, and the counter

abbrev meter_front : Version → List ℕ → ℕ → ℕ → List ℕ
meter_front v user rating size = head_bytes v Off (meter_id v) size ++ (user ++ (0 ∷ rating ∷ []))

module _ (v : Version) (user : List ℕ) (rating : ℕ) where
  frame_is : (n : ℕ) → encode v Off (meter_of v user rating n) ≡ meter_front v user rating (meter_len user n) ++ counter_bytes n
  unfolding encode body_bytes
  frame_is n =
      let s = popularimeter_body user rating n in
      ap (λ (l : List ℕ). head_bytes v Off (meter_id v) (length l) ++ l) (plain_stored v Off s (off_flagged v))
      ∙ ap (λ (k : ℕ). head_bytes v Off (meter_id v) k ++ s) (body_long v user rating n)
      ∙ ap (λ (l : List ℕ). head_bytes v Off (meter_id v) (meter_len user n) ++ l) (sym (append_assoc user (0 ∷ rating ∷ []) (counter_bytes n)))
      ∙ sym (append_assoc (head_bytes v Off (meter_id v) (meter_len user n)) (user ++ (0 ∷ rating ∷ [])) (counter_bytes n))

  front_long : (n : ℕ) → length (meter_front v user rating (meter_len user n)) ≡ head_len v + (length user + 2)
  front_long n =
      omega (
        arith,
        ap length (frame_is n),
        length-append (meter_front v user rating (meter_len user n)) (counter_bytes n),
        frame_long v user rating n,
      )

  -- another counter of as many bytes, stored in it, is its frame
  stored_frame : (n k : ℕ) → counter_bytes k ≡ bytes_of (length (counter_bytes n)) k
      → sets (encode v Off (meter_of v user rating n)) (head_len v + (length user + 2)) (field_of (counter_bytes n) k) ≡ encode v Off (meter_of v user rating k)
  stored_frame n k e =
      let front = meter_front v user rating (meter_len user n) in
      let x = field_of (counter_bytes n) k in
      let long : length x ≡ length (counter_bytes n) = length_digits 256 (length (counter_bytes n)) k in
      let place : head_len v + (length user + 2) ≡ length front + 0 = omega (arith, front_long n) in
      let same : meter_len user n ≡ meter_len user k = omega (arith, ap length e, long) in
      ap (λ (l : List ℕ). sets l (head_len v + (length user + 2)) x) (frame_is n)
      ∙ ap (λ (p : ℕ). sets (front ++ counter_bytes n) p x) place
      ∙ sets_right front (counter_bytes n) 0 x
      ∙ ap (λ (l : List ℕ). front ++ l) (sets_whole (counter_bytes n) x long ∙ sym e)
      ∙ ap (λ (m : ℕ). meter_front v user rating m ++ counter_bytes k) same
      ∙ sym (frame_is k)

-- ---- twice

module _ {v : Version} {b user : List ℕ} {rating counter : ℕ} (m : Meter v b user rating counter) (n k : ℕ) (le : n ≤ k) (small : n < 2 ^ 64) (small' : k < 2 ^ 64) where
  abbrev f : List ℕ
  f = field_in v b

  -- what is made of a block by these tests: whether its bytes hold the second counter
  abbrev put : Bool → List ℕ → List ℕ
  put t c = pick t (counted_block v c k) (encode v Off (recounted v c k))

  abbrev refuses : Bool → List ℕ → ℕ
  refuses t c = pick t 0 (refusal_of v Off false (recounted v c k))

  -- another block of the same user and rating: the same frame
  same_put : (c : List ℕ) → Meter v c user rating n → encode v Off (recounted v c k) ≡ encode v Off (recounted v b k)
  same_put c w = ap (encode v Off) (meter_again w k ∙ sym (meter_again m k))

  same_refused : (c : List ℕ) → Meter v c user rating n → refusal_of v Off false (recounted v c k) ≡ 0 → refusal_of v Off false (recounted v b k) ≡ 0
  same_refused c w e = ap (refusal_of v Off false) (meter_again m k ∙ sym (meter_again w k)) ∙ e

  -- first in the bytes
  module _ (fits : n < 256 ^ length (field_in v b)) where
    abbrev c : List ℕ
    c = counted_block v b n

    c_field : field_in v c ≡ field_of f n
    c_field = counted_field m n small fits

    same_width : fits_in v c k ≡ fits_in v b k
    same_width = ap (λ (j : ℕ). ltb k (256 ^ j)) (ap length c_field ∙ field_length f n)

    c_twice : counted_block v c k ≡ counted_block v b k
    c_twice =
        ap (λ (p : ℕ). sets c p (field_of (field_in v c) k)) (counted_at m n small fits)
        ∙ ap (λ (x : List ℕ). sets c (field_at v b) x) (ap (λ (g : List ℕ). field_of g k) c_field ∙ field_again f n k)
        ∙ sets_twice b (field_at v b) (field_of f n) (field_of f k) (field_length f n ∙ sym (field_length f k))

    in_then : (t : Bool) → refuses t c ≡ 0 → (put t c ≡ put t b) × (refuses t b ≡ 0)
    in_then true e = (c_twice, refl)
    in_then false e = let w = counted_meter m n small fits in (same_put c w, same_refused c w e)

    in_again : lift_refusal v c k ≡ 0 → (lift_block v c k ≡ lift_block v b k) × (lift_refusal v b k ≡ 0)
    in_again e =
        let q = in_then (fits_in v b k) (subst (λ (t : Bool). refuses t c ≡ 0) same_width e) in
        (ap (λ (t : Bool). put t c) same_width ∙ q.0, q.1)

  -- first replaced
  module _ (wide : 256 ^ length (field_in v b) ≤ n) (taken : refusal_of v Off false (recounted v b n) ≡ 0) where
    abbrev d : List ℕ
    d = encode v Off (meter_of v user rating n)

    none : zero_at user ≡ length user
    none = no_zero_in m

    fine : refusal_of v Off false (meter_of v user rating n) ≡ 0
    fine = ap (refusal_of v Off false) (sym (meter_again m n)) ∙ taken

    d_field : field_in v d ≡ counter_bytes n
    d_field = encoded_field v user rating n none small fine

    not_in : fits_in v b k ≡ false
    not_in = le-ltb k (256 ^ length f) (omega arith)

    out_then : (t : Bool) → fits_in v d k ≡ t → refuses t d ≡ 0 → (put t d ≡ put false b) × (refuses false b ≡ 0)
    out_then true e h =
        let bytes = same_bytes_lem n k le small small' (subst (λ (s : List ℕ). k < 256 ^ length s) d_field (ltb-true _ _ e)) in
        let long : meter_len user n ≡ meter_len user k = omega (arith, ap length bytes, length_digits 256 (length (counter_bytes n)) k) in
        let block : counted_block v d k ≡ encode v Off (meter_of v user rating k) =
        ap (λ (p : ℕ). sets d p (field_of (field_in v d) k)) (encoded_at v user rating n none small fine)
        ∙ ap (λ (g : List ℕ). sets d (head_len v + (length user + 2)) (field_of g k)) d_field
        ∙ stored_frame v user rating n k bytes in (
          block ∙ ap (encode v Off) (sym (meter_again m k)),
          ap (refusal_of v Off false) (meter_again m k)
              ∙ adding_meter v user rating k none
              ∙ ap (too_long v) (sym long)
              ∙ sym (adding_meter v user rating n none)
              ∙ fine,
        )
    out_then false e h = let w = encoded_meter v user rating n none small fine in (same_put d w, same_refused d w h)

    out_again : lift_refusal v (encode v Off (recounted v b n)) k ≡ 0 → (lift_block v (encode v Off (recounted v b n)) k ≡ lift_block v b k) × (lift_refusal v b k ≡ 0)
    out_again e =
        let is : encode v Off (recounted v b n) ≡ d = ap (encode v Off) (meter_again m n) in
        let q = out_then (fits_in v d k) refl (subst (λ (s : List ℕ). lift_refusal v s k ≡ 0) is e) in
        (ap (λ (s : List ℕ). lift_block v s k) is ∙ q.0 ∙ ap (λ (t : Bool). put t b) (sym not_in), ap (λ (t : Bool). refuses t b) not_in ∙ q.1)

  pub lift_again : lift_refusal v b n ≡ 0 → lift_refusal v (lift_block v b n) k ≡ 0 → (lift_block v (lift_block v b n) k ≡ lift_block v b k) × (lift_refusal v b k ≡ 0)
  lift_again = by (fits_in v b n) refl
    where
      by : (t : Bool) → fits_in v b n ≡ t → pick t 0 (refusal_of v Off false (recounted v b n)) ≡ 0
          → lift_refusal v (pick t (counted_block v b n) (encode v Off (recounted v b n))) k ≡ 0
          → (lift_block v (pick t (counted_block v b n) (encode v Off (recounted v b n))) k ≡ lift_block v b k) × (lift_refusal v b k ≡ 0)
      by true e h g = in_again (ltb-true _ _ e) g
      by false e h g = out_again (ltb-false _ _ e) h g
