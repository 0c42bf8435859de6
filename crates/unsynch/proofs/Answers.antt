-- What is answered and left in the buffers, from what fits and what is stored. Assumes nothing.
use mathlib.Core.Path.{◌≡◌, refl, sym, ap, ◌∙◌}
use Prim.Native.Nat.{ℕ, suc, ◌+◌, ◌-◌, ◌≤◌, ◌<◌, min}
use native.Mathlib.Numerals.{add-one}
use native.Mathlib.Omega.{arith}
use mathlib.Core.Bool.{Bool, true, false}
use mathlib.Core.List.{List, [], ◌∷◌, ◌++◌}
use lib.ListN.{length, set, take, drop, length-drop, take-append-drop}
use lib.Seq.{sets}
use lib.Dec.{leb, ltb}
use borrow.Author.Tests.{leb-true, leb-false, ltb-true, ltb-false, lt-ltb, le-ltb}
use Rattle.std.specs.Prelude.{Ok, Err}
use Rattle.format.specs.Bytes.{pick}
use Rattle.format.specs.Refusals.{refusal}
use Rattle.format.specs.declared.refusals.Refusal.{Refusal}
use Rattle.laws.proofs.Slices.{take_cut, drop_cut}
use Rattle.laws.proofs.Results.{ok_not_err, err_not_ok}
use Rattle.laws.proofs.Stores.{sets_in, set_sets}
use Rattle.unsynch.specs.Puts.{Out, put_of, into_of, put_count}
use Rattle.unsynch.specs.Edits.{stored}

-- u at place at of a buffer o
module _ (k : ℕ) (u : List ℕ) (at : ℕ) (o : List ℕ) where
  refused : length o < at + length u → ◌≡◌ {A = Out} (Err (refusal k), o) (put_of k u at o)
  refused h = rw (lt-ltb (length o) (at + length u) h)

  pub refused_place : length o < at → ◌≡◌ {A = Out} (Err (refusal k), o) (put_of k u at o)
  refused_place h = refused (omega arith)

  module _ (within : at ≤ length o) where
    pub put_none : u ≡ [] → ◌≡◌ {A = Out} (Ok 0, o) (put_of k u at o)
    put_none e =
        let z : at + length u ≤ length o = omega (arith, ap length e) in
        rw (le-ltb (length o) (at + length u) z) (sym (ap {B = Out} (λ (v : List ℕ). (Ok (length v), sets o at v)) e))

    -- f says whether u, in other words v, fits
    module _ (v : List ℕ) (e : v ≡ u) (f : Bool) (is : f ≡ leb (length v) (length o - at)) where
      pub put_fits : f ≡ true → at + length v ≤ length o
      put_fits t = omega (arith, leb-true (length v) (length o - at) (sym is ∙ t))

      pub put_refused : f ≡ false → ◌≡◌ {A = Out} (Err (refusal k), o) (put_of k u at o)
      put_refused t = refused (omega (arith, leb-false (length v) (length o - at) (sym is ∙ t), ap length e))

      pub put_all : f ≡ true → (r : ℕ) (o' : List ℕ) → ◌≡◌ {A = ℕ × List ℕ} (r, o') (stored v at o)
          → (at ≤ r) × ◌≡◌ {A = Out} (Ok (r - at), o') (put_of k u at o)
      put_all t r o' is' =
          let n : r ≡ at + length v = ap (λ (z : ℕ × List ℕ). z.0) is' in
          let long : at + length v ≤ length o = put_fits t in
          let g : r - at ≡ length v = omega arith in (
            omega arith,
            ap {B = Out} (λ (m : ℕ). (Ok m, o')) g
                ∙ ap {B = Out} (λ (z : ℕ × List ℕ). (Ok (length v), z.1)) is'
                ∙ sym (ap {B = Out} (λ (b : Bool). pick b (Err (refusal k), o) (Ok (length v), sets o at v)) (le-ltb (length o) (at + length v) long))
                ∙ ap (λ (w : List ℕ). put_of k w at o) e,
          )

-- a 00, then u: u was put after it, with an answer and the buffer o'
module _ (k : ℕ) (u : List ℕ) (at : ℕ) (o : List ℕ) where
  pub led_place : length o ≤ at → ◌≡◌ {A = Out} (Err (refusal k), o) (put_of k (0 ∷ u) at o)
  led_place h = rw (lt-ltb (length o) (at + suc (length u)) (omega arith))

  same_end : at + suc (length u) ≡ at + 1 + length u
  same_end = omega arith

  pub led_refused : (e : Refusal) (o' : List ℕ) → ◌≡◌ {A = Out} (Err e, o') (put_of k u (at + 1) o)
      → ◌≡◌ {A = Out} (Err e, o') (put_of k (0 ∷ u) at o)
  led_refused e o' = rw same_end (by_room (ltb (length o) (at + 1 + length u)))
    where
      by_room : (t : Bool) → ◌≡◌ {A = Out} (Err e, o') (pick t (Err (refusal k), o) (Ok (length u), sets o (at + 1) u))
          → ◌≡◌ {A = Out} (Err e, o') (pick t (Err (refusal k), o) (Ok (suc (length u)), sets o at (0 ∷ u)))
      by_room true h = h
      by_room false h = err_not_ok (ap (λ (z : Out). z.0) h)

  pub led_put : (n : ℕ) (o' : List ℕ) → ◌≡◌ {A = Out} (Ok n, o') (put_of k u (at + 1) o)
      → (n ≡ length u) × (at + 1 + length u ≤ length o) × ◌≡◌ {A = Out} (Ok (n + 1), set o' at 0) (put_of k (0 ∷ u) at o)
  led_put n o' = rw same_end (by_room (ltb (length o) (at + 1 + length u)) refl)
    where
      by_room : (t : Bool) → ltb (length o) (at + 1 + length u) ≡ t
          → ◌≡◌ {A = Out} (Ok n, o') (pick t (Err (refusal k), o) (Ok (length u), sets o (at + 1) u))
          → (n ≡ length u) × (at + 1 + length u ≤ length o)
          × ◌≡◌ {A = Out} (Ok (n + 1), set o' at 0) (pick t (Err (refusal k), o) (Ok (suc (length u)), sets o at (0 ∷ u)))
      by_room true h e = ok_not_err (ap (λ (z : Out). z.0) e)
      by_room false h e =
          let is : n ≡ length u = ap (λ (z : Out). put_count z.0) e in
          let m : n + 1 ≡ suc (length u) = omega arith in
          let f : set o' at 0 ≡ sets o at (0 ∷ u) =
          ap (λ (z : Out). set z.1 at 0) e ∙ set_sets o at (at + 1) 0 u (omega arith) ∙ ap (λ (q : ℕ). sets (set o at 0) q u) (add-one at) in
          (is, ltb-false (length o) (at + 1 + length u) h, λ i. (Ok (m i), f i))

-- a room that starts at place mid of an area: what lies before it stays
pub in_room : (u : List ℕ) (split mid : ℕ) (a : List ℕ) → mid ≡ min split (length a)
    → put_of 14 u mid a ≡ (let o = into_of u (drop split a) in (o.0, take split a ++ o.1))
in_room u split mid a e =
    let front : take mid a ≡ take split a = ap (λ (k : ℕ). take k a) e ∙ take_cut split a in
    let back : drop mid a ≡ drop split a = ap (λ (k : ℕ). drop k a) e ∙ drop_cut split a in
    by_room (ltb (length a) (mid + length u)) refl
    ∙ ap {B = Out} (λ (l : List ℕ). let o = into_of u (drop mid a) in (o.0, l ++ o.1)) front
    ∙ ap {B = Out} (λ (l : List ℕ). let o = into_of u l in (o.0, take split a ++ o.1)) back
  where
    within : mid ≤ length a
    within = omega arith

    by_room : (t : Bool) → ltb (length a) (mid + length u) ≡ t → put_of 14 u mid a ≡ (let o = into_of u (drop mid a) in (o.0, take mid a ++ o.1))
    by_room true t =
        let h : length (drop mid a) < length u = omega (arith, ltb-true (length a) (mid + length u) t, length-drop mid a) in
        rw (t, lt-ltb _ _ h) (ap {B = Out} (λ (l : List ℕ). (Err (refusal 14), l)) (sym (take-append-drop mid a)))
    by_room false t =
        let f : mid + length u ≤ length a = ltb-false _ _ t in
        let h : length u ≤ length (drop mid a) = omega (arith, length-drop mid a, within) in
        rw (t, le-ltb _ _ h) (ap {B = Out} (λ (l : List ℕ). (Ok (length u), l)) (sets_in a mid u f))
