-- Bytes that are put one after another. Assumes nothing.
use mathlib.Core.Path.{◌≡◌, refl, ap, sym, ◌∙◌, subst}
use Prim.Native.Nat.{ℕ, suc, ◌+◌, ◌≤◌, ◌<◌}
use native.Mathlib.Numerals.{add-one}
use native.Mathlib.Omega.{arith}
use mathlib.Core.List.{List, [], ◌∷◌, ◌++◌}
use lib.ListN.{length, take, drop, get_or, length-append}
use lib.Seq.{sets, length-sets, split_at, take-suc, take_all}
use Rattle.laws.proofs.Stores.{sets_append}
use Rattle.lines.specs.Placed.{Room, Wrote}

-- nothing is put
pub none : (o : List ℕ) (p : ℕ) → Wrote o p [] o p
none o p = record { next = omega arith; bytes = refl }

module _ {o : List ℕ} {p : ℕ} {l o' : List ℕ} {q : ℕ} (w : Wrote o p l o' q) where
  -- the same bytes in other words
  pub in_words : {l' : List ℕ} → l ≡ l' → Wrote o p l' o' q
  in_words e = subst (λ (m : List ℕ). Wrote o p m o' q) e w

  -- more bytes after them
  pub andthen : {m o'' : List ℕ} {r : ℕ} → Wrote o' q m o'' r → Wrote o p (l ++ m) o'' r
  andthen {m} v = record {
    next = omega (arith, w.next, v.next, length-append l m);
    bytes = v.bytes
        ∙ ap (λ (s : List ℕ). sets s q m) w.bytes
        ∙ ap (λ (k : ℕ). sets (sets o p l) k m) w.next
        ∙ sym (sets_append o p l m);
  }

  -- the buffer keeps its length
  pub same : length o' ≡ length o
  same = ap length w.bytes ∙ length-sets o p l

  -- what had room has it still
  pub room_left : {m : List ℕ} → Room p (l ++ m) → Room q m
  room_left {m} h = record { below = omega (arith, w.next, h.below, length-append l m) }

pub front : {p : ℕ} (l m : List ℕ) → Room p (l ++ m) → Room p l
front l m h = record { below = omega (arith, h.below, length-append l m) }

-- ---- a loop that puts what each byte of a list gives

module _ (g : List ℕ → List ℕ) (empty : g [] ≡ []) (joins : (a b : List ℕ) → g (a ++ b) ≡ g a ++ g b) (s : List ℕ) where
  pub begin : (o : List ℕ) (p : ℕ) → Wrote o p (g (take 0 s)) o p
  begin o p = in_words (none o p) (sym empty)

  module _ {o : List ℕ} {p i : ℕ} {o' : List ℕ} {q : ℕ} (w : Wrote o p (g (take i s)) o' q) (h : i < length s) where
    apart : g s ≡ g (take i s) ++ (g (get_or s i 0 ∷ []) ++ g (drop (suc i) s))
    apart =
        ap g (split_at s i 0 h)
        ∙ joins (take i s) (get_or s i 0 ∷ drop (suc i) s)
        ∙ ap (λ (l : List ℕ). g (take i s) ++ l) (joins (get_or s i 0 ∷ []) (drop (suc i) s))

    pub room : Room p (g s) → Room q (g (get_or s i 0 ∷ []))
    room k = front _ _ (room_left w (subst (λ (l : List ℕ). Room p l) apart k))

    pub turn : {o'' : List ℕ} {r : ℕ} → Wrote o' q (g (get_or s i 0 ∷ [])) o'' r → Wrote o p (g (take (i + 1) s)) o'' r
    turn v =
        let e : take (i + 1) s ≡ take i s ++ (get_or s i 0 ∷ []) = rw (add-one, take-suc s i 0) in
        in_words (andthen w v) (sym (ap g e ∙ joins (take i s) (get_or s i 0 ∷ [])))

  pub done : {o : List ℕ} {p i : ℕ} {o' : List ℕ} {q : ℕ} → length s ≤ i → Wrote o p (g (take i s)) o' q → Wrote o p (g s) o' q
  done h w = in_words w (ap g (take_all _ s h))
