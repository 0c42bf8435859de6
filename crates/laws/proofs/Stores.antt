-- Laws of stores, and of loops that store a list piece by piece: what is left to store, stored from here on, gives what the whole gives. Assumes nothing.
use mathlib.Core.Path.{◌≡◌, refl, sym, ap, ◌∙◌, subst}
use Prim.Native.Nat.{ℕ, suc, ◌+◌, ◌-◌, ◌≤◌, ◌<◌}
use native.Mathlib.Numerals.{add-one}
use native.Mathlib.Omega.{arith}
use mathlib.Core.List.{List, [], ◌∷◌, ◌++◌, append_assoc}
use borrow.Rule.Slice.PartMut.{put_mid}
use Rattle.std.specs.List.{between}
use Rattle.std.proofs.lemmas.Slice.{between_is}
use Rattle.std.proofs.lemmas.List.Edits.{length-between}
use lib.ListN.{length, set, take, drop, length-set, length-append}
use lib.Seq.{slice, length-slice, sets, sets-eq, length-sets, length-take-le, take_at, drop_at, drop-drop, take-set-le, drop-set-lt, set-set, set_comm}

-- ---- a list that is stored

-- two lists, one after the other
pub sets_append : (o : List ℕ) (p : ℕ) (l m : List ℕ) → sets o p (l ++ m) ≡ sets (sets o p l) (p + length l) m
sets_append o p [] m = let e : p ≡ p + 0 = omega arith in ap (λ (k : ℕ). sets o k m) e
sets_append o p (x ∷ l) m =
    let e : suc p + length l ≡ p + suc (length l) = omega arith in
    sets_append (set o p x) (suc p) l m ∙ ap (λ (k : ℕ). sets (sets (set o p x) (suc p) l) k m) e

-- what lies before it stays
pub take_sets : (n : ℕ) (o : List ℕ) (p : ℕ) (l : List ℕ) → n ≤ p → take n (sets o p l) ≡ take n o
take_sets n o p [] h = refl
take_sets n o p (x ∷ l) h = take_sets n (set o p x) (suc p) l (omega arith) ∙ take-set-le n o p x h

-- what lies behind it stays
pub drop_behind : (n : ℕ) (o : List ℕ) (p : ℕ) (l : List ℕ) → p + length l ≤ n → drop n (sets o p l) ≡ drop n o
drop_behind n o p [] h = refl
drop_behind n o p (x ∷ l) h = drop_behind n (set o p x) (suc p) l (omega arith) ∙ drop-set-lt n o p x (omega arith)

-- what lies before it, then the part that starts there with the list at its front
pub sets_in : (o : List ℕ) (p : ℕ) (l : List ℕ) → p + length l ≤ length o → sets o p l ≡ take p o ++ (l ++ drop (length l) (drop p o))
sets_in o p l h =
    sets-eq l o p h
    ∙ append_assoc (take p o) l (drop (p + length l) o)
    ∙ ap (λ (m : List ℕ). take p o ++ (l ++ m)) (sym (drop-drop (length l) p o))

-- a part of a buffer, written anew
pub part_written : (o : List ℕ) (p n : ℕ) (l : List ℕ) → n ≡ length l → p + length l ≤ length o → put_mid p n o l ≡ sets o p l
part_written o p n l e h = ap (λ (k : ℕ). put_mid p k o l) e ∙ sym (sets_in o p l h)

-- the same, where the part is a copy of s[from..to]
pub part_copied : (o s : List ℕ) (from to p n : ℕ) → n ≡ to - from → to ≤ length s → p + n ≤ length o → {l : List ℕ} → l ≡ between from to s
    → put_mid p n o l ≡ sets o p (slice from to s)
part_copied o s from to p n e le room {l} is =
    let long : length l ≡ n = ap length is ∙ length-between s from to le ∙ sym e in
    part_written o p n l (sym long) (omega (arith, long)) ∙ ap (sets o p) (is ∙ between_is s from to)

-- the same, by way of the front of another list
pub by_way : (o s z : List ℕ) (from to p n k : ℕ) → k ≡ n → n ≡ to - from → to ≤ length s → p + n ≤ length o → {a b : List ℕ}
    → a ≡ between from to s → b ≡ take n (put_mid 0 n z a) → put_mid p k o b ≡ sets o p (slice from to s)
by_way o s z from to p n k same e le room {a} {b} ea eb =
    let long : length a ≡ n = ap length ea ∙ length-between s from to le ∙ sym e in
    part_copied o s from to p k (omega arith) le (omega arith) (eb ∙ take_at a (drop n z) n long ∙ ea)

-- an element before it is stored first or last
pub set_sets : (o : List ℕ) (p q x : ℕ) (l : List ℕ) → p < q → set (sets o q l) p x ≡ sets (set o p x) q l
set_sets o p q x [] h = refl
set_sets o p q x (y ∷ l) h =
    let apart : q ≡ p → ⊥ = λ e. omega (arith, e) in
    set_sets (set o q y) p (suc q) x l (omega arith) ∙ ap (λ (m : List ℕ). sets m (suc q) l) (set_comm o q p y x apart)

-- lists that are stored one behind the other are stored in any order
pub sets_comm : (o : List ℕ) (p q : ℕ) (l m : List ℕ) → p + length l ≤ q → sets (sets o q m) p l ≡ sets (sets o p l) q m
sets_comm o p q [] m h = refl
sets_comm o p q (x ∷ l) m h =
    ap (λ (k : List ℕ). sets k (suc p) l) (set_sets o p q x m (omega arith)) ∙ sets_comm (set o p x) (suc p) q l m (omega arith)

-- it is a part of the whole then
pub slice_sets : (o : List ℕ) (p : ℕ) (l : List ℕ) → p + length l ≤ length o → slice p (p + length l) (sets o p l) ≡ l
slice_sets o p l h =
    let e : length (take p o) ≡ p = length-take-le p o (omega arith) in
    let f : length (take p o ++ l) ≡ p + length l = length-append (take p o) l ∙ ap (λ (k : ℕ). k + length l) e in
    ap (λ (m : List ℕ). slice p (p + length l) m) (sets-eq l o p h)
    ∙ ap (drop p) (take_at (take p o ++ l) (drop (p + length l) o) (p + length l) f)
    ∙ drop_at (take p o) l p e

-- n elements, copied to the front of another list
pub slice_copy : (s z copy : List ℕ) (from to n : ℕ) → to ≤ length s → to ≡ from + n → n ≤ length z → copy ≡ sets z 0 (slice from to s)
    → slice 0 n copy ≡ slice from to s
slice_copy s z copy from to n le e room is =
    let l : List ℕ = slice from to s in
    let m : n ≡ 0 + length l = omega (arith, length-slice from to s le) in
    ap (λ (k : ℕ). slice 0 k copy) m ∙ ap (slice 0 (0 + length l)) is ∙ slice_sets z 0 l (omega arith)

-- ---- a loop that stores

-- o₀ was to take l₀ from p₀ on; o has still to take l from p on
pub record Storing (o₀ : List ℕ) (p₀ : ℕ) (l₀ o : List ℕ) (p : ℕ) (l : List ℕ) : Type 0 where
  pub same : sets o p l ≡ sets o₀ p₀ l₀
  pub ends : p + length l ≡ p₀ + length l₀
  pub long : length o ≡ length o₀
  pub room : p₀ + length l₀ ≤ length o₀

pub begin : (o : List ℕ) (p : ℕ) (l : List ℕ) → p + length l ≤ length o → Storing o p l o p l
begin o p l h = record { same = refl; ends = refl; long = refl; room = h }

-- the same list, the same buffer, the same place in other words
module _ {o₀ : List ℕ} {p₀ : ℕ} {l₀ : List ℕ} where
  pub same_list : {o : List ℕ} {p : ℕ} {l l' : List ℕ} → l ≡ l' → Storing o₀ p₀ l₀ o p l → Storing o₀ p₀ l₀ o p l'
  same_list {o} {p} e s = subst (λ (m : List ℕ). Storing o₀ p₀ l₀ o p m) e s

  pub same_buffer : {o o' : List ℕ} {p : ℕ} {l : List ℕ} → o ≡ o' → Storing o₀ p₀ l₀ o p l → Storing o₀ p₀ l₀ o' p l
  same_buffer {p} {l} e s = subst (λ (m : List ℕ). Storing o₀ p₀ l₀ m p l) e s

  pub same_place : {o : List ℕ} {p p' : ℕ} {l : List ℕ} → p ≡ p' → Storing o₀ p₀ l₀ o p l → Storing o₀ p₀ l₀ o p' l
  same_place {o} {l} e s = subst (λ (k : ℕ). Storing o₀ p₀ l₀ o k l) e s

module _ {o₀ : List ℕ} {p₀ : ℕ} {l₀ o : List ℕ} {p : ℕ} where
  -- what is left has its place
  pub lies : {l : List ℕ} → Storing o₀ p₀ l₀ o p l → p + length l ≤ length o
  lies s = omega (arith, s.ends, s.long, s.room)

  -- a byte is stored, or a piece
  pub put : {x : ℕ} {l : List ℕ} → Storing o₀ p₀ l₀ o p (x ∷ l) → Storing o₀ p₀ l₀ (set o p x) (p + 1) l
  put {x} {l} s = record {
    same = ap (λ (k : ℕ). sets (set o p x) k l) (add-one p) ∙ s.same;
    ends = omega (arith, s.ends);
    long = length-set o p x ∙ s.long;
    room = s.room;
  }

  pub puts : (m : List ℕ) {l : List ℕ} → Storing o₀ p₀ l₀ o p (m ++ l) → Storing o₀ p₀ l₀ (sets o p m) (p + length m) l
  puts m {l} s = record {
    same = sym (sets_append o p m l) ∙ s.same;
    ends = omega (arith, s.ends, length-append m l);
    long = length-sets o p m ∙ s.long;
    room = s.room;
  }

  -- a byte over another, at one place
  pub over : {x : ℕ} {l : List ℕ} (y : ℕ) → Storing o₀ p₀ l₀ o p (x ∷ l) → Storing o₀ p₀ l₀ (set (set o p y) p x) (p + 1) l
  over {x} y s = same_buffer (sym (set-set o p y x)) (put s)

  -- what is left is stored at once: the place after the whole, and the buffer with it
  pub rest : {l : List ℕ} → Storing o₀ p₀ l₀ o p l → ◌≡◌ {A = ℕ × List ℕ} (p + length l, sets o p l) (p₀ + length l₀, sets o₀ p₀ l₀)
  rest s = λ i. (s.ends i, s.same i)

  -- nothing is left: the place after the whole, and the buffer with it
  pub done : {l : List ℕ} → l ≡ [] → Storing o₀ p₀ l₀ o p l → ◌≡◌ {A = ℕ × List ℕ} (p, o) (p₀ + length l₀, sets o₀ p₀ l₀)
  done e s =
      let t : Storing o₀ p₀ l₀ o p [] = same_list e s in
      let f : p ≡ p₀ + length l₀ = omega (arith, t.ends) in
      λ i. (f i, t.same i)

-- ---- a loop that copies s[from..to] to the place p, before its first turn

module _ (s : List ℕ) (from to p : ℕ) (le : to ≤ length s) where
  pub copy_begin : (o : List ℕ) → p + (to - from) ≤ length o → Storing o p (slice from to s) o (p + 0) (slice (from + 0) to s)
  copy_begin o h =
      let e : from ≡ from + 0 = omega arith in
      let f : p ≡ p + 0 = omega arith in
      same_place f (same_list (ap (λ (k : ℕ). slice k to s) e) (begin o p (slice from to s) (omega (arith, length-slice from to s le))))

-- ---- the next byte, and nothing more

module _ {o₀ : List ℕ} {p₀ : ℕ} {l₀ o : List ℕ} {p : ℕ} where
  -- the next byte has its place
  pub next_lies : {x : ℕ} {l : List ℕ} → Storing o₀ p₀ l₀ o p (x ∷ l) → p < length o
  next_lies s = omega (arith, s.ends, s.long, s.room)

  -- nothing is left: the place and the buffer, each by itself
  pub all_done : Storing o₀ p₀ l₀ o p [] → (p ≡ p₀ + length l₀) × (o ≡ sets o₀ p₀ l₀)
  all_done s = (omega (arith, s.ends), s.same)
