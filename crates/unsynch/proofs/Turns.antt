-- One turn of the loops that store: x is the byte, after which l is left. Assumes nothing.
use mathlib.Core.Path.{◌≡◌, refl, sym, ap, ◌∙◌}
use Prim.Native.Nat.{ℕ, suc, ◌+◌, ◌-◌, ◌≤◌, ◌<◌}
use native.Mathlib.Omega.{arith}
use mathlib.Core.Bool.{Bool, true, false, cond, not, ◌&&◌, ◌||◌}
use mathlib.Core.List.{List, ◌∷◌}
use lib.ListN.{length, get_or, take, set, length-set, length-append}
use lib.Dec.{eqb, ltb}
use lib.Seq.{slice, length-slice, sets, set-set}
use Rattle.laws.proofs.Stores.{take_sets, Storing, begin, lies, same_list, same_buffer, same_place, put, puts, over}
use Rattle.format.specs.Bytes.{pick}
use Rattle.unsynch.specs.declared.loops.How.{How}
use Rattle.unsynch.specs.Edits.{resync_by, edited, edited_after, hits_after, stored}
use Rattle.unsynch.proofs.Edits.{plain_first, parted, left_alone, same_front, stays, next_stays, comes, above, guard_by}

-- a byte that lies where the next one will be stored does not matter
under : {o₀ : List ℕ} {p₀ : ℕ} {l₀ o : List ℕ} {p y : ℕ} {l : List ℕ} (x : ℕ) → Storing o₀ p₀ l₀ o p (y ∷ l) → Storing o₀ p₀ l₀ (set o p x) p (y ∷ l)
under {o} {p} {y} {l} x s = record {
  same = ap (λ (z : List ℕ). sets z (suc p) l) (set-set o p x y) ∙ s.same;
  ends = s.ends;
  long = length-set o p x ∙ s.long;
  room = s.room;
}

module _ {o₀ : List ℕ} {p₀ : ℕ} {l₀ o : List ℕ} {p : ℕ} {m : List ℕ} (s : Storing o₀ p₀ l₀ o p m) (x : ℕ) (l : List ℕ) where
  -- the byte is stored: it stays, as f says, or it goes, and the next one will take its place
  pub drop_turn : (f : Bool) (q y : ℕ) (k : List ℕ) → m ≡ pick f (x ∷ l) l → (f ≡ false → l ≡ y ∷ k) → q ≡ p + cond f 1 0
      → (p < length o) × Storing o₀ p₀ l₀ (set o p x) q l
  drop_turn true q y k e next is = (omega (arith, lies (same_list e s)), same_place (sym is) (put (same_list e s)))
  drop_turn false q y k e next is =
      let z : p ≡ q = omega arith in
      let u = same_list (e ∙ next refl) s in
      (omega (arith, lies u), same_place z (same_list (sym (next refl)) (under x u)))

  -- a 00 is stored, and the byte after it, where f says that it is concerned; or the byte over it
  pub insert_turn : (f : Bool) (q : ℕ) → m ≡ pick f (0 ∷ x ∷ l) (x ∷ l) → q ≡ p + cond f 1 0
      → (p ≤ q) × (q < length o) × Storing o₀ p₀ l₀ (set (set o p 0) q x) (q + 1) l
  insert_turn true q e is = (
    omega arith,
    omega (arith, lies (same_list e s)),
    same_buffer (ap (λ (k : ℕ). set (set o p 0) k x) (sym is)) (same_place (ap (λ (k : ℕ). k + 1) (sym is)) (put (put (same_list e s)))),
  )
  insert_turn false q e is =
      let z : p ≡ q = omega arith in
      (omega arith, omega (arith, lies (same_list e s)), same_buffer (ap (λ (k : ℕ). set (set o p 0) k x) z) (same_place (ap (λ (k : ℕ). k + 1) z) (over 0 (same_list e s))))

-- a byte in the loop that resynchronises: f says that it stays
pub drop_byte : (s : List ℕ) (i to : ℕ) → i + 2 < to → to ≤ length s → {o₀ : List ℕ} {p₀ : ℕ} {l₀ o : List ℕ} {p : ℕ}
    → Storing o₀ p₀ l₀ o p (edited_after resync_by s i to)
    → (f : Bool) (q : ℕ) → f ≡ not (eqb (get_or s i 0) 255 && eqb (get_or s (i + 1) 0) 0) → q ≡ p + cond f 1 0
    → (p < length o) × Storing o₀ p₀ l₀ (set o p (get_or s (i + 1) 0)) q (edited_after resync_by s (i + 1) to)
drop_byte s i to lt le t f q e is =
    drop_turn t (get_or s (i + 1) 0) (edited_after resync_by s (i + 1) to) f q _ _ (stays s i to (omega arith) le f e) (λ z. next_stays s i to lt le (sym e ∙ z)) is

-- a byte in the loop that inserts: f says that it gets a 00 before it
pub insert_byte : (high : Bool) (top : ℕ) → top ≡ pick high 0xDF 0xFF → (s : List ℕ) (i to : ℕ) → i + 1 < to → to ≤ length s → get_or s (i + 1) 0 ≤ 255
    → {o₀ : List ℕ} {p₀ : ℕ} {l₀ o : List ℕ} {p : ℕ} → Storing o₀ p₀ l₀ o p (edited_after (guard_by top) s i to)
    → (f : Bool) (q : ℕ) → f ≡ (eqb (get_or s i 0) 255 && (eqb (get_or s (i + 1) 0) 0 || ltb top (get_or s (i + 1) 0))) → q ≡ p + cond f 1 0
    → (p ≤ q) × (q < length o) × Storing o₀ p₀ l₀ (set (set o p 0) q (get_or s (i + 1) 0)) (q + 1) (edited_after (guard_by top) s (i + 1) to)
insert_byte high top t s i to lt le byte storing f q e is =
    let x : ℕ = get_or s (i + 1) 0 in
    let h = e ∙ ap (λ (g : Bool). eqb (get_or s i 0) 255 && g) (above high top t x byte) in
    insert_turn storing x (edited_after (guard_by top) s (i + 1) to) f q (comes (guard_by top) s i to lt le f h refl) is

-- what the edit makes of the bytes after place i, up to place m, is stored by another function
module _ (how : How) (s : List ℕ) (i m to : ℕ) (after : i ≤ m) (lt : m < to) (le : to ≤ length s) where
  pub piece : {o₀ : List ℕ} {p₀ : ℕ} {l₀ o : List ℕ} {p : ℕ} → Storing o₀ p₀ l₀ o p (edited_after how s i to)
      → (p + length (edited_after how s i (m + 1)) ≤ length o)
      × ((r : ℕ) (o' : List ℕ) → ◌≡◌ {A = ℕ × List ℕ} (r, o') (stored (edited_after how s i (m + 1)) p o) → (p ≤ r) × Storing o₀ p₀ l₀ o' r (edited_after how s m to))
  piece {o} {p} t =
      let l : List ℕ = edited_after how s i (m + 1) in
      let u = same_list (parted how s (m - i) i m to (omega arith) lt le) t in (
        omega (arith, lies u, length-append l (edited_after how s m to)),
        λ r o' e.
            let f : r ≡ p + length l = ap (λ (z : ℕ × List ℕ). z.0) e in
            (omega arith, same_place (sym f) (same_buffer (sym (ap (λ (z : ℕ × List ℕ). z.1) e)) (puts l u))),
      )

  -- the same after place n of the area that is edited
  module _ (n : ℕ) (before : to ≤ n) {o₀ : List ℕ} {p₀ : ℕ} {l₀ o : List ℕ} {p : ℕ} (fits : n ≤ length s) (behind : n ≤ p) where
    pub piece_in : length o ≡ length s → take n o ≡ take n s → Storing o₀ p₀ l₀ o p (edited_after how s i to)
        → (p + length (edited_after how o i (m + 1)) ≤ length o)
        × ((r : ℕ) (o' : List ℕ) → ◌≡◌ {A = ℕ × List ℕ} (r, o') (stored (edited_after how o i (m + 1)) p o)
        → (p ≤ r) × (take n o' ≡ take n s) × Storing o₀ p₀ l₀ o' r (edited_after how s m to))
    piece_in long e t =
        let f : edited_after how o i (m + 1) ≡ edited_after how s i (m + 1) = same_front how o s i (m + 1) n (omega arith) (omega arith) (omega arith) fits e in
        let u = piece t in (
          omega (arith, u.0, ap length f),
          λ r o' g.
              let v = u.1 r o' (g ∙ ap (λ (l : List ℕ). stored l p o) f) in
              (v.0, ap (λ (z : ℕ × List ℕ). take n z.1) g ∙ take_sets n o p (edited_after how o i (m + 1)) behind ∙ e, v.1),
        )

-- n bytes that the edit leaves alone are copied
module _ (how : How) (s : List ℕ) (i n to : ℕ) (lt : i + n < to) (le : to ≤ length s) (alone : hits_after how s i (i + n + 1) ≡ 0) where
  pub block : {o₀ : List ℕ} {p₀ : ℕ} {l₀ o : List ℕ} {p : ℕ} → Storing o₀ p₀ l₀ o p (edited_after how s i to)
      → (p + n ≤ length o)
      × ((r : ℕ) (o' : List ℕ) → ◌≡◌ {A = ℕ × List ℕ} (r, o') (stored (slice (i + 1) (i + n + 1) s) p o) → Storing o₀ p₀ l₀ o' r (edited_after how s (i + n) to))
  block {o} {p} t =
      let same = left_alone how s i (i + n + 1) alone in
      let u = piece how s i (i + n) to (omega arith) lt le t in
      (omega (arith, u.0, ap length same, length-slice (i + 1) (i + n + 1) s (omega arith)), λ r o' g. (u.1 r o' (g ∙ sym (ap (λ (l : List ℕ). stored l p o) same))).1)

-- the first byte stays as it is, where the byte before it was not FF
pub first_stored : (how : How) (s : List ℕ) (from to at : ℕ) (o : List ℕ) → from < to → to ≤ length s → at + length (edited how false (slice from to s)) ≤ length o
    → (at < length o) × Storing o at (edited how false (slice from to s)) (set o at (get_or s from 0)) (at + 1) (edited_after how s from to)
first_stored how s from to at o lt le room =
    let t = same_list (plain_first how s from to lt le) (begin o at (edited how false (slice from to s)) room) in
    (omega (arith, lies t), put t)
