-- Laws of moving: what a store leaves as it was, and a move block by block, down and up. Assumes nothing.
use mathlib.Core.Path.{◌≡◌, refl, sym, ap, ◌∙◌, subst}
use mathlib.Core.Bool.{Bool, true, false}
use Prim.Native.Nat.{ℕ, ◌+◌, ◌-◌, ◌≤◌, ◌<◌}
use native.Mathlib.Omega.{arith}
use lib.Dec.{leb}
use borrow.Author.Tests.{leb-true, le-leb, lt-leb}
use mathlib.Core.List.{List, ◌++◌, append-nil}
use lib.ListN.{length, take, drop, replicate, length-replicate, length-take, length-drop, take-append-drop}
use lib.Seq.{slice, length-slice, slice_empty, sets, length-sets, drop-drop}
use borrow.Rule.Slice.PartMut.{put_mid, mid_of}
use Rattle.laws.proofs.Bools.{and_true}
use Rattle.laws.proofs.Slices.{slice_front}
use Rattle.laws.proofs.Cuts.{take_drop, cut_in_two}
use Rattle.laws.proofs.Stores.{Storing, same_list, same_buffer, same_place, part_written, puts, copy_begin, take_sets, drop_behind, sets_comm, sets_append, sets_in}
use Rattle.format.specs.Bytes.{pick, zeros}
use Rattle.moves.specs.Moves.{is_movable, shifted}

-- ---- parts

-- a part of two lists that are the same from its start on
slice_back : (at k : ℕ) (l m : List ℕ) → drop at l ≡ drop at m → slice at (at + k) l ≡ slice at (at + k) m
slice_back at k l m e = sym (take_drop k at l) ∙ ap (take k) e ∙ take_drop k at m

-- ---- down, block by block

-- s₀'s bytes from f up to `to` are to come to p, at or before f, and from f on they are as they were
module _ (s₀ : List ℕ) (f to : ℕ) (le : to ≤ length s₀) {p₀ p : ℕ} {l₀ s : List ℕ} (storing : Storing s₀ p₀ l₀ s p (slice f to s₀))
    (behind : drop f s ≡ drop f s₀) where
  down_step : (b : ℕ) → p ≤ f → f + b ≤ to → {s' : List ℕ} → s' ≡ sets s p (slice f (f + b) s)
      → Storing s₀ p₀ l₀ s' (p + b) (slice (f + b) to s₀) × (drop (f + b) s' ≡ drop (f + b) s₀)
  down_step b lt fits is =
      let part : List ℕ = slice f (f + b) s₀ in
      let long : length part ≡ b = length-slice f (f + b) s₀ (omega arith) ∙ omega arith in
      let e = is ∙ ap (sets s p) (slice_back f b s s₀ behind) in
      let stored = puts part (same_list (cut_in_two f b to s₀ fits) storing) in
      (same_buffer (sym e) (same_place (ap (λ (k : ℕ). p + k) long) stored), ap (drop (f + b)) e ∙ drop_behind (f + b) s p part (omega arith) ∙ later)
    where
      later : drop (f + b) s ≡ drop (f + b) s₀
      later = sym (drop-drop b f s) ∙ ap (drop b) behind ∙ drop-drop b f s₀

  down_end : (b : ℕ) → f + b ≡ to → {s' : List ℕ} → s' ≡ sets s p (slice f (f + b) s) → s' ≡ sets s₀ p₀ l₀
  down_end b ends is = is ∙ ap (sets s p) (slice_back f b s s₀ behind) ∙ ap (λ (k : ℕ). sets s p (slice f k s₀)) ends ∙ storing.same

-- the first k of n bytes are moved
pub record Down (s₀ : List ℕ) (from at n : ℕ) (s : List ℕ) (k : ℕ) : Type 0 where
  pub storing : Storing s₀ at (slice from (from + n) s₀) s (at + k) (slice (from + k) (from + n) s₀)
  pub behind : drop (from + k) s ≡ drop (from + k) s₀

module _ {s₀ : List ℕ} (from at n : ℕ) (down : at ≤ from) (le : from + n ≤ length s₀) where
  pub down_begin : Down s₀ from at n s₀ 0
  down_begin = record { storing = copy_begin s₀ from (from + n) at le s₀ (omega arith); behind = refl }

  module _ (k : ℕ) {s : List ℕ} (so : Down s₀ from at n s k) where
    pub down_turn : (b : ℕ) → k + b ≤ n → {s' : List ℕ} → s' ≡ sets s (at + k) (slice (from + k) (from + k + b) s) → Down s₀ from at n s' (k + b)
    down_turn b fits {s'} is =
        let e : from + k + b ≡ from + (k + b) = omega arith in
        let f : at + k + b ≡ at + (k + b) = omega arith in
        let step = down_step s₀ (from + k) (from + n) le so.storing so.behind b (omega arith) (omega arith) is in
        record {
          storing = same_place f (same_list (ap (λ (j : ℕ). slice j (from + n) s₀) e) step.0);
          behind = subst (λ (j : ℕ). drop j s' ≡ drop j s₀) e step.1;
        }

    pub down_done : (b : ℕ) → k + b ≡ n → {s' : List ℕ} → s' ≡ sets s (at + k) (slice (from + k) (from + k + b) s)
        → s' ≡ sets s₀ at (slice from (from + n) s₀)
    down_done b ends is = down_end s₀ (from + k) (from + n) le so.storing so.behind b (omega arith) is

-- ---- up, block by block

-- s₀'s bytes from f + b up to `to` stand b behind `at`: with the b bytes before them, those from f on stand at `at`
up_step : (s₀ : List ℕ) (f b to at : ℕ) → to ≤ length s₀ → f ≤ at → f + b ≤ to → {s s' : List ℕ} → s ≡ sets s₀ (at + b) (slice (f + b) to s₀)
    → s' ≡ sets s at (slice f (f + b) s) → s' ≡ sets s₀ at (slice f to s₀)
up_step s₀ f b to at le up fits {s} {s'} e is =
    is
    ∙ ap (sets s at) (slice_front (f + b) f (f + b) s s₀ front (omega arith))
    ∙ ap (λ (z : List ℕ). sets z at part) e
    ∙ sets_comm s₀ at (at + b) part rest (omega (arith, long))
    ∙ ap (λ (k : ℕ). sets (sets s₀ at part) (at + k) rest) (sym long)
    ∙ sym (sets_append s₀ at part rest)
    ∙ ap (sets s₀ at) (sym (cut_in_two f b to s₀ fits))
  where
    part : List ℕ
    part = slice f (f + b) s₀

    rest : List ℕ
    rest = slice (f + b) to s₀

    long : length part ≡ b
    long = length-slice f (f + b) s₀ (omega arith) ∙ omega arith

    front : take (f + b) s ≡ take (f + b) s₀
    front = ap (take (f + b)) e ∙ take_sets (f + b) s₀ (at + b) rest (omega arith)

-- all but the first `left` of n bytes are moved
pub record Up (s₀ : List ℕ) (from at n : ℕ) (s : List ℕ) (left : ℕ) : Type 0 where
  pub same : s ≡ sets s₀ (at + left) (slice (from + left) (from + n) s₀)
  pub long : length s ≡ length s₀

pub up_begin : (s₀ : List ℕ) (from at n : ℕ) → Up s₀ from at n s₀ n
up_begin s₀ from at n = record { same = sym (ap (sets s₀ (at + n)) (slice_empty (from + n) s₀)); long = refl }

module _ {s₀ : List ℕ} (from at n : ℕ) (up : from ≤ at) (le : at + n ≤ length s₀) (left : ℕ) {s : List ℕ} (so : Up s₀ from at n s left) where
  pub up_turn : (next b : ℕ) → next + b ≡ left → left ≤ n → {s' : List ℕ} → s' ≡ sets s (at + next) (slice (from + next) (from + next + b) s)
      → Up s₀ from at n s' next
  up_turn next b less h is =
      let e : from + left ≡ from + next + b = omega arith in
      let f : at + left ≡ at + next + b = omega arith in
      let g = so.same ∙ ap (λ (k : ℕ). sets s₀ k (slice (from + left) (from + n) s₀)) f in
      let there = g ∙ ap (λ (k : ℕ). sets s₀ (at + next + b) (slice k (from + n) s₀)) e in
      record {
        same = up_step s₀ (from + next) b (from + n) (at + next) (omega arith) (omega arith) (omega arith) there is;
        long = ap length is ∙ length-sets s (at + next) (slice (from + next) (from + next + b) s) ∙ so.long;
      }

  pub up_done : (b : ℕ) → b ≡ left → left ≤ n → {s' : List ℕ} → s' ≡ sets s at (slice from (from + b) s) → s' ≡ sets s₀ at (slice from (from + n) s₀)
  up_done b e h is =
      let f : from + b ≡ from + left = omega arith in
      up_step s₀ from left (from + n) at (omega arith) up (omega arith) so.same (is ∙ ap (λ (k : ℕ). sets s at (slice from k s)) f)

-- ---- the whole

module _ (s : List ℕ) (from to at : ℕ) where
  -- no such place: nothing moves
  pub stays : is_movable from to at s ≡ false → s ≡ shifted from to at s
  unfolding shifted
  stays e = rw e

  -- to where they are
  still : from ≤ to → to ≤ length s → sets s from (slice from to s) ≡ s
  still le there =
      let n = to - from in
      let ends : from + n ≡ to = omega arith in
      let part : take n (drop from s) ≡ slice from to s = take_drop n from s ∙ ap (λ (k : ℕ). slice from k s) ends in
      let long : length (slice from to s) ≡ n = length-slice from to s there in
      sets_in s from (slice from to s) (omega (arith, long))
      ∙ ap (λ (k : ℕ). take from s ++ (slice from to s ++ drop k (drop from s))) long
      ∙ ap (λ (l : List ℕ). take from s ++ (l ++ drop n (drop from s))) (sym part)
      ∙ ap (λ (l : List ℕ). take from s ++ l) (take-append-drop n (drop from s))
      ∙ take-append-drop from s

  pub stays_there : at ≡ from → s ≡ shifted from to at s
  unfolding shifted
  stays_there e = by (is_movable from to at s) refl
    where
      by : (t : Bool) → is_movable from to at s ≡ t → s ≡ pick t (sets s at (slice from to s ++ zeros (from - at))) s
      by false m = refl
      by true m =
          let p = and_true (leb from to) _ m in
          let q = and_true (leb to (length s)) _ p.1 in
          let none : from - at ≡ 0 = omega (arith, e) in
          rw (none, append-nil, e) (sym (still (leb-true from to p.0) (leb-true to (length s) q.0)))

  pub no_part : to < from → is_movable from to at s ≡ false
  no_part h = rw (lt-leb from to h)

  pub not_there : from ≤ to → length s < to → is_movable from to at s ≡ false
  not_there le h = rw (le-leb from to le, lt-leb to (length s) h)

  module _ (le : from ≤ to) (there : to ≤ length s) where
    pub no_room : length s - (to - from) < at → is_movable from to at s ≡ false
    no_room h = rw (le-leb from to le, le-leb to (length s) there, lt-leb (at + (to - from)) (length s) (omega arith))

    module _ (room : at ≤ length s - (to - from)) where
      moves : sets s at (slice from to s ++ zeros (from - at)) ≡ shifted from to at s
      unfolding shifted
      moves = rw (le-leb from to le, le-leb to (length s) there, le-leb (at + (to - from)) (length s) (omega arith))

      ends : from + (to - from) ≡ to
      ends = omega arith

      pub shifted_down : at < from → {m : List ℕ} → m ≡ sets s at (slice from (from + (to - from)) s) → {z : List ℕ}
          → z ≡ replicate (length (mid_of (at + (to - from)) (to - (at + (to - from))) m)) 0 → put_mid (at + (to - from)) (to - (at + (to - from))) m z ≡ shifted from to at s
      shifted_down h {m} part {z} freed =
          let bytes : List ℕ = slice from to s in
          let p : ℕ = at + (to - from) in
          let same : length m ≡ length s = ap length part ∙ length-sets s at (slice from (from + (to - from)) s) in
          let wide : length (mid_of p (to - p) m) ≡ from - at = rw (length-take, length-drop) (omega (arith, same)) in
          let free : z ≡ zeros (from - at) = freed ∙ ap zeros wide in
          let n : length (zeros (from - at)) ≡ from - at = length-replicate (from - at) 0 in
          let e : p ≡ at + length bytes = omega (arith, length-slice from to s there) in
          let f : to - p ≡ length (zeros (from - at)) = omega (arith, n) in
          rw free (part_written m p (to - p) (zeros (from - at)) f (omega (arith, same, n)))
          ∙ ap (λ (k : ℕ). sets m k (zeros (from - at))) e
          ∙ ap (λ (l : List ℕ). sets l (at + length bytes) (zeros (from - at))) (part ∙ ap (λ (k : ℕ). sets s at (slice from k s)) ends)
          ∙ sym (sets_append s at bytes (zeros (from - at)))
          ∙ moves

      pub shifted_up : from ≤ at → {s' : List ℕ} → s' ≡ sets s at (slice from (from + (to - from)) s) → s' ≡ shifted from to at s
      shifted_up h part =
          let none : 0 ≡ from - at = omega arith in
          part
          ∙ ap (λ (k : ℕ). sets s at (slice from k s)) ends
          ∙ ap (sets s at) (sym (append-nil (slice from to s)))
          ∙ ap (λ (k : ℕ). sets s at (slice from to s ++ zeros k)) none
          ∙ moves
