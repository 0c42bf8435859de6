-- Laws of edits. Assumes nothing.
use mathlib.Core.Path.{◌≡◌, refl, sym, ap, ◌∙◌, subst}
use Prim.Native.Nat.{ℕ, zero, suc, ◌+◌, ◌-◌, ◌≤◌, ◌<◌}
use native.Mathlib.Omega.{arith}
use mathlib.Core.Bool.{Bool, true, false, cond, not, ◌&&◌, ◌||◌, or-false, or_assoc}
use mathlib.Core.List.{List, [], ◌∷◌, ◌++◌}
use mir.Val.{bool_byte}
use Rattle.std.specs.List.{fold}
use lib.ListN.{length, take, get_or}
use lib.Seq.{slice, length-slice, sets, length-sets}
use lib.Dec.{eqb, leb, ltb}
use borrow.Author.Tests.{eqb-true, not-false, le-ltb}
use Rattle.laws.proofs.Bools.{or_false as both_false, false_not_true, and_true, and_false}
use Rattle.laws.proofs.Slices.{slice_none, slice_next, slice_front}
use Rattle.laws.proofs.Stores.{slice_copy}
use Rattle.format.specs.Bytes.{pick, only_if}
use Rattle.format.specs.Unsynch.{is_on, resync, guards, unsync}
use Rattle.format.specs.declared.Mode.{Mode}
use Rattle.format.specs.declared.Mode.TheVariants.{Off, Crate, Standard}
use Rattle.unsynch.specs.declared.loops.How.{How}
use Rattle.unsynch.specs.Edits.{concerns, resync_by, is_standard, unsync_by, Known, edited, hits, any_ff, edited_after, hits_after}

-- ---- resynchronising and unsynchronising are edits

pub resyncs : (prev : Bool) (s : List ℕ) → edited resync_by prev s ≡ resync prev s
unfolding edited resync
resyncs prev [] = refl
resyncs prev (x ∷ s) = pick_only prev (eqb x 0) (edited resync_by (eqb x 255) s) ∙ ap (only_if (not (prev && eqb x 0)) x) (resyncs (eqb x 255) s)
  where
    pick_only : (p z : Bool) (l : List ℕ) → pick (p && (z || false)) l (x ∷ l) ≡ only_if (not (p && z)) x l
    pick_only false z l = refl
    pick_only true true l = refl
    pick_only true false l = refl

pub guarded : (m : Mode) (x : ℕ) → concerns (unsync_by m) x ≡ guards m x
guarded Off x = refl
guarded Crate x = or-false (eqb x 0)
guarded Standard x = refl

pub unsyncs : (m : Mode) (prev : Bool) (s : List ℕ) → edited (unsync_by m) prev s ≡ unsync (guards m) prev s
unfolding edited unsync
unsyncs m prev [] = refl
unsyncs m prev (x ∷ s) =
    ap (λ (g : Bool). pick (prev && g) (0 ∷ x ∷ edited (unsync_by m) (eqb x 255) s) (x ∷ edited (unsync_by m) (eqb x 255) s)) (guarded m x)
    ∙ pick_only (prev && guards m x) (x ∷ edited (unsync_by m) (eqb x 255) s)
    ∙ ap (λ (l : List ℕ). only_if (prev && guards m x) 0 (x ∷ l)) (unsyncs m (eqb x 255) s)
  where
    pick_only : (g : Bool) (l : List ℕ) → pick g (0 ∷ l) l ≡ only_if g 0 l
    pick_only true l = refl
    pick_only false l = refl

-- what looks for an FF
pub any_found : (l : List ℕ) (any : Bool) → fold (λ a x. a || eqb x 255) any l ≡ (any || any_ff l)
unfolding any_ff
any_found [] any = sym (or-false any)
any_found (x ∷ l) any = any_found l (any || eqb x 255) ∙ or_assoc any (eqb x 255) (any_ff l)

-- a truth value as a number
pub number_of : (b : Bool) → (bool_byte b ≡ cond b 1 0) × (bool_byte b ≤ 1)
number_of true = (refl, omega arith)
number_of false = (refl, omega arith)

-- one byte x before what l the rest becomes: f says that the edit concerns it, g that it inserts
abbrev turned : Bool → Bool → ℕ → List ℕ → List ℕ
turned f g x l = pick f (pick g (0 ∷ x ∷ l) l) (x ∷ l)

turned_append : (f g : Bool) (x : ℕ) (l m : List ℕ) → turned f g x (l ++ m) ≡ turned f g x l ++ m
turned_append true true x l m = refl
turned_append true false x l m = refl
turned_append false g x l m = refl

module _ (how : How) where
  -- ---- lengths

  pub hits_at_most : (prev : Bool) (s : List ℕ) → hits how prev s ≤ length s
  unfolding hits
  hits_at_most prev [] = omega arith
  hits_at_most prev (x ∷ s) = next_hits (prev && concerns how x) (hits_at_most (eqb x 255) s)
    where
      next_hits : (g : Bool) → hits how (eqb x 255) s ≤ length s → cond g 1 0 + hits how (eqb x 255) s ≤ suc (length s)
      next_hits true h = omega arith
      next_hits false h = omega arith

  -- as many bytes more, or as many less
  Lengths : Bool → Bool → List ℕ → Type 0
  Lengths insert prev s = length (edited how prev s) + pick insert 0 (hits how prev s) ≡ length s + pick insert (hits how prev s) 0

  lengths : (prev : Bool) (s : List ℕ) → Lengths how.insert prev s
  unfolding Lengths edited hits
  lengths prev [] = refl
  lengths prev (x ∷ s) =
      next_length how.insert (prev && concerns how x) (edited how (eqb x 255) s) (length s) (hits how (eqb x 255) s) (lengths (eqb x 255) s)
    where
      next_length : (i g : Bool) (l : List ℕ) (n h : ℕ) → length l + pick i 0 h ≡ n + pick i h 0
          → length (pick g (pick i (0 ∷ x ∷ l) l) (x ∷ l)) + pick i 0 (cond g 1 0 + h) ≡ suc n + pick i (cond g 1 0 + h) 0
      next_length true true l n h e = omega arith
      next_length true false l n h e = omega arith
      next_length false true l n h e = omega arith
      next_length false false l n h e = omega arith

  pub longer : how.insert ≡ true → (prev : Bool) (s : List ℕ) → length (edited how prev s) ≡ length s + hits how prev s
  unfolding Lengths
  longer i prev s = omega (arith, subst (λ (b : Bool). Lengths b prev s) i (lengths prev s))

  pub shorter : how.insert ≡ false → (prev : Bool) (s : List ℕ) → length (edited how prev s) + hits how prev s ≡ length s
  unfolding Lengths
  shorter i prev s = omega (arith, subst (λ (b : Bool). Lengths b prev s) i (lengths prev s))

  -- one byte before others: f says that the edit concerns it, g that it inserts
  pub edited_next : (prev : Bool) (x : ℕ) (l : List ℕ) (f g : Bool) → f ≡ (prev && concerns how x) → how.insert ≡ g
      → edited how prev (x ∷ l) ≡ turned f g x (edited how (eqb x 255) l)
  unfolding edited
  edited_next prev x l f g e h =
      ap (λ (f' : Bool). turned f' how.insert x (edited how (eqb x 255) l)) (sym e)
      ∙ ap (λ (g' : Bool). turned f g' x (edited how (eqb x 255) l)) h

  -- ---- place by place

  module _ (s : List ℕ) where
    -- after the last place
    module _ (i to : ℕ) (h : to ≤ i + 1) where
      nothing : slice (i + 1) to s ≡ []
      nothing = slice_none (i + 1) to s h

      pub edited_end : edited_after how s i to ≡ []
      unfolding edited
      edited_end = ap (edited how (eqb (get_or s i 0) 255)) nothing

      pub hits_end : hits_after how s i to ≡ 0
      unfolding hits
      hits_end = ap (hits how (eqb (get_or s i 0) 255)) nothing

    pub few_after : (from to : ℕ) → from < to → to ≤ length s → from + 1 + hits_after how s from to ≤ to
    few_after from to lt le = omega (arith, hits_at_most (eqb (get_or s from 0) 255) (slice (from + 1) to s), length-slice (from + 1) to s le)

    -- the first byte, then the bytes after it
    module _ (from to : ℕ) (lt : from < to) (le : to ≤ length s) where
      pub plain_first : edited how false (slice from to s) ≡ get_or s from 0 ∷ edited_after how s from to
      unfolding edited
      plain_first = ap (edited how false) (slice_next from to s lt le)

      hits_first : hits how false (slice from to s) ≡ hits_after how s from to
      unfolding hits
      hits_first = ap (hits how false) (slice_next from to s lt le) ∙ omega arith

      pub length_longer : how.insert ≡ true → to - from + hits_after how s from to ≡ length (edited how false (slice from to s))
      length_longer h = omega (arith, longer h false (slice from to s), hits_first, length-slice from to s le)

      pub length_shorter : how.insert ≡ false → to - from - hits_after how s from to ≡ length (edited how false (slice from to s))
      length_shorter h = omega (arith, shorter h false (slice from to s), hits_first, length-slice from to s le)

      -- where the byte before was FF: it gets a 00 before it, as f says, or not
      module _ (prev f : Bool) (e : f ≡ (prev && concerns how (get_or s from 0))) (inserts : prev ≡ true → how.insert ≡ true) where
        pub edited_first : edited how prev (slice from to s) ≡ pick f (0 ∷ get_or s from 0 ∷ edited_after how s from to) (get_or s from 0 ∷ edited_after how s from to)
        edited_first = ap (edited how prev) (slice_next from to s lt le) ∙ cases f e
          where
            cases : (f : Bool) → f ≡ (prev && concerns how (get_or s from 0))
                → edited how prev (get_or s from 0 ∷ slice (from + 1) to s)
                ≡ pick f (0 ∷ get_or s from 0 ∷ edited_after how s from to) (get_or s from 0 ∷ edited_after how s from to)
            cases true e = edited_next prev (get_or s from 0) (slice (from + 1) to s) true true e (inserts (and_true prev _ (sym e)).0)
            cases false e = edited_next prev (get_or s from 0) (slice (from + 1) to s) false how.insert e refl

        pub first_length : length (edited how prev (slice from to s)) ≡ cond f 1 0 + length (edited how false (slice from to s))
        first_length = ap length edited_first ∙ cases f ∙ ap (λ (l : List ℕ). cond f 1 0 + length l) (sym plain_first)
          where
            cases : (f : Bool) → length (pick f (0 ∷ get_or s from 0 ∷ edited_after how s from to) (get_or s from 0 ∷ edited_after how s from to))
                ≡ cond f 1 0 + length (get_or s from 0 ∷ edited_after how s from to)
            cases true = omega arith
            cases false = omega arith

    -- one place further: f says that the edit concerns the byte there
    module _ (i to : ℕ) (lt : i + 1 < to) (le : to ≤ length s) where
      module _ (f : Bool) (e : f ≡ (eqb (get_or s i 0) 255 && concerns how (get_or s (i + 1) 0))) where
        further : (g : Bool) → how.insert ≡ g → edited_after how s i to ≡ turned f g (get_or s (i + 1) 0) (edited_after how s (i + 1) to)
        further g h =
            ap (edited how (eqb (get_or s i 0) 255)) (slice_next (i + 1) to s lt le)
            ∙ edited_next (eqb (get_or s i 0) 255) (get_or s (i + 1) 0) (slice (i + 1 + 1) to s) f g e h

        pub goes : how.insert ≡ false → edited_after how s i to ≡ pick f (edited_after how s (i + 1) to) (get_or s (i + 1) 0 ∷ edited_after how s (i + 1) to)
        goes h = further false h

        pub comes : how.insert ≡ true
            → edited_after how s i to ≡ pick f (0 ∷ get_or s (i + 1) 0 ∷ edited_after how s (i + 1) to) (get_or s (i + 1) 0 ∷ edited_after how s (i + 1) to)
        comes h = further true h

        pub counts : hits_after how s i to ≡ cond f 1 0 + hits_after how s (i + 1) to
        unfolding hits
        counts = ap (hits how (eqb (get_or s i 0) 255)) (slice_next (i + 1) to s lt le) ∙ ap (λ (f' : Bool). cond f' 1 0 + hits_after how s (i + 1) to) (sym e)

    -- up to a place, and from there on
    pub parted : (n i m to : ℕ) → m ≡ i + n → m < to → to ≤ length s → edited_after how s i to ≡ edited_after how s i (m + 1) ++ edited_after how s m to
    parted zero i m to e lt le =
        let here : i ≡ m = omega arith in
        ap (λ (k : ℕ). edited_after how s k to) here
        ∙ ap (λ (l : List ℕ). l ++ edited_after how s m to) (sym (edited_end i (m + 1) (omega arith)))
    parted (suc n) i m to e lt le =
        let f : Bool = eqb (get_or s i 0) 255 && concerns how (get_or s (i + 1) 0) in
        let x : ℕ = get_or s (i + 1) 0 in
        further i to (omega arith) le f refl how.insert refl
        ∙ ap (turned f how.insert x) (parted n (i + 1) m to (omega arith) lt le)
        ∙ turned_append f how.insert x (edited_after how s (i + 1) (m + 1)) (edited_after how s m to)
        ∙ ap (λ (l : List ℕ). l ++ edited_after how s m to) (sym (further i (m + 1) (omega arith) (omega arith) f refl how.insert refl))

    pub hits_parted : (n i m to : ℕ) → m ≡ i + n → m < to → to ≤ length s → hits_after how s i to ≡ hits_after how s i (m + 1) + hits_after how s m to
    hits_parted zero i m to e lt le =
        let here : i ≡ m = omega arith in
        ap (λ (k : ℕ). hits_after how s k to) here ∙ omega (arith, hits_end i (m + 1) (omega arith))
    hits_parted (suc n) i m to e lt le =
        let f : Bool = eqb (get_or s i 0) 255 && concerns how (get_or s (i + 1) 0) in
        omega (arith, counts i to (omega arith) le f refl, hits_parted n (i + 1) m to (omega arith) lt le, counts i (m + 1) (omega arith) (omega arith) f refl)

    -- after bytes of which none is FF nothing is edited
    pub no_ff : (n i m : ℕ) → m ≡ i + n → m < length s → any_ff (slice i m s) ≡ false → hits_after how s i (m + 1) ≡ 0
    unfolding any_ff
    no_ff zero i m e lt q = hits_end i (m + 1) (omega arith)
    no_ff (suc n) i m e lt q =
        let w = both_false (eqb (get_or s i 0) 255) (any_ff (slice (i + 1) m s)) (sym (ap any_ff (slice_next i m s (omega arith) (omega arith))) ∙ q) in
        let f : false ≡ (eqb (get_or s i 0) 255 && concerns how (get_or s (i + 1) 0)) = sym (ap (λ (b : Bool). b && concerns how (get_or s (i + 1) 0)) w.0) in
        omega (arith, counts i (m + 1) (omega arith) (omega arith) false f, no_ff n (i + 1) m (omega arith) lt w.1)

  -- bytes that the edit does not concern stay as they are
  unhit : (prev : Bool) (s : List ℕ) → hits how prev s ≡ 0 → edited how prev s ≡ s
  unfolding edited hits
  unhit prev [] h = refl
  unhit prev (x ∷ s) h = next_unhit (prev && concerns how x) (unhit (eqb x 255) s) h
    where
      next_unhit : (g : Bool) → (hits how (eqb x 255) s ≡ 0 → edited how (eqb x 255) s ≡ s) → cond g 1 0 + hits how (eqb x 255) s ≡ 0
          → turned g how.insert x (edited how (eqb x 255) s) ≡ x ∷ s
      next_unhit true e z = absurd (omega arith)
      next_unhit false e z = ap (λ (l : List ℕ). x ∷ l) (e (omega arith))

  pub left_alone : (s : List ℕ) (i to : ℕ) → hits_after how s i to ≡ 0 → edited_after how s i to ≡ slice (i + 1) to s
  left_alone s i to h = unhit (eqb (get_or s i 0) 255) (slice (i + 1) to s) h

  -- the same bytes elsewhere
  edited_behind : List ℕ → List ℕ
  edited_behind [] = []
  edited_behind (x ∷ s) = edited how (eqb x 255) s

  pub same_part : (s t : List ℕ) (from to from' to' : ℕ) → from < to → to ≤ length s → from' < to' → to' ≤ length t → slice from to s ≡ slice from' to' t
      → edited_after how s from to ≡ edited_after how t from' to'
  unfolding edited_behind
  same_part s t from to from' to' lt le lt' le' e =
      ap edited_behind (sym (slice_next from to s lt le) ∙ e ∙ slice_next from' to' t lt' le')

  -- in a list that is the same in front
  pub same_front : (s t : List ℕ) (from to n : ℕ) → from < to → to ≤ n → n ≤ length s → n ≤ length t → take n s ≡ take n t
      → edited_after how s from to ≡ edited_after how t from to
  same_front s t from to n lt le hs ht e =
      same_part s t from to from to lt (omega arith) lt (omega arith) (slice_front n from to s t e le)

  -- a copy of s[from..to] at the front of another list
  pub in_copy : (s z copy : List ℕ) (from to : ℕ) → from < to → to ≤ length s → to - from ≤ length z → copy ≡ sets z 0 (slice from to s)
      → (length copy ≡ length z) × (edited_after how copy 0 (to - from) ≡ edited_after how s from to)
  in_copy s z copy from to lt le room e =
      let long : length copy ≡ length z = ap length e ∙ length-sets z 0 (slice from to s) in
      (long, same_part copy s 0 (to - from) from to (omega arith) (omega arith) lt le (slice_copy s z copy from to (to - from) le (omega arith) room e))

-- ---- each kind of edit

-- resynchronising, one place further: f says that the byte there stays
module _ (s : List ℕ) (i to : ℕ) (lt : i + 1 < to) (le : to ≤ length s) (f : Bool) (e : f ≡ not (eqb (get_or s i 0) 255 && eqb (get_or s (i + 1) 0) 0)) where
  pub stays : edited_after resync_by s i to ≡ pick f (get_or s (i + 1) 0 ∷ edited_after resync_by s (i + 1) to) (edited_after resync_by s (i + 1) to)
  stays =
      let x : ℕ = get_or s (i + 1) 0 in
      let l : List ℕ = edited_after resync_by s (i + 1) to in
      let g : Bool = eqb (get_or s i 0) 255 && eqb x 0 in
      goes resync_by s i to lt le g (ap (λ (z : Bool). eqb (get_or s i 0) 255 && z) (sym (or-false (eqb x 0)))) refl
      ∙ pick_not g l (x ∷ l)
      ∙ ap (λ (k : Bool). pick k (x ∷ l) l) (sym e)
    where
      pick_not : (g : Bool) (l m : List ℕ) → pick g l m ≡ pick (not g) m l
      pick_not true l m = refl
      pick_not false l m = refl

-- where a byte goes, the next one stays
pub next_stays : (s : List ℕ) (i to : ℕ) → i + 2 < to → to ≤ length s → not (eqb (get_or s i 0) 255 && eqb (get_or s (i + 1) 0) 0) ≡ false
    → edited_after resync_by s (i + 1) to ≡ get_or s (i + 1 + 1) 0 ∷ edited_after resync_by s (i + 1 + 1) to
next_stays s i to lt le e =
    let w = (and_true (eqb (get_or s i 0) 255) (eqb (get_or s (i + 1) 0) 0) (not-false _ e)).1 in
    let z : get_or s (i + 1) 0 ≡ 0 = eqb-true (get_or s (i + 1) 0) 0 w in
    stays s (i + 1) to (omega arith) le true (sym (ap (λ (x : ℕ). not (eqb x 255 && eqb (get_or s (i + 1 + 1) 0) 0)) z))

-- the edit that inserts a 00 before 00 and before the bytes above top, DF or FF
abbrev pub guard_by : ℕ → How
guard_by top = record { insert = true; zero = true; high = ltb top 0xFF }

-- the bytes that it concerns
pub above : (high : Bool) (top : ℕ) → top ≡ pick high 0xDF 0xFF → (x : ℕ) → x ≤ 255 → (eqb x 0 || ltb top x) ≡ concerns (guard_by top) x
above high top t x b =
    ap (λ (k : ℕ). eqb x 0 || ltb k x) t
    ∙ each_top high
    ∙ ap (λ (k : ℕ). eqb x 0 || (ltb k 0xFF && leb 0xE0 x)) (sym t)
  where
    each_top : (h : Bool) → (eqb x 0 || ltb (pick h 0xDF 0xFF) x) ≡ (eqb x 0 || (ltb (pick h 0xDF 0xFF) 0xFF && leb 0xE0 x))
    each_top true = refl
    each_top false = ap (λ (g : Bool). eqb x 0 || g) (le-ltb _ _ b)

-- an edit that inserts, before 00 too, is one of these
pub guards_by : (how : How) (top : ℕ) → how.insert ≡ true → how.zero ≡ true → top ≡ pick how.high 0xDF 0xFF → how ≡ guard_by top
guards_by how top i z t =
    let h : how.high ≡ ltb top 0xFF = high_by_top how.high ∙ ap (λ (k : ℕ). ltb k 0xFF) (sym t) in
    λ j. record { insert = i j; zero = z j; high = h j }
  where
    high_by_top : (h : Bool) → h ≡ ltb (pick h 0xDF 0xFF) 0xFF
    high_by_top true = refl
    high_by_top false = refl

-- an edit that concerns no byte leaves all as they are
module _ (how : How) (z : how.zero ≡ false) (h : how.high ≡ false) where
  no_hits : (prev : Bool) (l : List ℕ) → hits how prev l ≡ 0
  unfolding hits
  no_hits prev [] = refl
  no_hits prev (x ∷ l) =
      ap {B = ℕ} (λ (g : Bool). cond (prev && ((g && eqb x 0) || (how.high && leb 0xE0 x))) 1 0 + hits how (eqb x 255) l) z
      ∙ ap {B = ℕ} (λ (g : Bool). cond (prev && (g && leb 0xE0 x)) 1 0 + hits how (eqb x 255) l) h
      ∙ omega (arith, ap {B = ℕ} (λ (g : Bool). cond g 1 0) (and_false prev), no_hits (eqb x 255) l)

  pub untouched : (prev : Bool) (l : List ℕ) → edited how prev l ≡ l
  untouched prev l = unhit how prev l (no_hits prev l)

  pub unchanged : (s : List ℕ) (i to : ℕ) → edited_after how s i to ≡ slice (i + 1) to s
  unchanged s i to = untouched (eqb (get_or s i 0) 255) (slice (i + 1) to s)

-- how many bytes there are at most: twice as many, where bytes are inserted
pub length_most : (how : How) → Known how → (l : List ℕ) → length (edited how false l) ≤ pick (how.insert && how.zero) (length l + length l) (length l)
length_most how known l = cases how.insert refl how.zero refl
  where
    cases : (g : Bool) → how.insert ≡ g → (z : Bool) → how.zero ≡ z → length (edited how false l) ≤ pick (g && z) (length l + length l) (length l)
    cases true i true z = omega (arith, longer how i false l, hits_at_most how false l)
    cases true i false z = omega (arith, ap length (untouched how z (known.inserts z) false l))
    cases false i z e = omega (arith, shorter how i false l)

-- the edits that there are
pub known_resync : (how : How) → how ≡ resync_by → Known how
known_resync how e = record { drops = λ _. e; inserts = λ _. ap (λ (h : How). h.high) e }

pub known_unsync : (how : How) (m : Mode) → how ≡ unsync_by m → Known how
known_unsync how m e = subst Known (sym e) (record {
  drops = λ i. absurd (false_not_true (sym i));
  inserts = high m;
})
  where
    high : (m : Mode) → is_on m ≡ false → is_standard m ≡ false
    high Off z = refl
    high Crate z = refl
    high Standard z = absurd (false_not_true (sym z))
