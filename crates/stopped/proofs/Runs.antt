-- A front part of a run of subframes that a writer accepts: nothing in it is resynchronised. Assumes nothing.
use mathlib.Core.Path.{◌≡◌, refl, sym, ap, ◌∙◌}
use mathlib.Core.Logic.{◌⊎◌, inl, inr}
use Prim.Native.Nat.{ℕ, zero, suc, ◌+◌, ◌-◌, ◌≤◌, ◌<◌, min}
use native.Mathlib.Omega.{arith}
use mathlib.Core.Bool.{Bool, true, false}
use mathlib.Core.List.{List, [], ◌∷◌}
use lib.ListN.{length, take, drop, get_or, length-take, length-drop, drop_of_length-le}
use lib.Seq.{take-take, get_or-take, drop-length}
use lib.Dec.{leb, eqb}
use borrow.Author.Tests.{leb-true, leb-false}
use Rattle.laws.proofs.Slices.{take_drop_take}
use Rattle.laws.proofs.Cuts.{drop_part}
use Rattle.format.specs.Bytes.{pick, zero_at}
use Rattle.format.specs.Frame.{head_of, head}
use Rattle.format.specs.Chapter.{chapter_run, names_len, count_in, after_count, names_in, contents_run}
use Rattle.format.specs.Record.{run_of}
use Rattle.format.specs.Walk.{is_resynced, shown_kind, walked}
use Rattle.format.specs.declared.Version.{Version}
use Rattle.format.specs.declared.Kind.{Kind}
use Rattle.format.specs.declared.Head.{Head}
use Rattle.format.proofs.Heads.{stands, lies}
use Rattle.format.proofs.Fronts.{same_head}
use Rattle.format.proofs.CutHeads.{of_whole}
use Rattle.format.proofs.Walks.{none_begins, run_shorter}
use Rattle.format.proofs.Strict.{accepted}
use Rattle.blocks.specs.Blocks.{Unresynced}
use Rattle.blocks.proofs.Tails.{short_all}
use Rattle.std.specs.Prelude.{Result, Option, Ok, Err, Some, None}
use Rattle.format.specs.declared.refusals.Refusal.{Refusal}

-- ---- where a run begins in a front part

zero_part : (n : ℕ) (b : List ℕ) → zero_at (take n b) ≡ min n (zero_at b)
unfolding zero_at
zero_part zero b = omega arith
zero_part (suc n) [] = omega arith
zero_part (suc n) (x ∷ b) = by_zero (eqb x 0) (zero_part n b)
  where
    by_zero : (t : Bool) → zero_at (take n b) ≡ min n (zero_at b) → pick t 0 (suc (zero_at (take n b))) ≡ min (suc n) (pick t 0 (suc (zero_at b)))
    by_zero true e = omega arith
    by_zero false e = omega (arith, e)

names_part : (k n : ℕ) (s : List ℕ) → names_len k (take n s) ≡ min n (names_len k s)
unfolding names_len
names_part zero zero s = omega arith
names_part (suc k) zero s = omega arith
names_part zero (suc n) [] = omega arith
names_part zero (suc n) (x ∷ s) = omega arith
names_part (suc k) (suc n) [] = omega arith
names_part (suc k) (suc n) (x ∷ s) = omega (arith, names_part (pick (eqb x 0) k (suc k)) n s)

-- it begins at the same place, or not before the cut
abbrev Begins : ℕ → ℕ → ℕ → Type 0
Begins n whole part = (part ≡ whole) ⊎ (n ≤ part)

chapter_begins : (n : ℕ) (b : List ℕ) → Begins n (chapter_run b) (chapter_run (take n b))
chapter_begins n b = by_zero (leb (zero_at b) n) refl
  where
    by_zero : (t : Bool) → leb (zero_at b) n ≡ t → Begins n (chapter_run b) (chapter_run (take n b))
    by_zero true e = inl (omega (arith, zero_part n b, leb-true (zero_at b) n e))
    by_zero false e = inr (omega (arith, zero_part n b, leb-false (zero_at b) n e))

contents_begins : (n : ℕ) (b : List ℕ) → Begins n (contents_run b) (contents_run (take n b))
contents_begins n b = by_count (leb (zero_at b + 3) n) refl
  where
    by_names : (y j : ℕ) → y ≡ zero_at b → j ≡ min (n - (zero_at b + 3)) (names_in b) → zero_at b + 3 ≤ n → (t : Bool) → leb (names_in b) (n - (zero_at b + 3)) ≡ t
        → Begins n (contents_run b) (y + 3 + j)
    by_names y j z names le true e = inl (omega (arith, leb-true (names_in b) (n - (zero_at b + 3)) e))
    by_names y j z names le false e = inr (omega (arith, leb-false (names_in b) (n - (zero_at b + 3)) e))

    by_count : (t : Bool) → leb (zero_at b + 3) n ≡ t → Begins n (contents_run b) (contents_run (take n b))
    by_count false e = inr (omega (arith, zero_part n b, leb-false (zero_at b + 3) n e))
    by_count true e =
        let le : zero_at b + 3 ≤ n = leb-true (zero_at b + 3) n e in
        let z : zero_at (take n b) ≡ zero_at b = omega (arith, zero_part n b) in
        let count : count_in (take n b) ≡ count_in b = ap (λ (i : ℕ). get_or (take n b) (i + 2) 0) z ∙ get_or-take n b (zero_at b + 2) 0 (omega arith) in
        let after : after_count (take n b) ≡ take (n - (zero_at b + 3)) (after_count b) =
        ap (λ (i : ℕ). drop (i + 3) (take n b)) z ∙ drop_part (zero_at b + 3) n b in
        let names : names_in (take n b) ≡ min (n - (zero_at b + 3)) (names_in b) =
        ap (λ (i : ℕ). names_len i (after_count (take n b))) count
        ∙ ap (names_len (count_in b)) after
        ∙ names_part (count_in b) (n - (zero_at b + 3)) (after_count b) in
        by_names (zero_at (take n b)) (names_in (take n b)) z names le (leb (names_in b) (n - (zero_at b + 3))) refl

-- ---- the run of a front part

-- a front part of a list
abbrev pub PartOf : List ℕ → List ℕ → Type 0
PartOf s t = (n : ℕ) × (t ≡ take n s)

from_part : (n k j : ℕ) (b : List ℕ) → Begins n k j → PartOf (drop k b) (drop j (take n b))
from_part n k j b (inl e) = (n - k, ap (λ (i : ℕ). drop i (take n b)) e ∙ drop_part k n b)
from_part n k j b (inr le) = (0, drop_of_length-le (take n b) {i = j} (omega (arith, length-take n b)))

-- The run of a front part of a body is a front part of its run.
pub run_part : (kind : Kind) (n : ℕ) (b : List ℕ) → PartOf (run_of kind b) (run_of kind (take n b))
unfolding run_of
run_part Kind.Text n b = (0, refl)
run_part Kind.Popularimeter n b = (0, refl)
run_part Kind.Table n b = (0, refl)
run_part Kind.Chapter n b = from_part n (chapter_run b) (chapter_run (take n b)) b (chapter_begins n b)
run_part Kind.Contents n b = from_part n (contents_run b) (contents_run (take n b)) b (contents_begins n b)
run_part Kind.Raw n b = (0, refl)

-- ---- a run that the strict walk accepts

unresynced_none : (v : Version) (depth : ℕ) {s : List ℕ} → s ≡ [] → Unresynced v depth s
unresynced_none v depth e = rw e (Unresynced.ends (none_begins v depth))

unflagged : (c f : Bool) → f ≡ false → is_resynced c f ≡ false
unflagged c f e = rw e

module _ (v : Version) (depth n : ℕ) (s room : List ℕ) (a : (walked true v depth s room).0 ≡ 0)
    (h : (d i : ℕ) (t r : List ℕ) → length t < length s → (walked true v d t r).0 ≡ 0 → Unresynced v d (take i t)) where
  -- what follows a frame that is found
  part_rest : {id : ℕ} {c f : Bool} (short : Bool) {start len : ℕ} → head_of v depth (take n s) ≡ Ok (Some (head id c f short start len))
      → Unresynced v depth (drop (start + len) (take n s))
  part_rest true {start} {len} e =
      unresynced_none v depth (ap (λ (i : ℕ). drop i (take n s)) (short_all v depth (take n s) e) ∙ drop-length (take n s))
  part_rest {id} {c} {f} false {start} {len} e =
      let l = lies (stands v depth (take n s) id c f false start len e) in
      let inside : start + len ≤ n = omega (arith, l.within, length-take n s) in
      let whole = same_head v depth (take n s) s e (take-take (start + len) n s inside) in
      rw (drop_part (start + len) n s)
      (h depth (n - (start + len)) (drop (start + len) s) (accepted v depth s room whole a).after
      (omega (arith, l.six, l.within, length-take n s, length-drop (start + len) s)) (accepted v depth s room whole a).rest)

  part_head : (x : Result (Option Head) Refusal) → head_of v depth (take n s) ≡ x → Unresynced v depth (take n s)
  part_head (Ok None) e = Unresynced.ends e
  part_head (Err k) e = Unresynced.stops e
  part_head (Ok (Some one)) e =
      let l = lies (stands v depth (take n s) one.id one.compressed one.flagged one.short one.start one.len e) in
      let w = of_whole v depth n s e in
      let m = lies (stands v depth s one.id one.compressed one.flagged w.short one.start w.long w.head) in
      let t = accepted v depth s room w.head a in
      let kind = shown_kind v one.id one.compressed in
      let body = take w.long (drop one.start s) in
      let inside : one.start + one.len ≤ n = omega (arith, l.within, length-take n s) in
      let stored : take one.len (drop one.start (take n s)) ≡ take one.len body =
      take_drop_take one.len one.start n s inside ∙ sym (take-take one.len w.long (drop one.start s) w.longer) in
      let run = run_part kind one.len body in
      let shorter : length (run_of kind body) < length s =
      omega (arith, m.six, m.within, run_shorter kind body, length-take w.long (drop one.start s), length-drop one.start s) in
      Unresynced.frame e (unflagged one.compressed one.flagged t.unflagged)
      (rw (stored, run.1) (h (depth + 1) run.0 (run_of kind body) room shorter t.run))
      (part_rest one.short e)

part_within : (size : ℕ) (v : Version) (depth n : ℕ) (s room : List ℕ) → length s < size → (walked true v depth s room).0 ≡ 0 → Unresynced v depth (take n s)
part_within zero v depth n s room le a = absurd (omega arith)
part_within (suc size) v depth n s room le a =
    part_head v depth n s room a (λ d i t r lt. part_within size v d i t r (omega arith)) (head_of v depth (take n s)) refl

-- In a front part of a run that the strict walk accepts no frame is resynchronised by itself, at any depth.
pub part_unresynced : (v : Version) (depth n : ℕ) (s room : List ℕ) → (walked true v depth s room).0 ≡ 0 → Unresynced v depth (take n s)
part_unresynced v depth n s room a = part_within (suc (length s)) v depth n s room (omega arith) a
