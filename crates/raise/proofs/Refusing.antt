-- The numbers below 40 are those of reading: the look at a tag and its reading agree until something would be resynchronised. Assumes nothing.
use mathlib.Core.Path.{◌≡◌, refl, sym, ap, ◌∙◌, subst}
use mathlib.Core.Logic.{◌⊎◌, inl, inr}
use Prim.Native.Nat.{ℕ, zero, suc, ◌+◌, ◌^◌, ◌≤◌, ◌<◌}
use native.Mathlib.Omega.{arith}
use mathlib.Core.Bool.{Bool, true, false, not, ◌||◌}
use mathlib.Core.List.{List, [], ◌∷◌}
use lib.ListN.{length, take, drop, length-take, length-drop}
use lib.Seq.{slice}
use lib.Dec.{eqb, ltb, eqb-suc-zero}
use borrow.Author.Tests.{eqb-false, ne_eqb}
use Rattle.laws.proofs.Bools.{false_not_true}
use Rattle.laws.proofs.Results.{err_same, ok_not_err}
use Rattle.laws.proofs.Slices.{slice_drop}
use Rattle.format.specs.Bytes.{pick, first}
use Rattle.format.specs.Header.{edition_of, version_of, is_whole, header_refusal, region_of}
use Rattle.format.specs.Frame.{frame_checks, is_end, head_of}
use Rattle.format.specs.Popularimeter.{counter_of}
use Rattle.format.specs.Record.{Rec, body_refusal, run_of}
use Rattle.format.specs.Walk.{Out, and_then, inside_of, body_of, is_resynced, shown_kind, walked}
use Rattle.format.specs.declared.Version.{Version}
use Rattle.format.specs.declared.Head.{Head}
use Rattle.format.proofs.Heads.{stands, lies}
use Rattle.format.proofs.Walks.{run_shorter, walk_nothing, walk_refused, walk_found}
use Rattle.reader.specs.Reader.{open_of}
use Rattle.promises.specs.Reading.{Reading, Ending, ended, refused, read_from, read_for, read_all}
use Rattle.promises.proofs.Stepping.{reader}
use Rattle.blocks.specs.Blocks.{Sight, refuses, shows, on_sight}
use Rattle.blocks.proofs.Sights.{out_of, rec_in, verdict, sight_is}
use Rattle.blocks.proofs.Reading.{first_read, end_read, refused_read}
use Rattle.blocks.proofs.Regions.{steps_all}
use Rattle.blocks.proofs.Opens.{opened}
use Rattle.format.specs.Looks.{both, plain_if, unless, all_zero, frame_look, on_look, look_at, is_simple, tag_look, Look}
use Rattle.raise.specs.Raise.{Answer, on_tag, on_places, raise_to, field_in, block_at, counted_tag, places_from, tag_version, tag_blocks, raised_of}
use Rattle.raise.specs.Promises.{RefusedAsReading, RefusedNumber, ReadingRefused}
use Rattle.format.proofs.Looking.{look_head}
use Rattle.std.specs.Prelude.{Result, Option, Ok, Err, Some, None}
use Rattle.format.specs.declared.refusals.Refusal.{Refusal}
use Rattle.format.specs.Refusals.{refusal}

-- ---- a header is refused with a number

picked_refused : (t u : Bool) (h : Head) (n : ℕ) {k : Refusal}
    → ◌≡◌ {A = Result (Option Head) Refusal} (pick t (Ok None) (pick u (Ok (Some h)) (Err (refusal n)))) (Err k) → (u ≡ false) × (n ≡ k.number)
picked_refused true u h n e = ok_not_err e
picked_refused false true h n e = ok_not_err e
picked_refused false false h n e = (refl, ap (λ (x : Refusal). x.number) (err_same e))

pub refused_some : (v : Version) (depth : ℕ) (s : List ℕ) {k : Refusal} → head_of v depth s ≡ Err k → k.number ≡ 0 → ⊥
unfolding head_of
refused_some v depth s e z =
    let n = first (frame_checks v depth s) in
    let q = picked_refused (is_end v s) (eqb n 0) _ n e in
    eqb-false n 0 q.0 (q.1 ∙ z)

-- ---- a look and a walk

data Agrees (room : List ℕ) : Look → Out → Type 0 where
  halts : {k : Refusal} → (k.number ≡ 0 → ⊥) → Agrees room (Err k) (k.number, room)
  at_once : (o : Out) → Agrees room (Err (refusal 40)) o
  oddly : Agrees room (Ok false) (0, room)
  plainly : Agrees room (Ok true) (0, room)

after_odd : {room : List ℕ} {y : Look} {o : Out} → Agrees room y o → Agrees room (both (Ok false) y) o
after_odd (Agrees.halts ne) = Agrees.halts ne
after_odd (Agrees.at_once o) = Agrees.at_once o
after_odd Agrees.oddly = Agrees.oddly
after_odd Agrees.plainly = Agrees.oddly

agrees_both : {room : List ℕ} {x : Look} {o : Out} (y : Look) (k : List ℕ → Out) → Agrees room x o → Agrees room y (k room) → Agrees room (both x y) (and_then o k)
agrees_both {room} y k (Agrees.halts {k = n} ne) b = subst (λ (t : Bool). Agrees room (Err n) (pick t (k room) (n.number, room))) (sym (ne_eqb n.number 0 ne)) (Agrees.halts ne)
agrees_both y k (Agrees.at_once o) b = Agrees.at_once (and_then o k)
agrees_both y k Agrees.oddly b = after_odd b
agrees_both y k Agrees.plainly b = b

agrees_if : {room : List ℕ} {x : Look} {o : Out} (t : Bool) → Agrees room x o → Agrees room (both x (plain_if t)) o
agrees_if t (Agrees.halts ne) = Agrees.halts ne
agrees_if t (Agrees.at_once o) = Agrees.at_once o
agrees_if true Agrees.oddly = Agrees.oddly
agrees_if false Agrees.oddly = Agrees.oddly
agrees_if true Agrees.plainly = Agrees.plainly
agrees_if false Agrees.plainly = Agrees.oddly

ends_if : {room : List ℕ} (t : Bool) → Agrees room (plain_if t) (0, room)
ends_if true = Agrees.plainly
ends_if false = Agrees.oddly

inside_agrees : {room : List ℕ} (k : ℕ) (x : Look) (o : Out) → Agrees room x o → Agrees room (unless k x) (pick (eqb k 0) o (k, room))
inside_agrees zero x o a = a
inside_agrees {room} (suc k) x o a =
    subst (λ (t : Bool). Agrees room (Err (refusal (suc k))) (pick t o (suc k, room))) (sym (eqb-suc-zero k)) (Agrees.halts (λ (e : suc k ≡ 0). omega arith))

module _ (v : Version) (room : List ℕ) (go : List ℕ → List ℕ → Out) (look : List ℕ → Look) (id : ℕ) (c f short : Bool) (b : List ℕ) where
  body_agrees : Agrees room (look (run_of (shown_kind v id c) b)) (go (run_of (shown_kind v id c) b) room)
      → Agrees room (frame_look v look id c f short b) (body_of (is_resynced c f) go (shown_kind v id c) b room)
  unfolding frame_look inside_of
  body_agrees a = by (is_resynced c f)
    where
      by : (t : Bool)
          → Agrees room (pick t (Err (refusal 40)) (both (unless (body_refusal (shown_kind v id c) b) (look (run_of (shown_kind v id c) b))) (plain_if (not (c || (f || short))))))
          (body_of t go (shown_kind v id c) b room)
      by true = Agrees.at_once _
      by false = agrees_if (not (c || (f || short))) (inside_agrees (body_refusal (shown_kind v id c) b) _ _ a)

head_agrees : (v : Version) (depth : ℕ) (s room : List ℕ) → ((d : ℕ) (t : List ℕ) → length t < length s → Agrees room (look_at v d t) (walked false v d t room))
    → (x : Result (Option Head) Refusal) → head_of v depth s ≡ x → Agrees room (on_look v (look_at v) depth s x) (walked false v depth s room)
unfolding on_look
head_agrees v depth s room h (Ok None) e =
    subst (Agrees room (plain_if (ltb 1 depth || all_zero s))) (sym (walk_nothing false v depth s room e)) (ends_if (ltb 1 depth || all_zero s))
head_agrees v depth s room h (Err k) e =
    subst (Agrees room (Err k)) (sym (walk_refused false v depth s room e)) (Agrees.halts (refused_some v depth s e))
head_agrees v depth s room h (Ok (Some h')) e =
    let l = lies (stands v depth s h'.id h'.compressed h'.flagged h'.short h'.start h'.len e) in
    let b = take h'.len (drop h'.start s) in
    let kind = shown_kind v h'.id h'.compressed in
    let run = h (depth + 1) (run_of kind b) (omega (arith, run_shorter kind b, l.six, l.within, length-take h'.len (drop h'.start s), length-drop h'.start s)) in
    let body = body_agrees v room (walked false v (depth + 1)) (look_at v (depth + 1)) h'.id h'.compressed h'.flagged h'.short b run in
    let rest = h depth (drop (h'.start + h'.len) s) (omega (arith, l.six, l.within, length-drop (h'.start + h'.len) s)) in
    subst (Agrees room (both (frame_look v (look_at v (depth + 1)) h'.id h'.compressed h'.flagged h'.short b) (look_at v depth (drop (h'.start + h'.len) s)))) (sym (walk_found false v depth s room e))
    (agrees_both (look_at v depth (drop (h'.start + h'.len) s)) (walked false v depth (drop (h'.start + h'.len) s)) body rest)

agrees_within : (n : ℕ) (v : Version) (depth : ℕ) (s room : List ℕ) → length s < n → Agrees room (look_at v depth s) (walked false v depth s room)
agrees_within zero v depth s room lt = absurd (omega arith)
agrees_within (suc n) v depth s room lt =
    subst (λ (x : Look). Agrees room x (walked false v depth s room)) (sym (look_head v depth s (head_of v depth s) refl))
    (head_agrees v depth s room (λ d t le. agrees_within n v d t room (omega arith)) (head_of v depth s) refl)

-- ---- a look and a reading

data Ends : Look → Ending → Type 0 where
  halts : (k : Refusal) → (k.number ≡ 0 → ⊥) → Ends (Err k) (refused k.number)
  at_once : (e : Ending) → Ends (Err (refusal 40)) e
  oddly : Ends (Ok false) ended
  plainly : Ends (Ok true) ended

then_odd : {y : Look} {e : Ending} → Ends y e → Ends (both (Ok false) y) e
then_odd (Ends.halts k ne) = Ends.halts k ne
then_odd (Ends.at_once e) = Ends.at_once e
then_odd Ends.oddly = Ends.oddly
then_odd Ends.plainly = Ends.oddly

quiet_if : (t : Bool) → Ends (plain_if t) ended
quiet_if true = Ends.plainly
quiet_if false = Ends.oddly

ends_with : {x : Look} {e : Ending} (t : Bool) → Ends x e → Ends (both x (plain_if t)) e
ends_with t (Ends.halts k ne) = Ends.halts k ne
ends_with t (Ends.at_once e) = Ends.at_once e
ends_with true Ends.oddly = Ends.oddly
ends_with false Ends.oddly = Ends.oddly
ends_with true Ends.plainly = Ends.plainly
ends_with false Ends.plainly = Ends.oddly

frame_ends : {room : List ℕ} {x : Look} {o : Out} (y : Look) (r : Rec) (go : List ℕ → Reading) → Agrees room x o → Ends y (go room).1
    → Ends (both x y) (on_sight go (verdict o.0 r) o.1).1
frame_ends {room} y r go (Agrees.halts {k} ne) b =
    subst (λ (t : Bool). Ends (Err k) (on_sight go (pick t (shows r) (refuses k.number)) room).1) (sym (ne_eqb k.number 0 ne)) (Ends.halts k ne)
frame_ends y r go (Agrees.at_once o) b = Ends.at_once _
frame_ends y r go Agrees.oddly b = then_odd b
frame_ends y r go Agrees.plainly b = b

module _ (v : Version) (begin end : ℕ) (tag work : List ℕ) where
  abbrev left : ℕ → List ℕ
  left at = slice at end tag

  step_ends : (n at : ℕ) → ((at' : ℕ) → length (left at') < length (left at) → Ends (look_at v 1 (left at')) (read_from n tag (reader v false begin at' end) work).1)
      → (x : Result (Option Head) Refusal) → head_of v 1 (left at) ≡ x → Ends (on_look v (look_at v) 1 (left at) x) (read_from (suc n) tag (reader v false begin at end) work).1
  unfolding on_look
  step_ends n at h (Ok None) e =
      subst (λ (o : Reading). Ends (plain_if (all_zero (left at))) o.1) (sym (end_read v n begin at end tag work false e)) (quiet_if (all_zero (left at)))
  step_ends n at h (Err k) e =
      subst (λ (o : Reading). Ends (Err k) o.1) (sym (refused_read v n begin at end tag work false e)) (Ends.halts k (refused_some v 1 (left at) e))
  step_ends n at h (Ok (Some h')) e =
      let s = left at in
      let l = lies (stands v 1 s h'.id h'.compressed h'.flagged h'.short h'.start h'.len e) in
      let b = take h'.len (drop h'.start s) in
      let kind = shown_kind v h'.id h'.compressed in
      let r = rec_in v h'.id h'.compressed h'.flagged h'.short b in
      let go = read_from n tag (reader v false begin (at + (h'.start + h'.len)) end) in
      let run = agrees_within (suc (length (run_of kind b))) v 2 (run_of kind b) work (omega arith) in
      let body = body_agrees v work (walked false v 2) (look_at v 2) h'.id h'.compressed h'.flagged h'.short b run in
      let next : left (at + (h'.start + h'.len)) ≡ drop (h'.start + h'.len) s = slice_drop at (h'.start + h'.len) end tag in
      let rest = subst (λ (t : List ℕ). Ends (look_at v 1 t) (go work).1) next
      (h (at + (h'.start + h'.len)) (omega (arith, ap length next, length-drop (h'.start + h'.len) s, l.six, l.within))) in
      let is : read_from (suc n) tag (reader v false begin at end) work ≡ on_sight go (verdict (out_of v h'.id h'.compressed h'.flagged b work).0 r) (out_of v h'.id h'.compressed h'.flagged b work).1 =
      first_read v n begin at end tag work false e ∙ ap (λ (o : Sight × List ℕ). on_sight go o.0 o.1) (sight_is v h'.id h'.compressed h'.flagged h'.short h'.start h'.len s e work) in
      subst (λ (o : Reading). Ends (both (frame_look v (look_at v 2) h'.id h'.compressed h'.flagged h'.short b) (look_at v 1 (drop (h'.start + h'.len) s))) o.1) (sym is)
      (frame_ends (look_at v 1 (drop (h'.start + h'.len) s)) r go body rest)

  read_ends : (n at : ℕ) → length (left at) < n → Ends (look_at v 1 (left at)) (read_from n tag (reader v false begin at end) work).1
  read_ends zero at lt = absurd (omega arith)
  read_ends (suc n) at lt =
      subst (λ (x : Look). Ends x (read_from (suc n) tag (reader v false begin at end) work).1) (sym (look_head v 1 (left at) (head_of v 1 (left at)) refl))
      (step_ends n at (λ at' le. read_ends n at' (omega arith)) (head_of v 1 (left at)) refl)

-- ---- the tag

region_shorter : (tag : List ℕ) (begin end : ℕ) → length (slice begin end tag) ≤ length tag
region_shorter tag begin end = omega (arith, length-drop begin (take end tag), length-take end tag)

-- Every reading of a tag ends as the look at it says, but where that stopped at once.
tag_ends : (tag work : List ℕ) → Ends (tag_look tag) (read_all tag work).1
unfolding tag_look read_for open_of
tag_ends tag work = by (header_refusal tag) refl
  where
    v : Version
    v = version_of (edition_of tag)

    on : Look
    on = both (look_at v 1 (region_of tag)) (plain_if (is_simple tag))

    region : header_refusal tag ≡ 0 → (w : Bool) → is_whole tag ≡ w → Ends (pick w (Err (refusal 40)) on) (read_all tag work).1
    region z true e = Ends.at_once _
    region z false e =
        let o = opened v tag work z refl false e (λ t. absurd (false_not_true t)) in
        let steps = steps_all v false o.begin o.end tag work o.left o.opens 1 in
        let there : slice o.begin o.end tag ≡ region_of tag = o.lies in
        let r = read_ends v o.begin o.end tag o.left (length tag + 1) o.begin (omega (arith, region_shorter tag o.begin o.end)) in
        let q = subst (λ (l : List ℕ). Ends (look_at v 1 l) (read_from (length tag + 1) tag (reader v false o.begin o.begin o.end) o.left).1) there r in
        ends_with (is_simple tag) (subst (λ (x : Reading). Ends (look_at v 1 (region_of tag)) x.1) (sym steps) q)

    by : (k : ℕ) → header_refusal tag ≡ k → Ends (unless k (pick (is_whole tag) (Err (refusal 40)) on)) (read_all tag work).1
    by zero z = region z (is_whole tag) refl
    by (suc k) z =
        let is : read_all tag work ≡ ([], refused (suc k)) = rw (z, eqb-suc-zero k) in
        subst (λ (x : Reading). Ends (Err (refusal (suc k))) x.1) (sym is) (Ends.halts (refusal (suc k)) (λ (e : suc k ≡ 0). omega arith))

-- ---- where the look stops

-- it has a number
pub look_some : (tag : List ℕ) {k : Refusal} → tag_look tag ≡ Err k → 0 < k.number
look_some tag e = by (subst (λ (x : Look). Ends x (read_all tag []).1) e (tag_ends tag []))
  where
    by : {k : Refusal} {e : Ending} → Ends (Err k) e → 0 < k.number
    by (Ends.halts k ne) = omega arith
    by (Ends.at_once e) = omega arith

-- every reading is refused with it, unless it is 40
pub look_reads : (tag work : List ℕ) {k : Refusal} → tag_look tag ≡ Err k → (k.number ≡ 40 → ⊥) → (read_all tag work).1 ≡ refused k.number
look_reads tag work e ne = by (subst (λ (x : Look). Ends x (read_all tag work).1) e (tag_ends tag work)) ne
  where
    by : {k : Refusal} {e : Ending} → Ends (Err k) e → (k.number ≡ 40 → ⊥) → e ≡ refused k.number
    by (Ends.halts k ne) n = refl
    by (Ends.at_once e) n = absurd (n refl)

-- and where a reading is refused, the look stops
pub reads_look : (tag work : List ℕ) (k : ℕ) → (read_all tag work).1 ≡ refused k → (tag_look tag ≡ Err (refusal k)) ⊎ (tag_look tag ≡ Err (refusal 40))
reads_look tag work k e = by (tag_ends tag work) e
  where
    by : {x : Look} {e : Ending} → Ends x e → e ≡ refused k → (x ≡ Err (refusal k)) ⊎ (x ≡ Err (refusal 40))
    by (Ends.halts j ne) h = let z : j.number ≡ k = cc in inl (ap (λ (n : ℕ). Err (refusal n)) z)
    by (Ends.at_once e) h = inr refl
    by Ends.oddly h = absurd (let z : ◌≡◌ {A = ℕ} 0 1 = cc in omega arith)
    by Ends.plainly h = absurd (let z : ◌≡◌ {A = ℕ} 0 1 = cc in omega arith)

-- ---- the answer

answer_number : {j k : Refusal} {s t : List ℕ} → ◌≡◌ {A = Answer} (Err j, s) (Err k, t) → j.number ≡ k.number
answer_number e = ap (λ (x : Refusal). x.number) (err_same (ap (λ (o : Answer). o.0) e))

places_over : (v : Version) (bs : List (List ℕ)) (amount : ℕ) (tag t : List ℕ) (k : ℕ) (l : List ℕ) → on_places v bs amount tag l ≡ (Err (refusal k), t) → 40 < k
unfolding raise_to
places_over v bs amount tag t k [] e = omega (arith, answer_number e)
places_over v bs amount tag t k (i ∷ j ∷ l) e = omega (arith, answer_number e)
places_over v bs amount tag t k (i ∷ []) e =
    let n = counter_of (field_in v (block_at bs i)) + amount in
    by (ltb n (2 ^ 64)) (ltb n (256 ^ length (field_in v (block_at bs i)))) n (counted_tag v bs i n tag) e
  where
    by : (p q : Bool) (n : ℕ) (s : List ℕ) → ◌≡◌ {A = Answer} (pick p (pick q (Ok n, s) (Err (refusal 44), tag)) (Err (refusal 43), tag)) (Err (refusal k), t) → 40 < k
    by true true n s h = ok_not_err (ap (λ (o : Answer). o.0) h)
    by true false n s h = omega (arith, answer_number h)
    by false q n s h = omega (arith, answer_number h)

tag_under : (tag t : List ℕ) (k : ℕ) (on : Answer) (x : Look) → (on ≡ (Err (refusal k), t) → 40 < k) → on_tag tag on x ≡ (Err (refusal k), t) → k < 40 → x ≡ Err (refusal k)
tag_under tag t k on (Err j) h e lt = ap Err (err_same (ap (λ (o : Answer). o.0) e))
tag_under tag t k on (Ok false) h e lt = absurd (omega (arith, answer_number e))
tag_under tag t k on (Ok true) h e lt = absurd (omega (arith, h e))

pub refused_as_reading : RefusedAsReading
unfolding raised_of
refused_as_reading tag user amount k tag' work e lt =
    let v = tag_version tag in
    let bs = tag_blocks tag in
    let x = tag_under tag tag' k _ (tag_look tag) (places_over v bs amount tag tag' k (places_from v user 0 bs)) e lt in
    look_reads tag work x (λ z. omega (arith, z))

-- ---- where reading is refused

pub stopped : (tag user : List ℕ) (amount : ℕ) {k : Refusal} → tag_look tag ≡ Err k → raised_of tag user amount ≡ (Err k, tag)
unfolding raised_of
stopped tag user amount e = rw e

pub reading_refused : ReadingRefused
reading_refused tag user amount k work e = by (reads_look tag work k e)
  where
    by : (tag_look tag ≡ Err (refusal k)) ⊎ (tag_look tag ≡ Err (refusal 40))
        → (raised_of tag user amount ≡ (Err (refusal k), tag)) ⊎ (raised_of tag user amount ≡ (Err (refusal 40), tag))
    by (inl f) = inl (stopped tag user amount f)
    by (inr f) = inr (stopped tag user amount f)

-- ---- a refusal has a number

pub refused_number : RefusedNumber
unfolding raised_of
refused_number tag user amount k tag' e =
    let v = tag_version tag in
    let bs = tag_blocks tag in
    by (tag_look tag) refl (places_over v bs amount tag tag' k (places_from v user 0 bs)) e
  where
    by : {on : Answer} (x : Look) → tag_look tag ≡ x → (on ≡ (Err (refusal k), tag') → 40 < k) → on_tag tag on x ≡ (Err (refusal k), tag') → 0 < k
    by (Err j) f h g = omega (arith, answer_number g, look_some tag f)
    by (Ok false) f h g = omega (arith, answer_number g)
    by (Ok true) f h g = omega (arith, h g)
