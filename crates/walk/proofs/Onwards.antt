-- What a step of the walk says of the walk. Assumes nothing.
use mathlib.Core.Path.{◌≡◌, refl, sym, ap, ◌∙◌}
use Prim.Native.Nat.{ℕ, ◌+◌, ◌≤◌, ◌<◌, min}
use native.Mathlib.Omega.{arith}
use mathlib.Core.Bool.{Bool}
use mathlib.Core.List.{List}
use lib.ListN.{length, take, drop}
use lib.Seq.{slice, length-slice}
use lib.Dec.{ltb, eqb}
use borrow.Author.Tests.{eqb-false, ne_eqb, ltb-false}
use Rattle.laws.proofs.Slices.{slice_drop, slice_cut, take_drop_take}
use Rattle.laws.proofs.Cuts.{take_drop}
use Rattle.format.specs.Bytes.{first}
use Rattle.format.specs.Frame.{head, head_of, frame_checks, is_end}
use Rattle.format.specs.Walk.{Out, and_then, body_of, unfit, left_over, walked}
use Rattle.format.specs.declared.Version.{Version}
use Rattle.format.specs.declared.Kind.{Kind}
use Rattle.format.specs.declared.Head.{Head}
use Rattle.format.proofs.Checks.{not_first, not_second, none_of, none_refused}
use Rattle.format.proofs.Heads.{stands, lies}
use Rattle.format.proofs.Walks.{walk_nothing, walk_refused, walk_found}
use Rattle.walk.specs.Steps.{step_on, step_at}
use Rattle.std.specs.Prelude.{Result, Option, Ok, Err, Some, None}
use Rattle.format.specs.declared.refusals.Refusal.{Refusal}
use Rattle.format.specs.Refusals.{refusal, passed_with}
use Rattle.walk.specs.declared.steps.Body.{Body}
use Rattle.walk.proofs.Answers.{checked_ok, checked_err}
use Rattle.laws.proofs.Results.{err_same, ok_not_err, err_not_ok, found_same, found_not_none, none_not_some}

-- ---- a frame that begins at a place of a list

-- where it lies, counted from the list's start
pub record Placed (v : Version) (depth at end : ℕ) (s : List ℕ) (start len : ℕ) : Type 0 where
  pub shallow : depth < 9
  pub six : 6 ≤ start
  pub within : at + start + len ≤ end
  pub body : take len (drop start (slice at end s)) ≡ slice (at + start) (at + start + len) s
  pub rest : drop (start + len) (slice at end s) ≡ slice (at + start + len) end s

pub placed : (v : Version) (depth at end : ℕ) (s : List ℕ) → end ≤ length s → (id : ℕ) (c f sh : Bool) (start len : ℕ)
    → head_of v depth (slice at end s) ≡ Ok (Some (head id c f sh start len)) → Placed v depth at end s start len
placed v depth at end s le id c f sh start len e =
    let t = stands v depth (slice at end s) id c f sh start len e in
    let l = lies t in
    let checked : depth ≤ 8 = ltb-false 8 depth (none_refused (ltb 8 depth) 12 (none_of (frame_checks v depth (slice at end s)) t.passed 0)) in
    let inside : at + start + len ≤ end = omega (arith, l.six, l.within, length-slice at end s le) in
    let same : at + (start + len) ≡ at + start + len = omega arith in
    record {
      shallow = omega arith;
      six = l.six;
      within = inside;
      body = ap (take len) (sym (slice_drop at start end s)) ∙ take_drop_take len (at + start) end s inside ∙ take_drop len (at + start) s;
      rest = sym (slice_drop at (start + len) end s) ∙ ap (λ (k : ℕ). slice k end s) same;
    }

-- a frame whose header was read lies before the end
pub head_within : (v : Version) (depth at end : ℕ) (s : List ℕ) (h : Head) → end ≤ length s → Ok (Some h) ≡ head_of v depth (slice at end s) → at + h.start + h.len ≤ end
head_within v depth at end s h le e = (placed v depth at end s le h.id h.compressed h.flagged h.short h.start h.len (sym e)).within

-- one that stands at a place of s, whose frames end at `end`
pub record Here (v : Version) (at end : ℕ) (s : List ℕ) (id : ℕ) (c f sh : Bool) (start len : ℕ) : Type 0 where
  pub head : Ok (Some (head id c f sh start len)) ≡ head_of v 1 (slice at end s)
  pub within : at + start + len ≤ length s
  pub body : take len (drop start (slice at end s)) ≡ slice (at + start) (at + start + len) s

pub here : (v : Version) (at end : ℕ) (s : List ℕ) (id : ℕ) (c f sh : Bool) (start len : ℕ) → Ok (Some (head id c f sh start len)) ≡ head_of v 1 (slice at end s)
    → Here v at end s id c f sh start len
here v at end s id c f sh start len e =
    let last : ℕ = min end (length s) in
    let cut : slice at last s ≡ slice at end s = slice_cut at end last s refl in
    let p = placed v 1 at last s (omega arith) id c f sh start len (ap (head_of v 1) cut ∙ sym e) in
    record {
      head = e;
      within = omega (arith, p.within);
      body = ap (λ (x : List ℕ). take len (drop start x)) (sym cut) ∙ p.body;
    }

-- ---- what a step says

-- the refusal of a header has a number
pub head_number_some : (v : Version) (depth : ℕ) (s : List ℕ) {k : Refusal} → Err k ≡ head_of v depth s → k.number ≡ 0 → ⊥
unfolding head_of
head_number_some v depth s e =
    let p = not_first (is_end v s) (Ok None) _ _ (sym e) ok_not_err in
    let q = not_first (eqb (first (frame_checks v depth s)) 0) _ _ _ p.1 ok_not_err in
    λ z. eqb-false (first (frame_checks v depth s)) 0 q.0 (ap (λ (r : Refusal). r.number) (err_same q.1) ∙ z)

-- the walk goes into a body and then on after it
pub record Onward (strict : Bool) (v : Version) (depth at end : ℕ) (s : List ℕ) (kind : Kind) (resynced : Bool) (start stop : ℕ) : Type 0 where
  pub shallow : depth < 9
  pub begins : at + 6 ≤ start
  pub ordered : start ≤ stop
  pub within : stop ≤ end
  pub same : (room : List ℕ) → walked strict v depth (slice at end s) room
      ≡ and_then (body_of resynced (walked strict v (depth + 1)) kind (slice start stop s) room) (walked strict v depth (slice stop end s))

module _ (strict : Bool) (v : Version) (depth at end : ℕ) (s : List ℕ) where
  stop_head : {k : Refusal} (x : Result (Option Head) Refusal) → head_of v depth (slice at end s) ≡ x → Err k ≡ step_on strict v at (slice at end s) x
      → (room : List ℕ) → (walked strict v depth (slice at end s) room ≡ (k.number, room)) × (k.number ≡ 0 → ⊥)
  unfolding step_on
  stop_head {k} (Ok None) e h room =
      let n = checked_err (left_over strict (slice at end s)) _ (sym h) in
      (walk_nothing strict v depth (slice at end s) room e ∙ ap {B = Out} (λ (j : ℕ). (j, room)) n.0, λ z. n.1 (n.0 ∙ z))
  stop_head {k} (Err j) e h room =
      let z : j ≡ k = sym (err_same h) in (
        walk_refused strict v depth (slice at end s) room e ∙ ap {B = Out} (λ (i : Refusal). (i.number, room)) z,
        head_number_some v depth (slice at end s) (ap {B = Result (Option Head) Refusal} Err (sym z) ∙ sym e),
      )
  stop_head {k} (Ok (Some h')) e h room =
      let p = not_second (unfit strict h'.short h'.flagged) (Err (refusal 29)) _ (Err k) (sym h) ok_not_err in
      let z : refusal 29 ≡ k = err_same p.1 in (
        walk_found strict v depth (slice at end s) room e ∙ rw p.0 (ap {B = Out} (λ (i : Refusal). (i.number, room)) z),
        λ n. omega (arith, ap (λ (i : Refusal). i.number) z, n),
      )

  -- the walk ends with a refusal
  pub stopped : {k : Refusal} → Err k ≡ step_at strict v depth at (slice at end s) → (room : List ℕ)
      → ◌≡◌ {A = Result Unit Refusal × List ℕ} (Err k, room) (passed_with (walked strict v depth (slice at end s) room))
  unfolding step_at
  stopped h room =
      let q = stop_head (head_of v depth (slice at end s)) refl h room in
      rw (q.0, ne_eqb _ 0 q.1)

  end_head : (x : Result (Option Head) Refusal) → head_of v depth (slice at end s) ≡ x → Ok None ≡ step_on strict v at (slice at end s) x
      → (room : List ℕ) → walked strict v depth (slice at end s) room ≡ (0, room)
  unfolding step_on
  end_head (Ok None) e h room =
      walk_nothing strict v depth (slice at end s) room e ∙ ap {B = Out} (λ (j : ℕ). (j, room)) (checked_ok (left_over strict (slice at end s)) (sym h)).0
  end_head (Err j) e h room = ok_not_err h
  end_head (Ok (Some h')) e h room = found_not_none (not_first (unfit strict h'.short h'.flagged) _ _ _ (sym h) err_not_ok).1

  -- or after the last frame
  pub ended : Ok None ≡ step_at strict v depth at (slice at end s) → (room : List ℕ) → ◌≡◌ {A = Result Unit Refusal × List ℕ} (Ok tt, room) (passed_with (walked strict v depth (slice at end s) room))
  unfolding step_at
  ended h room = rw (end_head (head_of v depth (slice at end s)) refl h room)

  module _ (le : end ≤ length s) (m : Body) where
    on_head_lem : (x : Result (Option Head) Refusal) → head_of v depth (slice at end s) ≡ x → Ok (Some m) ≡ step_on strict v at (slice at end s) x
        → Onward strict v depth at end s m.kind m.resynced m.start m.stop
    unfolding step_on
    on_head_lem (Ok None) e h = none_not_some (checked_ok (left_over strict (slice at end s)) (sym h)).1
    on_head_lem (Err k) e h = ok_not_err h
    on_head_lem (Ok (Some h')) e h =
        let p = not_first (unfit strict h'.short h'.flagged) (Err (refusal 29)) _ _ (sym h) err_not_ok in
        let g = found_same p.1 in
        let ek = ap (λ (b : Body). b.kind) g in
        let er = ap (λ (b : Body). b.resynced) g in
        let es = ap (λ (b : Body). b.start) g in
        let eo = ap (λ (b : Body). b.stop) g in
        let l = placed v depth at end s le h'.id h'.compressed h'.flagged h'.short h'.start h'.len e in
        record {
          shallow = l.shallow;
          begins = omega (arith, l.six, es);
          ordered = omega (arith, es, eo);
          within = omega (arith, l.within, eo);
          same = λ room. walk_found strict v depth (slice at end s) room e ∙ rw (p.0, l.body, l.rest, ek, er, eo, es);
        }

    pub onward : Ok (Some m) ≡ step_at strict v depth at (slice at end s) → Onward strict v depth at end s m.kind m.resynced m.start m.stop
    unfolding step_at
    onward h = on_head_lem (head_of v depth (slice at end s)) refl h
