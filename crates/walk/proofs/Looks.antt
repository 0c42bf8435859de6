-- What lies ahead of a look, and what that says of the look. Assumes nothing.
use mathlib.Core.Path.{◌≡◌, refl, sym, ap, ◌∙◌}
use Prim.Native.Nat.{ℕ, zero, suc, ◌+◌, ◌≤◌, ◌<◌}
use native.Mathlib.Omega.{arith}
use mathlib.Core.Bool.{Bool, true, false, not, ◌||◌}
use mathlib.Core.List.{List, []}
use lib.ListN.{length}
use lib.Seq.{slice}
use lib.Dec.{eqb}
use borrow.Author.Tests.{lt-ltb, ne_eqb}
use Rattle.laws.proofs.Slices.{slice_none}
use Rattle.format.specs.Bytes.{pick}
use Rattle.format.specs.Ids.{kind_number}
use Rattle.format.specs.Frame.{head_of}
use Rattle.format.specs.Record.{body_refusal, run_of, parts_of}
use Rattle.format.specs.Walk.{is_resynced, shown_kind}
use Rattle.format.specs.Looks.{both, plain_if, unless, frame_look, on_look, look_for, look_at}
use Rattle.format.specs.declared.Version.{Version}
use Rattle.format.specs.declared.Kind.{Kind}
use Rattle.format.specs.declared.Head.{Head}
use Rattle.format.specs.Looks.{Look}
use Rattle.format.proofs.Checks.{not_first, not_second}
use Rattle.format.proofs.Looking.{look_head}
use Rattle.frame.specs.Bodies.{parsed_of}
use Rattle.walk.specs.declared.plain.Ahead.{Ahead}
use Rattle.walk.specs.declared.plain.Seen.{Seen}
use Rattle.walk.specs.Insides.{run_start, inside_at}
use Rattle.walk.specs.Plain.{seen_kind, seen_as, on_seen, seen_of, is_odd, on_ahead, ahead_of, inside_look, counted_as}
use Rattle.walk.proofs.Insides.{looked_run, run_at}
use Rattle.walk.proofs.Onwards.{placed}
use Rattle.walk.proofs.Answers.{checked_err}
use Rattle.std.specs.Prelude.{Result, Option, Ok, Err, Some, None}
use Rattle.format.specs.declared.refusals.Refusal.{Refusal}
use Rattle.format.specs.Refusals.{refusal, checked}
use Rattle.laws.proofs.Results.{err_same, ok_not_err, err_not_ok, found_same, found_not_none}
use Rattle.walk.specs.Plain.{ahead}

-- ---- what it says of the header

-- a frame with such a body
pub record Framed (v : Version) (depth at : ℕ) (b : List ℕ) (m : Ahead) : Type 0 where
  pub header : Head
  pub found : head_of v depth b ≡ Ok (Some header)
  pub stored : is_resynced header.compressed header.flagged ≡ false
  pub same : ahead (shown_kind v header.id header.compressed) (is_odd header.compressed header.flagged header.short) (at + header.start) (at + header.start + header.len) ≡ m

module _ (v : Version) (depth at : ℕ) (b : List ℕ) where
  framed_head : (m : Ahead) (x : Result (Option Head) Refusal) → head_of v depth b ≡ x → Ok (Some m) ≡ on_ahead v at x → Framed v depth at b m
  unfolding on_ahead
  framed_head m (Ok None) e h = found_not_none h
  framed_head m (Err k) e h = ok_not_err h
  framed_head m (Ok (Some x)) e h =
      let p = not_first (is_resynced x.compressed x.flagged) (Err (refusal 40)) _ _ (sym h) err_not_ok in
      record { header = x; found = e; stored = p.0; same = found_same p.1 }

  pub framed : (m : Ahead) → Ok (Some m) ≡ ahead_of v depth at b → Framed v depth at b m
  unfolding ahead_of
  framed m h = framed_head m (head_of v depth b) refl h

  end_head : (x : Result (Option Head) Refusal) → Ok None ≡ on_ahead v at x → x ≡ Ok None
  unfolding on_ahead
  end_head (Ok None) h = refl
  end_head (Err k) h = ok_not_err h
  end_head (Ok (Some x)) h = found_not_none (not_first (is_resynced x.compressed x.flagged) (Err (refusal 40)) _ _ (sym h) err_not_ok).1

  pub ended_head : Ok None ≡ ahead_of v depth at b → head_of v depth b ≡ Ok None
  unfolding ahead_of
  ended_head h = end_head (head_of v depth b) h

-- ---- what it says of the look

-- inside the frames of a chapter anything may be left over
pub look_ended : (v : Version) (depth at : ℕ) (b : List ℕ) → 1 < depth → Ok None ≡ ahead_of v depth at b → look_at v depth b ≡ Ok true
unfolding on_look
look_ended v depth at b deep h = look_head v depth b (Ok None) (ended_head v depth at b h) ∙ rw (lt-ltb 1 depth deep)

module _ (v : Version) (depth at : ℕ) (b : List ℕ) where
  stop_head : {k : Refusal} (x : Result (Option Head) Refusal) → head_of v depth b ≡ x → Err k ≡ on_ahead v at x → look_at v depth b ≡ Err k
  unfolding on_ahead on_look frame_look
  stop_head (Ok None) e h = err_not_ok h
  stop_head (Err j) e h = look_head v depth b (Err j) e ∙ ap {B = Look} Err (sym (err_same h))
  stop_head (Ok (Some x)) e h =
      let p = not_second (is_resynced x.compressed x.flagged) (Err (refusal 40)) _ _ (sym h) ok_not_err in
      look_head v depth b (Ok (Some x)) e ∙ rw p.0 (ap {B = Look} Err (err_same p.1))

  pub look_stopped : {k : Refusal} → Err k ≡ ahead_of v depth at b → look_at v depth b ≡ Err k
  unfolding ahead_of
  look_stopped h = stop_head (head_of v depth b) refl h

-- the look goes into a body and then on after it
pub record Goes (v : Version) (depth at end : ℕ) (s : List ℕ) (m : Ahead) : Type 0 where
  pub shallow : depth < 9
  pub begins : at + 6 ≤ m.start
  pub ordered : m.start ≤ m.stop
  pub within : m.stop ≤ end
  pub same : look_at v depth (slice at end s)
      ≡ both (both (inside_look (look_at v (depth + 1)) m.kind (slice m.start m.stop s)) (plain_if (not m.odd))) (look_at v depth (slice m.stop end s))

pub goes : (v : Version) (depth at end : ℕ) (s : List ℕ) → end ≤ length s → (m : Ahead) → Ok (Some m) ≡ ahead_of v depth at (slice at end s)
    → Goes v depth at end s m
unfolding on_look frame_look
goes v depth at end s le m h =
    let t = framed v depth at (slice at end s) m h in
    let l = placed v depth at end s le t.header.id t.header.compressed t.header.flagged t.header.short t.header.start t.header.len t.found in
    let ek = ap (λ (a : Ahead). a.kind) t.same in
    let eo = ap (λ (a : Ahead). a.odd) t.same in
    let es = ap (λ (a : Ahead). a.start) t.same in
    let en = ap (λ (a : Ahead). a.stop) t.same in
    record {
      shallow = l.shallow;
      begins = omega (arith, l.six, es);
      ordered = omega (arith, es, en);
      within = omega (arith, l.within, en);
      same = look_head v depth (slice at end s) _ t.found ∙ rw (t.stored, l.body, l.rest, ek, eo, en, es);
    }

-- ---- a turn: odd frames or none, and then a frame by the look into its body

pub turn_stop : (before odd : Bool) {k : Refusal} (rest : Look) → both (plain_if (not before)) (both (both (Err k) (plain_if (not odd))) rest) ≡ Err k
turn_stop true odd rest = refl
turn_stop false odd rest = refl

odd_twice : (rest : Look) → both (Ok false) (both (Ok false) rest) ≡ both (Ok false) rest
odd_twice (Err k) = refl
odd_twice (Ok false) = refl
odd_twice (Ok true) = refl

-- what was odd before, in the frame and in its body is odd
pub turned_on : (before : Bool) (odd : Bool) (rest : Look) → both (plain_if (not before)) (both (plain_if (not odd)) rest) ≡ both (plain_if (not (before || odd))) rest
turned_on true true rest = odd_twice rest
turned_on true false rest = refl
turned_on false true rest = refl
turned_on false false rest = refl

pub turn_on : (before plain odd : Bool) (rest : Look)
    → both (plain_if (not before)) (both (both (Ok plain) (plain_if (not odd))) rest) ≡ both (plain_if (not (before || (odd || not plain)))) rest
turn_on true true true rest = odd_twice rest
turn_on true false true rest = odd_twice rest
turn_on true true false rest = refl
turn_on true false false rest = odd_twice rest
turn_on false true true rest = refl
turn_on false false true rest = refl
turn_on false true false rest = refl
turn_on false false false rest = refl

-- nothing after the last frame
pub both_end : (x : Look) → both x (Ok true) ≡ x
both_end (Err k) = refl
both_end (Ok false) = refl
both_end (Ok true) = refl

pub plain_is : (t : Bool) → plain_if t ≡ Ok t
plain_is true = refl
plain_is false = refl

pub both_stop : (t : Bool) (k : Refusal) → both (plain_if t) (Err k) ≡ Err k
both_stop true k = refl
both_stop false k = refl

-- ---- a body

-- no bytes are plain
pub no_run : (v : Version) (depth : ℕ) → look_at v depth [] ≡ Ok true
unfolding look_at look_for
no_run v depth = refl

module _ (v : Version) (depth : ℕ) (kind : Kind) (from to : ℕ) (s : List ℕ) where
  abbrev body : List ℕ
  body = slice from to s

  pub body_stopped : {k : Refusal} → Err k ≡ inside_at kind from body → Err k ≡ inside_look (look_at v depth) kind body
  unfolding inside_at
  body_stopped {k} e = by (body_refusal kind body) e
    where
      by : (j : ℕ) → Err k ≡ checked j (from + run_start kind body) → Err k ≡ unless j (look_at v depth (run_of kind body))
      by zero h = err_not_ok h
      by (suc j) h = ap {B = Look} (λ (n : ℕ). Err (refusal n)) (sym (checked_err (suc j) _ (sym h)).0)

  module _ (place : ℕ) (e : Ok place ≡ inside_at kind from (slice from to s)) where
    pub body_run : look_at v depth (slice place to s) ≡ inside_look (look_at v depth) kind (slice from to s)
    body_run =
        let l = looked_run kind from body place e in
        let r : slice place to s ≡ run_of kind body = ap (λ (n : ℕ). slice n to s) l.1 ∙ run_at kind from to s in
        rw (l.0, r)

    pub body_none : to ≤ place → Ok true ≡ inside_look (look_at v depth) kind (slice from to s)
    body_none h = sym (no_run v depth) ∙ ap (look_at v depth) (sym (slice_none place to s h)) ∙ body_run

-- ---- a frame of the top level

pub seen_stopped : (v : Version) (at : ℕ) (b : List ℕ) {k : Refusal} → Err k ≡ ahead_of v 1 at b → Err k ≡ seen_of v at b
unfolding ahead_of on_ahead seen_of on_seen frame_look
seen_stopped v at b {k} h = by (head_of v 1 b) h
  where
    by : (x : Result (Option Head) Refusal) → Err k ≡ on_ahead v at x → Err k ≡ on_seen v at b x
    by (Ok None) g = err_not_ok g
    by (Err j) g = ap {B = Result (Option Seen) Refusal} Err (err_same g)
    by (Ok (Some x)) g =
        let p = not_second (is_resynced x.compressed x.flagged) (Err (refusal 40)) _ _ (sym g) ok_not_err in
        rw p.0 (ap {B = Result (Option Seen) Refusal} Err (sym (err_same p.1)))

pub seen_ended : (v : Version) (at : ℕ) (b : List ℕ) → Ok None ≡ ahead_of v 1 at b → Ok None ≡ seen_of v at b
unfolding seen_of on_seen
seen_ended v at b h = rw (ended_head v 1 at b h)

-- by the look into its body
module _ (v : Version) (at end : ℕ) (s : List ℕ) (le : end ≤ length s) (m : Ahead) (h : Ok (Some m) ≡ ahead_of v 1 at (slice at end s)) where
  pub seen_body : seen_of v at (slice at end s)
      ≡ seen_as (both (inside_look (look_at v 2) m.kind (slice m.start m.stop s)) (plain_if (not m.odd))) m.kind m.start m.stop (slice m.start m.stop s)
  unfolding seen_of on_seen frame_look
  seen_body =
      let t = framed v 1 at (slice at end s) m h in
      let l = placed v 1 at end s le t.header.id t.header.compressed t.header.flagged t.header.short t.header.start t.header.len t.found in
      let ek = ap (λ (a : Ahead). a.kind) t.same in
      let eo = ap (λ (a : Ahead). a.odd) t.same in
      let es = ap (λ (a : Ahead). a.start) t.same in
      let en = ap (λ (a : Ahead). a.stop) t.same in
      rw (t.found, t.stored, l.body, ek, eo, en, es)

-- of another kind than popularimeters
seen_frame : (kind : Kind) (start next : ℕ) (b : List ℕ) (odd : Bool) → eqb (kind_number kind) 1 ≡ false → Ok (Some (Seen.Frame next odd)) ≡ seen_kind kind start next b odd
seen_frame Kind.Text start next b odd h = refl
seen_frame Kind.Popularimeter start next b odd h = absurd (let z : ◌≡◌ {A = ℕ} 0 1 = cc in omega arith)
seen_frame Kind.Table start next b odd h = refl
seen_frame Kind.Chapter start next b odd h = refl
seen_frame Kind.Contents start next b odd h = refl
seen_frame Kind.Raw start next b odd h = refl

pub passed_seen : (kind : Kind) (start next : ℕ) (b : List ℕ) (plain odd : Bool) → eqb (kind_number kind) 1 ≡ false
    → Ok (Some (Seen.Frame next (odd || not plain))) ≡ seen_as (both (Ok plain) (plain_if (not odd))) kind start next b
passed_seen kind start next b true true h = seen_frame kind start next b true h
passed_seen kind start next b false true h = seen_frame kind start next b true h
passed_seen kind start next b true false h = seen_frame kind start next b false h
passed_seen kind start next b false false h = seen_frame kind start next b true h

-- a popularimeter, by what its body holds
pub counted_seen : (v : Version) (start next : ℕ) (b : List ℕ) (odd : Bool)
    → counted_as (parsed_of v Kind.Popularimeter start b) next odd
    ≡ seen_as (both (inside_look (look_at v 2) Kind.Popularimeter b) (plain_if (not odd))) Kind.Popularimeter start next b
unfolding parsed_of parts_of run_of look_at look_for
counted_seen v start next b odd = by (body_refusal Kind.Popularimeter b) odd
  where
    by : (k : ℕ) (t : Bool) → counted_as (pick (eqb k 0) (Ok (parts_of v Kind.Popularimeter start b)) (Err (refusal k))) next t
        ≡ seen_as (both (unless k (look_at v 2 [])) (plain_if (not t))) Kind.Popularimeter start next b
    by zero true = refl
    by zero false = refl
    by (suc k) t = rw (ne_eqb (suc k) 0 (λ z. omega arith))
