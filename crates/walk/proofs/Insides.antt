-- What looking into a body answers. Assumes nothing.
use mathlib.Core.Path.{◌≡◌, refl, sym, ap, ◌∙◌}
use Prim.Native.Nat.{ℕ, suc, ◌+◌, ◌≤◌}
use native.Mathlib.Nat.{le_refl}
use native.Mathlib.Omega.{arith}
use mathlib.Core.List.{List}
use lib.ListN.{length, drop, drop_of_length-le}
use lib.Seq.{slice, length-slice}
use borrow.Author.Tests.{ne_eqb}
use Rattle.laws.proofs.Slices.{slice_drop}
use Rattle.format.specs.Record.{body_refusal, run_of, parts_of}
use Rattle.format.specs.Walk.{Out, inside_of}
use Rattle.format.specs.declared.Version.{Version}
use Rattle.format.specs.declared.Kind.{Kind}
use Rattle.frame.specs.Bodies.{parsed_of}
use Rattle.walk.proofs.Answers.{checked_ok, checked_err}
use Rattle.walk.specs.Insides.{run_start, inside_at, place_of}
use Rattle.std.specs.Prelude.{Result, Ok, Err}
use Rattle.format.specs.declared.refusals.Refusal.{Refusal}
use Rattle.format.specs.Refusals.{refusal, passed_with}
use Rattle.format.specs.declared.Parts.{Parts}

-- ---- the run lies from its start on

run_there : (kind : Kind) (b : List ℕ) → drop (run_start kind b) b ≡ run_of kind b
unfolding run_start run_of
run_there Kind.Text b = drop_of_length-le b (le_refl (length b))
run_there Kind.Popularimeter b = drop_of_length-le b (le_refl (length b))
run_there Kind.Table b = drop_of_length-le b (le_refl (length b))
run_there Kind.Chapter b = refl
run_there Kind.Contents b = refl
run_there Kind.Raw b = drop_of_length-le b (le_refl (length b))

-- a body in a list
pub run_at : (kind : Kind) (from to : ℕ) (s : List ℕ) → slice (from + run_start kind (slice from to s)) to s ≡ run_of kind (slice from to s)
run_at kind from to s = slice_drop from (run_start kind (slice from to s)) to s ∙ run_there kind (slice from to s)

-- ---- the answer by the parts

module _ (v : Version) (at to : ℕ) (b : List ℕ) (ends : at + length b ≡ to) where
  pub parts_place : (kind : Kind) → place_of kind (parts_of v kind at b) to ≡ at + run_start kind b
  unfolding place_of parts_of run_start
  parts_place Kind.Text = sym ends
  parts_place Kind.Popularimeter = sym ends
  parts_place Kind.Table = sym ends
  parts_place Kind.Chapter = refl
  parts_place Kind.Contents = refl
  parts_place Kind.Raw = sym ends

-- of a body in a list that was read as one of its kind, or was refused
module _ (v : Version) (kind : Kind) (from to : ℕ) (s : List ℕ) where
  pub parsed_run : {p : Parts} → from ≤ to → to ≤ length s → Ok p ≡ parsed_of v kind from (slice from to s) → Ok (place_of kind p to) ≡ inside_at kind from (slice from to s)
  unfolding parsed_of inside_at
  parsed_run le fit e =
      let b = slice from to s in
      let l = length-slice from to s fit in
      let q = checked_ok (body_refusal kind b) (sym e) in
      rw q.0 (ap Ok (ap (λ (x : Parts). place_of kind x to) (sym q.1) ∙ parts_place v from to b (omega arith) kind))

  pub parsed_stop : {k : Refusal} → Err k ≡ parsed_of v kind from (slice from to s) → Err k ≡ inside_at kind from (slice from to s)
  unfolding parsed_of inside_at
  parsed_stop e =
      let b = slice from to s in
      let q = checked_err (body_refusal kind b) _ (sym e) in
      rw (ne_eqb (body_refusal kind b) 0 q.1) (ap {B = Result ℕ Refusal} (λ (n : ℕ). Err (refusal n)) (sym q.0))

-- ---- the answer

module _ (kind : Kind) (at : ℕ) (b : List ℕ) where
  pub refused_inside : (k : ℕ) → body_refusal kind b ≡ suc k → Err (refusal (suc k)) ≡ inside_at kind at b
  unfolding inside_at
  refused_inside k e = rw (e, ne_eqb (suc k) 0 (λ z. omega arith))

  pub runs_inside : (place : ℕ) → body_refusal kind b ≡ 0 → place ≡ at + run_start kind b → Ok place ≡ inside_at kind at b
  unfolding inside_at
  runs_inside place e f = rw (e, f)

  -- a raw body has no run
  pub raw_inside : (to : ℕ) → at + length b ≡ to → kind ≡ Kind.Raw → Ok to ≡ inside_at kind at b
  unfolding inside_at body_refusal run_start
  raw_inside to ends e = rw (e, ends)

  -- what an answer says
  pub looked_refused : {k : Refusal} (go : List ℕ → List ℕ → Out) (room : List ℕ) → Err k ≡ inside_at kind at b → ◌≡◌ {A = Result Unit Refusal × List ℕ} (Err k, room) (passed_with (inside_of go kind b room))
  unfolding inside_at inside_of
  looked_refused {k} go room e =
      let q = checked_err (body_refusal kind b) _ (sym e) in
      rw (ne_eqb (body_refusal kind b) 0 q.1, ne_eqb (body_refusal kind b) 0 q.1) (ap {B = Result Unit Refusal × List ℕ} (λ (n : ℕ). (Err (refusal n), room)) (sym q.0))

  pub looked_run : (place : ℕ) → Ok place ≡ inside_at kind at b → (body_refusal kind b ≡ 0) × (place ≡ at + run_start kind b)
  unfolding inside_at
  looked_run place e =
      let q = checked_ok (body_refusal kind b) (sym e) in
      (q.0, sym q.1)

-- a body in a list: its run is what lies from the answer to the body's end
module _ (kind : Kind) (from to place : ℕ) (s : List ℕ) (e : Ok place ≡ inside_at kind from (slice from to s)) where
  pub run_from : from ≤ place
  run_from = omega (arith, (looked_run kind from (slice from to s) place e).1)

  pub run_walked : (go : List ℕ → List ℕ → Out) (room : List ℕ) → inside_of go kind (slice from to s) room ≡ go (slice place to s) room
  unfolding inside_of
  run_walked go room =
      let l = looked_run kind from (slice from to s) place e in
      let r : run_of kind (slice from to s) ≡ slice place to s = sym (run_at kind from to s) ∙ ap (λ (k : ℕ). slice k to s) (sym l.1) in
      rw (l.0, r)

-- ---- text

pub text_runs : (at to : ℕ) (b : List ℕ) → at + length b ≡ to → to ≡ at + run_start Kind.Text b
unfolding run_start
text_runs at to b e = sym e
