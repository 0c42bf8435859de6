-- What a step answers, by the reader's state and by the frame at its place; and what was there where a frame is answered. Assumes nothing.
use mathlib.Core.Path.{◌≡◌, refl, sym, ap, ◌∙◌}
use Prim.Native.Nat.{ℕ}
use mathlib.Core.Bool.{Bool, true, false}
use mathlib.Core.List.{List}
use lib.ListN.{length}
use lib.Seq.{slice}
use Rattle.laws.proofs.Results.{found_same, none_not_found, err_not_ok}
use Rattle.format.specs.Walk.{Shown, frame_of}
use Rattle.format.specs.declared.Record.{Record}
use Rattle.format.specs.declared.refusals.Refusal.{Refusal}
use Rattle.format.proofs.Moves.{Moves, moves}
use Rattle.walk.specs.Sources.{source_of, room_of, frame_in}
use Rattle.reader.specs.declared.Stop.{Stop}
use Rattle.reader.specs.declared.Reader.{Reader}
use Rattle.reader.specs.Reader.{Step, Stepped, moved_to, answer_of, run_step, step_as, step_of}
use Rattle.std.specs.Prelude.{Ok, Err, Some, None}

module _ (r : Reader) (tag work : List ℕ) where
  -- by where the frames lie
  by_source : (w : Bool) → let o = frame_in r.version w r.begin r.at r.end tag work in ◌≡◌ {A = Stepped} (answer_of o.0 r, o.1) (run_step w r tag work)
  unfolding frame_in
  by_source true = refl
  by_source false = refl

  pub gone : {shown : Shown} {left : List ℕ} → ◌≡◌ {A = Shown × List ℕ} (shown, left) (frame_in r.version r.in_work r.begin r.at r.end tag work)
      → {s : Step} → s ≡ answer_of shown r → ◌≡◌ {A = Stepped} (s, left) (run_step r.in_work r tag work)
  gone e is = rw is (ap {B = Stepped} (λ (o : Shown × List ℕ). (answer_of o.0 r, o.1)) e) ∙ by_source r.in_work

  pub running : r.stop ≡ Stop.Running → {o : Stepped} → o ≡ run_step r.in_work r tag work → o ≡ step_of r tag work
  unfolding step_of
  running is e = e ∙ ap (λ (x : Stop). step_as x r tag work) (sym is)

  pub ended : r.stop ≡ Stop.Ended → ◌≡◌ {A = Stepped} ((Ok None, r), work) (step_of r tag work)
  unfolding step_of
  ended is = ap (λ (x : Stop). step_as x r tag work) (sym is)

  pub failed : {k : Refusal} → r.stop ≡ Stop.Failed k → ◌≡◌ {A = Stepped} ((Err k, r), work) (step_of r tag work)
  unfolding step_of
  failed is = ap (λ (x : Stop). step_as x r tag work) (sym is)

-- ---- a frame is answered

-- the reader ran and met it at its place, and is the same but for its place; the bytes that the frames lie in stay
pub record Answered (w : Bool) (r : Reader) (tag work left : List ℕ) (rec : Record) (r' : Reader) : Type 0 where
  pub next : ℕ
  pub shown : (frame_of r.version w r.begin r.at (slice r.at r.end (source_of w work tag)) (room_of w work)).0 ≡ Ok (Some (rec, next))
  pub moved : r' ≡ moved_to next r
  pub same : source_of w left tag ≡ source_of w work tag

module _ (r : Reader) (tag work : List ℕ) (rec : Record) (r' : Reader) where
  frame_shown : (o : Shown) → answer_of o r ≡ (Ok (Some rec), r') → (next : ℕ) × ((o ≡ Ok (Some (rec, next))) × (r' ≡ moved_to next r))
  frame_shown (Ok None) e = none_not_found (ap (λ (s : Step). s.0) e)
  frame_shown (Err k) e = err_not_ok (ap (λ (s : Step). s.0) e)
  frame_shown (Ok (Some (rec', next))) e =
      (next, (ap {B = Shown} (λ (x : Record). Ok (Some (x, next))) (found_same (ap (λ (s : Step). s.0) e)), sym (ap (λ (s : Step). s.1) e)))

  run_answered : (w : Bool) → (run_step w r tag work).0 ≡ (Ok (Some rec), r') → Answered w r tag work (run_step w r tag work).1 rec r'
  run_answered false e = let m = frame_shown _ e in record { next = m.0; shown = m.1.0; moved = m.1.1; same = refl }
  run_answered true e = let m = frame_shown _ e in record { next = m.0; shown = m.1.0; moved = m.1.1; same = refl }

  stop_answered : (stop : Stop) → (step_as stop r tag work).0 ≡ (Ok (Some rec), r') → Answered r.in_work r tag work (step_as stop r tag work).1 rec r'
  stop_answered Stop.Running e = run_answered r.in_work e
  stop_answered Stop.Ended e = none_not_found (ap (λ (s : Step). s.0) e)
  stop_answered (Stop.Failed k) e = err_not_ok (ap (λ (s : Step). s.0) e)

  module _ (e : (step_of r tag work).0 ≡ (Ok (Some rec), r')) where
    pub answered : Answered r.in_work r tag work (step_of r tag work).1 rec r'
    unfolding step_of
    answered = stop_answered r.stop e

    -- it takes at least six of the bytes before the reader
    pub answered_moves : Moves r.at (length (slice r.at r.end (source_of r.in_work work tag))) answered.next
    answered_moves = moves r.version r.in_work r.begin r.at (slice r.at r.end (source_of r.in_work work tag)) (room_of r.in_work work) answered.shown
