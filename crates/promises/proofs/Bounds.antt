-- Any bytes: few frames, every reading ends, and a reader that stopped stays stopped. Assumes nothing.
use mathlib.Core.Path.{◌≡◌, refl, sym, ap, subst}
use Prim.Native.Nat.{ℕ, zero, suc, ◌+◌, ◌*◌, ◌≤◌}
use native.Mathlib.Omega.{arith}
use mathlib.Core.Bool.{Bool, true, false, not}
use mathlib.Core.List.{List, []}
use lib.ListN.{length, length-take}
use lib.Seq.{slice}
use lib.Dec.{ltb, eqb}
use borrow.Author.Tests.{eqb-true, not-false}
use Rattle.laws.proofs.Cuts.{length_cut}
use Rattle.laws.proofs.Results.{ok_same, err_not_ok}
use Rattle.format.specs.Bytes.{pick, put_front}
use Rattle.format.specs.Unsynch.{resynchronised}
use Rattle.format.specs.Header.{version_of, edition_of, header_refusal, is_whole, size_of, region_start, region_end, region_of}
use Rattle.format.specs.Walk.{frame_of, Shown}
use Rattle.format.specs.declared.Version.{Version}
use Rattle.format.specs.declared.Record.{Record}
use Rattle.format.proofs.Checks.{of_picked}
use Rattle.format.proofs.Unsynch.{resync_shorter}
use Rattle.walk.specs.Sources.{source_of}
use Rattle.reader.specs.Reader.{reader_at, open_whole, open_of, answer_of, run_step, step_as, step_of, Step}
use Rattle.reader.specs.Answers.{step_number, step_record, step_reader}
use Rattle.reader.specs.declared.Stop.{Stop}
use Rattle.reader.specs.declared.Reader.{Reader}
use Rattle.reader.proofs.Refusals.{accepted}
use Rattle.reader.proofs.Steps.{ended, failed, answered, answered_moves}
use Rattle.promises.specs.Reading.{refused, unfinished, ending_of, Reading, on_step, read_from, on_open, read_for}
use Rattle.promises.specs.Promises.{FewFrames, Finishes, Stays, StaysRefused, StaysEnded}
use Rattle.std.specs.Prelude.{Result, Ok, Err, Some, None}
use Rattle.format.specs.declared.refusals.Refusal.{Refusal}
use Rattle.format.specs.Refusals.{refusal}

-- ---- how many bytes a reader has before it

-- in the work buffer or in the tag
abbrev pub ahead : Reader → List ℕ → List ℕ → ℕ
ahead r tag work = length (slice r.at r.end (source_of r.in_work work tag))

-- ---- a step

module _ (r : Reader) (tag work : List ℕ) (rec : Record) (r' : Reader) (e : (step_of r tag work).0 ≡ (Ok (Some rec), r')) where
  -- A frame takes at least six of the bytes before the reader.
  pub step_ahead : ahead r' tag (step_of r tag work).1 + 6 ≤ ahead r tag work
  step_ahead =
      let a = answered r tag work rec r' e in
      let m = answered_moves r tag work rec r' e in
      let s = source_of r.in_work work tag in
      rw (a.moved, a.same) (omega (arith, m.six, m.within, length_cut r.at r.end s, length_cut a.next r.end s))

  -- The edition stays.
  pub step_version : r'.version ≡ r.version
  step_version = ap (λ (x : Reader). x.version) (answered r tag work rec r' e).moved

-- ---- any number of steps

-- what n steps found in so many bytes, some of them spare
record Bounded (n spare : ℕ) (o : Reading) (bytes : ℕ) : Type 0 where
  few : 6 * length o.0 ≤ bytes
  long : o.1 ≡ unfinished → 6 * n + spare ≤ bytes

refused_not : (k : ℕ) → refused k ≡ unfinished → ⊥
refused_not k e = let z : ◌≡◌ {A = ℕ} 0 1 = cc in omega arith

ending_not : (k : ℕ) → ending_of k ≡ unfinished → ⊥
ending_not zero e = let z : ◌≡◌ {A = ℕ} 0 1 = cc in omega arith
ending_not (suc k) e = refused_not (suc k) e

module _ (n : ℕ) (tag : List ℕ) (r : Reader) (work : List ℕ)
    (go : (r' : Reader) (left : List ℕ) → Bounded n 0 (read_from n tag r' left) (ahead r' tag left)) where
  step_bounded : (x : Step) → (step_of r tag work).0 ≡ x → Bounded (suc n) 0 (on_step (read_from n tag) tag x (step_of r tag work).1) (ahead r tag work)
  step_bounded (Ok (Some rec), r') e =
      let b = go r' (step_of r tag work).1 in
      let s = step_ahead r tag work rec r' e in
      record { few = omega (arith, b.few); long = λ u. omega (arith, b.long u) }
  step_bounded (Ok None, r') e = record { few = omega arith; long = λ u. absurd (ending_not 0 u) }
  step_bounded (Err k, r') e = record { few = omega arith; long = λ u. absurd (ending_not k.number u) }

from_bounded : (n : ℕ) (tag : List ℕ) (r : Reader) (work : List ℕ) → Bounded n 0 (read_from n tag r work) (ahead r tag work)
unfolding read_from
from_bounded zero tag r work = record { few = omega arith; long = λ e. omega arith }
from_bounded (suc n) tag r work = step_bounded n tag r work (from_bounded n tag) (step_of r tag work).0 refl

-- ---- opening

-- a reader that was opened has at least ten bytes fewer before it than the tag has, and they end with the tag
pub record Within (tag : List ℕ) (r : Reader) (bytes : ℕ) : Type 0 where
  pub few : bytes + 10 ≤ length tag
  pub place : r.at + bytes ≤ length tag

abbrev pub Opens : List ℕ → Result Reader Refusal × List ℕ → Type 0
Opens tag o = (r : Reader) → o.0 ≡ Ok r → Within tag r (ahead r tag o.1)

refused_opens : (tag work : List ℕ) (k : Refusal) → Opens tag (Err k, work)
refused_opens tag work k r e = err_not_ok e

ready_opens : (tag work : List ℕ) (r : Reader) → Within tag r (ahead r tag work) → Opens tag (Ok r, work)
ready_opens tag work r h r' e = rw (ok_same e) at h

whole_opens : (v : Version) (u tag work : List ℕ) → length u + 10 ≤ length tag → Opens tag (open_whole v u work)
unfolding open_whole
whole_opens v u tag work h =
    let n = length_cut 0 (length u) (put_front u work) in
    of_picked (Opens tag) (ltb (length work) (length u))
    (λ t. refused_opens tag work (refusal 14))
    (λ t. ready_opens tag (put_front u work) (reader_at v true 0 (length u)) (record { few = omega (arith, n); place = omega (arith, n) }))

module _ (tag : List ℕ) (ten : 10 ≤ length tag) where
  region_few : length (region_of tag) + 10 ≤ length tag
  region_few = omega (arith, length_cut (region_start tag) (region_end tag) tag, length-take (10 + size_of tag) tag)

  region_place : region_start tag + length (region_of tag) ≤ length tag
  region_place = omega (arith, length_cut (region_start tag) (region_end tag) tag, length-take (10 + size_of tag) tag)

  region_opens : (work : List ℕ)
      → Opens tag
      (pick (is_whole tag) (open_whole (version_of (edition_of tag)) (resynchronised (region_of tag)) work)
      (Ok (reader_at (version_of (edition_of tag)) false (region_start tag) (region_end tag)), work))
  region_opens work =
      of_picked (Opens tag) (is_whole tag)
      (λ t. whole_opens (version_of (edition_of tag)) (resynchronised (region_of tag)) tag work (omega (arith, resync_shorter false (region_of tag), region_few)))
      (λ t. ready_opens tag work (reader_at (version_of (edition_of tag)) false (region_start tag) (region_end tag)) (record { few = region_few; place = region_place }))

pub open_within : (tag work : List ℕ) → Opens tag (open_of tag work)
unfolding open_of
open_within tag work =
    of_picked (Opens tag) (not (eqb (header_refusal tag) 0))
    (λ t. refused_opens tag work (refusal (header_refusal tag)))
    (λ t. region_opens tag (accepted tag (eqb-true _ _ (not-false _ t))).begun work)

-- ---- the promises

open_bounded : (n : ℕ) (tag : List ℕ) (o : Result Reader Refusal) (work : List ℕ) → Opens tag (o, work) → Bounded n 10 (on_open n tag o work) (length tag)
open_bounded n tag (Ok r) work h =
    let b = from_bounded n tag r work in
    let w = (h r refl).few in
    record { few = omega (arith, b.few); long = λ u. omega (arith, b.long u) }
open_bounded n tag (Err k) work h = record { few = omega arith; long = λ u. absurd (refused_not k.number u) }

pub few_frames : FewFrames
unfolding read_for
few_frames n tag work =
    let b = open_bounded n tag (open_of tag work).0 (open_of tag work).1 (open_within tag work) in
    omega (arith, b.few)

pub finishes : Finishes
unfolding read_for
finishes tag work e =
    let b = open_bounded (length tag) tag (open_of tag work).0 (open_of tag work).1 (open_within tag work) in
    omega (arith, b.long e)

-- ---- a reader that stopped

-- a step without a record leaves a reader that stopped as it answers
abbrev Stopped : Step → Type 0
Stopped (Ok (Some rec), r') = Unit {0}
Stopped (Ok None, r') = r'.stop ≡ Stop.Ended
Stopped (Err k, r') = r'.stop ≡ Stop.Failed k

shown_stopped : (o : Shown) (r : Reader) → Stopped (answer_of o r)
shown_stopped (Ok None) r = refl
shown_stopped (Err k) r = refl
shown_stopped (Ok (Some (rec, next))) r = tt {0}

run_stopped : (w : Bool) (r : Reader) (tag work : List ℕ) → Stopped (run_step w r tag work).0
run_stopped false r tag work = shown_stopped (frame_of r.version false r.begin r.at (slice r.at r.end tag) work).0 r
run_stopped true r tag work = shown_stopped (frame_of r.version true r.begin r.at (slice r.at r.end work) []).0 r

stop_stopped : (x : Stop) (r : Reader) (tag work : List ℕ) → r.stop ≡ x → Stopped (step_as x r tag work).0
stop_stopped Stop.Running r tag work is = run_stopped r.in_work r tag work
stop_stopped Stop.Ended r tag work is = is
stop_stopped (Stop.Failed k) r tag work is = is

step_stopped : (r : Reader) (tag work : List ℕ) → Stopped (step_of r tag work).0
unfolding step_of
step_stopped r tag work = stop_stopped r.stop r tag work refl

-- what it answered it answers again
pub refused_again : (r r' : Reader) (tag work tag' work' : List ℕ) (k : Refusal) → (step_of r tag work).0 ≡ (Err k, r')
    → step_of r' tag' work' ≡ ((Err k, r'), work')
refused_again r r' tag work tag' work' k e = sym (failed r' tag' work' (subst (λ (x : Step). Stopped x) e (step_stopped r tag work)))

pub ended_again : (r r' : Reader) (tag work tag' work' : List ℕ) → (step_of r tag work).0 ≡ (Ok None, r') → step_of r' tag' work' ≡ ((Ok None, r'), work')
ended_again r r' tag work tag' work' e = sym (ended r' tag' work' (subst (λ (x : Step). Stopped x) e (step_stopped r tag work)))

module _ (r : Reader) (tag work tag' work' : List ℕ) where
  -- a step without a record
  again : (k : ℕ) (s : Step) → (step_of r tag work).0 ≡ s → step_number s ≡ k → step_record s ≡ [] → Stays k (step_reader s) work' (step_of (step_reader s) tag' work')
  again k (Ok (Some rec), r') e n l = absurd (let z : ◌≡◌ {A = ℕ} 0 1 = cc in omega arith)
  again k (Ok None, r') e n l = rw (ended_again r r' tag work tag' work' e) (n, refl, refl, refl)
  again k (Err j, r') e n l = rw (refused_again r r' tag work tag' work' j e) (n, refl, refl, refl)

pub no_record : (k : ℕ) (s : Step) → step_number s ≡ suc k → step_record s ≡ []
no_record k (Ok (Some rec), r) n = absurd (omega arith)
no_record k (Ok None, r) n = refl
no_record k (Err j, r) n = refl

pub stays_refused : StaysRefused
stays_refused r tag work tag' work' k n = again r tag work tag' work' (suc k) (step_of r tag work).0 refl n (no_record k (step_of r tag work).0 n)

pub stays_ended : StaysEnded
stays_ended r tag work tag' work' n l = again r tag work tag' work' 0 (step_of r tag work).0 refl n l
