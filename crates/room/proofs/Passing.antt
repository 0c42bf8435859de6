-- A frame that a reader passes: what its line shows of it, held against the bytes that it takes. Assumes nothing.
use mathlib.Core.Path.{◌≡◌, refl, sym, ap}
use Prim.Native.Nat.{ℕ, ◌+◌, ◌≤◌}
use native.Mathlib.Omega.{arith}
use mathlib.Core.Bool.{Bool, true, false}
use mathlib.Core.List.{List, []}
use lib.ListN.{length, take, drop, length-take}
use lib.Seq.{slice}
use lib.Dec.{ltb, eqb}
use borrow.Author.Tests.{eqb-true}
use Rattle.laws.proofs.Cuts.{length_cut}
use Rattle.laws.proofs.Results.{err_not_ok, found_same, none_not_found}
use Rattle.format.specs.Bytes.{pick}
use Rattle.format.specs.Unsynch.{resynchronised}
use Rattle.format.specs.Frame.{head_of}
use Rattle.format.specs.Record.{body_refusal, parts_of}
use Rattle.format.specs.Walk.{Out, behind, inside_of, resynced_of, is_resynced, shown_body, body_of, shown_kind, walked, shown_of, on_shown, frame_of}
use Rattle.format.specs.declared.Version.{Version}
use Rattle.format.specs.declared.Kind.{Kind}
use Rattle.format.specs.declared.Head.{Head}
use Rattle.format.specs.declared.Record.{Record}
use Rattle.format.proofs.Checks.{not_second}
use Rattle.format.proofs.Heads.{stands, lies}
use Rattle.format.proofs.Popularimeter.{taken_counted}
use Rattle.format.proofs.Strict.{inside_passed}
use Rattle.format.proofs.Unsynch.{resync_shorter}
use Rattle.lines.proofs.Parts.{body_least}
use Rattle.reader.specs.Reader.{step_of}
use Rattle.reader.specs.declared.Reader.{Reader}
use Rattle.reader.proofs.Steps.{answered}
use Rattle.promises.proofs.Bounds.{ahead}
use Rattle.std.specs.Prelude.{Result, Option, Ok, Err, Some, None}
use Rattle.format.specs.declared.refusals.Refusal.{Refusal}

-- ---- bodies

-- a body that is not refused has the bytes that its fields and its user need
has_least : (v : Version) (kind : Kind) (at : ℕ) (b : List ℕ) → body_refusal kind b ≡ 0
    → body_least (parts_of v kind at b).fields (parts_of v kind at b).name.len ≤ length b
unfolding body_refusal parts_of
has_least v Kind.Text at b e = omega arith
has_least v Kind.Popularimeter at b e = omega (arith, (taken_counted b e).rated)
has_least v Kind.Table at b e = omega arith
has_least v Kind.Chapter at b e = omega arith
has_least v Kind.Contents at b e = omega arith
has_least v Kind.Raw at b e = omega arith

-- a body that was gone through was not refused
body_passed : (resynced : Bool) (go : List ℕ → List ℕ → Out) (kind : Kind) (b room : List ℕ) → (body_of resynced go kind b room).0 ≡ 0
    → body_refusal kind (shown_body resynced b) ≡ 0
unfolding resynced_of
body_passed true go kind b room e = by_room (ltb (length room) (length (resynchronised b))) e
  where
    by_room : (t : Bool) → (pick t (14, room) (behind (resynchronised b) (inside_of go kind (resynchronised b) (drop (length (resynchronised b)) room)))).0 ≡ 0
        → body_refusal kind (resynchronised b) ≡ 0
    by_room true e = absurd (omega arith)
    by_room false e = (inside_passed go kind (resynchronised b) (drop (length (resynchronised b)) room) e).0
body_passed false go kind b room e = (inside_passed go kind b room e).0

body_shorter : (resynced : Bool) (b : List ℕ) → length (shown_body resynced b) ≤ length b
body_shorter true b = resync_shorter false b
body_shorter false b = omega arith

-- ---- a frame

-- a frame at `at`, in front of n bytes, is followed by what begins at next
record Shows (at n : ℕ) (rec : Record) (next : ℕ) : Type 0 where
  place : rec.at ≤ at
  body : rec.body.len ≤ n
  bytes : at + (6 + body_least rec.heading.fields rec.name.len) ≤ next
  within : next ≤ at + n

shown_is : (k : ℕ) (rec rec' : Record) (next next' : ℕ) → shown_of k rec next ≡ Ok (Some (rec', next'))
    → (k ≡ 0) × ((rec' ≡ rec) × (next' ≡ next))
shown_is k rec rec' next next' e =
    let q = not_second (eqb k 0) _ _ _ e err_not_ok in
    let p = found_same q.1 in
    (eqb-true k 0 q.0, (sym (ap (λ (o : Record × ℕ). o.0) p), sym (ap (λ (o : Record × ℕ). o.1) p)))

module _ (v : Version) (inWork : Bool) (begin at : ℕ) (s room : List ℕ) {rec : Record} {next : ℕ} where
  head_shows : (x : Result (Option Head) Refusal) → head_of v 1 s ≡ x → (on_shown v inWork begin at s room x).0 ≡ Ok (Some (rec, next)) → Shows at (length s) rec next
  unfolding on_shown
  head_shows (Ok None) h e = none_not_found e
  head_shows (Err k) h e = err_not_ok e
  head_shows (Ok (Some h')) h e =
      let l = lies (stands v 1 s h'.id h'.compressed h'.flagged h'.short h'.start h'.len h) in
      let stored = take h'.len (drop h'.start s) in
      let resynced = is_resynced h'.compressed h'.flagged in
      let kind = shown_kind v h'.id h'.compressed in
      let b = shown_body resynced stored in
      let place = pick resynced 0 (at + h'.start) in
      let o = body_of resynced (walked false v 2) kind stored room in
      let q = shown_is o.0 _ rec _ next e in
      let least = has_least v kind place b (body_passed resynced (walked false v 2) kind stored room q.0) in
      let fewer : length b ≤ h'.len = omega (arith, body_shorter resynced stored, length-take h'.len (drop h'.start s)) in
      rw (q.1.0, q.1.1)
      (record { place = omega arith; body = omega (arith, l.within); bytes = omega (arith, l.six, least, fewer); within = omega (arith, l.within) })

  shows : (frame_of v inWork begin at s room).0 ≡ Ok (Some (rec, next)) → Shows at (length s) rec next
  unfolding frame_of
  shows e = head_shows (head_of v 1 s) refl e

-- ---- a step

-- a reader at a place with n bytes before it passes a frame, and is then at at' with m bytes before it
pub record Passed (at n : ℕ) (rec : Record) (at' m : ℕ) : Type 0 where
  pub place : rec.at ≤ at
  pub body : rec.body.len ≤ n
  pub onward : at' + m ≤ at + n
  pub bytes : m + (6 + body_least rec.heading.fields rec.name.len) ≤ n

passes : (r : Reader) (s : List ℕ) (rec : Record) (next : ℕ) → Shows r.at (length (slice r.at r.end s)) rec next
    → Passed r.at (length (slice r.at r.end s)) rec next (length (slice next r.end s))
passes r s rec next h =
    let n = length_cut r.at r.end s in
    let m = length_cut next r.end s in
    record { place = h.place; body = h.body; onward = omega (arith, n, m, h.bytes, h.within); bytes = omega (arith, n, m, h.bytes, h.within) }

pub step_passed : (r : Reader) (tag work : List ℕ) (rec : Record) (r' : Reader) → (step_of r tag work).0 ≡ (Ok (Some rec), r')
    → Passed r.at (ahead r tag work) rec r'.at (ahead r' tag (step_of r tag work).1)
step_passed r tag work rec r' e =
    let a = answered r tag work rec r' e in
    let s = pick r.in_work work tag in
    rw (a.moved, a.same) (passes r s rec a.next (shows r.version r.in_work r.begin r.at (slice r.at r.end s) (pick r.in_work [] work) a.shown))
