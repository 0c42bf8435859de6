-- What the strict walk accepts, the walk of a reader reads. Assumes nothing.
use mathlib.Core.Path.{◌≡◌, refl, ◌∙◌}
use Prim.Native.Nat.{ℕ, zero, suc, ◌+◌, ◌<◌}
use native.Mathlib.Omega.{arith}
use mathlib.Core.Bool.{Bool, true, false}
use mathlib.Core.List.{List}
use lib.ListN.{length, take, drop, length-take, length-drop}
use lib.Dec.{eqb}
use borrow.Author.Tests.{eqb-true, eqb-false}
use Rattle.format.specs.Bytes.{pick}
use Rattle.format.specs.Frame.{head_of}
use Rattle.format.specs.Record.{body_refusal, run_of}
use Rattle.format.specs.Walk.{Out, and_then, inside_of, body_of, is_resynced, shown_kind, unfit, walked}
use Rattle.format.specs.declared.Version.{Version}
use Rattle.format.specs.declared.Kind.{Kind}
use Rattle.format.specs.declared.Head.{Head}
use Rattle.format.proofs.Heads.{stands, lies}
use Rattle.format.proofs.Walks.{run_shorter, walk_nothing, walk_refused, walk_found}
use Rattle.std.specs.Prelude.{Result, Option, Ok, Err, Some, None}
use Rattle.format.specs.declared.refusals.Refusal.{Refusal}
use Rattle.format.specs.Frame.{head}

-- ---- one after the other

passed_on : (o : Out) (k : List ℕ → Out) (t : Bool) → eqb o.0 0 ≡ t → (pick t (k o.1) o).0 ≡ 0 → (o.0 ≡ 0) × ((k o.1).0 ≡ 0)
passed_on o k true h e = (eqb-true _ _ h, e)
passed_on o k false h e = absurd (eqb-false _ _ h e)

-- where nothing is refused, neither the first nor what goes on refuses
pub both_passed : (o : Out) (k : List ℕ → Out) → (and_then o k).0 ≡ 0 → (o.0 ≡ 0) × ((k o.1).0 ≡ 0)
both_passed o k e = passed_on o k (eqb o.0 0) refl e

pub inside_passed : (go : List ℕ → List ℕ → Out) (kind : Kind) (b room : List ℕ) → (inside_of go kind b room).0 ≡ 0
    → (body_refusal kind b ≡ 0) × ((go (run_of kind b) room).0 ≡ 0)
unfolding inside_of
inside_passed go kind b room e = both_passed (body_refusal kind b, room) (go (run_of kind b)) e

-- a body that is not refused is as its run
pub inside_run : (go : List ℕ → List ℕ → Out) (kind : Kind) (b room : List ℕ) → body_refusal kind b ≡ 0 → inside_of go kind b room ≡ go (run_of kind b) room
unfolding inside_of
inside_run go kind b room e = rw e

-- ---- a frame

fit : (short flagged : Bool) (room : List ℕ) (o : Out) → (pick (unfit true short flagged) (29, room) o).0 ≡ 0
    → (short ≡ false) × (flagged ≡ false) × (o.0 ≡ 0)
fit true flagged room o e = absurd (omega arith)
fit false true room o e = absurd (omega arith)
fit false false room o e = (refl, refl, e)

-- A frame that the strict walk accepts is whole and not flagged, and nothing refuses its body, the run in it or what follows it.
pub record Accepted (v : Version) (depth : ℕ) (s room : List ℕ) (id : ℕ) (compressed flagged short : Bool) (start len : ℕ) : Type 0 where
  pub whole : short ≡ false
  pub unflagged : flagged ≡ false
  pub body : body_refusal (shown_kind v id compressed) (take len (drop start s)) ≡ 0
  pub run : (walked true v (depth + 1) (run_of (shown_kind v id compressed) (take len (drop start s))) room).0 ≡ 0
  -- what the room holds after the body
  pub after : List ℕ
  pub rest : (walked true v depth (drop (start + len) s) after).0 ≡ 0

module _ (v : Version) (depth : ℕ) (s room : List ℕ) {id : ℕ} {c f short : Bool} {start len : ℕ} (e : head_of v depth s ≡ Ok (Some (head id c f short start len))) where
  pub accepted : (walked true v depth s room).0 ≡ 0 → Accepted v depth s room id c f short start len
  accepted a =
      let go = walked true v (depth + 1) in
      let kind = shown_kind v id c in
      let b = take len (drop start s) in
      let p = fit short f room _ (rw (walk_found true v depth s room e) at a) in
      let q = both_passed (body_of (is_resynced c f) go kind b room) (walked true v depth (drop (start + len) s)) p.2 in
      let i = inside_passed go kind b room (rw p.1 at q.0) in
      record { whole = p.0; unflagged = p.1; body = i.0; run = i.1; after = _; rest = q.1 }

  -- a frame that is not flagged and whose body is not refused is read by its run, and then what follows it
  pub read_found : f ≡ false → body_refusal (shown_kind v id c) (take len (drop start s)) ≡ 0
      → walked false v depth s room
      ≡ and_then (walked false v (depth + 1) (run_of (shown_kind v id c) (take len (drop start s))) room) (walked false v depth (drop (start + len) s))
  read_found u n = rw (walk_found false v depth s room e, u, inside_run)

-- ---- the walk

module _ (v : Version) (depth : ℕ) (s room room' : List ℕ)
    (h : (d : ℕ) (t r r' : List ℕ) → length t < length s → (walked true v d t r).0 ≡ 0 → walked false v d t r' ≡ (0, r')) where
  strict_head : (x : Result (Option Head) Refusal) → head_of v depth s ≡ x → (walked true v depth s room).0 ≡ 0 → walked false v depth s room' ≡ (0, room')
  strict_head (Ok None) e a = walk_nothing false v depth s room' e
  strict_head (Err k) e a =
      let z : k.number ≡ 0 = cc (walk_refused true v depth s room e) in
      rw (walk_refused false v depth s room' e, z)
  strict_head (Ok (Some h')) e a =
      let l = lies (stands v depth s h'.id h'.compressed h'.flagged h'.short h'.start h'.len e) in
      let t = accepted v depth s room e a in
      let kind = shown_kind v h'.id h'.compressed in
      let b = take h'.len (drop h'.start s) in
      let run = h (depth + 1) (run_of kind b) room room'
      (omega (arith, l.six, l.within, run_shorter kind b, length-take h'.len (drop h'.start s), length-drop h'.start s)) t.run in
      let rest = h depth (drop (h'.start + h'.len) s) t.after room' (omega (arith, l.six, l.within, length-drop (h'.start + h'.len) s)) t.rest in
      read_found v depth s room' e t.unflagged t.body ∙ rw (run, rest)

-- with a count that bounds the length
strict_within : (n : ℕ) (v : Version) (depth : ℕ) (s room room' : List ℕ) → length s < n → (walked true v depth s room).0 ≡ 0
    → walked false v depth s room' ≡ (0, room')
strict_within zero v depth s room room' le a = absurd (omega arith)
strict_within (suc n) v depth s room room' le a =
    strict_head v depth s room room' (λ d t r r' lt. strict_within n v d t r r' (omega arith)) (head_of v depth s) refl a

-- a run that the strict walk accepts is read without a refusal, and nothing is resynchronised
pub strict_read : (v : Version) (depth : ℕ) (s room room' : List ℕ) → (walked true v depth s room).0 ≡ 0 → walked false v depth s room' ≡ (0, room')
strict_read v depth s room room' a = strict_within (suc (length s)) v depth s room room' (omega arith) a
