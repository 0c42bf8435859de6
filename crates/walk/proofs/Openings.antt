-- What entering a body answers. Assumes nothing.
use mathlib.Core.Path.{◌≡◌, sym, ap, ◌∙◌}
use Prim.Native.Nat.{ℕ, ◌+◌, ◌-◌}
use native.Mathlib.Omega.{arith}
use mathlib.Core.Bool.{Bool, false, ◌||◌}
use mathlib.Core.List.{List}
use lib.ListN.{length, take, drop}
use lib.Seq.{slice}
use borrow.Author.Tests.{ne_eqb}
use Rattle.format.specs.Bytes.{pick, span}
use Rattle.format.specs.Record.{body_refusal, run_of, parts_of}
use Rattle.format.specs.Frame.{head_of}
use Rattle.format.specs.Walk.{Out, shown_kind, inside_of, is_resynced, shown_body, body_of, walked, record_of, shown_of, on_shown, frame_of}
use Rattle.format.specs.declared.Version.{Version}
use Rattle.format.specs.declared.Kind.{Kind}
use Rattle.format.specs.declared.Parts.{Parts}
use Rattle.format.specs.declared.Span.{Span}
use Rattle.format.specs.declared.Record.{Record}
use Rattle.format.specs.Walk.{Shown}
use Rattle.format.proofs.Strict.{inside_run}
use Rattle.frame.specs.Bodies.{parsed_of}
use Rattle.walk.specs.Insides.{run_start, place_of}
use Rattle.walk.specs.Openings.{opened_at, opened_of}
use Rattle.walk.proofs.Insides.{run_at, parts_place}
use Rattle.std.specs.Prelude.{Result, Ok, Err, Some, None}
use Rattle.format.specs.declared.refusals.Refusal.{Refusal}
use Rattle.format.specs.Refusals.{refusal}
use Rattle.walk.proofs.Answers.{checked_ok, checked_err}
use Rattle.format.specs.Frame.{head}

-- ---- what reading a body says

module _ (v : Version) (kind : Kind) (at : ℕ) (b : List ℕ) where
  pub parsed_refused : {k : Refusal} → Err k ≡ parsed_of v kind at b → (body_refusal kind b ≡ k.number) × (body_refusal kind b ≡ 0 → ⊥)
  unfolding parsed_of
  parsed_refused e = checked_err (body_refusal kind b) _ (sym e)

  pub parsed_parts_lem : (p : Parts) → Ok p ≡ parsed_of v kind at b → (body_refusal kind b ≡ 0) × (p ≡ parts_of v kind at b)
  unfolding parsed_of
  parsed_parts_lem p e =
      let q = checked_ok (body_refusal kind b) (sym e) in
      (q.0, sym q.1)

  -- a body that is refused leaves the room alone
  pub inside_refused : {k : Refusal} → Err k ≡ parsed_of v kind at b → (go : List ℕ → List ℕ → Out) (room : List ℕ) → inside_of go kind b room ≡ (k.number, room)
  unfolding inside_of
  inside_refused e go room =
      let p = parsed_refused e in
      rw (ne_eqb (body_refusal kind b) 0 p.1, p.0)

-- a body that is read lies in a list: its run is what lies from its place to the body's end
pub inside_parts : (v : Version) (kind : Kind) (from to : ℕ) (s : List ℕ) → from + length (slice from to s) ≡ to
    → (p : Parts) → Ok p ≡ parsed_of v kind from (slice from to s) → (at : ℕ) → at ≡ place_of kind p to
    → (go : List ℕ → List ℕ → Out) (room : List ℕ) → inside_of go kind (slice from to s) room ≡ go (slice at to s) room
inside_parts v kind from to s ends p e at ea go room =
    let q = parsed_parts_lem v kind from (slice from to s) p e in
    let place : at ≡ from + run_start kind (slice from to s) =
    ea ∙ ap (λ (x : Parts). place_of kind x to) q.1 ∙ parts_place v from to (slice from to s) ends kind in
    let run : run_of kind (slice from to s) ≡ slice at to s = sym (run_at kind from to s) ∙ ap (λ (k : ℕ). slice k to s) (sym place) in
    inside_run go kind (slice from to s) room q.0 ∙ ap (λ (r : List ℕ). go r room) run

-- ---- the answer

module _ (v : Version) (kind : Kind) (at : ℕ) (b : List ℕ) (o : Out) where
  pub opened_refused : (k : ℕ) (room : List ℕ) → o ≡ (k, room) → (k ≡ 0 → ⊥) → ◌≡◌ {A = Result (Span × Parts) Refusal × List ℕ} (Err (refusal k), room) (opened_at v kind at b o)
  opened_refused k room e some = rw (e, ne_eqb k 0 some)

  pub opened_body : (room : List ℕ) (len : ℕ) (p : Parts) → o ≡ (0, room) → len ≡ length b → p ≡ parts_of v kind at b
      → ◌≡◌ {A = Result (Span × Parts) Refusal × List ℕ} (Ok (span at len, p), room) (opened_at v kind at b o)
  opened_body room len p e l ep = rw (e, l, ep)

  -- what it says
  pub says_refused : {k : Refusal} {room : List ℕ} → ◌≡◌ {A = Result (Span × Parts) Refusal × List ℕ} (Err k, room) (opened_at v kind at b o)
      → (o.0 ≡ k.number) × (o.0 ≡ 0 → ⊥) × (o.1 ≡ room)
  says_refused e =
      let q = checked_err o.0 (span at (length b), parts_of v kind at b) (sym (ap (λ (q : Result (Span × Parts) Refusal × List ℕ). q.0) e)) in
      (q.0, q.1, sym (ap (λ (q : Result (Span × Parts) Refusal × List ℕ). q.1) e))

  pub says_body : {s : Span} {p : Parts} {room : List ℕ} → ◌≡◌ {A = Result (Span × Parts) Refusal × List ℕ} (Ok (s, p), room) (opened_at v kind at b o)
      → (o.0 ≡ 0) × (s ≡ span at (length b)) × (p ≡ parts_of v kind at b) × (o.1 ≡ room)
  says_body e =
      let q = checked_ok o.0 {x = (span at (length b), parts_of v kind at b)} (sym (ap (λ (q : Result (Span × Parts) Refusal × List ℕ). q.0) e)) in (
        q.0,
        sym (ap (λ (x : Span × Parts). x.0) q.1),
        sym (ap (λ (x : Span × Parts). x.1) q.1),
        sym (ap (λ (q : Result (Span × Parts) Refusal × List ℕ). q.1) e),
      )

-- ---- a frame

module _ (o : Out) (r : Record) (next : ℕ) (room : List ℕ) (last : o.1 ≡ room) where
  as_refused : {k : Refusal} → o.0 ≡ k.number → (o.0 ≡ 0 → ⊥) → ◌≡◌ {A = Shown × List ℕ} (Err k, room) (shown_of o.0 r next, o.1)
  as_refused e some = rw (ne_eqb o.0 0 some, e, last)

  as_frame : (r' : Record) (next' : ℕ) → o.0 ≡ 0 → r' ≡ r → next' ≡ next → ◌≡◌ {A = Shown × List ℕ} (Ok (Some (r', next')), room) (shown_of o.0 r next, o.1)
  as_frame r' next' e f g = rw (e, last, f, g)

module _ (v : Version) (inWork : Bool) (begin at : ℕ) (s room : List ℕ) where
  pub shown_nothing : Ok None ≡ head_of v 1 s → ◌≡◌ {A = Shown × List ℕ} (Ok None, room) (frame_of v inWork begin at s room)
  unfolding frame_of on_shown
  shown_nothing e = rw (← e)

  pub shown_refused : {k : Refusal} → Err k ≡ head_of v 1 s → ◌≡◌ {A = Shown × List ℕ} (Err k, room) (frame_of v inWork begin at s room)
  unfolding frame_of on_shown
  shown_refused e = rw (← e)

  module _ (id : ℕ) (c f sh : Bool) (start len : ℕ) (e : Ok (Some (head id c f sh start len)) ≡ head_of v 1 s)
      (kind : Kind) (t : Bool) (ek : kind ≡ shown_kind v id c) (et : t ≡ is_resynced c f) (b room' : List ℕ) (eb : take len (drop start s) ≡ b) where
    abbrev place : ℕ
    place = pick t 0 (at + start)

    abbrev out : Out
    out = body_of t (walked false v 2) kind b room

    abbrev shown_record : Record
    shown_record = record_of id sh c (at - begin) (t || inWork) place (length (shown_body t b)) (parts_of v kind place (shown_body t b))

    pub frame_is : ◌≡◌ {A = Shown × List ℕ} (shown_of out.0 shown_record (at + (start + len)), out.1) (frame_of v inWork begin at s room)
    unfolding frame_of on_shown
    frame_is = rw (← e, eb, ek, et)

    pub body_refused : {k : Refusal} → ◌≡◌ {A = Result (Span × Parts) Refusal × List ℕ} (Err k, room') (opened_of v kind t (at + start) b room)
        → ◌≡◌ {A = Shown × List ℕ} (Err k, room') (frame_of v inWork begin at s room)
    body_refused h =
        let z = says_refused v kind place (shown_body t b) out h in
        as_refused out shown_record (at + (start + len)) room' z.2 z.0 z.1 ∙ frame_is

    pub body_shown : {q : Span} {p : Parts} → ◌≡◌ {A = Result (Span × Parts) Refusal × List ℕ} (Ok (q, p), room') (opened_of v kind t (at + start) b room)
        → {r : Record} {behind : ℕ} {w : Bool} → behind ≡ at - begin → w ≡ (t || inWork) → r ≡ record_of id sh c behind w q.start q.len p
        → ◌≡◌ {A = Shown × List ℕ} (Ok (Some (r, at + start + len)), room') (frame_of v inWork begin at s room)
    body_shown {q} {p} h {r} {behind} {w} ep ew er =
        let z = says_body v kind place (shown_body t b) out h in
        let next : at + start + len ≡ at + (start + len) = omega arith in
        let same : r ≡ shown_record = er ∙ rw (ep, ew, z.1, z.2) in
        as_frame out shown_record (at + (start + len)) room' z.3 r (at + start + len) z.0 same next ∙ frame_is
