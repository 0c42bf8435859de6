-- Bodies of frames that lie in the tag or in the work buffer, and the room that they have. Assumes nothing.
use mathlib.Core.Path.{◌≡◌, refl, sym, ap, ap₂, ◌∙◌}
use Prim.Native.Nat.{ℕ, ◌+◌, ◌-◌, ◌≤◌}
use native.Mathlib.Nat.{le_refl}
use native.Mathlib.Omega.{arith}
use mathlib.Core.Bool.{Bool, true, false, ◌||◌}
use mathlib.Core.List.{List, [], ◌∷◌}
use lib.ListN.{length, take, drop, take-append-drop}
use lib.Seq.{slice}
use Rattle.laws.proofs.Slices.{slice_none}
use Rattle.format.specs.Bytes.{pick, span}
use Rattle.format.specs.Unsynch.{resynchronised}
use Rattle.format.specs.Frame.{head_of}
use Rattle.format.specs.Walk.{Out, behind, inside_of, resynced_of, shown_kind, is_resynced, walk_bytes, walked, record_of, frame_of}
use Rattle.format.specs.declared.Version.{Version}
use Rattle.format.specs.declared.Kind.{Kind}
use Rattle.format.specs.declared.Parts.{Parts}
use Rattle.format.specs.declared.Span.{Span}
use Rattle.format.specs.declared.Record.{Record}
use Rattle.format.specs.Walk.{Shown}
use Rattle.frame.specs.Bodies.{parsed_of}
use Rattle.unsynch.specs.Puts.{into_of}
use Rattle.walk.specs.Areas.{in_area}
use Rattle.walk.specs.Insides.{place_of}
use Rattle.walk.specs.Sources.{source_of, room_of, kept, frame_in}
use Rattle.walk.specs.Openings.{opened_at, opened_of, lies_as, ready_of, lent, ran_of, shown_at, entered_of}
use Rattle.walk.proofs.Onwards.{Here}
use Rattle.walk.proofs.Answers.{passed_ok, passed_err}
use Rattle.walk.proofs.Areas.{Fitted, put_bytes, put_refused, put_inside, fitted_front, fitted_room, before_split}
use Rattle.walk.proofs.Openings.{parsed_refused, parsed_parts_lem, inside_refused, inside_parts, opened_refused, opened_body, shown_nothing, shown_refused, body_refused, body_shown}
use Rattle.std.specs.Prelude.{Result, Ok, Err, Some, None}
use Rattle.format.specs.declared.refusals.Refusal.{Refusal}
use Rattle.format.specs.Refusals.{passed_with}
use Rattle.laws.proofs.Results.{ok_same, err_same, ok_not_err, err_not_ok}

-- ---- the room that is lent

-- what leaves its room alone leaves the work buffer alone
lent_still : (w t : Bool) (to : ℕ) (work : List ℕ) (go : List ℕ → Out) (k : ℕ) → ((room : List ℕ) → go room ≡ (k, room)) → lent w t to work go ≡ (k, work)
unfolding lent
lent_still true t to work go k e = ap {B = Out} (λ (o : Out). (o.0, work)) (e [])
lent_still false true to work go k e = ap (behind (take to work)) (e (drop to work)) ∙ ap {B = Out} (λ (z : List ℕ). (k, z)) (take-append-drop to work)
lent_still false false to work go k e = e work

lent_same : (w t : Bool) (to : ℕ) (work : List ℕ) (go go' : List ℕ → Out) → ((room : List ℕ) → go room ≡ go' room) → lent w t to work go ≡ lent w t to work go'
unfolding lent
lent_same true t to work go go' e = ap {B = Out} (λ (o : Out). (o.0, work)) (e [])
lent_same false true to work go go' e = ap (behind (take to work)) (e (drop to work))
lent_same false false to work go go' e = e work

-- ---- the run of a body

-- a walk over nothing
pub walk_none : (v : Version) (depth : ℕ) (room : List ℕ) → walked false v depth [] room ≡ (0, room)
unfolding walked walk_bytes
walk_none v depth room = refl

module _ (w t : Bool) (v : Version) (run to : ℕ) (tag work : List ℕ) where
  pub run_none : to ≤ run → ◌≡◌ {A = Out} (0, work) (ran_of w t v run to tag work)
  run_none h =
      let s = source_of (w || t) work tag in
      sym (lent_still w t to work (walked false v 2 (slice run to s)) 0 (λ (room : List ℕ). ap (λ (x : List ℕ). walked false v 2 x room) (slice_none run to s h) ∙ walk_none v 2 room))

  pub run_in_work : w ≡ true → {r : Result Unit Refusal} {none : List ℕ} → ◌≡◌ {A = Result Unit Refusal × List ℕ} (r, none) (passed_with (walked false v 2 (slice run to work) []))
      → ◌≡◌ {A = Result Unit Refusal × List ℕ} (r, work) (passed_with (ran_of w t v run to tag work))
  unfolding lent
  run_in_work ew e = rw ew (ap {B = Result Unit Refusal × List ℕ} (λ (p : Result Unit Refusal × List ℕ). (p.0, work)) e)

  pub run_behind : w ≡ false → t ≡ true → in_area false v 2 run to to work ≡ ran_of w t v run to tag work
  unfolding lent
  run_behind ew et = rw (ew, et) (ap (λ (s : List ℕ). behind (take to work) (walked false v 2 s (drop to work))) (before_split run to to work (le_refl to)))

  pub run_apart : w ≡ false → t ≡ false → walked false v 2 (slice run to tag) work ≡ ran_of w t v run to tag work
  unfolding lent
  run_apart ew et = rw (ew, et)

-- ---- a body as it is shown

module _ (w t : Bool) (v : Version) (kind : Kind) (from to : ℕ) (tag work s : List ℕ) (es : s ≡ source_of (w || t) work tag) where
  abbrev go : List ℕ → List ℕ → Out
  go = walked false v 2

  as_shown : opened_at v kind from (slice from to s) (lent w t to work (inside_of go kind (slice from to s))) ≡ shown_at w t v kind from to tag work
  as_shown = rw es

  pub shows_refused : {k : Refusal} → Err k ≡ parsed_of v kind from (slice from to s)
      → ◌≡◌ {A = Result (Span × Parts) Refusal × List ℕ} (Err k, work) (shown_at w t v kind from to tag work)
  shows_refused {k} e =
      let b = slice from to s in
      let p = parsed_refused v kind from b e in
      opened_refused v kind from b (lent w t to work (inside_of go kind b)) k.number work
      (lent_still w t to work (inside_of go kind b) k.number (inside_refused v kind from b e go)) (λ z. p.1 (p.0 ∙ z))
      ∙ as_shown

  -- one that was read, and whose run was walked
  module _ (ends : from + length (slice from to s) ≡ to) (p : Parts) (e : Ok p ≡ parsed_of v kind from (slice from to s)) (at : ℕ) (ea : at ≡ place_of kind p to) where
    shown_out : lent w t to work (inside_of go kind (slice from to s)) ≡ ran_of w t v at to tag work
    shown_out =
        lent_same w t to work (inside_of go kind (slice from to s)) (go (slice at to s)) (inside_parts v kind from to s ends p e at ea go)
        ∙ ap (λ (x : List ℕ). lent w t to work (go (slice at to x))) es

    pub shows_run : {k : Refusal} {left : List ℕ} → ◌≡◌ {A = Result Unit Refusal × List ℕ} (Err k, left) (passed_with (ran_of w t v at to tag work))
        → ◌≡◌ {A = Result (Span × Parts) Refusal × List ℕ} (Err k, left) (shown_at w t v kind from to tag work)
    shows_run e =
        let q = passed_err (ran_of w t v at to tag work) e in
        opened_refused v kind from (slice from to s) (lent w t to work (inside_of go kind (slice from to s))) _ _ (shown_out ∙ q.0) q.1 ∙ as_shown

    pub shows_parts : {left : List ℕ} → ◌≡◌ {A = Result Unit Refusal × List ℕ} (Ok tt, left) (passed_with (ran_of w t v at to tag work))
        → (len : ℕ) → len ≡ length (slice from to s) → ◌≡◌ {A = Result (Span × Parts) Refusal × List ℕ} (Ok (span from len, p), left) (shown_at w t v kind from to tag work)
    shows_parts {left} o len l =
        opened_body v kind from (slice from to s) (lent w t to work (inside_of go kind (slice from to s))) left len p (shown_out ∙ passed_ok (ran_of w t v at to tag work) o) l (parsed_parts_lem v kind from (slice from to s) p e).1
        ∙ as_shown

-- ---- where a body lies

lies_refused : (p : Result ℕ Refusal) {k : Refusal} → Err k ≡ lies_as p → p ≡ Err k
lies_refused (Err j) e = ap Err (sym (err_same e))
lies_refused (Ok n) e = err_not_ok e

lies_bytes : (p : Result ℕ Refusal) {start stop : ℕ} → Ok (start, stop) ≡ lies_as p → (start ≡ 0) × (p ≡ Ok stop)
lies_bytes (Err j) e = ok_not_err e
lies_bytes (Ok n) e = (ap (λ (x : ℕ × ℕ). x.0) (ok_same e), ap Ok (sym (ap (λ (x : ℕ × ℕ). x.1) (ok_same e))))

-- what is put into no room is nothing
none_fits : (u p : List ℕ) (n : ℕ) → Fitted u [] p n → (u ≡ []) × (n ≡ 0)
none_fits [] p n f = (refl, f.many)
none_fits (x ∷ u) p n f = absurd (omega (arith, f.fits))

module _ (v : Version) (kind : Kind) (from to : ℕ) (tag work : List ℕ) where
  pub ready_refused : (w t : Bool) {k : Refusal} (left : List ℕ) → ◌≡◌ {A = Result (ℕ × ℕ) Refusal × List ℕ} (Err k, left) (ready_of w t from to tag work)
      → ◌≡◌ {A = Result (Span × Parts) Refusal × List ℕ} (Err k, left) (entered_of w t v kind from to tag work)
  unfolding ready_of
  ready_refused w false left e = err_not_ok (ap (λ (o : Result (ℕ × ℕ) Refusal × List ℕ). o.0) e)
  ready_refused w true {k} left e =
      let u = resynchronised (slice from to (source_of w work tag)) in
      let room = room_of w work in
      let f : (into_of u room).0 ≡ Err k = lies_refused (into_of u room).0 (ap (λ (o : Result (ℕ × ℕ) Refusal × List ℕ). o.0) e) in
      let p = passed_err (resynced_of (walked false v 2) kind u room) (put_refused u room (walked false v 2) kind (ap {B = Result ℕ Refusal × List ℕ} (λ (x : Result ℕ Refusal). (x, (into_of u room).1)) (sym f))) in
      let l : left ≡ pick w work (into_of u room).1 = ap (λ (o : Result (ℕ × ℕ) Refusal × List ℕ). o.1) e in
      ap {B = Result (Span × Parts) Refusal × List ℕ} (λ (x : List ℕ). (Err k, x)) l
      ∙ ap (kept w work) (opened_refused v kind 0 u (resynced_of (walked false v 2) kind u room) k.number (into_of u room).1 p.0 p.1)

  -- as it is stored
  stays : (start stop : ℕ) (left : List ℕ) → ◌≡◌ {A = Result (ℕ × ℕ) Refusal × List ℕ} (Ok (start, stop), left) (Ok (from, to), work)
      → (start ≡ from) × (stop ≡ to) × (left ≡ work)
  stays start stop left e =
      let f : (start, stop) ≡ (from, to) = ok_same (ap (λ (o : Result (ℕ × ℕ) Refusal × List ℕ). o.0) e) in
      (ap (λ (x : ℕ × ℕ). x.0) f, ap (λ (x : ℕ × ℕ). x.1) f, ap (λ (o : Result (ℕ × ℕ) Refusal × List ℕ). o.1) e)

  -- resynchronised
  fronts : (w : Bool) (start stop : ℕ) (left : List ℕ) → ◌≡◌ {A = Result (ℕ × ℕ) Refusal × List ℕ} (Ok (start, stop), left) (ready_of w true from to tag work)
      → (start ≡ 0)
      × Fitted (resynchronised (slice from to (source_of w work tag))) (room_of w work) (into_of (resynchronised (slice from to (source_of w work tag))) (room_of w work)).1 stop
      × (left ≡ pick w work (into_of (resynchronised (slice from to (source_of w work tag))) (room_of w work)).1)
  unfolding ready_of
  fronts w start stop left e =
      let u = resynchronised (slice from to (source_of w work tag)) in
      let l = lies_bytes (into_of u (room_of w work)).0 (ap (λ (o : Result (ℕ × ℕ) Refusal × List ℕ). o.0) e) in
      (l.0, put_bytes u (room_of w work) (ap {B = Result ℕ Refusal × List ℕ} (λ (x : Result ℕ Refusal). (x, (into_of u (room_of w work)).1)) (sym l.1)), ap (λ (o : Result (ℕ × ℕ) Refusal × List ℕ). o.1) e)

  -- it is shown there
  pub ready_shown : (w t : Bool) (start stop : ℕ) (left : List ℕ) → ◌≡◌ {A = Result (ℕ × ℕ) Refusal × List ℕ} (Ok (start, stop), left) (ready_of w t from to tag work)
      → shown_at w t v kind start stop tag left ≡ entered_of w t v kind from to tag work
  unfolding ready_of lent resynced_of
  ready_shown true false start stop left e = let l = stays start stop left e in rw (l.0, l.1, l.2)
  ready_shown false false start stop left e = let l = stays start stop left e in rw (l.0, l.1, l.2)
  ready_shown true true start stop left e =
      let u = resynchronised (slice from to work) in
      let l = fronts true start stop left e in
      let n = none_fits u (into_of u []).1 stop l.1 in
      rw (l.0, l.2, n.0, n.1)
  ready_shown false true start stop left e =
      let u = resynchronised (slice from to tag) in
      let go = walked false v 2 in
      let l = fronts false start stop left e in
      rw (l.0, l.2)
      (ap₂ (λ (x : List ℕ) (o : Out). opened_at v kind 0 x o) (fitted_front l.1) (put_inside u work go kind stop (into_of u work).1 l.1))

  -- it lies within its bytes
  pub ready_within : (w t : Bool) (start stop : ℕ) (left : List ℕ) → ◌≡◌ {A = Result (ℕ × ℕ) Refusal × List ℕ} (Ok (start, stop), left) (ready_of w t from to tag work)
      → from ≤ to → to ≤ length (source_of w work tag) → (start ≤ stop) × (stop ≤ length (source_of (w || t) left tag))
  unfolding ready_of
  ready_within true false start stop left e le fit = let l = stays start stop left e in (omega (arith, l), omega (arith, l, ap length l.2))
  ready_within false false start stop left e le fit = let l = stays start stop left e in (omega (arith, l), omega (arith, l))
  ready_within true true start stop left e le fit =
      let l = fronts true start stop left e in
      let n = none_fits (resynchronised (slice from to work)) (into_of (resynchronised (slice from to work)) []).1 stop l.1 in
      (omega (arith, l.0), omega (arith, n.1))
  ready_within false true start stop left e le fit =
      let l = fronts false start stop left e in
      (omega (arith, l.0), omega (arith, fitted_room l.1, ap length l.2))

-- ---- a frame

kept_room : (w : Bool) (work : List ℕ) → work ≡ pick w work (room_of w work)
kept_room true work = refl
kept_room false work = refl

module _ (v : Version) (w : Bool) (begin at end : ℕ) (tag work s : List ℕ) (es : s ≡ source_of w work tag) where
  frame_in_lem : (shown : Shown) (room left : List ℕ) → left ≡ pick w work room
      → ◌≡◌ {A = Shown × List ℕ} (shown, room) (frame_of v w begin at (slice at end s) (room_of w work))
      → ◌≡◌ {A = Shown × List ℕ} (shown, left) (frame_in v w begin at end tag work)
  unfolding frame_in
  frame_in_lem shown room left ek e =
      ap {B = Shown × List ℕ} (λ (x : List ℕ). (shown, x)) ek
      ∙ ap (kept w work) e
      ∙ ap (λ (x : List ℕ). kept w work (frame_of v w begin at (slice at end x) (room_of w work))) es

  pub no_frame : Ok None ≡ head_of v 1 (slice at end s) → ◌≡◌ {A = Shown × List ℕ} (Ok None, work) (frame_in v w begin at end tag work)
  no_frame e = frame_in_lem (Ok None) (room_of w work) work (kept_room w work) (shown_nothing v w begin at (slice at end s) (room_of w work) e)

  pub head_refused : {k : Refusal} → Err k ≡ head_of v 1 (slice at end s) → ◌≡◌ {A = Shown × List ℕ} (Err k, work) (frame_in v w begin at end tag work)
  head_refused {k} e = frame_in_lem (Err k) (room_of w work) work (kept_room w work) (shown_refused v w begin at (slice at end s) (room_of w work) e)

  -- one whose body was entered
  module _ {id : ℕ} {c f sh : Bool} {start len : ℕ} (found : Here v at end s id c f sh start len)
      (kind : Kind) (t : Bool) (ek : kind ≡ shown_kind v id c) (et : t ≡ is_resynced c f) (left : List ℕ) where
    abbrev stored : List ℕ
    stored = slice (at + start) (at + start + len) (source_of w work tag)

    abbrev opened : Result (Span × Parts) Refusal × List ℕ
    opened = opened_of v kind t (at + start) stored (room_of w work)

    lies_in : take len (drop start (slice at end s)) ≡ stored
    lies_in = found.body ∙ ap (slice (at + start) (at + start + len)) es

    pub frame_refused : {k : Refusal} → ◌≡◌ {A = Result (Span × Parts) Refusal × List ℕ} (Err k, left) (entered_of w t v kind (at + start) (at + start + len) tag work)
        → ◌≡◌ {A = Shown × List ℕ} (Err k, left) (frame_in v w begin at end tag work)
    frame_refused {k} h =
        frame_in_lem (Err k) opened.1 left (ap (λ (o : Result (Span × Parts) Refusal × List ℕ). o.1) h)
        (body_refused v w begin at (slice at end s) (room_of w work) id c f sh start len found.head kind t ek et stored opened.1 lies_in
        (ap {B = Result (Span × Parts) Refusal × List ℕ} (λ (o : Result (Span × Parts) Refusal × List ℕ). (o.0, opened.1)) h))

    pub frame_shown : {q : Span} {p : Parts} → ◌≡◌ {A = Result (Span × Parts) Refusal × List ℕ} (Ok (q, p), left) (entered_of w t v kind (at + start) (at + start + len) tag work)
        → {r : Record} {place : ℕ} {in_room : Bool} → place ≡ at - begin → in_room ≡ (t || w) → r ≡ record_of id sh c place in_room q.start q.len p
        → ◌≡◌ {A = Shown × List ℕ} (Ok (Some (r, at + start + len)), left) (frame_in v w begin at end tag work)
    frame_shown {q} {p} h {r} ep ew er =
        frame_in_lem (Ok (Some (r, at + start + len))) opened.1 left (ap (λ (o : Result (Span × Parts) Refusal × List ℕ). o.1) h)
        (body_shown v w begin at (slice at end s) (room_of w work) id c f sh start len found.head kind t ek et stored opened.1 lies_in
        (ap {B = Result (Span × Parts) Refusal × List ℕ} (λ (o : Result (Span × Parts) Refusal × List ℕ). (o.0, opened.1)) h) ep ew er)
