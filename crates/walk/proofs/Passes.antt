-- What a meter needs of a frame, by the steps of the code. Assumes nothing.
use mathlib.Core.Path.{◌≡◌, refl, sym, ap, ◌∙◌}
use Prim.Native.Nat.{ℕ, ◌+◌, ◌-◌}
use native.Mathlib.Omega.{arith}
use mathlib.Core.Bool.{Bool, true, false, ◌&&◌, ◌||◌}
use mathlib.Core.List.{List, []}
use lib.ListN.{length, drop}
use lib.Seq.{slice}
use lib.Dec.{ltb, eqb}
use borrow.Author.Tests.{eqb-true, ne_eqb, le-ltb}
use denote.Enum.Bare.{sameb}
use Rattle.format.specs.contracts.Kind as kinds
use Rattle.format.specs.Bytes.{pick, put_front}
use Rattle.format.specs.Ids.{kind_number}
use Rattle.format.specs.Unsynch.{resynchronised}
use Rattle.format.specs.Record.{body_refusal, run_of, parts_of}
use Rattle.format.specs.Frame.{head_of}
use Rattle.format.specs.Walk.{Out, behind, shown_kind, inside_of, resynced_of, is_resynced, shown_body, body_of, walked, record_of, shown_of, frame_of}
use Rattle.format.specs.declared.Version.{Version}
use Rattle.format.specs.declared.Kind.{Kind}
use Rattle.format.specs.declared.Parts.{Parts}
use Rattle.format.specs.declared.Record.{Record}
use Rattle.format.specs.Walk.{Shown}
use Rattle.frame.specs.Bodies.{parsed_of}
use Rattle.unsynch.specs.Puts.{into_of}
use Rattle.walk.specs.declared.passing.Met.{Met}
use Rattle.walk.specs.Sources.{frame_in}
use Rattle.walk.specs.Passing.{is_meter_id, passed_by, met_by, met_as, pass_in, read_as, front_as, pass_of}
use Rattle.walk.proofs.Onwards.{Here}
use Rattle.walk.proofs.Areas.{put_bytes, fitted_front}
use Rattle.walk.proofs.Openings.{shown_nothing, shown_refused, frame_is}
use Rattle.walk.proofs.Sources.{walk_none}
use Rattle.std.specs.Prelude.{Result, Option, Ok, Err, Some, None}
use Rattle.format.specs.declared.refusals.Refusal.{Refusal}
use Rattle.format.specs.Refusals.{refusal}

-- ---- popularimeters and other kinds

-- what two kinds compare to is what their numbers do
pub same_meter : (kind : Kind) → sameb kinds.the_type kind Kind.Popularimeter ≡ eqb (kind_number kind) 1
same_meter Kind.Text = refl
same_meter Kind.Popularimeter = refl
same_meter Kind.Table = refl
same_meter Kind.Chapter = refl
same_meter Kind.Contents = refl
same_meter Kind.Raw = refl

-- a compressed frame's body is no popularimeter
meter_kind : (v : Version) (id : ℕ) (c : Bool) (kind : Kind) → kind ≡ shown_kind v id c → eqb (kind_number kind) 1 ≡ true → (kind ≡ Kind.Popularimeter) × (c ≡ false)
meter_kind v id true kind e f = absurd (let z : ◌≡◌ {A = ℕ} 0 1 = cc in omega arith)
meter_kind v id false Kind.Text e f = absurd (let z : ◌≡◌ {A = ℕ} 0 1 = cc in omega arith)
meter_kind v id false Kind.Popularimeter e f = (refl, refl)
meter_kind v id false Kind.Table e f = absurd (let z : ◌≡◌ {A = ℕ} 0 1 = cc in omega arith)
meter_kind v id false Kind.Chapter e f = absurd (let z : ◌≡◌ {A = ℕ} 0 1 = cc in omega arith)
meter_kind v id false Kind.Contents e f = absurd (let z : ◌≡◌ {A = ℕ} 0 1 = cc in omega arith)
meter_kind v id false Kind.Raw e f = absurd (let z : ◌≡◌ {A = ℕ} 0 1 = cc in omega arith)

module _ (v : Version) (rec : Record) (next : ℕ) where
  -- a frame of another kind is passed over
  met_kind : (kind : Kind) → eqb (kind_number kind) 1 ≡ false → (at : ℕ) (b : List ℕ) → passed_by v rec next ≡ met_by (parts_of v kind at b).fields v rec next
  unfolding parts_of
  met_kind Kind.Text h at b = refl
  met_kind Kind.Popularimeter h at b = absurd (let z : ◌≡◌ {A = ℕ} 0 1 = cc in omega arith)
  met_kind Kind.Table h at b = refl
  met_kind Kind.Chapter h at b = refl
  met_kind Kind.Contents h at b = refl
  met_kind Kind.Raw h at b = refl

-- ---- a popularimeter's body

-- it has no run
meter_inside : (v : Version) (b room : List ℕ) → inside_of (walked false v 2) Kind.Popularimeter b room ≡ (body_refusal Kind.Popularimeter b, room)
unfolding inside_of run_of
meter_inside v b room = by_number (body_refusal Kind.Popularimeter b) (eqb (body_refusal Kind.Popularimeter b) 0) refl
  where
    by_number : (k : ℕ) (t : Bool) → eqb k 0 ≡ t → pick {A = Out} t (walked false v 2 [] room) (k, room) ≡ (k, room)
    by_number k true e = walk_none v 2 room ∙ ap {B = Out} (λ (j : ℕ). (j, room)) (sym (eqb-true k 0 e))
    by_number k false e = refl

-- one that was read
module _ (v : Version) (id : ℕ) (short : Bool) (place : ℕ) (w : Bool) (from len next : ℕ) where
  abbrev made : Parts → Record
  made = record_of id short false place w from len

  abbrev met_of : ℕ → List ℕ → Result (Option Met) Refusal
  met_of k b = met_as v (shown_of k (made (parts_of v Kind.Popularimeter from b)) next)

  -- it is shown as it was read
  met_read : (b : List ℕ) → read_as v (parsed_of v Kind.Popularimeter from b) made next ≡ met_of (body_refusal Kind.Popularimeter b) b
  unfolding parsed_of
  met_read b = by_refusal (eqb (body_refusal Kind.Popularimeter b) 0)
    where
      by_refusal : (t : Bool)
          → read_as v (pick t (Ok (parts_of v Kind.Popularimeter from b)) (Err (refusal (body_refusal Kind.Popularimeter b)))) made next
          ≡ met_as v (pick t (Ok (Some (made (parts_of v Kind.Popularimeter from b), next))) (Err (refusal (body_refusal Kind.Popularimeter b))))
      by_refusal true = refl
      by_refusal false = refl

  met_stored : (b room : List ℕ) → let o = inside_of (walked false v 2) Kind.Popularimeter b room in
      ◌≡◌ {A = Result (Option Met) Refusal × List ℕ} (read_as v (parsed_of v Kind.Popularimeter from b) made next, room) (met_of o.0 b, o.1)
  met_stored b room = rw (meter_inside v b room, met_read b)

-- ---- one that is put at the front of the room

module _ (v : Version) (rec : Parts → Record) (next : ℕ) (u room room' : List ℕ) where
  pub front_read : {n : ℕ} {r : Result (Option Met) Refusal} {parsed : Result Parts Refusal} → ◌≡◌ {A = Result ℕ Refusal × List ℕ} (Ok n, room') (into_of u room)
      → parsed ≡ parsed_of v Kind.Popularimeter 0 (slice 0 n room') → r ≡ read_as v parsed rec next
      → ◌≡◌ {A = Result (Option Met) Refusal × List ℕ} (r, room') (front_as v u rec next room)
  front_read {n} e ep er =
      let f = put_bytes u room e in
      rw (le-ltb (length room) (length u) f.fits, er, ep, fitted_front f, f.put)

-- it is shown as it was read
met_front : (v : Version) (id : ℕ) (sh : Bool) (place len next : ℕ) (u room : List ℕ) → let o = resynced_of (walked false v 2) Kind.Popularimeter u room in
    ◌≡◌ {A = Result (Option Met) Refusal × List ℕ} (front_as v u (made v id sh place true 0 len next) next room) (met_of v id sh place true 0 len next o.0 u, o.1)
unfolding resynced_of
met_front v id sh place len next u room = by_room (ltb (length room) (length u))
  where
    by_room : (t : Bool) → let o = pick {A = Out} t (14, room) (behind u (inside_of (walked false v 2) Kind.Popularimeter u (drop (length u) room))) in
        ◌≡◌ {A = Result (Option Met) Refusal × List ℕ} (pick t (Err (refusal 14), room) (read_as v (parsed_of v Kind.Popularimeter 0 u) (made v id sh place true 0 len next) next, put_front u room))
        (met_of v id sh place true 0 len next o.0 u, o.1)
    by_room true = refl
    by_room false = rw (meter_inside v u (drop (length u) room), met_read v id sh place true 0 len next u)

-- ---- a frame

module _ (v : Version) (w : Bool) (begin at : ℕ) (s room : List ℕ) where
  -- by what is shown
  passes : (shown : Shown) (left : List ℕ) → ◌≡◌ {A = Shown × List ℕ} (shown, left) (frame_of v w begin at s room)
      → ◌≡◌ {A = Result (Option Met) Refusal × List ℕ} (met_as v shown, left) (pass_of v w begin at s room)
  unfolding pass_of
  passes shown left e = ap {B = Result (Option Met) Refusal × List ℕ} (λ (o : Shown × List ℕ). (met_as v o.0, o.1)) e

  pub pass_nothing : Ok None ≡ head_of v 1 s → ◌≡◌ {A = Result (Option Met) Refusal × List ℕ} (Ok None, room) (pass_of v w begin at s room)
  pass_nothing e = passes (Ok None) room (shown_nothing v w begin at s room e)

  pub pass_refused : {k : Refusal} → Err k ≡ head_of v 1 s → ◌≡◌ {A = Result (Option Met) Refusal × List ℕ} (Err k, room) (pass_of v w begin at s room)
  pass_refused {k} e = passes (Err k) room (shown_refused v w begin at s room e)

-- ---- a frame that was found

module _ (v : Version) (w : Bool) (begin at end : ℕ) (s room : List ℕ) {id : ℕ} {c f sh : Bool} {start len : ℕ} (h : Here v at end s id c f sh start len)
    (kind : Kind) (t : Bool) (ek : kind ≡ shown_kind v id c) (et : t ≡ is_resynced c f) where
  abbrev stored : List ℕ
  stored = slice (at + start) (at + start + len) s

  abbrev shown_there : List ℕ
  shown_there = shown_body t stored

  abbrev from : ℕ
  from = pick t 0 (at + start)

  abbrev out : Out
  out = body_of t (walked false v 2) kind stored room

  abbrev rec : Record
  rec = record_of id sh c (at - begin) (t || w) from (length shown_there) (parts_of v kind from shown_there)

  pass_is : ◌≡◌ {A = Result (Option Met) Refusal × List ℕ} (met_as v (shown_of out.0 rec (at + start + len)), out.1) (pass_of v w begin at (slice at end s) room)
  pass_is =
      let next : at + start + len ≡ at + (start + len) = omega arith in
      ap {B = Result (Option Met) Refusal × List ℕ} (λ (n : ℕ). (met_as v (shown_of out.0 rec n), out.1)) next
      ∙ passes v w begin at (slice at end s) room (shown_of out.0 rec (at + (start + len))) out.1
      (frame_is v w begin at (slice at end s) room id c f sh start len h.head kind t ek et stored room h.body)

  module _ {r : ℕ} {left : List ℕ} (o : ◌≡◌ {A = Out} (r, left) out) where
    pub pass_body_refused : (r ≡ 0 → ⊥) → ◌≡◌ {A = Result (Option Met) Refusal × List ℕ} (Err (refusal r), left) (pass_of v w begin at (slice at end s) room)
    pass_body_refused some =
        let k : out.0 ≡ r = sym (ap (λ (x : Out). x.0) o) in
        let is : Err (refusal r) ≡ met_as v (shown_of out.0 rec (at + start + len)) = rw (k, ne_eqb r 0 some) in
        rw (is, ap (λ (x : Out). x.1) o) pass_is

    -- a frame of another kind
    pub pass_over : r ≡ 0 → eqb (kind_number kind) 1 ≡ false → (packed : Bool) → packed ≡ (c && is_meter_id v id)
        → ◌≡◌ {A = Result (Option Met) Refusal × List ℕ} (Ok (Some (Met.Passed (at + start + len) sh packed)), left) (pass_of v w begin at (slice at end s) room)
    pass_over z other packed ep =
        let k : out.0 ≡ 0 = sym (ap (λ (x : Out). x.0) o) ∙ z in
        let is : passed_by v rec (at + start + len) ≡ met_as v (shown_of out.0 rec (at + start + len)) = rw k (met_kind v rec (at + start + len) kind other from shown_there) in
        rw (ep, is, ap (λ (x : Out). x.1) o) pass_is

  -- a popularimeter
  module _ (em : eqb (kind_number kind) 1 ≡ true) where
    -- read where it lies
    pub pass_meter : t ≡ false → {r : Result (Option Met) Refusal} {parsed : Result Parts Refusal} → parsed ≡ parsed_of v Kind.Popularimeter (at + start) stored
        → r ≡ read_as v parsed (record_of id sh false (at - begin) w (at + start) (length stored)) (at + start + len)
        → ◌≡◌ {A = Result (Option Met) Refusal × List ℕ} (r, room) (pass_of v w begin at (slice at end s) room)
    pass_meter ef ep e =
        let m = meter_kind v id c kind ek em in
        let is : ◌≡◌ {A = Result (Option Met) Refusal × List ℕ} (read_as v (parsed_of v Kind.Popularimeter (at + start) stored) (record_of id sh false (at - begin) w (at + start) (length stored)) (at + start + len), room)
        (met_as v (shown_of out.0 rec (at + start + len)), out.1) =
        rw (ef, m.0, m.1) (met_stored v id sh (at - begin) w (at + start) (length stored) (at + start + len) stored room) in
        rw (e, ep) (is ∙ pass_is)

    -- resynchronised to the front of the room
    pub pass_front : t ≡ true → {o : Result (Option Met) Refusal × List ℕ}
        → o ≡ front_as v (resynchronised stored) (record_of id sh false (at - begin) true 0 (length (resynchronised stored))) (at + start + len) room
        → o ≡ pass_of v w begin at (slice at end s) room
    pass_front ef e =
        let m = meter_kind v id c kind ek em in
        let u : List ℕ = resynchronised stored in
        let is : front_as v u (record_of id sh false (at - begin) true 0 (length u)) (at + start + len) room ≡ (met_as v (shown_of out.0 rec (at + start + len)), out.1) =
        rw (ef, m.0, m.1) (met_front v id sh (at - begin) (length u) (at + start + len) u room) in
        e ∙ is ∙ pass_is

-- ---- of the tag's frames, or of those in the work buffer

module _ (v : Version) (w : Bool) (begin at end : ℕ) (tag work : List ℕ) where
  pub pass_in_work : w ≡ true → {r : Result (Option Met) Refusal} {none : List ℕ} → ◌≡◌ {A = Result (Option Met) Refusal × List ℕ} (r, none) (pass_of v true begin at (slice at end work) [])
      → ◌≡◌ {A = Result (Option Met) Refusal × List ℕ} (r, work) (pass_in v w begin at end tag work)
  unfolding pass_in frame_in pass_of
  pass_in_work ew e = rw ew (ap {B = Result (Option Met) Refusal × List ℕ} (λ (o : Result (Option Met) Refusal × List ℕ). (o.0, work)) e)

  pub pass_apart : w ≡ false → {o : Result (Option Met) Refusal × List ℕ} → o ≡ pass_of v false begin at (slice at end tag) work → o ≡ pass_in v w begin at end tag work
  unfolding pass_in frame_in pass_of
  pass_apart ew e = rw ew e
