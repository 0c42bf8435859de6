-- What stands at a place, by what a glance tells; and the next popularimeter by what stands at the meter's place. Assumes nothing.
use Rattle.std.proofs.Common.{◌≡◌, ℕ, ◌+◌, ◌-◌, ◌<◌, ◌≤◌, min, Bool, true, false, ◌||◌, Result, Ok, Err, Option, Some, None, eqb, ltb, List, [], length, take, drop, sym, refl, ap, ◌∙◌, arith}
use lib.Seq.{slice}
use Rattle.laws.proofs.Bools.{false_not_true}
use Rattle.laws.proofs.Results.{none_not_found, err_not_ok}
use Rattle.laws.proofs.Cuts.{length_cut}
use Rattle.laws.proofs.Slices.{slice_cut}
use Rattle.format.specs.Bytes.{pick, put_front}
use Rattle.format.specs.Unsynch.{resynchronised}
use Rattle.format.specs.Ids.{kind_of, kind_number}
use Rattle.format.specs.Frame.{head_len, head_of}
use Rattle.format.specs.Record.{body_refusal, run_of, parts_of}
use Rattle.format.specs.Walk.{Out, Shown, is_resynced, inside_of, resynced_of, body_of, shown_kind, walked, record_of, on_shown, frame_of}
use Rattle.format.specs.Refusals.{refusal}
use Rattle.format.specs.declared.Version.{Version}
use Rattle.format.specs.declared.Kind.{Kind}
use Rattle.format.specs.declared.Fields.{Fields}
use Rattle.format.specs.declared.Head.{Head}
use Rattle.format.specs.declared.Parts.{Parts}
use Rattle.format.specs.declared.Record.{Record}
use Rattle.format.specs.declared.Span.{Span}
use Rattle.format.specs.declared.refusals.Refusal.{Refusal}
use Rattle.format.proofs.Checks.{of_picked}
use Rattle.format.proofs.Moves.{moves}
use Rattle.frame.specs.Bodies.{parsed_of}
use Rattle.walk.specs.declared.passing.Met.{Met}
use Rattle.walk.specs.Sources.{source_of, frame_in}
use Rattle.walk.specs.Passing.{met_by, met_as, pass_in, read_as, pass_of}
use Rattle.walk.proofs.Sources.{walk_none}
use Rattle.walk.proofs.Onwards.{Here, here}
use Rattle.walk.proofs.Passes.{pass_nothing, pass_body_refused, pass_over, pass_meter, pass_in_work, pass_apart}
use Rattle.reader.specs.Reader.{answer_of, moved_to, Stepped, step_of}
use Rattle.reader.specs.declared.Stop.{Stop}
use Rattle.reader.proofs.Steps.{gone, running, ended, failed}
use Rattle.meter.specs.declared.Meter.{Meter}
use Rattle.meter.specs.declared.Metered.{Metered}
use Rattle.meter.specs.declared.glance.Glance.{Glance}
use Rattle.meter.specs.Meter.{one_more, passed_over, metered_as, Nexted, or_on, on_step, next_of}
use Rattle.meter.specs.Glances.{Passes, Whole, Says}
use Rattle.meter.specs.Meets.{flagged_of, moved_as, stopped_by, met_next}
use Rattle.meter.proofs.Nexts.{next_eq}

abbrev pub Answer : Type 0
Answer = Result (Option Met) Refusal × List ℕ

-- ---- a glance at the frames' bytes, up to their end or to where the frames do

pub says_here : (v : Version) (w : Bool) (at end last : ℕ) (s tag work : List ℕ) (g : Glance) → s ≡ source_of w work tag → last ≡ min end (length s)
    → Says v (slice at last s) g → Says v (slice at end (source_of w work tag)) g
says_here v w at end last s tag work g es el p = rw es at (rw (slice_cut at end last s el) at p)

-- the end of a whole frame lies within the bytes
pub fits_in : (v : Version) (at end last n : ℕ) (s : List ℕ) {f : Bool} → last ≡ min end (length s) → Whole v f n (slice at last s) → at + head_len v + n ≤ length s
fits_in v at end last n s {f} el h =
    (here v at last s h.id false f false (head_len v) n (sym h.head)).within

-- ---- a body that passes

passes_other : (kind : Kind) (b : List ℕ) → Passes kind b → eqb (kind_number kind) 1 ≡ false
passes_other Kind.Text b p = refl
passes_other Kind.Popularimeter b p = absurd p
passes_other Kind.Table b p = absurd p
passes_other Kind.Chapter b p = absurd p
passes_other Kind.Contents b p = absurd p
passes_other Kind.Raw b p = refl

passes_inside : (v : Version) (kind : Kind) (b room : List ℕ) → Passes kind b → inside_of (walked false v 2) kind b room ≡ (0, room)
unfolding inside_of run_of body_refusal
passes_inside v Kind.Text b room p = rw p (walk_none v 2 room)
passes_inside v Kind.Popularimeter b room p = absurd p
passes_inside v Kind.Table b room p = absurd p
passes_inside v Kind.Chapter b room p = absurd p
passes_inside v Kind.Contents b room p = absurd p
passes_inside v Kind.Raw b room p = walk_none v 2 room

-- ---- what stands at a place

module _ (v : Version) (w : Bool) (begin at end : ℕ) (tag work : List ℕ) where
  abbrev bytes : List ℕ
  bytes = source_of w work tag

  -- what needs no room leaves the work buffer as it is
  in_place : (t : Bool) → w ≡ t → (met : Result (Option Met) Refusal) → ((room : List ℕ) → ◌≡◌ {A = Answer} (met, room) (pass_of v w begin at (slice at end bytes) room))
      → ◌≡◌ {A = Answer} (met, work) (pass_in v w begin at end tag work)
  in_place true e met f = pass_in_work v w begin at end tag work e (rw e at (f []))
  in_place false e met f = pass_apart v w begin at end tag work e (rw e at (f work))

  pub meets_end : head_of v 1 (slice at end bytes) ≡ Ok None → ◌≡◌ {A = Answer} (Ok None, work) (pass_in v w begin at end tag work)
  meets_end e = in_place w refl (Ok None) (λ room. pass_nothing v w begin at (slice at end bytes) room (sym e))

  module _ (n : ℕ) (f : Bool) (h : Whole v f n (slice at end bytes)) where
    found_here : Here v at end bytes h.id false f false (head_len v) n
    found_here = here v at end bytes h.id false f false (head_len v) n (sym h.head)

  pub meets_plain : (n : ℕ) → Says v (slice at end bytes) (Glance.Plain n) → ◌≡◌ {A = Answer} (Ok (Some (Met.Passed (at + head_len v + n) false false)), work) (pass_in v w begin at end tag work)
  meets_plain n says =
      let h = found_here n false says.0 in
      let body : Passes (kind_of v says.0.id) (slice (at + head_len v) (at + head_len v + n) bytes) = rw h.body at says.1 in
      in_place w refl (Ok (Some (Met.Passed (at + head_len v + n) false false)))
      (λ room. pass_over v w begin at end bytes room h (kind_of v says.0.id) false refl refl
      (sym (passes_inside v (kind_of v says.0.id) (slice (at + head_len v) (at + head_len v + n) bytes) room body)) refl (passes_other (kind_of v says.0.id) (slice (at + head_len v) (at + head_len v + n) bytes) body) false refl)

  pub meets_meter : (n : ℕ) → Says v (slice at end bytes) (Glance.Meter n) → {head : ℕ} → head ≡ head_len v → {s : List ℕ} → s ≡ bytes → {met : Result (Option Met) Refusal} {parsed : Result Parts Refusal}
      → parsed ≡ parsed_of v Kind.Popularimeter (at + head) (slice (at + head) (at + head + n) s)
      → ((id place from len : ℕ) → met ≡ read_as v parsed (record_of id false false place w from len) (at + head + n))
      → ◌≡◌ {A = Answer} (met, work) (pass_in v w begin at end tag work)
  meets_meter n says is-head is-source {met} {parsed} ep er =
      let h = found_here n false says.0 in
      let is : (id place from len : ℕ) → met ≡ read_as v parsed (record_of id false false place w from len) (at + head_len v + n) = λ id place from len. rw is-head at (er id place from len) in
      in_place w refl met
      (λ room. pass_meter v w begin at end bytes room h (kind_of v says.0.id) false refl refl (rw says.1) refl (rw (is-head, is-source) at ep) (is _ _ _ _))

-- ---- a body put at the front of the room

-- a body that is resynchronised and then passes
flagged_here : (v : Version) (begin at end : ℕ) (tag work : List ℕ) (n : ℕ) → Says v (slice at end tag) (Glance.Flagged n)
    → flagged_of (resynchronised (slice (at + head_len v) (at + head_len v + n) tag)) (at + head_len v + n) work ≡ pass_in v false begin at end tag work
unfolding resynced_of
flagged_here v begin at end tag work n says = pass_apart v false begin at end tag work refl (by_room (ltb (length work) (length u)) refl)
  where
    h : Here v at end tag says.0.id false true false (head_len v) n
    h = here v at end tag says.0.id false true false (head_len v) n (sym says.0.head)

    kind : Kind
    kind = kind_of v says.0.id

    u : List ℕ
    u = resynchronised (slice (at + head_len v) (at + head_len v + n) tag)

    body : Passes kind u
    body = rw h.body at says.1

    full : ltb (length work) (length u) ≡ true → ◌≡◌ {A = Out} (14, work) (resynced_of (walked false v 2) kind u work)
    full e = rw e

    put : ltb (length work) (length u) ≡ false → ◌≡◌ {A = Out} (0, put_front u work) (resynced_of (walked false v 2) kind u work)
    put e = rw (e, passes_inside v kind u (drop (length u) work) body)

    by_room : (t : Bool) → ltb (length work) (length u) ≡ t
        → ◌≡◌ {A = Answer} (pick t (Err (refusal 14), work) (Ok (Some (Met.Passed (at + head_len v + n) false false)), put_front u work)) (pass_of v false begin at (slice at end tag) work)
    by_room true e = pass_body_refused v false begin at end tag work h kind true refl refl (full e) (λ z. omega arith)
    by_room false e = pass_over v false begin at end tag work h kind true refl refl (put e) refl (passes_other kind u body) false refl

pub meets_flagged : (v : Version) (w : Bool) (begin at end : ℕ) (tag work : List ℕ) (n : ℕ) → w ≡ false → Says v (slice at end (source_of w work tag)) (Glance.Flagged n)
    → {o : Answer} → o ≡ flagged_of (resynchronised (slice (at + head_len v) (at + head_len v + n) tag)) (at + head_len v + n) work → o ≡ pass_in v w begin at end tag work
meets_flagged v true begin at end tag work n e says is = absurd (false_not_true (sym e))
meets_flagged v false begin at end tag work n e says is = is ∙ flagged_here v begin at end tag work n says

-- ---- a popularimeter is never compressed

abbrev Honest : Shown → Type 0
Honest (Ok None) = Unit {0}
Honest (Err k) = Unit {0}
Honest (Ok (Some (rec, next))) = (rating counter : ℕ) → rec.heading.fields ≡ Fields.Popularimeter rating counter → rec.heading.compressed ≡ false

parts_honest : (v : Version) (id : ℕ) (compressed : Bool) (at : ℕ) (b : List ℕ) (rating counter : ℕ)
    → (parts_of v (shown_kind v id compressed) at b).fields ≡ Fields.Popularimeter rating counter → compressed ≡ false
unfolding parts_of
parts_honest v id true at b rating counter e = absurd (let z : ◌≡◌ {A = ℕ} 0 1 = cc in omega arith)
parts_honest v id false at b rating counter e = refl

head_honest : (v : Version) (w : Bool) (begin at : ℕ) (s room : List ℕ) (found : Result (Option Head) Refusal) → Honest (on_shown v w begin at s room found).0
unfolding on_shown
head_honest v w begin at s room (Ok None) = tt {0}
head_honest v w begin at s room (Err k) = tt {0}
head_honest v w begin at s room (Ok (Some h)) =
    let o : Out = body_of (is_resynced h.compressed h.flagged) (walked false v 2) (shown_kind v h.id h.compressed) (take h.len (drop h.start s)) room in
    of_picked Honest (eqb o.0 0) (λ t rating counter e. parts_honest v h.id h.compressed _ _ rating counter e) (λ t. tt {0})

frame_honest : (v : Version) (w : Bool) (begin at end : ℕ) (tag work : List ℕ) → Honest (frame_in v w begin at end tag work).0
unfolding frame_in frame_of
frame_honest v w begin at end tag work = head_honest v w begin at (slice at end (source_of w work tag)) _ (head_of v 1 (slice at end (source_of w work tag)))

-- ---- the next popularimeter

or_none : (b : Bool) → (b || false) ≡ b
or_none true = refl
or_none false = refl

module _ (go : Meter → List ℕ → Nexted) (m : Meter) (left : List ℕ) where
  abbrev v : Version
  v = m.reader.version

  frame_next : (rec : Record) (next : ℕ) (fields : Fields) (short : Bool) → rec.heading.short ≡ short
      → ((rating counter : ℕ) → fields ≡ Fields.Popularimeter rating counter → rec.heading.compressed ≡ false)
      → or_on go (pick short [] (metered_as fields m.frames rec)) (passed_over rec.heading (moved_to next m.reader) m) left ≡ met_next go m (met_by fields v rec next) left
  frame_next rec next (Fields.Text e) true es h = refl
  frame_next rec next (Fields.Text e) false es h = refl
  frame_next rec next (Fields.Popularimeter rating counter) true es h = rw es
  frame_next rec next (Fields.Popularimeter rating counter) false es h = rw (es, h rating counter refl, or_none m.short, or_none m.compressed)
  frame_next rec next (Fields.Table a b c d e) true es h = refl
  frame_next rec next (Fields.Table a b c d e) false es h = refl
  frame_next rec next (Fields.Chapter a b c d) true es h = refl
  frame_next rec next (Fields.Chapter a b c d) false es h = refl
  frame_next rec next (Fields.Contents a b) true es h = refl
  frame_next rec next (Fields.Contents a b) false es h = refl
  frame_next rec next Fields.Raw true es h = refl
  frame_next rec next Fields.Raw false es h = refl

  shown_next : (shown : Shown) → Honest shown → on_step go m (answer_of shown m.reader) left ≡ met_next go m (met_as v shown) left
  shown_next (Ok None) h = refl
  shown_next (Err k) h = refl
  shown_next (Ok (Some (rec, next))) h = frame_next rec next rec.heading.fields rec.heading.short refl h

-- of a meter that runs
pub next_met : (m : Meter) (tag work : List ℕ) → m.reader.stop ≡ Stop.Running
    → let o = pass_in m.reader.version m.reader.in_work m.reader.begin m.reader.at m.reader.end tag work in
    next_of m tag work ≡ met_next (λ m' w. next_of m' tag w) m o.0 o.1
unfolding pass_in
next_met m tag work is =
    let r = m.reader in
    let o = frame_in r.version r.in_work r.begin r.at r.end tag work in
    let step : ◌≡◌ {A = Stepped} (answer_of o.0 r, o.1) (step_of r tag work) = running r tag work is (gone r tag work refl refl) in
    next_eq m tag work
    ∙ ap (λ (x : Stepped). on_step (λ m' w. next_of m' tag w) m x.0 x.1) (sym step)
    ∙ shown_next (λ m' w. next_of m' tag w) m o.1 o.0 (frame_honest r.version r.in_work r.begin r.at r.end tag work)

-- of a meter that has stopped

module _ (m : Meter) (tag work : List ℕ) where
  by_step : {o : Stepped} → o ≡ step_of m.reader tag work → on_step (λ m' w. next_of m' tag w) m o.0 o.1 ≡ next_of m tag work
  by_step e = ap (λ (o : Stepped). on_step (λ m' w. next_of m' tag w) m o.0 o.1) e ∙ sym (next_eq m tag work)

  pub next_ended : m.reader.stop ≡ Stop.Ended → ◌≡◌ {A = Nexted} ((Ok None, m), work) (next_of m tag work)
  next_ended is = by_step (ended m.reader tag work is)

  pub next_failed : {k : Refusal} → m.reader.stop ≡ Stop.Failed k → ◌≡◌ {A = Nexted} ((Err k, m), work) (next_of m tag work)
  next_failed is = by_step (failed m.reader tag work is)

-- ---- the loop

-- of a meter that runs, by what stood at its place
module _ (m : Meter) (tag work left : List ℕ) (runs : m.reader.stop ≡ Stop.Running) {met : Result (Option Met) Refusal}
    (e : (begin : ℕ) → ◌≡◌ {A = Answer} (met, left) (pass_in m.reader.version m.reader.in_work begin m.reader.at m.reader.end tag work)) where
  goes_by : {x : Result (Option Met) Refusal} → met ≡ x → met_next (λ m' w. next_of m' tag w) m x left ≡ next_of m tag work
  goes_by is =
      rw (← is) (ap (λ (o : Answer). met_next (λ m' w. next_of m' tag w) m o.0 o.1) (e m.reader.begin) ∙ sym (next_met m tag work runs))

  pub goes_end : met ≡ Ok None → ◌≡◌ {A = Nexted} ((Ok None, stopped_by Stop.Ended m), left) (next_of m tag work)
  goes_end is = goes_by is

  pub goes_refused : {k : Refusal} → met ≡ Err k → ◌≡◌ {A = Nexted} ((Err k, stopped_by (Stop.Failed k) m), left) (next_of m tag work)
  goes_refused is = goes_by is

  pub goes_on : {next : ℕ} {short packed : Bool} → met ≡ Ok (Some (Met.Passed next short packed))
      → next_of (moved_as next (one_more m.frames) (m.short || short) (m.compressed || packed) m.reader.stop m) tag left ≡ next_of m tag work
  goes_on {next} {short} {packed} is =
      ap (λ (x : Stop). next_of (moved_as next (one_more m.frames) (m.short || short) (m.compressed || packed) x m) tag left) runs ∙ goes_by is

  pub goes_found : {next : ℕ} {w : Bool} {user : Span} {rating counter : ℕ} → met ≡ Ok (Some (Met.Popularimeter next w user rating counter))
      → ◌≡◌ {A = Nexted}
      ((Ok (Some (record { in_work = w; user = user; rating = rating; counter = counter; frame = m.frames })), moved_as next (one_more m.frames) m.short m.compressed m.reader.stop m), left)
      (next_of m tag work)
  goes_found {next} {w} {user} {rating} {counter} is =
      let p : Metered = record { in_work = w; user = user; rating = rating; counter = counter; frame = m.frames } in
      ap {B = Nexted} (λ (x : Stop). ((Ok (Some p), moved_as next (one_more m.frames) m.short m.compressed x m), left)) runs ∙ goes_by is

-- a frame that is passed over leaves fewer bytes

met_next_lem : (v : Version) (rec : Record) (n next : ℕ) (s p : Bool) (fields : Fields) (short : Bool) → rec.heading.short ≡ short → met_by fields v rec n ≡ Ok (Some (Met.Passed next s p)) → n ≡ next
met_next_lem v rec n next s p (Fields.Text e) short es h = cc
met_next_lem v rec n next s p (Fields.Popularimeter r c) true es h = let h' = rw es at h in cc
met_next_lem v rec n next s p (Fields.Popularimeter r c) false es h = let h' = rw es at h in absurd (let z : ◌≡◌ {A = ℕ} 0 1 = cc in omega arith)
met_next_lem v rec n next s p (Fields.Table a b c d e) short es h = cc
met_next_lem v rec n next s p (Fields.Chapter a b c d) short es h = cc
met_next_lem v rec n next s p (Fields.Contents a b) short es h = cc
met_next_lem v rec n next s p Fields.Raw short es h = cc

shown_passed : (v : Version) (shown : Shown) (next : ℕ) (s p : Bool) → met_as v shown ≡ Ok (Some (Met.Passed next s p)) → (rec : Record) × (shown ≡ Ok (Some (rec, next)))
shown_passed v (Ok None) next s p e = none_not_found e
shown_passed v (Err k) next s p e = err_not_ok e
shown_passed v (Ok (Some (rec, n))) next s p e = (rec, ap {B = Shown} (λ (to : ℕ). Ok (Some (rec, to))) (met_next_lem v rec n next s p rec.heading.fields rec.heading.short refl e))

pub passed_less : (v : Version) (w : Bool) (begin at end : ℕ) (tag work : List ℕ) (next : ℕ) (s p : Bool) {met : Result (Option Met) Refusal} {left : List ℕ}
    → ◌≡◌ {A = Answer} (met, left) (pass_in v w begin at end tag work) → met ≡ Ok (Some (Met.Passed next s p)) → end - next < end - at
unfolding pass_in frame_in
passed_less v w begin at end tag work next s p e is =
    let f = shown_passed v _ next s p (sym (ap (λ (o : Answer). o.0) e) ∙ is) in
    let m = moves v w begin at (slice at end (source_of w work tag)) _ f.1 in
    omega (arith, m.six, m.within, length_cut at end (source_of w work tag))
