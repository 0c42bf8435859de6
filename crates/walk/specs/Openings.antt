-- What entering the body of a frame of the top level answers (document 01, "Header and walk"). Assumes nothing.
use Rattle.std.specs.Prelude.{ℕ, Bool, true, false, ◌||◌, List, [], length, take, drop, eqb}
use Rattle.std.proofs.Math.Seq.{slice}
use Rattle.format.specs.Bytes.{pick, span}
use Rattle.format.specs.Unsynch.{resynchronised}
use Rattle.format.specs.Record.{parts_of}
use Rattle.format.specs.Walk.{Out, behind, inside_of, shown_body, body_of, walked}
use Rattle.format.specs.declared.Version.{Version}
use Rattle.format.specs.declared.Kind.{Kind}
use Rattle.unsynch.specs.Puts.{into_of}
use Rattle.walk.specs.Sources.{source_of, room_of, kept}
use Rattle.std.specs.Prelude.{Result, Ok, Err}
use Rattle.format.specs.declared.refusals.Refusal.{Refusal}
use Rattle.format.specs.Refusals.{refusal}
use Rattle.format.specs.declared.Span.{Span}
use Rattle.format.specs.declared.Parts.{Parts}

-- o is what the body and its run give; the body lies as it is shown at a place of its buffer
abbrev pub opened_at : Version → Kind → ℕ → List ℕ → Out → Result (Span × Parts) Refusal × List ℕ
opened_at v kind at b o = (pick (eqb o.0 0) (Ok ((span at (length b)), (parts_of v kind at b))) (Err (refusal o.0)), o.1)

-- of a stored body at a place, which is shown at the front of the room where it is resynchronised
abbrev pub opened_of : Version → Kind → Bool → ℕ → List ℕ → List ℕ → Result (Span × Parts) Refusal × List ℕ
opened_of v kind resynced at b room =
    opened_at v kind (pick resynced 0 at) (shown_body resynced b) (body_of resynced (walked false v 2) kind b room)

-- ---- of the frames' bytes, in steps

-- a body resynchronised to the front of the room
abbrev pub front_of : Bool → ℕ → ℕ → List ℕ → List ℕ → Result ℕ Refusal × List ℕ
front_of inWork from to tag work = kept inWork work (into_of (resynchronised (slice from to (source_of inWork work tag))) (room_of inWork work))

abbrev pub lies_as : Result ℕ Refusal → Result (ℕ × ℕ) Refusal
lies_as (Err k) = Err k
lies_as (Ok n) = Ok (0, n)

-- where a body lies as it is shown, and the work buffer then
unfoldable pub ready_of : Bool → Bool → ℕ → ℕ → List ℕ → List ℕ → Result (ℕ × ℕ) Refusal × List ℕ
ready_of inWork true from to tag work = (lies_as (front_of inWork from to tag work).0, (front_of inWork from to tag work).1)
ready_of inWork false from to tag work = (Ok (from, to), work)

-- what go does with the room of a body that ends at `to`: where that was resynchronised, the room is what lies after it
unfoldable pub lent : Bool → Bool → ℕ → List ℕ → (List ℕ → Out) → Out
lent true resynced to work go = ((go []).0, work)
lent false true to work go = behind (take to work) (go (drop to work))
lent false false to work go = go work

-- the walk through a body's run; a body lies in the work buffer where the frames do, or where it was resynchronised
abbrev pub ran_of : Bool → Bool → Version → ℕ → ℕ → List ℕ → List ℕ → Out
ran_of inWork resynced v run to tag work =
    lent inWork resynced to work (walked false v 2 (slice run to (source_of (inWork || resynced) work tag)))

-- a body as it is shown
abbrev pub shown_at : Bool → Bool → Version → Kind → ℕ → ℕ → List ℕ → List ℕ → Result (Span × Parts) Refusal × List ℕ
shown_at inWork resynced v kind from to tag work =
    let b = slice from to (source_of (inWork || resynced) work tag) in
    opened_at v kind from b (lent inWork resynced to work (inside_of (walked false v 2) kind b))

-- a body as it is stored
abbrev pub entered_of : Bool → Bool → Version → Kind → ℕ → ℕ → List ℕ → List ℕ → Result (Span × Parts) Refusal × List ℕ
entered_of inWork resynced v kind from to tag work =
    kept inWork work (opened_of v kind resynced from (slice from to (source_of inWork work tag)) (room_of inWork work))
