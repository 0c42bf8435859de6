-- One frame, and the walk through frames and the subframes of chapters (document 01, "Header and walk", "Five kinds"). Assumes nothing.
use Rattle.std.specs.Prelude.{ℕ, zero, suc, ◌+◌, ◌-◌, Bool, true, false, not, ◌&&◌, ◌||◌, List, [], ◌++◌, length, take, drop, ltb, eqb}
use Rattle.format.specs.Bytes.{pick, span}
use Rattle.format.specs.Unsynch.{resynchronised}
use Rattle.format.specs.Ids.{kind_of}
use Rattle.format.specs.Frame.{head_of}
use Rattle.format.specs.Record.{body_refusal, run_of, parts_of}
use Rattle.format.specs.declared.Version.{Version}
use Rattle.format.specs.declared.Kind.{Kind}
use Rattle.format.specs.declared.Parts.{Parts}
use Rattle.format.specs.declared.Record.{Record}
use Rattle.format.specs.declared.Head.{Head}
use Rattle.std.specs.Prelude.{Result, Option, Ok, Err, Some, None}
use Rattle.format.specs.declared.refusals.Refusal.{Refusal}
use Rattle.format.specs.Refusals.{refusal}

-- a refusal, 0 for none, and what the room holds then
abbrev pub Out : Type 0
Out = ℕ × List ℕ

-- goes on where nothing was refused
abbrev pub and_then : Out → (List ℕ → Out) → Out
and_then o k = let on = k o.1 in pick (eqb o.0 0) on o

-- what was done in the part of a room after u, which stands at the room's front
abbrev pub behind : List ℕ → Out → Out
behind u o = (o.0, u ++ o.1)

-- ---- a body, whose run of subframes go walks

-- a compressed body is raw
abbrev pub shown_kind : Version → ℕ → Bool → Kind
shown_kind v id compressed = pick compressed Kind.Raw (kind_of v id)

unfoldable pub inside_of : (List ℕ → List ℕ → Out) → Kind → List ℕ → List ℕ → Out
inside_of go kind b room = let on = go (run_of kind b) room in pick (eqb (body_refusal kind b) 0) on (body_refusal kind b, room)

-- resynchronised to the front of the room, and what goes on inside it has the part after
unfoldable pub resynced_of : (List ℕ → List ℕ → Out) → Kind → List ℕ → List ℕ → Out
resynced_of go kind u room =
    let on = behind u (inside_of go kind u (drop (length u) room)) in
    pick (ltb (length room) (length u)) (14, room) on

-- whether a body is resynchronised by itself
abbrev pub is_resynced : Bool → Bool → Bool
is_resynced compressed flagged = flagged && not compressed

-- the body as it is shown
abbrev pub shown_body : Bool → List ℕ → List ℕ
shown_body true b = resynchronised b
shown_body false b = b

abbrev pub body_of : Bool → (List ℕ → List ℕ → Out) → Kind → List ℕ → List ℕ → Out
body_of true go kind b room = resynced_of go kind (resynchronised b) room
body_of false go kind b room = inside_of go kind b room

-- ---- the walk

-- What a writer wants of a run of subframes besides: no frame short, none flagged 0002, nothing left over.
abbrev pub unfit : Bool → Bool → Bool → Bool
unfit strict short flagged = strict && (short || flagged)

abbrev pub left_over : Bool → List ℕ → ℕ
left_over strict s = pick (strict && not (eqb (length s) 0)) 29 0

-- one frame and what follows it
unfoldable pub on_head : Bool → Version → (ℕ → List ℕ → List ℕ → Out) → ℕ → List ℕ → List ℕ → Result (Option Head) Refusal → Out
on_head strict v go depth s room (Ok None) = (left_over strict s, room)
on_head strict v go depth s room (Err k) = (k.number, room)
on_head strict v go depth s room (Ok (Some h)) =
    let on =
    and_then
    (body_of (is_resynced h.compressed h.flagged) (go (depth + 1)) (shown_kind v h.id h.compressed) (take h.len (drop h.start s)) room)
    (go depth (drop (h.start + h.len) s)) in
    pick (unfit strict h.short h.flagged) (29, room) on

unfoldable pub step_of : Bool → Version → (ℕ → List ℕ → List ℕ → Out) → ℕ → List ℕ → List ℕ → Out
step_of strict v go depth s room = on_head strict v go depth s room (head_of v depth s)

-- with a count of frames that is large enough, which nothing else sees
unfoldable pub walk_bytes : Bool → Version → ℕ → ℕ → List ℕ → List ℕ → Out
walk_bytes strict v zero depth s room = (left_over strict s, room)
walk_bytes strict v (suc f) depth s room = step_of strict v (walk_bytes strict v f) depth s room

unfoldable pub walked : Bool → Version → ℕ → List ℕ → List ℕ → Out
walked strict v depth s room = walk_bytes strict v (length s) depth s room

-- ---- one frame of the top level as a record

-- a record with a body of its parts at a place; `place` is the frame's, counted from the first frame byte
abbrev pub record_of : ℕ → Bool → Bool → ℕ → Bool → ℕ → ℕ → Parts → Record
record_of id short compressed place inWork at len p = record {
  heading = record { id = id; short = short; compressed = compressed; fields = p.fields };
  at = place;
  in_work = inWork;
  body = span at len;
  name = p.name;
  names = p.names;
  rest = p.rest;
}

-- nothing more, a refusal, or one frame as a record with the place after it
abbrev pub Shown : Type 0
Shown = Result (Option (Record × ℕ)) Refusal

-- the answer after a body's outcome
abbrev pub shown_of : ℕ → Record → ℕ → Shown
shown_of k r next = pick (eqb k 0) (Ok (Some (r, next))) (Err (refusal k))

-- What stands at `at` of a buffer, whose bytes from there on are s. The frames begin at `begin`; inWork says that the buffer is the work buffer.
unfoldable pub on_shown : Version → Bool → ℕ → ℕ → List ℕ → List ℕ → Result (Option Head) Refusal → Shown × List ℕ
on_shown v inWork begin at s room (Ok None) = ((Ok None), room)
on_shown v inWork begin at s room (Err k) = (Err k, room)
on_shown v inWork begin at s room (Ok (Some h)) =
    let stored = take h.len (drop h.start s) in
    let resynced = is_resynced h.compressed h.flagged in
    let kind = shown_kind v h.id h.compressed in
    let b = shown_body resynced stored in
    let place = pick resynced 0 (at + h.start) in
    let o = body_of resynced (walked false v 2) kind stored room in (
      shown_of o.0
          (record_of h.id h.short h.compressed (at - begin) (resynced || inWork) place (length b) (parts_of v kind place b))
          (at + (h.start + h.len)),
      o.1,
    )

unfoldable pub frame_of : Version → Bool → ℕ → ℕ → List ℕ → List ℕ → Shown × List ℕ
frame_of v inWork begin at s room = on_shown v inWork begin at s room (head_of v 1 s)
