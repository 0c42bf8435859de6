-- What a meter needs of a frame: the end, a refusal, a whole popularimeter, or a frame to pass over. Assumes nothing.
use Rattle.std.specs.Prelude.{ℕ, Bool, ◌&&◌, List, length, ltb, eqb}
use Rattle.format.specs.Bytes.{pick, put_front}
use Rattle.format.specs.Ids.{kind_of, kind_number}
use Rattle.format.specs.Walk.{frame_of}
use Rattle.format.specs.declared.Version.{Version}
use Rattle.format.specs.declared.Kind.{Kind}
use Rattle.format.specs.declared.Fields.{Fields}
use Rattle.format.specs.declared.Parts.{Parts}
use Rattle.format.specs.declared.Record.{Record}
use Rattle.format.specs.Walk.{Shown}
use Rattle.frame.specs.Bodies.{parsed_of}
use Rattle.walk.specs.declared.passing.Met.{Met}
use Rattle.walk.specs.Sources.{frame_in}
use Rattle.std.specs.Prelude.{Result, Option, Ok, Err, Some, None}
use Rattle.format.specs.declared.refusals.Refusal.{Refusal}
use Rattle.format.specs.Refusals.{refusal}

-- an id of a popularimeter
abbrev pub is_meter_id : Version → ℕ → Bool
is_meter_id v id = eqb (kind_number (kind_of v id)) (kind_number Kind.Popularimeter)

-- a frame that is passed over
abbrev pub passed_by : Version → Record → ℕ → Result (Option Met) Refusal
passed_by v rec next = Ok (Some (Met.Passed next rec.heading.short (rec.heading.compressed && is_meter_id v rec.heading.id)))

-- by the fields of its record: a whole popularimeter, or passed over
abbrev pub met_by : Fields → Version → Record → ℕ → Result (Option Met) Refusal
met_by (Fields.Text e) v rec next = passed_by v rec next
met_by (Fields.Popularimeter rating counter) v rec next =
    pick rec.heading.short (passed_by v rec next) (Ok (Some (Met.Popularimeter next rec.in_work rec.name rating counter)))
met_by (Fields.Table f b m i j) v rec next = passed_by v rec next
met_by (Fields.Chapter a b c d) v rec next = passed_by v rec next
met_by (Fields.Contents t o) v rec next = passed_by v rec next
met_by Fields.Raw v rec next = passed_by v rec next

-- of what is shown
abbrev pub met_as : Version → Shown → Result (Option Met) Refusal
met_as v (Ok None) = Ok None
met_as v (Err k) = Err k
met_as v (Ok (Some (rec, next))) = met_by rec.heading.fields v rec next

-- What a meter needs of what stands at `at` of the frames, and the work buffer as showing the frame leaves it.
unfoldable pub pass_in : Version → Bool → ℕ → ℕ → ℕ → List ℕ → List ℕ → Result (Option Met) Refusal × List ℕ
pass_in v inWork begin at end tag work =
    (met_as v (frame_in v inWork begin at end tag work).0, (frame_in v inWork begin at end tag work).1)

-- ---- in steps

-- of a popularimeter's body by what reading it gives: rec makes the record of its parts
abbrev pub read_as : Version → Result Parts Refusal → (Parts → Record) → ℕ → Result (Option Met) Refusal
read_as v (Err k) rec next = Err k
read_as v (Ok p) rec next = met_by p.fields v (rec p) next

-- of a popularimeter's body u that is put at the front of the room and read there, or 14
abbrev pub front_as : Version → List ℕ → (Parts → Record) → ℕ → List ℕ → Result (Option Met) Refusal × List ℕ
front_as v u rec next room =
    pick (ltb (length room) (length u)) (Err (refusal 14), room) (read_as v (parsed_of v Kind.Popularimeter 0 u) rec next, put_front u room)

-- of what stands at `at` of a buffer, whose bytes from there on are s
unfoldable pub pass_of : Version → Bool → ℕ → ℕ → List ℕ → List ℕ → Result (Option Met) Refusal × List ℕ
pass_of v inWork begin at s room = (met_as v (frame_of v inWork begin at s room).0, (frame_of v inWork begin at s room).1)
