-- What a look at frames meets, and what is seen of a frame of the top level (document 01, "Raising a counter"; request f). Assumes nothing.
use Rattle.std.specs.Prelude.{ℕ, ◌+◌, Bool, true, false, ◌||◌, List, take, drop}
use Rattle.format.specs.Bytes.{pick, span, zero_at}
use Rattle.format.specs.Frame.{head_of}
use Rattle.format.specs.Popularimeter.{rating_in, counter_in}
use Rattle.format.specs.Record.{body_refusal, run_of}
use Rattle.format.specs.Walk.{is_resynced, shown_kind}
use Rattle.format.specs.Looks.{unless, frame_look, look_at}
use Rattle.format.specs.declared.Version.{Version}
use Rattle.format.specs.declared.Kind.{Kind}
use Rattle.format.specs.declared.Fields.{Fields}
use Rattle.format.specs.declared.Parts.{Parts}
use Rattle.format.specs.declared.Head.{Head}
use Rattle.format.specs.Looks.{Look}
use Rattle.walk.specs.declared.plain.Ahead.{Ahead}
use Rattle.walk.specs.declared.plain.Seen.{Seen}
use Rattle.std.specs.Prelude.{Result, Option, Ok, Err, Some, None}
use Rattle.format.specs.declared.refusals.Refusal.{Refusal}
use Rattle.format.specs.Refusals.{refusal}

-- ---- a frame of the top level, as raising and editing need it

-- by its kind, with its body b from `start` up to `next`
abbrev pub seen_kind : Kind → ℕ → ℕ → List ℕ → Bool → Result (Option Seen) Refusal
seen_kind Kind.Text start next b odd = Ok (Some (Seen.Frame next odd))
seen_kind Kind.Popularimeter start next b odd = Ok (Some (Seen.Popularimeter next odd (span start (zero_at b)) (rating_in b) (counter_in b)))
seen_kind Kind.Table start next b odd = Ok (Some (Seen.Frame next odd))
seen_kind Kind.Chapter start next b odd = Ok (Some (Seen.Frame next odd))
seen_kind Kind.Contents start next b odd = Ok (Some (Seen.Frame next odd))
seen_kind Kind.Raw start next b odd = Ok (Some (Seen.Frame next odd))

-- by the look at it
abbrev pub seen_as : Look → Kind → ℕ → ℕ → List ℕ → Result (Option Seen) Refusal
seen_as (Err k) kind start next b = Err k
seen_as (Ok false) kind start next b = seen_kind kind start next b true
seen_as (Ok true) kind start next b = seen_kind kind start next b false

-- s is what is left from the place `at` on
unfoldable pub on_seen : Version → ℕ → List ℕ → Result (Option Head) Refusal → Result (Option Seen) Refusal
on_seen v at s (Ok None) = Ok None
on_seen v at s (Err k) = Err k
on_seen v at s (Ok (Some h)) =
    let b = take h.len (drop h.start s) in
    seen_as (frame_look v (look_at v 2) h.id h.compressed h.flagged h.short b) (shown_kind v h.id h.compressed) (at + h.start) (at + h.start + h.len) b

unfoldable pub seen_of : Version → ℕ → List ℕ → Result (Option Seen) Refusal
seen_of v at s = on_seen v at s (head_of v 1 s)

-- ---- in steps

-- a frame that is odd itself, whatever is in it
abbrev pub is_odd : Bool → Bool → Bool → Bool
is_odd compressed flagged short = compressed || (flagged || short)

-- a body by its fields
abbrev pub ahead : Kind → Bool → ℕ → ℕ → Ahead
ahead kind odd start stop = record { kind = kind; odd = odd; start = start; stop = stop }

-- what lies ahead at a depth
unfoldable pub on_ahead : Version → ℕ → Result (Option Head) Refusal → Result (Option Ahead) Refusal
on_ahead v at (Ok None) = Ok None
on_ahead v at (Err k) = Err k
on_ahead v at (Ok (Some h)) =
    pick (is_resynced h.compressed h.flagged) (Err (refusal 40))
    (Ok (Some (ahead (shown_kind v h.id h.compressed) (is_odd h.compressed h.flagged h.short) (at + h.start) (at + h.start + h.len))))

unfoldable pub ahead_of : Version → ℕ → ℕ → List ℕ → Result (Option Ahead) Refusal
ahead_of v depth at s = on_ahead v at (head_of v depth s)

-- a body and its run, through which go looks
abbrev pub inside_look : (List ℕ → Look) → Kind → List ℕ → Look
inside_look go kind b = unless (body_refusal kind b) (go (run_of kind b))

abbrev pub counted_by : Fields → Parts → ℕ → Bool → Result (Option Seen) Refusal
counted_by (Fields.Text e) p next odd = Ok (Some (Seen.Frame next odd))
counted_by (Fields.Popularimeter rating counter) p next odd = Ok (Some (Seen.Popularimeter next odd p.name rating counter))
counted_by (Fields.Table f b m i j) p next odd = Ok (Some (Seen.Frame next odd))
counted_by (Fields.Chapter a b c d) p next odd = Ok (Some (Seen.Frame next odd))
counted_by (Fields.Contents t o) p next odd = Ok (Some (Seen.Frame next odd))
counted_by Fields.Raw p next odd = Ok (Some (Seen.Frame next odd))

abbrev pub counted_as : Result Parts Refusal → ℕ → Bool → Result (Option Seen) Refusal
counted_as (Err k) next odd = Err k
counted_as (Ok p) next odd = counted_by p.fields p next odd
