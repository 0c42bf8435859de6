-- What a walk meets (document 01, "Header and walk"). Assumes nothing.
use Rattle.std.specs.Prelude.{ℕ, ◌+◌, Bool, List}
use Rattle.format.specs.Bytes.{pick}
use Rattle.format.specs.Frame.{head_of}
use Rattle.format.specs.Walk.{shown_kind, is_resynced, unfit, left_over}
use Rattle.format.specs.declared.Version.{Version}
use Rattle.format.specs.declared.Kind.{Kind}
use Rattle.format.specs.declared.Head.{Head}
use Rattle.std.specs.Prelude.{Result, Option, Ok, Err, Some, None}
use Rattle.format.specs.declared.refusals.Refusal.{Refusal}
use Rattle.format.specs.Refusals.{refusal, checked}
use Rattle.walk.specs.declared.steps.Body.{Body}

-- a body by its fields
abbrev pub stored_body : Kind → Bool → ℕ → ℕ → Body
stored_body kind resynced start stop = record { kind = kind; resynced = resynced; start = start; stop = stop }

-- s is what is left from the place `at` on
unfoldable pub step_on : Bool → Version → ℕ → List ℕ → Result (Option Head) Refusal → Result (Option Body) Refusal
step_on strict v at s (Ok None) = checked (left_over strict s) None
step_on strict v at s (Err k) = Err k
step_on strict v at s (Ok (Some h)) =
    pick (unfit strict h.short h.flagged) (Err (refusal 29)) (Ok (Some (stored_body (shown_kind v h.id h.compressed) (is_resynced h.compressed h.flagged) (at + h.start) (at + h.start + h.len))))

unfoldable pub step_at : Bool → Version → ℕ → ℕ → List ℕ → Result (Option Body) Refusal
step_at strict v depth at s = step_on strict v at s (head_of v depth s)
