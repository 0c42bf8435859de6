-- What is known of a frame that is shown: how far it reaches. Assumes nothing.
use mathlib.Core.Path.{◌≡◌, refl, ap}
use Prim.Native.Nat.{ℕ, ◌+◌, ◌≤◌}
use native.Mathlib.Omega.{arith}
use mathlib.Core.Bool.{Bool, false}
use mathlib.Core.List.{List}
use lib.ListN.{length, take, drop}
use lib.Dec.{eqb}
use Rattle.format.specs.Frame.{head_of}
use Rattle.format.specs.Walk.{body_of, is_resynced, shown_kind, walked, shown_of, on_shown, frame_of}
use Rattle.format.specs.declared.Version.{Version}
use Rattle.format.specs.declared.Head.{Head}
use Rattle.format.specs.declared.Record.{Record}
use Rattle.format.specs.Walk.{Shown}
use Rattle.format.proofs.Checks.{not_second}
use Rattle.format.proofs.Heads.{stands, lies}
use Rattle.std.specs.Prelude.{Result, Option, Ok, Err, Some, None}
use Rattle.format.specs.declared.refusals.Refusal.{Refusal}
use Rattle.format.specs.Refusals.{refusal}
use Rattle.laws.proofs.Results.{found_same, none_not_found, err_not_ok}

-- a frame at `at`, in front of n bytes, is followed by what begins at next
pub record Moves (at n next : ℕ) : Type 0 where
  pub six : at + 6 ≤ next
  pub within : next ≤ at + n

shown_next : (k : ℕ) (rec rec' : Record) (next next' : ℕ) → shown_of k rec next ≡ Ok (Some (rec', next')) → next ≡ next'
shown_next k rec rec' next next' e = ap (λ (p : Record × ℕ). p.1) (found_same (not_second (eqb k 0) _ _ _ e err_not_ok).1)

module _ (v : Version) (inWork : Bool) (begin at : ℕ) (s room : List ℕ) {rec : Record} {next : ℕ} where
  head_moves : (x : Result (Option Head) Refusal) → head_of v 1 s ≡ x → (on_shown v inWork begin at s room x).0 ≡ Ok (Some (rec, next)) → Moves at (length s) next
  unfolding on_shown
  head_moves (Ok None) h e = none_not_found e
  head_moves (Err k) h e = err_not_ok e
  head_moves (Ok (Some h')) h e =
      let l = lies (stands v 1 s h'.id h'.compressed h'.flagged h'.short h'.start h'.len h) in
      let o = body_of (is_resynced h'.compressed h'.flagged) (walked false v 2) (shown_kind v h'.id h'.compressed) (take h'.len (drop h'.start s)) room in
      let n : at + (h'.start + h'.len) ≡ next = shown_next o.0 _ rec _ next e in
      record { six = omega (arith, l.six); within = omega (arith, l.within) }

  -- A frame that is shown takes at least six bytes, all of them there.
  pub moves : (frame_of v inWork begin at s room).0 ≡ Ok (Some (rec, next)) → Moves at (length s) next
  unfolding frame_of
  moves e = head_moves (head_of v 1 s) refl e
