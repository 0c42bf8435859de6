-- The walk in an area: what lies from split on is the room, and stays after what lies before it. Assumes nothing.
use Rattle.std.specs.Prelude.{ℕ, Bool, List, take, drop}
use Rattle.std.proofs.Math.Seq.{slice}
use Rattle.format.specs.Walk.{Out, behind, inside_of, body_of, walked}
use Rattle.format.specs.declared.Version.{Version}
use Rattle.format.specs.declared.Kind.{Kind}

abbrev pub inside_in : (List ℕ → List ℕ → Out) → Kind → List ℕ → ℕ → List ℕ → Out
inside_in go kind b split a = behind (take split a) (inside_of go kind b (drop split a))

abbrev pub body_in : Bool → (List ℕ → List ℕ → Out) → Kind → List ℕ → ℕ → List ℕ → Out
body_in resynced go kind b split a = behind (take split a) (body_of resynced go kind b (drop split a))

abbrev pub in_area : Bool → Version → ℕ → ℕ → ℕ → ℕ → List ℕ → Out
in_area strict v depth from to split a = behind (take split a) (walked strict v depth (slice from to (take split a)) (drop split a))
