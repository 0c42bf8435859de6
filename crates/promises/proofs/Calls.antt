-- Every run of calls is one that a written tag may come of. Assumes nothing.
use mathlib.Core.Path.{◌≡◌, refl}
use Prim.Native.Nat.{ℕ, zero, suc}
use mathlib.Core.List.{List, [], ◌∷◌}
use Rattle.format.specs.Record.{Rec, Fits}
use Rattle.writer.specs.Writer.{add_of, finish_of}
use Rattle.writer.specs.Answers.{added_number, added_writer, finished_writer}
use Rattle.writer.specs.declared.Writer.{Writer}
use Rattle.promises.specs.Written.{Adds, none, accepted, declined, finished}
use Rattle.promises.specs.Calls.{add, finish, Ran, if_taken, ran, AnyCalls}

taken : (w : Writer) (b : List ℕ) (r : Rec) (o : Ran) (k : ℕ) → Fits r.content → added_number (add_of w r b).0 ≡ k
    → Adds (added_writer (add_of w r b).0) (add_of w r b).1 o.0 o.1 o.2 → Adds w b (if_taken k r o).0 (if_taken k r o).1 (if_taken k r o).2
taken w b r o zero f e a = accepted f e a
taken w b r o (suc k) f e a = declined r e a

pub any_calls : AnyCalls
unfolding ran
any_calls [] w b f = none
any_calls (add r ∷ cs) w b f =
    let o = add_of w r b in
    taken w b r (ran cs (added_writer o.0) o.1) (added_number o.0) f.0 refl (any_calls cs (added_writer o.0) o.1 f.1)
any_calls (finish padding output ∷ cs) w b f = finished padding output (any_calls cs (finished_writer (finish_of w padding b output).0) b f)
