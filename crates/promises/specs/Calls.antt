-- Any run of calls of add and finish on one writer, each taking the writer and the buffer as the call before left them. Assumes nothing.
use Rattle.std.specs.Prelude.{ℕ, zero, suc, List, [], ◌∷◌}
use Rattle.format.specs.Record.{Rec, Fits}
use Rattle.writer.specs.Writer.{add_of, finish_of}
use Rattle.writer.specs.Answers.{added_number, added_writer, finished_writer}
use Rattle.writer.specs.declared.Writer.{Writer}
use Rattle.promises.specs.Written.{Adds}

pub data Call : Type 0 where
  add : Rec → Call
  finish : ℕ → List ℕ → Call

-- the numbers of what is added are of the types that the code has for them
abbrev pub AllFit : List Call → Type 0
AllFit [] = Unit {0}
AllFit (add r ∷ cs) = Fits r.content × AllFit cs
AllFit (finish padding output ∷ cs) = AllFit cs

-- the records that were answered with 0, the writer and the buffer
abbrev pub Ran : Type 0
Ran = List Rec × Writer × List ℕ

abbrev pub if_taken : ℕ → Rec → Ran → Ran
if_taken zero r o = (r ∷ o.0, o.1, o.2)
if_taken (suc k) r o = o

unfoldable pub ran : List Call → Writer → List ℕ → Ran
ran [] w b = ([], w, b)
ran (add r ∷ cs) w b = let o = add_of w r b in if_taken (added_number o.0) r (ran cs (added_writer o.0) o.1)
ran (finish padding output ∷ cs) w b = ran cs (finished_writer (finish_of w padding b output).0) b

-- Every run of calls is one that a written tag may come of.
abbrev pub AnyCalls : Type 0
AnyCalls = (cs : List Call) (w : Writer) (b : List ℕ) → AllFit cs →
    let o = ran cs w b in
    Adds w b o.0 o.1 o.2
