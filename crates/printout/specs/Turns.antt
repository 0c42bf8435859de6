-- Lines put into a lent buffer, one after the other. Assumes nothing.
use Rattle.std.specs.Prelude.{ℕ, List, [], ◌∷◌}
use Rattle.lines.specs.Placed.{placed_of}
use Rattle.printout.specs.Lines.{Line}
use Rattle.std.specs.Prelude.{Option, Some, None}

-- an answer, the work buffer and the buffer of the lines
abbrev pub Outcome : Type 0
Outcome = Option ℕ × (List ℕ × List ℕ)

-- goes on after a line that was put; where one has no room, no more are put
abbrev pub on_placed : (ℕ → List ℕ → Outcome) → List ℕ → Option ℕ → List ℕ → Outcome
on_placed go work (Some at) out = go at out
on_placed go work None out = (None, (work, out))

unfoldable pub put_lines : List Line → ℕ → List ℕ → List ℕ → Outcome
put_lines [] at work out = (Some at, (work, out))
put_lines (l ∷ ls) at work out =
    let o = placed_of l.text at out in
    on_placed (λ p s. put_lines ls p l.work s) l.work o.0 o.1
