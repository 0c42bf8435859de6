-- Where a body's run of subframes begins (document 01, "Five kinds"). Assumes nothing.
use Rattle.std.specs.Prelude.{ℕ, ◌+◌, List, length, eqb}
use Rattle.format.specs.Bytes.{pick}
use Rattle.format.specs.Chapter.{chapter_run, contents_run}
use Rattle.format.specs.Record.{body_refusal}
use Rattle.format.specs.declared.Kind.{Kind}
use Rattle.format.specs.declared.Parts.{Parts}
use Rattle.std.specs.Prelude.{Result, Ok, Err}
use Rattle.format.specs.declared.refusals.Refusal.{Refusal}
use Rattle.format.specs.Refusals.{refusal}

-- counted from the body's start; at its end for the kinds that have no run
unfoldable pub run_start : Kind → List ℕ → ℕ
run_start Kind.Text b = length b
run_start Kind.Popularimeter b = length b
run_start Kind.Table b = length b
run_start Kind.Chapter b = chapter_run b
run_start Kind.Contents b = contents_run b
run_start Kind.Raw b = length b

-- what a body at a place of its buffer is refused with, or where its run begins
unfoldable pub inside_at : Kind → ℕ → List ℕ → Result ℕ Refusal
inside_at kind at b = pick (eqb (body_refusal kind b) 0) (Ok (at + run_start kind b)) (Err (refusal (body_refusal kind b)))

-- the same by the parts of a body that ends at a place
unfoldable pub place_of : Kind → Parts → ℕ → ℕ
place_of Kind.Text p to = to
place_of Kind.Popularimeter p to = to
place_of Kind.Table p to = to
place_of Kind.Chapter p to = p.rest.start
place_of Kind.Contents p to = p.rest.start
place_of Kind.Raw p to = to
