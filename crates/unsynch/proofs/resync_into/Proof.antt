-- `unsynch::resync_into` meets its contract. Assumes nothing.
use mathlib.Core.Path.{◌≡◌, ap, ◌∙◌}
use Prim.Native.Nat.{ℕ, min}
use mathlib.Core.Bool.{false}
use mathlib.Core.List.{List}
use lib.ListN.{length}
use lib.Seq.{slice}
use Rattle.format.specs.Unsynch.{resynchronised}
use Rattle.unsynch.specs.declared.loops.How.{How}
use Rattle.unsynch.specs.Puts.{put_of}
use Rattle.unsynch.specs.Edits.{edited}
use Rattle.unsynch.proofs.Edits.{resyncs, known_resync}
use Rattle.unsynch.proofs.Answers.{in_room}
use borrow.Author.Rules.{rules}
use native.Mathlib.Omega.{arith}
use Rattle.unsynch.proofs.resync_into.Statement.{statement}
use Rattle.unsynch.proofs.resync_into.Tie as tie

put_part_requires : tie.Need-put_part-requires
put_part_requires c κs = known_resync _ c.resync_by.ensures

returns : tie.Need-returns
returns c =
    let at_resync_by = c.before.before.before in
    let at_start = at_resync_by.before.before.before.before in
    let a = at_start.args in
    let part = slice a.from a.to a.s.now in
    let e : 0 ≡ min 0 (length a.room.now) = omega arith in
    c.before.before.put_part.ensures
    ∙ ap (λ (how : How). put_of 14 (edited how false part) 0 a.room.now) at_resync_by.resync_by.ensures
    ∙ ap (λ (u : List ℕ). put_of 14 u 0 a.room.now) (resyncs false part)
    ∙ in_room (resynchronised part) 0 0 a.room.now e

pub resync_into_spec : {M : Type 1} → statement M
resync_into_spec = tie.close (tie.spec (λ c κs. search rules) put_part_requires (λ c. search rules) returns)
