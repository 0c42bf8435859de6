-- What is left to show of `unsynch::loops::edit_in_after`. Assumes nothing.
use Rattle.std.proofs.Common.{◌≡◌, ◌+◌, ◌-◌, ◌*◌, ℕ, min, ap}
use native.Mathlib.Omega.{arith}
use Rattle.laws.proofs.Stores.{same_list, done}
use Rattle.unsynch.specs.Edits.{edited_after}
use Rattle.unsynch.proofs.Edits.{edited_end}
use Rattle.unsynch.proofs.Turns.{piece_in}
use Rattle.unsynch.proofs.loops.edit_in_after.Goals as goal

pub edit_chunk-o-requires-clause-to_in_bounds : goal.edit_chunk-o-requires-clause-to_in_bounds
edit_chunk-o-requires-clause-to_in_bounds c =
    let a = c.args in
    let L = c.loop-k in
    let i = a.from + L.k * 1024 in
    let here : min i (a.to - 1) ≡ i = omega arith in
    let left = same_list (ap (λ (j : ℕ). edited_after a.how a.area.now j a.to) here) L.invariant.storing in
    (piece_in a.how a.area.now i (i + c.min.result) a.to (omega arith) (omega arith) (omega arith) a.at (omega arith) (omega arith) L.invariant.behind L.invariant.storing.long L.invariant.front left).0

pub loop-k-preserved : goal.loop-k-preserved
loop-k-preserved c =
    let a = c.args in
    let L = c.loop-k in
    let i = a.from + L.k * 1024 in
    let here : min i (a.to - 1) ≡ i = omega arith in
    let next : i + c.min.result ≡ min (a.from + (L.k + 1) * 1024) (a.to - 1) = omega arith in
    let left = same_list (ap (λ (j : ℕ). edited_after a.how a.area.now j a.to) here) L.invariant.storing in
    let t = (piece_in a.how a.area.now i (i + c.min.result) a.to (omega arith) (omega arith) (omega arith) a.at (omega arith) (omega arith) L.invariant.behind L.invariant.storing.long L.invariant.front left).1
    c.edit_chunk-o.result c.edit_chunk-o.new.area c.edit_chunk-o.ensures in
    record {
      behind = omega arith;
      front = t.1;
      storing = same_list (ap (λ (j : ℕ). edited_after a.how a.area.now j a.to) next) t.2;
    }

pub returns : goal.returns
returns c =
    let a = c.args in
    done (edited_end a.how a.area.now (min (a.from + c.loop-k.k * 1024) (a.to - 1)) a.to (omega arith)) c.loop-k.invariant.storing
