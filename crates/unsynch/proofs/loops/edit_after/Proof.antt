-- `unsynch::loops::edit_after` meets its contract. Assumes nothing.
use mathlib.Core.Path.{sym, ◌∙◌}
use Prim.Native.Nat.{◌+◌, ◌-◌, ◌≤◌, ◌<◌}
use Rattle.laws.proofs.Stores.{Storing, begin, lies, rest}
use Rattle.unsynch.specs.Edits.{edited_after}
use Rattle.unsynch.proofs.Turns.{piece, block}
use borrow.Author.Rules.{rules}
use native.Mathlib.Omega.{arith}
use Rattle.unsynch.proofs.loops.edit_after.Statement.{statement}
use Rattle.unsynch.proofs.loops.edit_after.Tie as tie

abbrev invariant_loop : tie.invariant-loop-i
invariant_loop buf₀ at s from to how o₀ i₀ run₀ buf o i run =
    (from ≤ i) × (i < to) × (1 ≤ run) × (run ≤ 1024) × Storing buf₀ at (edited_after how s from to) buf o (edited_after how s i to)

abbrev decreases_loop : tie.decreases-loop-i
decreases_loop buf₀ at s from to how o₀ i₀ run₀ buf o i run = to - i

loop_holds : tie.Need-loop-i-init invariant_loop decreases_loop
loop_holds c = (omega arith, omega arith, omega arith, omega arith, begin _ _ _ (omega arith))

copy_behind_requires : tie.Need-copy_behind-o-requires invariant_loop decreases_loop
copy_behind_requires c κs =
    let at_loop_i = c.before.before.before.before in
    let at_start = at_loop_i.before.before.before in
    let a = at_start.args in
    let L = at_loop_i.loop-i in
    let alone = sym c.before.before.hits.ensures ∙ c.before.if-hits-eq0.true in
    (omega arith, omega arith, (block a.how a.s.now L.i 64 a.to (omega arith) (omega arith) alone L.invariant.4).0)

loop_again : tie.Need-loop-i-preserved-then-hits-eq0 invariant_loop decreases_loop
loop_again c =
    let at_if_hits_eq0 = c.before.before.before.before in
    let at_hits = at_if_hits_eq0.before in
    let at_loop_i = at_hits.before.before in
    let at_start = at_loop_i.before.before.before in
    let a = at_start.args in
    let L = at_loop_i.loop-i in
    let alone = sym at_hits.hits.ensures ∙ at_if_hits_eq0.if-hits-eq0.true in
    let stores = c.before.before.copy_behind-o in
    let t = (block a.how a.s.now L.i 64 a.to (omega arith) (omega arith) alone L.invariant.4).1 stores.result stores.new.buf stores.ensures in
    (omega arith, omega arith, omega arith, omega arith, t)

edit_by_byte_requires : tie.Need-edit_by_byte-o-requires invariant_loop decreases_loop
edit_by_byte_requires c κs =
    let at_loop_i = c.before.before.before.before.before in
    let at_start = at_loop_i.before.before.before in
    let a = at_start.args in
    let L = at_loop_i.loop-i in
    let last = L.i + c.before.min.result in
    (omega arith, ((piece a.how a.s.now L.i last a.to (omega arith) (omega arith) (omega arith) L.invariant.4).0, at_start.requires.1.1))

loop_again_2 : tie.Need-loop-i-preserved invariant_loop decreases_loop
loop_again_2 c =
    let at_edit_by_byte_o = c.before.before.before in
    let at_least = at_edit_by_byte_o.before.before in
    let at_loop_i = at_least.before.before.before.before in
    let at_start = at_loop_i.before.before.before in
    let a = at_start.args in
    let L = at_loop_i.loop-i in
    let last = L.i + at_least.min.result in
    let stores = at_edit_by_byte_o.edit_by_byte-o in
    let t = (piece a.how a.s.now L.i last a.to (omega arith) (omega arith) (omega arith) L.invariant.4).1 stores.result stores.new.buf stores.ensures in
    (omega arith, omega arith, omega arith, omega arith, t.1)

edit_by_byte_requires_2 : tie.Need-edit_by_byte-requires invariant_loop decreases_loop
edit_by_byte_requires_2 c κs =
    let at_start = c.before.before.before.before.before in
    (omega arith, (lies c.before.before.loop-i.invariant.4, at_start.requires.1.1))

same_length : tie.Need-shape_of-buf invariant_loop decreases_loop
same_length c =
    let at_loop_i = c.before.before.before.before.before in
    c.before.before.edit_by_byte.auto.buf ∙ at_loop_i.loop-i.invariant.4.long

returns : tie.Need-returns invariant_loop decreases_loop
returns c =
    let at_loop_i = c.before.before.before.before.before in
    c.before.before.edit_by_byte.ensures ∙ rest at_loop_i.loop-i.invariant.4

pub edit_after_spec : {M : Type 1} → statement M
edit_after_spec =
    tie.close
    (tie.spec
    invariant_loop
    decreases_loop
    loop_holds
    (λ c. omega arith)
    (λ c κs. omega arith)
    copy_behind_requires
    (λ c. omega arith)
    (λ c. omega arith)
    loop_again
    (λ c. omega arith)
    (λ c. omega arith)
    (λ c κs. search rules)
    (λ c. omega arith)
    (λ c. omega arith)
    edit_by_byte_requires
    (λ c. omega arith)
    (λ c κs. search rules)
    (λ c. omega arith)
    loop_again_2
    edit_by_byte_requires_2
    same_length
    returns)
