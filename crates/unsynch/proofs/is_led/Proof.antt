-- `unsynch::is_led` meets its contract. Assumes nothing.
use mathlib.Core.Path.{sym, ap, ◌∙◌}
use mathlib.Core.Bool.{false}
use mathlib.Core.List.{List, ◌∷◌}
use Prim.Native.Nat.{ℕ}
use Rattle.laws.proofs.Slices.{slice_cut, slice_cut_none}
use Rattle.format.specs.Bytes.{pick}
use Rattle.unsynch.specs.Edits.{edited}
use Rattle.unsynch.proofs.Edits.{plain_first, edited_first}
use borrow.Author.Rules.{rules}
use native.Mathlib.Omega.{arith}
use Rattle.unsynch.proofs.is_led.Statement.{statement}
use Rattle.unsynch.proofs.is_led.Tie as tie

returns : tie.Need-returns-then-end-from
unfolding edited
returns c =
    let at_start = c.before.before.before in
    let a = at_start.args in
    let none = slice_cut_none a.from a.to _ a.s.now c.before.min-end.ensures c.if-end-from.true in
    ap (edited a.how a.prev) none ∙ sym (ap (edited a.how false) none)

returns_2 : tie.Need-returns
returns_2 c =
    let at_min_end = c.before.before.before in
    let at_start = at_min_end.before.before in
    let a = at_start.args in
    let cut = slice_cut a.from a.to _ a.s.now at_min_end.min-end.ensures in
    ap (edited a.how a.prev) (sym cut)
    ∙ edited_first a.how a.s.now a.from at_min_end.min-end.result (omega arith) (omega arith) a.prev c.hit.result c.hit.ensures (λ _. at_start.requires)
    ∙ ap (λ (l : List ℕ). pick c.hit.result (0 ∷ l) l) (sym (plain_first a.how a.s.now a.from at_min_end.min-end.result (omega arith) (omega arith)) ∙ ap (edited a.how false) cut)

pub is_led_spec : {M : Type 1} → statement M
is_led_spec = tie.close (tie.spec (λ c κs. search rules) returns (λ c. search rules) (λ c κs. search rules) returns_2)
