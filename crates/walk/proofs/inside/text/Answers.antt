-- A text: its encoding. Assumes nothing.
use mathlib.Core.Path.{◌≡◌, ap, ◌∙◌}
use mathlib.Core.List.{List}
use Prim.Native.Nat.{ℕ, ◌+◌, ◌-◌, ◌<◌, ◌≤◌}
use native.Mathlib.Omega.{arith}
use lib.ListN.{length, take, drop, get_or}
use lib.Seq.{slice, length-slice}
use Rattle.laws.proofs.Cuts.{take_drop}
use Rattle.format.specs.declared.Kind.{Kind}
use Rattle.frame.proofs.Bodies.{text_empty, text_unknown, text_known}
use Rattle.walk.proofs.Insides.{refused_inside, runs_inside, text_runs}
use Rattle.walk.proofs.inside.text.Goals as goal

-- the part of a list in both forms
part : (from to : ℕ) (s : List ℕ) → from ≤ to → take (to - from) (drop from s) ≡ slice from to s
part from to s h =
    let e : from + (to - from) ≡ to = omega arith in
    take_drop (to - from) from s ∙ ap (λ (n : ℕ). slice from n s) e

pub returns-in-None : goal.returns-in-None
returns-in-None c =
    let a = c.args in
    let same = part a.from a.to a.s.now c.requires.0 in
    let b = slice a.from a.to a.s.now in
    refused_inside Kind.Text a.from b 10 (text_empty b (omega (arith, ap length same, c.in-None.ensures.item)))

pub returns-in-Some : goal.returns-in-Some
returns-in-Some c =
    let a = c.args in
    let b = slice a.from a.to a.s.now in
    let i = rw (part a.from a.to a.s.now c.requires.0) at c.in-Some.ensures.item in
    let some : 0 < length b = i.3.0 in
    let first : c.in-Some.encoding.now ≡ get_or b 0 0 = i.3.1 0 in
    refused_inside Kind.Text a.from b 11 (text_unknown b (λ z. omega arith) (omega (arith, c.if-encoding-gt3.true)))

pub returns-in-Some-2 : goal.returns-in-Some-2
returns-in-Some-2 c =
    let a = c.args in
    let b = slice a.from a.to a.s.now in
    let i = rw (part a.from a.to a.s.now c.requires.0) at c.in-Some.ensures.item in
    let some : 0 < length b = i.3.0 in
    let first : c.in-Some.encoding.now ≡ get_or b 0 0 = i.3.1 0 in
    let l : length b ≡ a.to - a.from = length-slice a.from a.to a.s.now c.requires.1 in
    runs_inside Kind.Text a.from b a.to (text_known b (λ z. omega arith) (omega (arith, c.if-encoding-gt3.false))) (text_runs a.from a.to b (omega arith))
