-- A popularimeter that is refused, and one that is read. Assumes nothing.
use mathlib.Core.Path.{◌≡◌, ap, ◌∙◌}
use Prim.Native.Nat.{◌+◌, ◌^◌, ◌≤◌, ◌<◌}
use native.Mathlib.Omega.{arith}
use lib.ListN.{length, drop}
use Rattle.format.specs.Numbers.{number}
use Rattle.format.specs.declared.Kind.{Kind}
use Rattle.frame.proofs.Counters.{counter_read}
use Rattle.frame.proofs.Ends.{zero_le}
use Rattle.frame.proofs.Bodies.{refused, accepted, counter_lies, popularimeter_cut, popularimeter_large, popularimeter_whole, popularimeter_parts}
use Rattle.frame.proofs.popularimeter.parse.Goals as goal

pub overflow_add-len : goal.overflow_add-len
overflow_add-len c = omega (arith, zero_le c.part-b.result.now, c.part-b.type_inv)

pub returns-then-b-len : goal.returns-then-b-len
returns-then-b-len c v =
    let b = c.part-b in
    refused v Kind.Popularimeter c.args.from b.result.now _ b.ensures 10 (popularimeter_cut b.result.now c.zero_at-len.result c.zero_at-len.ensures c.if-b-len.true)

pub returns-then-end-first-gt8 : goal.returns-then-end-first-gt8
returns-then-end-first-gt8 c v =
    let a = c.args in
    let b = c.part-b in
    let z = c.zero_at-len in
    let begins = c.after_zeros-first.ensures in
    let lies = ap number (counter_lies a.from a.to z.result a.s.now b.result.now b.ensures c.if-b-len.false) in
    let large : 2 ^ 64 ≤ number (drop (z.result + 2) b.result.now) = omega (arith, begins.large c.if-end-first-gt8.true, begins.same, lies) in
    refused v Kind.Popularimeter a.from b.result.now _ b.ensures 34 (popularimeter_large b.result.now z.result z.ensures c.if-b-len.false large)

pub returns : goal.returns
returns c v =
    let a = c.args in
    let b = c.part-b in
    let z = c.zero_at-len in
    let n = c.read64 in
    let counter : n.result ≡ number (drop (z.result + 2) b.result.now) =
    counter_read (a.from + z.result + 2) (a.from + length b.result.now) c.after_zeros-first.result n.result a.s.now c.after_zeros-first.ensures (omega arith) n.ensures
    ∙ ap number (counter_lies a.from a.to z.result a.s.now b.result.now b.ensures c.if-b-len.false) in
    let fits : number (drop (z.result + 2) b.result.now) < 2 ^ 64 = omega (arith, counter, n.type_inv) in
    accepted v Kind.Popularimeter a.from b.result.now _ b.ensures _ (popularimeter_whole b.result.now z.result z.ensures c.if-b-len.false fits)
    (popularimeter_parts b.result.now z.result z.ensures v a.from n.result c.nowhere-none.result counter c.nowhere-none.ensures)
