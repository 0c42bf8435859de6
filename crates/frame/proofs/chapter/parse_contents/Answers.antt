-- A table of contents that is refused, and one that is read. Assumes nothing.
use mathlib.Core.Path.{◌≡◌}
use Prim.Native.Nat.{ℕ, ◌+◌, ◌≤◌}
use mathlib.Core.List.{List}
use lib.ListN.{length, get_or}
use lib.Seq.{slice}
use native.Mathlib.Omega.{arith}
use Rattle.std.specs.Prelude.{Some}
use Rattle.laws.proofs.Cuts.{cut_lies}
use Rattle.format.specs.Bytes.{zero_at}
use Rattle.format.specs.declared.Kind.{Kind}
use Rattle.frame.specs.Bodies.{names_of}
use Rattle.frame.proofs.Ends.{zero_le}
use Rattle.frame.proofs.Children.{names_whole, names_cut}
use Rattle.frame.proofs.Bodies.{refused, accepted, contents_cut, contents_missing, contents_whole, contents_within, contents_parts}
use Rattle.frame.proofs.chapter.parse_contents.Goals as goal

-- where the names are there, they lie within the body
within : (b names : List ℕ) (len n : ℕ) → len ≡ zero_at b → len + 3 ≤ length b → names ≡ slice (len + 3) (length b) b
    → Some n ≡ names_of (get_or b (len + 2) 0) names → len + 3 + n ≤ length b
within b names len n zero reaches behind there =
    contents_within b len zero names behind reaches (get_or b (len + 2) 0) n (names_whole (get_or b (len + 2) 0) names n there).1

pub overflow_add-at : goal.overflow_add-at
overflow_add-at c = omega (arith, zero_le c.part-b.result.now, c.part-b.type_inv)

pub returns-then-b-at : goal.returns-then-b-at
returns-then-b-at c v =
    let b = c.part-b in
    refused v Kind.Contents c.args.from b.result.now _ b.ensures 10 (contents_cut b.result.now c.zero_at-len.result c.zero_at-len.ensures c.if-b-at.true)

pub returns-in_default : goal.returns-in_default
returns-in_default c v =
    let b = c.part-b in
    let missing = names_cut _ _ c.in_default.ensures in
    refused v Kind.Contents c.args.from b.result.now _ b.ensures 10
    (contents_missing b.result.now c.zero_at-len.result c.zero_at-len.ensures c.part.result.now c.part.ensures c.if-b-at.false missing)

pub overflow_add-run : goal.overflow_add-run
overflow_add-run c =
    let b = c.part-b in
    omega (arith, within b.result.now c.part.result.now c.zero_at-len.result c.in-Some.n c.zero_at-len.ensures c.if-b-at.false c.part.ensures c.in-Some.ensures, b.type_inv)

pub overflow_add-result-2 : goal.overflow_add-result-2
overflow_add-result-2 c =
    let b = c.part-b in
    let h = within b.result.now c.part.result.now c.zero_at-len.result c.in-Some.n c.zero_at-len.ensures c.if-b-at.false c.part.ensures c.in-Some.ensures in
    omega (arith, cut_lies c.args.from c.args.to c.args.s.now b.result.now b.ensures (omega arith))

pub overflow_sub-result : goal.overflow_sub-result
overflow_sub-result c =
    within c.part-b.result.now c.part.result.now c.zero_at-len.result c.in-Some.n c.zero_at-len.ensures c.if-b-at.false c.part.ensures c.in-Some.ensures

pub returns : goal.returns
returns c v =
    let b = c.part-b in
    let z = c.zero_at-len in
    let whole = names_whole _ c.part.result.now c.in-Some.n c.in-Some.ensures in
    accepted v Kind.Contents c.args.from b.result.now _ b.ensures _
    (contents_whole b.result.now z.result z.ensures c.part.result.now c.part.ensures c.if-b-at.false whole.0)
    (contents_parts b.result.now z.result z.ensures c.part.result.now c.part.ensures v c.args.from c.in-Some.n whole.1)
