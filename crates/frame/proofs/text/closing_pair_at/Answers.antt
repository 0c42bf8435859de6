-- The last pair that is not zero, or one zero pair more.
use Rattle.std.proofs.Common.{ℕ, ◌-◌, ◌%◌, ◌∙◌, sym, length, drop, length-drop, arith}
use Rattle.frame.proofs.Ends.{pairs_none, pairs_zero, closing_pairs_kept, closing_pairs_none}
use Rattle.frame.proofs.text.closing_pair_at.Goals as goal

pub loop-i-init : goal.loop-i-init
loop-i-init c =
    let s = c.args.s.now in
    let i : ℕ = length s - length s % 2 in
    record { within = omega arith; even = omega arith; least = omega arith; rest = pairs_none (drop i s) (omega (arith, length-drop i s)) }

pub returns-then-not-zero_pair : goal.returns-then-not-zero_pair
returns-then-not-zero_pair c =
    let v = c.loop-i.invariant in
    sym (closing_pairs_kept c.loop-i.i c.args.s.now c.loop-i-test.true v.even v.within v.rest c.if-not-zero_pair.ensures)

pub loop-i-preserved : goal.loop-i-preserved
loop-i-preserved c =
    let v = c.loop-i.invariant in
    record {
      within = omega arith;
      even = omega arith;
      least = omega arith;
      rest = pairs_zero c.loop-i.i c.args.s.now (omega arith) v.within v.rest (sym c.if-not-zero_pair.false ∙ c.zero_pair.ensures);
    }

pub returns : goal.returns
returns c =
    let v = c.loop-i.invariant in
    sym (closing_pairs_none c.loop-i.i c.args.s.now c.loop-i-test.false v.even v.least v.rest)
