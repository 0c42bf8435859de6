-- A name that a zero closes is one more, and one that none closes is missing.
use Rattle.std.proofs.Common.{◌≡◌, ◌+◌, ◌-◌, suc, sym, ap, ◌∙◌, length, take, drop, arith, length-drop}
use Rattle.std.proofs.Math.Seq.{take_all, drop-drop}
use Rattle.format.specs.Bytes.{zero_at}
use Rattle.frame.proofs.Children.{name_closed, name_open, no_names, names_there, names_missing}
use Rattle.frame.proofs.chapter.names_len.Goals as goal

pub returns-then-len-rest : goal.returns-then-len-rest
returns-then-len-rest c =
    let a = c.args in
    let l = c.loop in
    let rest : take (length a.s.now - l.end) (drop l.end a.s.now) ≡ drop l.end a.s.now = take_all _ _ (omega (arith, length-drop l.end a.s.now)) in
    let h = rw rest at c.zero_at-len.ensures in
    let i = rw rest at c.if-len-rest.true in
    names_missing a.count a.s.now (omega (arith, l.invariant.closed, name_open (drop l.end a.s.now) (omega arith)))

pub loop-preserved : goal.loop-preserved
loop-preserved c =
    let a = c.args in
    let l = c.loop in
    let rest : take (length a.s.now - l.end) (drop l.end a.s.now) ≡ drop l.end a.s.now = take_all _ _ (omega (arith, length-drop l.end a.s.now)) in
    let h = rw rest at c.zero_at-len.ensures in
    let i = rw rest at c.if-len-rest.false in
    let next = name_closed (a.count - (l.counter + 1)) (drop l.end a.s.now) (omega arith) in
    let after : c.zero_at-len.result + 1 ≡ suc (zero_at (drop l.end a.s.now)) = omega arith in
    let past : drop (l.end + (c.zero_at-len.result + 1)) a.s.now ≡ drop (suc (zero_at (drop l.end a.s.now))) (drop l.end a.s.now) =
    sym (drop-drop (c.zero_at-len.result + 1) l.end a.s.now) ∙ ap (λ n. drop n (drop l.end a.s.now)) after in
    let left : a.count - l.counter ≡ suc (a.count - (l.counter + 1)) = omega arith in
    let taken = rw left at l.invariant.taken in
    record {
      within = omega (arith, length-drop l.end a.s.now);
      closed = rw past (omega (arith, l.invariant.closed, next.0));
      taken = rw past (omega (arith, taken, next.1));
    }

pub returns : goal.returns
returns c =
    let a = c.args in
    let l = c.loop in
    names_there a.count a.s.now l.end (omega (arith, l.invariant.closed)) (omega (arith, l.invariant.taken, no_names (a.count - l.counter) (drop l.end a.s.now) (omega arith)))
