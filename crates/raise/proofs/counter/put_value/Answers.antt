-- A byte more is the next of the value's, from its last one on.
use Rattle.std.proofs.Common.{◌≡◌, ◌+◌, ◌-◌, ◌^◌, ◌/◌, ◌%◌, ◌∙◌, suc, ℕ, List, ap, set, arith}
use Rattle.std.proofs.lemmas.List.Edits.{sets}
use Rattle.format.specs.Numbers.{digits, bytes_of}
use Rattle.raise.proofs.Values.{next_left, put_turn, whole_left}
use Rattle.raise.proofs.counter.put_value.Goals as goal

pub loop-at-init : goal.loop-at-init
unfolding digits
loop-at-init c =
    let a = c.args in
    let none : a.stop - a.stop ≡ 0 = omega arith in
    record {
      begun = omega arith;
      rest = rw none (whole_left a.value);
      put = rw none;
    }

pub loop-at-preserved : goal.loop-at-preserved
loop-at-preserved c =
    let a = c.args in
    let l = c.loop-at in
    let k = a.stop - l.at in
    let here : l.at ≡ suc (l.at - 1) = omega arith in
    let more : k + 1 ≡ a.stop - (l.at - 1) = omega arith in
    let next : suc k ≡ a.stop - (l.at - 1) = omega arith in
    record {
      begun = omega arith;
      rest = ap (λ (m : ℕ). m / 256) l.invariant.rest ∙ next_left a.value k ∙ ap (λ (j : ℕ). a.value / 256 ^ j) more;
      put =
          ap (λ (t : List ℕ). set t (l.at - 1) (l.left % 256)) l.invariant.put
          ∙ ap (λ (n : ℕ). set (sets a.tag.now n (bytes_of k a.value)) (l.at - 1) (l.left % 256)) here
          ∙ ap (λ (m : ℕ). set (sets a.tag.now (suc (l.at - 1)) (bytes_of k a.value)) (l.at - 1) (m % 256)) l.invariant.rest
          ∙ put_turn a.tag.now (l.at - 1) a.value k
          ∙ ap (λ (j : ℕ). sets a.tag.now (l.at - 1) (bytes_of j a.value)) next;
    }

pub returns : goal.returns
returns c =
    let a = c.args in
    let all : c.loop-at.at ≡ a.start = omega (arith, c.loop-at.invariant.begun) in
    c.loop-at.invariant.put ∙ ap (λ (n : ℕ). sets a.tag.now n (bytes_of (a.stop - n) a.value)) all
