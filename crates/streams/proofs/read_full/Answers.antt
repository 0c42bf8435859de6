-- A read puts its bytes behind those that were read before, and leaves these as they were.
use Rattle.std.proofs.Common.{◌≡◌, ℕ, ◌+◌, ◌-◌, ◌≤◌, List, ◌++◌, rules, arith, length, take, drop, sym, ap, ◌∙◌, subst, le_refl, drop_at, length-take-le}
use Rattle.std.proofs.lemmas.Slice.{take-put_mid_below}
use Rattle.std.specs.Io.KnownBytes.{Consumes}
use Rattle.std.proofs.KnownBytes.{Consumes-trans}
use borrow.Rule.Slice.PartMut.{put_mid, post_of}
use lib.Seq.{take-add, take-append-le}
use Rattle.streams.proofs.read_full.Goals as goal

-- where the first a bytes stayed, they and the n behind them are the first a + n
grown : (a n : ℕ) (old new : List ℕ) → take a new ≡ take a old → take a old ++ take n (drop a new) ≡ take (a + n) new
grown a n old new front = ap (λ (l : List ℕ). l ++ take n (drop a new)) (sym front) ∙ sym (take-add a n new)

-- behind the first a bytes stands what was put there
landed : (a k n : ℕ) (xs ys : List ℕ) → a ≤ length xs → n ≤ length ys → take n (drop a (put_mid a k xs ys)) ≡ take n ys
landed a k n xs ys within few =
    ap (take n) (drop_at (take a xs) (ys ++ post_of a k xs) a (length-take-le a xs within)) ∙ take-append-le n ys (post_of a k xs) few

pub loop-done-preserved : goal.loop-done-preserved
loop-done-preserved g c =
    let at = c.loop-done.done in
    let buf = c.loop-done.buf in
    let room = length buf - at in
    let n = c.in_ok-n.n in
    let within = c.loop-done.invariant.within in
    let put = ap (λ (l : List ℕ). take at buf ++ l) (sym (landed at room n buf c.read.new.buf within c.in_ok-n.ensures.bound.0)) in
    let whole = put ∙ grown at n buf (put_mid at room buf c.read.new.buf) (take-put_mid_below _ _ _ _ _ (le_refl _) within) in
    record {
      keeps_length = search rules;
      within = search rules;
      consumed = subst (Consumes _ _) whole (Consumes-trans _ _ _ _ _ c.loop-done.invariant.consumed c.in_ok-n.ensures.bytes.0);
    }
