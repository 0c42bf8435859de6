-- The part is written as zeros.
use Rattle.std.proofs.Common.{◌≡◌, ℕ, ◌+◌, ◌-◌, ◌∙◌, ap, length, length-take, length-drop, arith}
use Rattle.std.proofs.lemmas.List.{length-replicate}
use Rattle.format.specs.Bytes.{zeros}
use Rattle.writer.proofs.Parts.{part_put}
use Rattle.writer.proofs.finish.put_zeros.Goals as goal

pub returns : goal.returns
returns c =
    let a = c.args in
    let none : ℕ = 0 in
    let long : length (zeros a.n) ≡ a.n = length-replicate a.n none in
    let n : length c.fill.new.self ≡ a.n = c.fill.ensures.len ∙ simp (length-take, length-drop) (omega arith) in
    let filled : c.fill.new.self ≡ zeros a.n = c.fill.ensures.after (λ y h. h) ∙ ap zeros (omega (arith, c.fill.ensures.len)) in
    rw filled (part_put a.output.now a.at (a.at + a.n - a.at) (zeros a.n) (omega arith) (omega arith))
