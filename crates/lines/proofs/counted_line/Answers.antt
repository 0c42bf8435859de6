use Rattle.std.proofs.Common.{arith, rules}
use Rattle.lines.specs.Placed.{counted}
use Rattle.lines.proofs.Parts.{counted_length}
use Rattle.lines.proofs.counted_line.Goals as goal

pub whole-requires : goal.whole-requires
whole-requires c =
    let a = c.args in
    (counted a.word.now a.n, omega (arith, counted_length a.word.now a.n, c.requires), record { may = λ o p h. search rules; puts = λ o p r o' h. search rules })
