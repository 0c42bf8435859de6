use Rattle.std.proofs.Common.{arith, rules}
use Rattle.format.specs.Listing.{tag_line}
use Rattle.lines.proofs.Parts.{tag_length}
use Rattle.lines.proofs.tag_line.Goals as goal

pub whole-requires : goal.whole-requires
whole-requires c =
    let a = c.args in
    (tag_line a.edition a.size a.flags a.ext, omega (arith, tag_length a.edition a.size a.flags a.ext), record { may = λ o p h. search rules; puts = λ o p r o' h. search rules })

pub returns : goal.returns
returns c =
    let a = c.args in
    c.whole.ensures (tag_line a.edition a.size a.flags a.ext) (record { may = λ o p h. search rules; puts = λ o p r o' h. search rules })
