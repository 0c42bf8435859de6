-- A 2.2 frame is found. Assumes nothing.
use mathlib.Core.Path.{refl, ap, ◌∙◌}
use native.Mathlib.Omega.{arith}
use mathlib.Core.Bool.{false}
use Rattle.laws.proofs.Bools.{false_not_true}
use Rattle.format.specs.Numbers.{number}
use Rattle.format.specs.declared.Version.TheVariants.{Id3v22}
use Rattle.frame.proofs.Headers.{found}
use Rattle.frame.proofs.Bodies.{short_cut}
use Rattle.frame.proofs.v2.with_body.Goals as goal

pub returns : goal.returns
returns c depth shallow =
    let b = c.args.b.now in
    let id = c.read_few-id in
    let size = c.read_few-size in
    found Id3v22 b c.requires depth shallow 0 refl c.requires.long
    size.result (size.ensures.0 ∙ ap number (short_cut 3 3 6 b (omega arith))) size.result (omega arith) (λ w. absurd (false_not_true w))
    id.result (id.ensures.0 ∙ ap number (short_cut 3 0 3 b (omega arith))) false false refl refl c.found.result c.found.ensures
