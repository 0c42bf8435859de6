-- What stands in a body, by its kind. Assumes nothing.
use mathlib.Core.Path.{ap, ◌∙◌}
use native.Mathlib.Omega.{arith}
use lib.Seq.{slice, length-slice}
use Rattle.std.proofs.Common.{Ok}
use Rattle.std.proofs.lemmas.Result.{err_from_is_err_and}
use Rattle.format.specs.declared.Kind.{Kind}
use Rattle.format.specs.declared.Version.TheVariants.{Id3v24}
use Rattle.walk.proofs.Insides.{parsed_run, parsed_stop, raw_inside}
use Rattle.walk.proofs.inside.look.Goals as goal
use Rattle.walk.proofs.inside.look.Goals.{in-Popularimeter+in_ok-parts-in-Popularimeter, in-Table+in_ok-parts-in-Table, in-Chapter+in_ok-parts-in-Chapter, in-Contents+in_ok-parts-in-Contents}

pub returns-in_err-parts-in-Popularimeter : goal.returns-in_err-parts-in-Popularimeter
returns-in_err-parts-in-Popularimeter c =
    let p = err_from_is_err_and c.from_residual.result c.from_residual.ensures.1 in
    rw (p.1, p.2, c.in-Popularimeter.is) (parsed_stop Id3v24 Kind.Popularimeter c.args.from c.args.to c.args.s.now (c.in_err-parts-in-Popularimeter.ensures Id3v24))

pub returns-in_err-parts-in-Table : goal.returns-in_err-parts-in-Table
returns-in_err-parts-in-Table c =
    let p = err_from_is_err_and c.from_residual-in_err-parts-in-Table.result c.from_residual-in_err-parts-in-Table.ensures.1 in
    rw (p.1, p.2, c.in-Table.is) (parsed_stop Id3v24 Kind.Table c.args.from c.args.to c.args.s.now (c.in_err-parts-in-Table.ensures Id3v24))

pub returns-in_err-parts-in-Chapter : goal.returns-in_err-parts-in-Chapter
returns-in_err-parts-in-Chapter c =
    let p = err_from_is_err_and c.from_residual-in_err-parts-in-Chapter.result c.from_residual-in_err-parts-in-Chapter.ensures.1 in
    rw (p.1, p.2, c.in-Chapter.is) (parsed_stop Id3v24 Kind.Chapter c.args.from c.args.to c.args.s.now (c.in_err-parts-in-Chapter.ensures Id3v24))

pub returns-in_err-parts-in-Contents : goal.returns-in_err-parts-in-Contents
returns-in_err-parts-in-Contents c =
    let p = err_from_is_err_and c.from_residual-in_err-parts-in-Contents.result c.from_residual-in_err-parts-in-Contents.ensures.1 in
    rw (p.1, p.2, c.in-Contents.is) (parsed_stop Id3v24 Kind.Contents c.args.from c.args.to c.args.s.now (c.in_err-parts-in-Contents.ensures Id3v24))

pub returns-in-Raw : goal.returns-in-Raw
returns-in-Raw c =
    let a = c.args in
    let l = length-slice a.from a.to a.s.now c.requires.1 in
    raw_inside a.kind a.from (slice a.from a.to a.s.now) a.to (omega arith) c.in-Raw.is

pub returns : goal.returns
returns c =
    let a = c.args in
    let b = slice a.from a.to a.s.now in
    let run = ap Ok c.place.ensures in
    elim c.match-kind.branch [
      | in-Popularimeter+in_ok-parts-in-Popularimeter w ↦
          run ∙ rw (w.in-Popularimeter.is, w.parts-is) (parsed_run Id3v24 Kind.Popularimeter a.from a.to a.s.now c.requires.0 c.requires.1 (w.in_ok-parts-in-Popularimeter.ensures Id3v24))
      | in-Table+in_ok-parts-in-Table w ↦
          run ∙ rw (w.in-Table.is, w.parts-is) (parsed_run Id3v24 Kind.Table a.from a.to a.s.now c.requires.0 c.requires.1 (w.in_ok-parts-in-Table.ensures Id3v24))
      | in-Chapter+in_ok-parts-in-Chapter w ↦
          run ∙ rw (w.in-Chapter.is, w.parts-is) (parsed_run Id3v24 Kind.Chapter a.from a.to a.s.now c.requires.0 c.requires.1 (w.in_ok-parts-in-Chapter.ensures Id3v24))
      | in-Contents+in_ok-parts-in-Contents w ↦
          run ∙ rw (w.in-Contents.is, w.parts-is) (parsed_run Id3v24 Kind.Contents a.from a.to a.s.now c.requires.0 c.requires.1 (w.in_ok-parts-in-Contents.ensures Id3v24))
    ]
