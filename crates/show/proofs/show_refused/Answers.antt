-- The line fits its 16 bytes.
use Rattle.std.proofs.Common.{◌≤◌, length, arith, length-take}
use Rattle.format.specs.Listing.{refused_line}
use Rattle.printout.proofs.Texts.{line_within}
use Rattle.show.proofs.show_refused.Goals as goal

pub slice_bounds-line-end : goal.slice_bounds-line-end
slice_bounds-line-end g c = line_within (refused_line c.args.refusal.number) 0 _ c.refused_line.ensures c.in-Some.is (omega arith)

pub slice_bounds-write_all-end : goal.slice_bounds-write_all-end
slice_bounds-write_all-end g c =
    let within : c.in-Some.n ≤ length c.refused_line.new.out = line_within (refused_line c.args.refusal.number) 0 _ c.refused_line.ensures c.in-Some.is (omega arith) in
    omega (arith, length-take c.in-Some.n c.refused_line.new.out)
