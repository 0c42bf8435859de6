-- The listing fits its buffer.
use Rattle.std.proofs.Common.{◌≤◌, length, arith, length-take}
use Rattle.printout.proofs.Texts.{lines_within}
use Rattle.show.proofs.show.Goals as goal

pub slice_bounds-write_all-end : goal.slice_bounds-write_all-end
slice_bounds-write_all-end g c = lines_within _ _ _ c.list.ensures c.in-Some.is

pub slice_bounds-write_all-end-in-Some : goal.slice_bounds-write_all-end-in-Some
slice_bounds-write_all-end-in-Some g c =
    let within : c.in-Some.n ≤ length c.list.new.out = lines_within _ _ _ c.list.ensures c.in-Some.is in
    omega (arith, length-take c.in-Some.n c.list.new.out)
