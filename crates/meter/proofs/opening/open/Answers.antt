-- A tag whose header is plain. Assumes nothing.
use Rattle.std.proofs.Common.{refl, arith}
use Rattle.meter.proofs.Openings.{opens}
use Rattle.meter.proofs.opening.open.Goals as goal

pub returns-in-Some : goal.returns-in-Some
returns-in-Some c =
    let tag = c.args.tag.now in
    let p = c.plain_version.ensures c.in-Some.version c.in-Some.is in
    rw (c.metered.ensures, c.is_missing.ensures, c.plain_reader.ensures)
    (opens tag (λ i. omega (arith, c.type_inv.tag i)) p.0 _ _ refl refl c.in-Some.version p.1 c.args.work.now)
