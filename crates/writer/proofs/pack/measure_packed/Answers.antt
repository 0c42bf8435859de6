-- Past the limit, or as many bytes as are put where nothing goes in. Assumes nothing.
use mathlib.Core.Path.{ap}
use mathlib.Core.Logic.{inl, inr}
use native.Mathlib.Omega.{arith}
use lib.ListN.{length}
use Rattle.format.specs.Unsynch.{guards}
use Rattle.format.specs.Table.{pack}
use Rattle.format.proofs.Unsynch.{unsync_longer}
use Rattle.writer.proofs.Puts.{off_bytes}
use Rattle.writer.proofs.pack.measure_packed.Goals as goal
use Rattle.writer.proofs.pack.measure_packed.Goals.{then-n-ge-LIMIT-via-then-n-ge-LIMIT, then-n-ge-LIMIT-via-else-n-ge-LIMIT+then-at-ge-LIMIT}

pub returns-then-n-ge-LIMIT : goal.returns-then-n-ge-LIMIT
returns-then-n-ge-LIMIT c =
    let a = c.args in
    let longer = unsync_longer (guards a.mode) a.pen.prev (pack a.v a.w a.ds.now) in
    elim c.then-n-ge-LIMIT.branch [
      | then-n-ge-LIMIT-via-then-n-ge-LIMIT w ↦ inr (omega (arith, c.packed_len-n.ensures))
      | then-n-ge-LIMIT-via-else-n-ge-LIMIT+then-at-ge-LIMIT w ↦ inr (omega arith)
    ]

pub returns-in-Off : goal.returns-in-Off
returns-in-Off c =
    let a = c.args in
    inl (omega (arith, c.packed_len-n.ensures, ap length (off_bytes c.in-Off.is a.pen.prev (pack a.v a.w a.ds.now))))
