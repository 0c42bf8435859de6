-- The bits that a mask leaves. Assumes nothing.
use Rattle.frame.proofs.Packed.{bits_masked}
use Rattle.frame.proofs.table.bits_at.Goals as goal

pub returns : goal.returns
returns c =
    let a = c.args in
    let p = c.requires in
    rw c.from.ensures (bits_masked a.b.now a.k a.r a.w c.read64-bytes.result (λ i. (c.type_inv.b i).fits) p.0 p.1 p.2 (rw c.from.ensures at c.read64-bytes.ensures))
