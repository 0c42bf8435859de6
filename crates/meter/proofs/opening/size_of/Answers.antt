-- Four synchsafe bytes. Assumes nothing.
use Rattle.std.proofs.Common.{ℕ, ap, ◌∙◌, arith}
use Rattle.format.specs.Numbers.{bytes_of, from_synchsafe}
use Rattle.loads.proofs.Words.{synchsafe_four}
use Rattle.meter.proofs.opening.size_of.Goals as goal

pub returns : goal.returns
returns c =
    let tag = c.args.tag.now in (
      c.decode_u32.ensures
          ∙ ap (λ (n : ℕ). from_synchsafe (bytes_of 4 n)) c.read32.ensures
          ∙ synchsafe_four 6 tag (omega arith) (λ i. omega (arith, c.type_inv.tag i)),
      omega arith,
    )
