-- Whole eights of references, then the others. Assumes nothing.
use mathlib.Core.Path.{◌≡◌, sym, ap, ◌∙◌}
use Prim.Native.Nat.{ℕ, ◌+◌, ◌*◌, ◌/◌, ◌%◌}
use native.Mathlib.Omega.{arith}
use lib.ListN.{length}
use Rattle.std.specs.Int.{div_ceil}
use Rattle.format.proofs.Table.{length_pack}
use Rattle.writer.proofs.Packs.{split_length}
use Rattle.writer.proofs.pack.packed_len.Goals as goal

pub returns : goal.returns
returns c =
    let a = c.args in
    let n = length a.ds.now / 2 in
    let sum : c.from-sum.result ≡ a.v + a.w = c.from-sum.ensures in
    let bits : div_ceil (n % 8 * (a.v + a.w)) 8 ≡ (n % 8 * (a.v + a.w) + 7) / 8 = omega arith in
    let last : c.div_ceil.result ≡ (n % 8 * (a.v + a.w) + 7) / 8 = c.div_ceil.ensures ∙ ap (λ (k : ℕ). div_ceil (n % 8 * k) 8) sum ∙ bits in
    rw (sum, last) (split_length n (a.v + a.w) ∙ sym (length_pack a.v a.w a.ds.now c.requires.pairs))
