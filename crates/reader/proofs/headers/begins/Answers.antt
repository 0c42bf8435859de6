-- Three of the four bytes. Assumes nothing.
use Rattle.std.proofs.Common.{◌≡◌, ℕ, ◌/◌, length, take, ap, ◌∙◌, arith, le-leb}
use Rattle.format.specs.Numbers.{number}
use Rattle.loads.proofs.Words.{first_three}
use Rattle.reader.proofs.headers.begins.Goals as goal

pub returns-then-tag-ge10 : goal.returns-then-tag-ge10
returns-then-tag-ge10 c =
    let tag = c.args.tag.now in
    let e : c.read32.result / 256 ≡ number (take 3 tag) = ap (λ (n : ℕ). n / 256) c.read32.ensures ∙ first_three 0 tag (omega arith) (λ i. omega (arith, c.type_inv.tag i)) in
    rw (e, le-leb 10 (length tag) (omega arith))
