-- The part is written as the number's last bytes.
use Rattle.std.proofs.Common.{◌≡◌, ◌+◌, ◌-◌, ◌∙◌, arith}
use Rattle.format.specs.Numbers.{bytes_of}
use Rattle.format.proofs.Numbers.{length_digits}
use Rattle.writer.proofs.Parts.{part_put, last_bytes}
use Rattle.writer.proofs.numbers.put_digits.Goals as goal

pub returns : goal.returns
returns c =
    let a = c.args in
    let put : c.copy_from_slice.new.self ≡ bytes_of a.count a.n =
    c.copy_from_slice.ensures.after ∙ last_bytes a.count a.n c.to_be_bytes-bytes.result c.requires.0 c.to_be_bytes-bytes.ensures in
    rw put (part_put a.buffer.now a.at (a.at + a.count - a.at) (bytes_of a.count a.n) (omega (arith, length_digits 256 a.count a.n)) (omega (arith, length_digits 256 a.count a.n)))
