-- The letters, the edition, the flags and the size, one after another. Assumes nothing.
use mathlib.Core.Path.{refl, ap, ◌∙◌}
use mathlib.Core.List.{◌++◌}
use lib.Seq.{sets}
use Rattle.format.specs.Numbers.{bytes_of}
use Rattle.writer.proofs.Heads.{bytes_put}
use Rattle.writer.proofs.Finishes.{header_is}
use Rattle.writer.proofs.finish.put_header.Goals as goal

pub returns : goal.returns
returns c =
    let a = c.args in
    let number = c.from-2 in
    let flags = c.flags_byte in
    let size = bytes_of 4 c.synchsafe_word.result in
    bytes_put a.output.now 0 3 0x494433 (bytes_of 1 number.result ++ (bytes_of 2 flags.result ++ size)) c.put_digits.ensures
    (bytes_put _ 3 1 number.result (bytes_of 2 flags.result ++ size) c.put_digits-2.ensures
    (bytes_put _ 4 2 flags.result size c.put_digits-3.ensures c.put_digits-4.ensures refl)
    refl)
    refl
    ∙ rw (number.ensures ∙ c.from.ensures, flags.ensures, c.synchsafe_word.ensures) (ap (sets a.output.now 0) (header_is a.version a.mode a.size))
