-- The header of the edition. Assumes nothing.
use mathlib.Core.Path.{ap, ◌∙◌}
use lib.Seq.{sets}
use Rattle.writer.proofs.Heads.{long_head, plain_head}
use Rattle.writer.proofs.frames.put_head.Goals as goal
use Rattle.writer.proofs.frames.put_head.Goals.{in-Id3v22, in-Id3v23, in-Id3v24}

pub returns : goal.returns
returns c =
    let a = c.args in (
      rw c.head_len.ensures.0,
      elim c.match-version.branch [
        | in-Id3v22 w ↦ rw w.in-Id3v22.is (w.buffer-is ∙ w.put_short.ensures)
        | in-Id3v23 w ↦ rw w.in-Id3v23.is (w.buffer-is ∙ w.put_long.ensures ∙ ap (sets a.buffer.now a.at) (plain_head a.mode a.id a.size))
        | in-Id3v24 w ↦
            rw w.in-Id3v24.is
            (w.buffer-is
            ∙ w.put_long-in-Id3v24.ensures
            ∙ rw (w.synchsafe_word.ensures, w.frame_flags.ensures) (ap (sets a.buffer.now a.at) (long_head a.mode a.id a.size)))
      ],
    )
