use Rattle.std.proofs.Common.{arith}
use Rattle.lines.proofs.Lines as lines
use Rattle.lines.proofs.whole.Goals as goal

pub put-requires : goal.put-requires
put-requires g c =
    let (line, below, puts) = c.requires in
    puts.may _ _ (lines.has line _ c.args.out.now (puts.puts _ _ _ _ c.put-len.ensures) c.fits.ensures c.if-fits.true (omega arith))

pub returns-then-fits : goal.returns-then-fits
returns-then-fits g c line k = lines.whole line _ _ (k.puts _ _ _ _ c.put-len.ensures) c.fits.ensures c.if-fits.true (k.puts _ _ _ _ c.put.ensures)

pub returns : goal.returns
returns g c line k = lines.full line _ _ (k.puts _ _ _ _ c.put-len.ensures) c.fits.ensures c.if-fits.false
