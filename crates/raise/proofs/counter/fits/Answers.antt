-- Any value has eight bytes at most, and fewer hold it where nothing is left behind them.
use Rattle.std.proofs.Common.{◌∙◌, le-leb}
use Rattle.raise.proofs.Values.{fits_all, fits_last}
use Rattle.raise.proofs.counter.fits.Goals as goal

pub returns-then-n-ge8 : goal.returns-then-n-ge8
returns-then-n-ge8 c = le-leb 8 c.args.n c.if-n-ge8.true ∙ fits_all c.args.value c.args.n c.ranges.value.fits c.if-n-ge8.true

pub returns-else-n-ge8 : goal.returns-else-n-ge8
returns-else-n-ge8 c = fits_last c.args.value c.args.n
