-- `unsynch::decode_u32` meets its contract. Assumes nothing.
use Rattle.unsynch.proofs.Synchsafe.{decoded}
use Rattle.unsynch.proofs.decode_u32.Statement.{statement}
use Rattle.unsynch.proofs.decode_u32.Tie as tie

returns : tie.Need-returns
returns c = decoded c.args.n

pub decode_u32_spec : {M : Type 1} → statement M
decode_u32_spec = tie.close (tie.spec returns)
