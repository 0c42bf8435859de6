-- Only zeros come after the byte found.
use Rattle.std.proofs.Common.{rules, arith}
use Rattle.frame.proofs.Ends.{closing_kept, closing_none}
use Rattle.frame.proofs.text.closing_at.Goals as goal

pub returns-in-Some : goal.returns-in-Some
returns-in-Some c = closing_kept c.in-Some.i c.args.s.now (search rules) (omega arith) (search rules) (search rules)

pub returns-in_default : goal.returns-in_default
returns-in_default c = closing_none c.args.s.now (search rules)

pub returns-in_default-2 : goal.returns-in_default-2
returns-in_default-2 c = closing_none c.args.s.now (search rules)
