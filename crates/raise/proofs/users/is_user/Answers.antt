-- Bytes are the same where `==` says so.
use Rattle.raise.proofs.Same.{same_part}
use Rattle.raise.proofs.users.is_user.Goals as goal

pub returns : goal.returns
returns c = let a = c.args in same_part a.s.now a.start a.len a.user.now c.eq.result c.eq.ensures
