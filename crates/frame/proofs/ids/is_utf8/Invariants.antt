use Rattle.std.proofs.Common.{◌≡◌, drop}
use Rattle.format.specs.Ids.{utf8_from, is_utf8}
use Rattle.frame.proofs.ids.is_utf8.Given as goal

-- what is left may come next where the whole is UTF-8
abbrev pub invariant-loop-b : goal.invariant-loop-b
invariant-loop-b l = utf8_from l.after.count l.after.low l.after.high (drop l.b-index l.id) ≡ is_utf8 l.id
