-- The bytes of an id one by one. Assumes nothing.
use Rattle.std.specs.Prelude.{ℕ, Bool, false, List, Option, Some, None}
use Rattle.format.specs.Ids.{utf8_from}
use Rattle.frame.specs.declared.ids.Tails.{Tails}

-- so many tails, the first of them from low to high
abbrev pub tails_of : ℕ → ℕ → ℕ → Tails
tails_of count low high = record { count = count; low = low; high = high }

-- whether bytes are what may come next: those tails, or nothing that would make UTF-8
abbrev pub goes_on : Option Tails → List ℕ → Bool
goes_on (Some t) s = utf8_from t.count t.low t.high s
goes_on None s = false
