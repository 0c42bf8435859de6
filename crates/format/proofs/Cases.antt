-- Document 01's cases marked (P) hold of the definitions. Assumes nothing.
use mathlib.Core.Path.{◌≡◌, refl}
use Rattle.format.specs.Numbers.{digits}
use Rattle.format.specs.Unsynch.{unsync}
use Rattle.format.specs.Text.{trimmed, closing}
use Rattle.format.specs.Numbers.{onto}
use Rattle.format.specs.Popularimeter.{stripped, counter_bytes}
use Rattle.format.specs.Table.{spread, gathered, filled, pack}
use Rattle.format.specs.Cases.{table, answers, given}

pub cases : answers table ≡ given table
unfolding digits onto unsync trimmed closing stripped counter_bytes spread gathered filled pack
cases = refl
