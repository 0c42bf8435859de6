-- Records that a writer accepted. Assumes nothing.
use mathlib.Core.List.{List, [], ◌∷◌}
use Rattle.format.specs.Record.{Rec}
use Rattle.format.specs.declared.Version.{Version}
use Rattle.format.specs.declared.Mode.{Mode}
use Rattle.format.proofs.Accepted.{Sound}

pub data Sounds (v : Version) (m : Mode) : List Rec → Type 0 where
  nothing : Sounds v m []
  also : {r : Rec} {rs : List Rec} → Sound v m r → Sounds v m rs → Sounds v m (r ∷ rs)
