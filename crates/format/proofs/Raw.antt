-- A raw body is read back. Assumes nothing.
use mathlib.Core.Path.{◌≡◌, refl, ap}
use Prim.Native.Nat.{ℕ}
use mathlib.Core.List.{List}
use Rattle.format.specs.Record.{body_refusal, run_of, parts_of, raw}
use Rattle.format.specs.Encode.{body_bytes}
use Rattle.format.specs.declared.Version.{Version}
use Rattle.format.proofs.ReadBack.{ReadBack}

pub raw_back : (v : Version) (body : List ℕ) → ReadBack v (raw body)
unfolding body_refusal run_of parts_of body_bytes
raw_back v body = record { taken = refl; run = refl; view = λ at s lies. ap raw lies }
