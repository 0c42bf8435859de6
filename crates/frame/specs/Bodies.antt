-- What reading a body answers (document 01, "Five kinds"). Assumes nothing.
use Rattle.std.specs.Prelude.{◌≡◌, ℕ, ◌-◌, ◌^◌, ◌≤◌, ◌<◌, List, eqb, leb}
use Rattle.std.proofs.Math.Seq.{slice}
use Rattle.format.specs.Bytes.{pick, zeros_in}
use Rattle.format.specs.Numbers.{number}
use Rattle.format.specs.Chapter.{names_len}
use Rattle.format.specs.Record.{body_refusal, parts_of}
use Rattle.format.specs.declared.Version.{Version}
use Rattle.format.specs.declared.Kind.{Kind}
use Rattle.std.specs.Prelude.{Result, Option, Ok, Err, Some, None}
use Rattle.format.specs.declared.refusals.Refusal.{Refusal}
use Rattle.format.specs.Refusals.{refusal}
use Rattle.format.specs.declared.Parts.{Parts}

-- the number that a body at a place of its buffer is refused with, or its fields and parts
unfoldable pub parsed_of : Version → Kind → ℕ → List ℕ → Result Parts Refusal
parsed_of v kind at b = pick (eqb (body_refusal kind b) 0) (Ok (parts_of v kind at b)) (Err (refusal (body_refusal kind b)))

-- how many bytes k names take with their zeros, if there are so many
unfoldable pub names_of : ℕ → List ℕ → Option ℕ
names_of k s = pick (leb k (zeros_in s)) (Some (names_len k s)) None

-- the counter s[from..to] counts from r on: it is the same number, and where more than eight bytes are left it does not fit 64 bits
pub record Begins (from to : ℕ) (s : List ℕ) (r : ℕ) : Type 0 where
  pub within : r ≤ to
  pub same : number (slice r to s) ≡ number (slice from to s)
  pub large : 8 < to - r → 2 ^ 64 ≤ number (slice r to s)
