-- A text that was encoded is read back. Assumes nothing.
use mathlib.Core.Path.{◌≡◌, refl, ap, ◌∙◌}
use Prim.Native.Nat.{ℕ, ◌+◌, ◌≤◌, ◌<◌}
use native.Mathlib.Omega.{arith}
use mathlib.Core.List.{List, [], ◌∷◌}
use lib.ListN.{length, take, drop}
use lib.Seq.{take-length}
use lib.Dec.{eqb-suc-zero}
use borrow.Author.Tests.{lt-leb}
use Rattle.format.specs.Bytes.{first, span, part}
use Rattle.format.specs.Text.{text_end}
use Rattle.format.specs.Record.{body_refusal, run_of, parts_of, text}
use Rattle.format.specs.Encode.{body_bytes}
use Rattle.format.specs.declared.Version.{Version}
use Rattle.format.proofs.ReadBack.{ReadBack, part_in_lem}

-- under an encoding up to 3, where the reader would not end the text early
pub text_back : (v : Version) (e : ℕ) (s : List ℕ) → e < 4 → text_end v e s ≡ length s → ReadBack v (text e s)
unfolding body_refusal run_of parts_of body_bytes first
text_back v e s small whole = record {
  taken = simp (eqb-suc-zero, lt-leb 4 e small);
  run = refl;
  view =
      λ at b lies.
      let shown : part (span (at + 1) (text_end v e s)) b ≡ s =
      ap (λ (n : ℕ). part (span (at + 1) n) b) whole
      ∙ part_in_lem at 1 (length s) (e ∷ s) b lies (omega arith)
      ∙ take-length s in
      ap (text e) shown;
}
