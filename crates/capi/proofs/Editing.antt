-- Words that are no record, given to an edit, are refused. Assumes nothing.
use mathlib.Core.Path.{◌≡◌, refl, ap, ◌∙◌}
use Prim.Native.Nat.{ℕ}
use mathlib.Core.Bool.{false}
use mathlib.Core.List.{List}
use Rattle.format.specs.Bytes.{first}
use Rattle.format.specs.Numbers.{digits}
use Rattle.format.specs.Ids.{all_id_bytes}
use Rattle.format.specs.Record.{rec_of}
use Rattle.format.specs.Encode.{refusal_of}
use Rattle.format.specs.declared.Heading.{Heading}
use Rattle.format.specs.declared.Mode.{Mode}
use Rattle.format.specs.declared.Version.{Version}
use Rattle.format.specs.declared.Version.TheVariants.{Id3v22, Id3v23, Id3v24}
use Rattle.capi.specs.Words.{heading_of, heading_else}
use Rattle.capi.specs.Edits.{given_rec}
use Rattle.std.specs.Prelude.{Option, None}

bad_refused : (v : Version) (name names rest deviations : List ℕ) → refusal_of v Mode.Off false (rec_of (heading_else None) name names rest deviations) ≡ 21
unfolding refusal_of first digits all_id_bytes
bad_refused Id3v22 name names rest deviations = refl
bad_refused Id3v23 name names rest deviations = refl
bad_refused Id3v24 name names rest deviations = refl

-- adding refuses them with 21 in every edition
pub unsaid_refused : (v : Version) (words name names rest deviations : List ℕ) → heading_of words ≡ None
    → refusal_of v Mode.Off false (given_rec words name names rest deviations) ≡ 21
unsaid_refused v words name names rest deviations e =
    ap (λ (h : Option Heading). refusal_of v Mode.Off false (rec_of (heading_else h) name names rest deviations)) e ∙ bad_refused v name names rest deviations
