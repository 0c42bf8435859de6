-- A 2.4 frame that is refused, and one that is found. Assumes nothing.
use mathlib.Core.Path.{◌≡◌, ap, ◌∙◌}
use Prim.Native.Nat.{ℕ}
use native.Mathlib.Omega.{arith}
use mathlib.Core.Bool.{Bool}
use mathlib.Core.List.{List}
use Rattle.laws.proofs.Bools.{false_not_true}
use Rattle.format.specs.Bytes.{pick}
use Rattle.format.specs.Frame.{has_length, length_bytes}
use Rattle.format.specs.declared.Version.TheVariants.{Id3v24}
use Rattle.frame.proofs.Headers.{no_length, found}
use Rattle.frame.proofs.v4.with_body.Goals as goal

is_length : (n : ℕ) (there : Bool) (b : List ℕ) → n ≡ pick there 4 0 → there ≡ has_length Id3v24 b → n ≡ length_bytes Id3v24 b
is_length n there b e h = e ∙ ap (λ (t : Bool). pick t 4 0) h

-- The early return's condition is named nowhere, so that an edit of it falls at the goal.
pub returns-then-b-start : goal.returns-then-b-start
returns-then-b-start c depth shallow =
    let b = c.args.b.now in
    let n = is_length c.length_bytes-n.result c.has.result b c.length_bytes-n.ensures.0 c.has.ensures in
    no_length Id3v24 b c.requires depth shallow c.length_bytes-n.result n (omega arith)

pub returns : goal.returns
returns c depth shallow =
    let b = c.args.b.now in
    let n = is_length c.length_bytes-n.result c.has.result b c.length_bytes-n.ensures.0 c.has.ensures in
    found Id3v24 b c.requires depth shallow c.length_bytes-n.result n (omega arith)
    c.frame_size.result c.frame_size.ensures c.saturating_sub-size.result c.saturating_sub-size.ensures (λ w. absurd (false_not_true w))
    c.read32.result c.read32.ensures c.has-compressed.result c.has-flagged.result c.has-compressed.ensures c.has-flagged.ensures c.found.result c.found.ensures
