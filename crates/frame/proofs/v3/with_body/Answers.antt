-- A 2.3 frame that is refused, and one that is found. Assumes nothing.
use mathlib.Core.Path.{◌≡◌, refl, ap, ◌∙◌}
use Prim.Native.Nat.{ℕ}
use mathlib.Core.Bool.{Bool, false}
use mathlib.Core.List.{List}
use Rattle.format.specs.Bytes.{pick}
use Rattle.format.specs.Frame.{is_compressed, length_bytes}
use Rattle.format.specs.declared.Version.TheVariants.{Id3v23}
use Rattle.frame.proofs.Headers.{no_length, too_small, not_whole, found}
use Rattle.frame.proofs.v3.with_body.Goals as goal

is_length : (n : ℕ) (compressed : Bool) (b : List ℕ) → n ≡ pick compressed 4 0 → compressed ≡ is_compressed Id3v23 b → n ≡ length_bytes Id3v23 b
is_length n compressed b e h = e ∙ ap (λ (t : Bool). pick t 4 0) h

pub returns-then-b-start : goal.returns-then-b-start
returns-then-b-start c depth shallow =
    let b = c.args.b.now in
    let n = is_length c.length_bytes-n.result c.has-compressed.result b c.length_bytes-n.ensures.0 c.has-compressed.ensures in
    no_length Id3v23 b c.requires depth shallow c.length_bytes-n.result n c.if-b-start.true

pub returns-then-whole-n : goal.returns-then-whole-n
returns-then-whole-n c depth shallow =
    let b = c.args.b.now in
    let n = is_length c.length_bytes-n.result c.has-compressed.result b c.length_bytes-n.ensures.0 c.has-compressed.ensures in
    let whole = c.read32-whole in
    too_small Id3v23 b c.requires depth shallow c.length_bytes-n.result n c.if-b-start.false whole.result whole.ensures refl c.if-whole-n.true

pub returns-then-left-size : goal.returns-then-left-size
returns-then-left-size c depth shallow =
    let b = c.args.b.now in
    let n = is_length c.length_bytes-n.result c.has-compressed.result b c.length_bytes-n.ensures.0 c.has-compressed.ensures in
    let whole = c.read32-whole in
    not_whole Id3v23 b c.requires depth shallow c.length_bytes-n.result n c.if-b-start.false whole.result whole.ensures _ refl refl c.if-whole-n.false c.if-left-size.true

pub returns : goal.returns
returns c depth shallow =
    let b = c.args.b.now in
    let n = is_length c.length_bytes-n.result c.has-compressed.result b c.length_bytes-n.ensures.0 c.has-compressed.ensures in
    let whole = c.read32-whole in
    found Id3v23 b c.requires depth shallow c.length_bytes-n.result n c.if-b-start.false whole.result whole.ensures _ refl (λ w. (c.if-whole-n.false, c.if-left-size.false))
    c.read32.result c.read32.ensures c.has-compressed.result false c.has-compressed.ensures refl c.found.result c.found.ensures
