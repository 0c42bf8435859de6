-- In what the padding leaves of the output. Assumes nothing.
use mathlib.Core.Path.{◌≡◌, ap, ◌∙◌}
use Prim.Native.Nat.{ℕ, ◌-◌, ◌≤◌}
use native.Mathlib.Omega.{arith}
use mathlib.Core.List.{List}
use lib.ListN.{length, take}
use Rattle.std.proofs.lemmas.Grind.{common_steps}
use Rattle.format.specs.Encode.{whole_of}
use Rattle.unsynch.specs.Puts.{placed_of}
use Rattle.writer.proofs.Finishes.{whole_is, in_front}
use Rattle.writer.proofs.finish.put_frames.Goals as goal

pub returns : goal.returns
returns c =
    let a = c.args in
    let room = c.in_ok-room.room in
    let frames = take a.used a.buffer.now in
    let le : a.padding ≤ length a.output.now = grind (arith, common_steps) in
    let is : room ≡ length a.output.now - a.padding = grind (arith, common_steps) in
    let whole = whole_is a.version a.mode c.whole_mode.ensures frames in
    in_front (whole_of a.version a.mode frames) a.output.now a.padding le is (c.unsync_into.ensures ∙ ap (λ (u : List ℕ). placed_of u 10 (take room a.output.now)) whole)
