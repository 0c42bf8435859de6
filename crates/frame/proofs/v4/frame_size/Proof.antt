-- `frame::v4::frame_size` meets its contract. Assumes nothing.
use mathlib.Core.Path.{ap, ◌∙◌}
use Prim.Native.Nat.{ℕ}
use native.Mathlib.Omega.{arith}
use borrow.Author.Rules.{rules}
use Rattle.format.specs.Numbers.{bytes_of, from_synchsafe}
use Rattle.loads.proofs.Words.{bytes_back}
use Rattle.frame.proofs.v4.frame_size.Statement.{statement}
use Rattle.frame.proofs.v4.frame_size.Tie as tie

returns : tie.Need-returns
returns c =
    let at_start = c.before.before.before in
    let s = at_start.args.b.now in
    c.decode_u32.ensures
    ∙ ap (λ (n : ℕ). from_synchsafe (bytes_of 4 n)) c.before.read32.ensures
    ∙ ap from_synchsafe (bytes_back 4 s (omega arith) (λ i. omega (arith, c.before.before.shared_slice_known-1.given i)))

pub frame_size_spec : {M : Type 1} → statement M
frame_size_spec = tie.close (tie.spec (λ c κs. search rules) (λ c κs. search rules) (λ c. search rules) returns)
