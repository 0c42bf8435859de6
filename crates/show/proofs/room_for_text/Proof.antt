-- `show::room_for_text` meets its contract: a law, since the list is too long to compute. Assumes nothing.
use mathlib.Core.Path.{refl, sym}
use Prim.Native.Nat.{ℕ}
use lib.ListN.{length-replicate}
use Rattle.printout.specs.Lines.{text_room}
use Rattle.show.proofs.room_for_text.Statement.{statement}
use Rattle.show.proofs.room_for_text.Tie as tie

returns : tie.Need-returns
returns c = (refl, sym (length-replicate {0} {A = ℕ} text_room 0))

pub room_for_text_spec : {M : Type 1} → statement M
room_for_text_spec = tie.close (tie.spec returns)
