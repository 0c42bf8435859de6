-- What holds of the exported function that lifts a counter. Assumes nothing.
use mathlib.Core.Path.{◌≡◌, refl, sym, subst}
use Prim.Native.Nat.{ℕ, suc, ◌+◌, ◌≤◌}
use native.Mathlib.Omega.{arith}
use mathlib.Core.Bool.{Bool, true, false}
use mathlib.Core.List.{List}
use lib.ListN.{length}
use lib.Seq.{get_or-set_same}
use borrow.Author.Tests.{le-ltb, ltb-false}
use Rattle.raise.specs.Raise.{Answer}
use Rattle.edit.specs.Lift.{lifted_of}
use Rattle.edit.specs.LiftPromises.{Lifting}
use Rattle.edit.proofs.LiftReads.{lift_reads, lift_refused_same}
use Rattle.edit.proofs.LiftRefusing.{lift_refused_number}
use Rattle.edit.proofs.LiftWritten.{written_lifts}
use Rattle.capi.specs.Words.{word}
use Rattle.capi.specs.Calls.{short}
use Rattle.capi.specs.Edits.{sv_lift}
use Rattle.cpromises.specs.Lifting.{SvLiftReads, SvRefusedLift, SvWrittenLifts}
use Rattle.cpromises.proofs.Writing.{written}
use Rattle.cpromises.proofs.Raising.{left, answered}
use Rattle.std.specs.Prelude.{Ok, Err}

module _ (tag user counter : List ℕ) (amount : ℕ) where
  reads : (few : Bool) → short 1 counter ≡ few → (o : Answer) → lifted_of tag user amount ≡ o → (left tag counter few o).0 ≡ 0
      → Lifting tag user amount (word 0 (left tag counter few o).2) (left tag counter few o).1
  reads true s o e z = absurd (omega arith)
  reads false s (Ok n, t) e z =
      let one : 1 ≤ length counter = ltb-false (length counter) 1 s in
      subst (λ (m : ℕ). Lifting tag user amount m t) (sym (get_or-set_same counter 0 n 0 one)) (lift_reads tag user amount n t e)
  reads false s (Err k, t) e z = absurd (omega (arith, lift_refused_number tag user amount k.number t e))

  kept : (k : ℕ) (few : Bool) (o : Answer) → lifted_of tag user amount ≡ o → (left tag counter few o).0 ≡ suc k
      → ((left tag counter few o).1 ≡ tag) × ((left tag counter few o).2 ≡ counter)
  kept k true o e z = (refl, refl)
  kept k false (Ok n, t) e z = absurd (omega arith)
  kept k false (Err j, t) e z = (lift_refused_same tag user amount j.number t e, refl)

pub sv_lift_reads : SvLiftReads
unfolding sv_lift
sv_lift_reads tag user counter amount e = reads tag user counter amount (short 1 counter) refl (lifted_of tag user amount) refl e

pub sv_refused_lift : SvRefusedLift
unfolding sv_lift
sv_refused_lift tag user counter amount k e = kept tag user counter amount k (short 1 counter) (lifted_of tag user amount) refl e

pub sv_written_lifts : SvWrittenLifts
unfolding sv_lift
sv_written_lifts version padding records tag user words i id rating counter amount w runs only is small room taken one =
    let e = written_lifts version padding records tag user i id rating counter amount (written w).0 runs only is small room taken in
    rw (le-ltb (length words) 1 one) (answered words (counter + amount) one (lifted_of tag user amount) e)
