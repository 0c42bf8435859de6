-- What holds of the exported function that raises a counter. Assumes nothing.
use mathlib.Core.Path.{◌≡◌, refl, sym, ◌∙◌, subst}
use Prim.Native.Nat.{ℕ, suc, ◌+◌, ◌≤◌}
use native.Mathlib.Omega.{arith}
use mathlib.Core.Bool.{Bool, true, false}
use mathlib.Core.List.{List}
use lib.ListN.{length}
use lib.Seq.{get_or-set_same}
use borrow.Author.Tests.{le-ltb, ltb-false}
use Rattle.format.specs.Bytes.{pick}
use Rattle.raise.specs.Raise.{Answer, raised_of}
use Rattle.raise.specs.Promises.{Raising}
use Rattle.raise.proofs.Accepting.{refused_same}
use Rattle.raise.proofs.Promises.{raise_reads}
use Rattle.raise.proofs.Refusing.{refused_number}
use Rattle.raise.proofs.Written.{written_raises}
use Rattle.capi.specs.Words.{word}
use Rattle.capi.specs.Calls.{short, Left2}
use Rattle.capi.specs.Raises.{after_raise, sv_raise}
use Rattle.cpromises.specs.Raising.{SvRaiseReads, SvRefusedRaise, SvWrittenRaises}
use Rattle.cpromises.proofs.Writing.{written}
use Rattle.std.specs.Prelude.{Ok, Err}

-- ---- what a raise or a lift leaves, with too few words or enough

abbrev pub left : List ℕ → List ℕ → Bool → Answer → Left2
left tag counter few o = pick few (20, tag, counter) (after_raise o counter)

-- a counter that was answered is the word
pub answered : (words : List ℕ) (n : ℕ) → 1 ≤ length words → (o : Answer) → o.0 ≡ Ok n → ((after_raise o words).0 ≡ 0) × (word 0 (after_raise o words).2 ≡ n)
answered words n one (Ok m, t) e = let z : m ≡ n = cc in (refl, get_or-set_same words 0 m 0 one ∙ z)
answered words n one (Err k, t) e = absurd (let z : ◌≡◌ {A = ℕ} 0 1 = cc in omega arith)

-- ---- a raise

module _ (tag user counter : List ℕ) (amount : ℕ) where
  reads : (few : Bool) → short 1 counter ≡ few → (o : Answer) → raised_of tag user amount ≡ o → (left tag counter few o).0 ≡ 0
      → Raising tag user amount (word 0 (left tag counter few o).2) (left tag counter few o).1
  reads true s o e z = absurd (omega arith)
  reads false s (Ok n, t) e z =
      let one : 1 ≤ length counter = ltb-false (length counter) 1 s in
      subst (λ (m : ℕ). Raising tag user amount m t) (sym (get_or-set_same counter 0 n 0 one)) (raise_reads tag user amount n t e)
  reads false s (Err k, t) e z = absurd (omega (arith, refused_number tag user amount k.number t e))

  kept : (k : ℕ) (few : Bool) (o : Answer) → raised_of tag user amount ≡ o → (left tag counter few o).0 ≡ suc k → ((left tag counter few o).1 ≡ tag) × ((left tag counter few o).2 ≡ counter)
  kept k true o e z = (refl, refl)
  kept k false (Ok n, t) e z = absurd (omega arith)
  kept k false (Err j, t) e z = (refused_same tag user amount e, refl)

pub sv_raise_reads : SvRaiseReads
unfolding sv_raise
sv_raise_reads tag user counter amount e = reads tag user counter amount (short 1 counter) refl (raised_of tag user amount) refl e

pub sv_refused_raise : SvRefusedRaise
unfolding sv_raise
sv_refused_raise tag user counter amount k e = kept tag user counter amount k (short 1 counter) (raised_of tag user amount) refl e

pub sv_written_raises : SvWrittenRaises
unfolding sv_raise
sv_written_raises version padding records tag user words i id rating counter amount w runs only is small fits one =
    let e = written_raises version padding records tag user i id rating counter amount (written w).0 runs only is small fits in
    rw (le-ltb (length words) 1 one) (answered words (counter + amount) one (raised_of tag user amount) e)
