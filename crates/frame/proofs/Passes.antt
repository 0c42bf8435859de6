-- What the answer of checks says of their number. Assumes nothing.
use mathlib.Core.Path.{◌≡◌, refl, ap}
use Prim.Native.Nat.{ℕ}
use mathlib.Core.Bool.{Bool, true, false}
use lib.Dec.{eqb}
use borrow.Author.Tests.{eqb-true, eqb-false}
use Rattle.std.specs.Prelude.{Result, Ok, Err}
use Rattle.laws.proofs.Results.{err_same, ok_not_err, err_not_ok}
use Rattle.format.specs.Bytes.{pick}
use Rattle.format.specs.Refusals.{refusal, passed}
use Rattle.format.specs.declared.refusals.Refusal.{Refusal}

-- they pass
pub passes : {k : ℕ} → ◌≡◌ {A = Result Unit Refusal} (Ok tt) (passed k) → k ≡ 0
passes {k} e = by_number (eqb k 0) refl e
  where
    by_number : (t : Bool) → eqb k 0 ≡ t → ◌≡◌ {A = Result Unit Refusal} (Ok tt) (pick t (Ok tt) (Err (refusal k))) → k ≡ 0
    by_number true h e = eqb-true k 0 h
    by_number false h e = ok_not_err e

-- or one of them refuses
pub refuses : {k : ℕ} {r : Refusal} → ◌≡◌ {A = Result Unit Refusal} (Err r) (passed k) → (r.number ≡ k) × (k ≡ 0 → ⊥)
refuses {k} {r} e = by_number (eqb k 0) refl e
  where
    by_number : (t : Bool) → eqb k 0 ≡ t → ◌≡◌ {A = Result Unit Refusal} (Err r) (pick t (Ok tt) (Err (refusal k))) → (r.number ≡ k) × (k ≡ 0 → ⊥)
    by_number true h e = err_not_ok e
    by_number false h e = (ap (λ (x : Refusal). x.number) (err_same e), eqb-false k 0 h)
