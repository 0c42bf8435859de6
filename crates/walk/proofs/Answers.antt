-- What a check answers, and a call that does something by the way. Assumes nothing.
use mathlib.Core.Path.{◌≡◌, sym, ap, ◌∙◌}
use Prim.Native.Nat.{ℕ}
use mathlib.Core.List.{List}
use lib.Dec.{eqb}
use borrow.Author.Tests.{eqb-true, eqb-false}
use Rattle.laws.proofs.Results.{ok_same, err_same, ok_not_err, err_not_ok}
use Rattle.format.specs.Refusals.{checked, passed_with}
use Rattle.format.specs.Walk.{Out}
use Rattle.format.specs.declared.refusals.Refusal.{Refusal}
use Rattle.format.proofs.Checks.{not_first, not_second}
use Rattle.std.specs.Prelude.{Result, Ok, Err}

-- a number that is none was passed, and any other is the refusal
pub checked_ok : {A : Type 0} (n : ℕ) {x y : A} → checked n x ≡ Ok y → (n ≡ 0) × (x ≡ y)
checked_ok n e =
    let q = not_second (eqb n 0) _ _ _ e err_not_ok in
    (eqb-true n 0 q.0, ok_same q.1)

pub checked_err : {A : Type 0} (n : ℕ) (x : A) {k : Refusal} → checked n x ≡ Err k → (n ≡ k.number) × (n ≡ 0 → ⊥)
checked_err n x e =
    let q = not_first (eqb n 0) _ _ _ e ok_not_err in
    (ap (λ (r : Refusal). r.number) (err_same q.1), eqb-false n 0 q.0)

-- the same with the bytes that a call leaves
pub passed_ok : (o : Out) {left : List ℕ} → ◌≡◌ {A = Result Unit Refusal × List ℕ} (Ok tt, left) (passed_with o) → o ≡ (0, left)
passed_ok o e =
    let z = (checked_ok o.0 (sym (ap (λ (p : Result Unit Refusal × List ℕ). p.0) e))).0 in
    let l = ap (λ (p : Result Unit Refusal × List ℕ). p.1) e in
    rw (z, l)

pub passed_err : (o : Out) {k : Refusal} {left : List ℕ} → ◌≡◌ {A = Result Unit Refusal × List ℕ} (Err k, left) (passed_with o) → (o ≡ (k.number, left)) × (k.number ≡ 0 → ⊥)
passed_err o e =
    let q = checked_err o.0 _ (sym (ap (λ (p : Result Unit Refusal × List ℕ). p.0) e)) in
    let l = ap (λ (p : Result Unit Refusal × List ℕ). p.1) e in
    (rw (q.0, l), λ z. q.1 (q.0 ∙ z))
