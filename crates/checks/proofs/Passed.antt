-- What a check's answer says of its number, and what it leaves of a list of checks. Assumes nothing.
use mathlib.Core.Path.{◌≡◌, refl, sym, ap, ◌∙◌}
use Prim.Native.Nat.{ℕ}
use mathlib.Core.Bool.{Bool, true, false}
use mathlib.Core.List.{List, ◌∷◌, ◌++◌}
use lib.Dec.{eqb}
use borrow.Author.Tests.{eqb-true, eqb-false}
use Rattle.std.specs.Prelude.{Result, Ok, Err}
use Rattle.laws.proofs.Results.{ok_not_err, err_not_ok, err_same}
use Rattle.format.specs.Bytes.{pick, first}
use Rattle.format.specs.declared.refusals.Refusal.{Refusal}
use Rattle.format.specs.Refusals.{refusal, passed}
use Rattle.checks.proofs.Firsts as firsts

-- what a check answers
abbrev pub Answer : Type 0
Answer = Result Unit Refusal

module _ (k : ℕ) where
  -- it passed
  pub sound : ◌≡◌ {A = Answer} (Ok tt) (passed k) → k ≡ 0
  sound = by_zero (eqb k 0) refl
    where
      by_zero : (t : Bool) → eqb k 0 ≡ t → ◌≡◌ {A = Answer} (Ok tt) (pick t (Ok tt) (Err (refusal k))) → k ≡ 0
      by_zero true z e = eqb-true k 0 z
      by_zero false z e = ok_not_err e

  -- it refused
  pub unsound : {r : Refusal} → ◌≡◌ {A = Answer} (Err r) (passed k) → (k ≡ 0 → ⊥) × (r ≡ refusal k)
  unsound {r} = by_zero (eqb k 0) refl
    where
      by_zero : (t : Bool) → eqb k 0 ≡ t → ◌≡◌ {A = Answer} (Err r) (pick t (Ok tt) (Err (refusal k))) → (k ≡ 0 → ⊥) × (r ≡ refusal k)
      by_zero true z e = err_not_ok e
      by_zero false z e = (eqb-false k 0 z, err_same e)

  module _ (l : List ℕ) where
    -- the checks behind one that passed
    pub next : ◌≡◌ {A = Answer} (Ok tt) (passed k) → ◌≡◌ {A = Answer} (passed (first l)) (passed (first (k ∷ l)))
    next e = ap passed (sym (firsts.passed k l (sound e)))

    -- a check that refused, before others
    pub stop : {r : Refusal} → ◌≡◌ {A = Answer} (Err r) (passed k) → ◌≡◌ {A = Answer} (Err r) (passed (first (k ∷ l)))
    stop e = e ∙ ap passed (sym (firsts.refused k l (unsound e).0))

-- the same of several checks before others
module _ (a b : List ℕ) where
  pub next_all : ◌≡◌ {A = Answer} (Ok tt) (passed (first a)) → ◌≡◌ {A = Answer} (passed (first b)) (passed (first (a ++ b)))
  next_all e = next (first a) b e ∙ ap passed (sym (firsts.in_front a b))

  pub stop_all : {r : Refusal} → ◌≡◌ {A = Answer} (Err r) (passed (first a)) → ◌≡◌ {A = Answer} (Err r) (passed (first (a ++ b)))
  stop_all e = stop (first a) b e ∙ ap passed (sym (firsts.in_front a b))
