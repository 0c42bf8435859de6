-- Answers that are a value, nothing or a refusal: what is equal in equal ones, and which are never equal. Assumes nothing.
use mathlib.Core.Path.{◌≡◌, ap}
use Prim.Native.Nat.{ℕ}
use native.Mathlib.Omega.{arith}
use Rattle.std.specs.Prelude.{Option, Some, None, Result, Ok, Err}

module _ {A E : Type 0} where
  pub ok_same : {x y : A} → ◌≡◌ {A = Result A E} (Ok x) (Ok y) → x ≡ y
  ok_same e = cc

  pub err_same : {x y : E} → ◌≡◌ {A = Result A E} (Err x) (Err y) → x ≡ y
  err_same e = cc

  pub ok_not_err : {C : Type 0} {x : A} {y : E} → ◌≡◌ {A = Result A E} (Ok x) (Err y) → C
  ok_not_err e = absurd (let z : ◌≡◌ {A = ℕ} 0 1 = cc in omega arith)

  pub err_not_ok : {C : Type 0} {x : A} {y : E} → ◌≡◌ {A = Result A E} (Err y) (Ok x) → C
  err_not_ok e = absurd (let z : ◌≡◌ {A = ℕ} 0 1 = cc in omega arith)

  pub found_same : {x y : A} → ◌≡◌ {A = Result (Option A) E} (Ok (Some x)) (Ok (Some y)) → x ≡ y
  found_same e = cc

  pub none_not_found : {C : Type 0} {x : A} → ◌≡◌ {A = Result (Option A) E} (Ok None) (Ok (Some x)) → C
  none_not_found e = absurd (let z : ◌≡◌ {A = ℕ} 0 1 = cc in omega arith)

  pub found_not_none : {C : Type 0} {x : A} → ◌≡◌ {A = Result (Option A) E} (Ok (Some x)) (Ok None) → C
  found_not_none e = absurd (let z : ◌≡◌ {A = ℕ} 0 1 = cc in omega arith)

module _ {A : Type 0} where
  pub some_same : {x y : A} → ◌≡◌ {A = Option A} (Some x) (Some y) → x ≡ y
  some_same e = cc

  pub none_not_some : {C : Type 0} {x : A} → ◌≡◌ {A = Option A} None (Some x) → C
  none_not_some e = absurd (let z : ◌≡◌ {A = ℕ} 0 1 = cc in omega arith)

  pub some_not_none : {C : Type 0} {x : A} → ◌≡◌ {A = Option A} (Some x) None → C
  some_not_none e = absurd (let z : ◌≡◌ {A = ℕ} 0 1 = cc in omega arith)
