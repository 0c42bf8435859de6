-- A table's rule: one test over the whole table gives the rule at each place. Assumes nothing.
use mathlib.Core.Path.{◌≡◌, ap, ◌∙◌}
use mathlib.Core.Bool.{Bool, true, false, ◌&&◌}
use mathlib.Core.List.{List, [], ◌∷◌}
use Prim.Native.Nat.{ℕ, zero, suc, ◌+◌, ◌<◌}
use native.Mathlib.Nat.{zero-add}
use native.Mathlib.Omega.{arith}
use lib.Dec.{T, eqb, eqb→eq}
use lib.ListN.{length, get_or}

-- the entries are what the rule says at the places from i on
abbrev pub tests : (ℕ → ℕ) → ℕ → List ℕ → Bool
tests rule i [] = true
tests rule i (x ∷ xs) = eqb x (rule i) && tests rule (suc i) xs

and_left : (a b : Bool) → T (a && b) → T a
and_left true b t = tt
and_left false b t = t

and_right : (a b : Bool) → T (a && b) → T b
and_right true b t = t
and_right false b t = absurd t

rule_from : (rule : ℕ → ℕ) (xs : List ℕ) (i : ℕ) → T (tests rule i xs) → (k : ℕ) → k < length xs → get_or xs k 0 ≡ rule (i + k)
rule_from rule [] i t k h = absurd (omega arith)
rule_from rule (x ∷ xs) i t zero h =
    let e : i ≡ i + 0 = omega arith in
    eqb→eq x (rule i) (and_left (eqb x (rule i)) (tests rule (suc i) xs) t) ∙ ap rule e
rule_from rule (x ∷ xs) i t (suc k) h =
    let e : suc i + k ≡ i + suc k = omega arith in
    rule_from rule xs (suc i) (and_right (eqb x (rule i)) (tests rule (suc i) xs) t) k (omega arith) ∙ ap rule e

pub table_rule : (rule : ℕ → ℕ) (xs : List ℕ) → T (tests rule 0 xs) → (k : ℕ) → k < length xs → get_or xs k 0 ≡ rule k
table_rule rule xs t k h = rule_from rule xs 0 t k h ∙ ap rule (zero-add k)
