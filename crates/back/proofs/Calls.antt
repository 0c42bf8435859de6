-- From the equations of the contracts, call by call, to the definition of the whole. Assumes nothing.
use mathlib.Core.Path.{◌≡◌, refl, sym, ap, ◌∙◌, subst}
use Prim.Native.Nat.{ℕ, ◌≤◌, ◌<◌}
use native.Mathlib.Omega.{arith}
use mathlib.Core.Bool.{false}
use mathlib.Core.List.{List}
use lib.ListN.{length, take}
use Rattle.format.specs.Record.{Rec}
use Rattle.writer.specs.Writer.{begin_of, Adding, add_of, Finishing, finish_of}
use Rattle.writer.specs.Writer.{Added}
use Rattle.reader.specs.Reader.{open_of, step_of, Stepped, Step}
use Rattle.reader.specs.declared.Reader.{Reader}
use Rattle.laws.proofs.Results.{some_same, some_not_none, none_not_some}
use Rattle.back.specs.Trips.{Writing, on_added, on_begun, write_of, wrote_count, FitsIn, Reading, on_second, on_first, on_opened, read_of, Trip, back_as, on_wrote, back_of, Kept}
use Rattle.back.proofs.Trips.{Within, finish_told, WroteNumber, wrote_number, there_and_back}
use Rattle.std.specs.Prelude.{Result, Option, Ok, Err, Some, None}
use Rattle.std.specs.Result.{result_ok}
use Rattle.std.specs.Option.{MatchOption, IsSomeAnd}
use Rattle.format.specs.declared.refusals.Refusal.{Refusal}
use Rattle.writer.specs.declared.Writer.{Writer}
use Rattle.format.specs.declared.Record.{Record}

-- a call's answer that is known, and what it left, in a function of both
pub answered : {A B C : Type 0} (f : A → B → C) {a a' : A} {b : B} {o : A × B} → a ≡ a' → ◌≡◌ {A = A × B} (a, b) o → f a' b ≡ f o.0 o.1
answered {A} {B} f {b = b} known left = sym (ap (λ (x : A). f x b) known) ∙ ap (λ (o : A × B). f o.0 o.1) left

-- an answer whose refusal was left out
module _ {A E : Type 0} where
  pub accepted : {x : Result A E} {y : A} → result_ok x ≡ Some y → x ≡ Ok y
  accepted {x = Ok z} e = ap Ok (some_same e)
  accepted {x = Err k} e = none_not_some e

  pub refused : {x : Result A E} → result_ok x ≡ None → (k : E) × (x ≡ Err k)
  refused {x = Ok z} e = some_not_none e
  refused {x = Err k} e = (k, refl)

-- ---- reading, call by call

module _ (tag work : List ℕ) {q : Result Reader Refusal} {w₀ : List ℕ} (opens : ◌≡◌ {A = Result Reader Refusal × List ℕ} (q, w₀) (open_of tag work)) where
  opened : {q' : Result Reader Refusal} → q ≡ q' → on_opened tag q' w₀ ≡ read_of tag work
  unfolding read_of
  opened known = answered (on_opened tag) known opens

  pub not_opened : result_ok q ≡ None → ◌≡◌ {A = Reading} (None, w₀) (read_of tag work)
  not_opened none = opened (refused none).1

  module _ {r : Reader} (ready : result_ok q ≡ Some r) {x : Result (Option Record) Refusal} {r₁ : Reader} {w₁ : List ℕ}
      (steps : ◌≡◌ {A = Stepped} ((x, r₁), w₁) (step_of r tag w₀)) where
    stepped : {x' : Result (Option Record) Refusal} → x ≡ x' → on_first tag (x', r₁) w₁ ≡ read_of tag work
    stepped known = answered (on_first tag) (ap {B = Step} (λ (y : Result (Option Record) Refusal). (y, r₁)) known) steps ∙ opened (accepted ready)

    pub not_stepped : result_ok x ≡ None → ◌≡◌ {A = Reading} (None, w₁) (read_of tag work)
    not_stepped none = stepped (refused none).1

    pub at_end : result_ok x ≡ Some None → ◌≡◌ {A = Reading} (None, w₁) (read_of tag work)
    at_end ended = stepped (accepted ended)

    module _ {rec : Record} (shows : result_ok x ≡ Some (Some rec)) {y : Result (Option Record) Refusal} {r₂ : Reader} {w₂ : List ℕ}
        (again : ◌≡◌ {A = Stepped} ((y, r₂), w₂) (step_of r₁ tag w₁)) where
      stepped_again : {y' : Result (Option Record) Refusal} → y ≡ y' → on_second rec (y', r₂) w₂ ≡ read_of tag work
      stepped_again known = answered (on_second rec) (ap {B = Step} (λ (z : Result (Option Record) Refusal). (z, r₂)) known) again ∙ stepped (accepted shows)

      pub then_refused : result_ok y ≡ None → ◌≡◌ {A = Reading} (None, w₂) (read_of tag work)
      then_refused none = stepped_again (refused none).1

      pub then_end : result_ok y ≡ Some None → ◌≡◌ {A = Reading} (Some rec, w₂) (read_of tag work)
      then_end ended = stepped_again (accepted ended)

      pub then_another : {other : Record} → result_ok y ≡ Some (Some other) → ◌≡◌ {A = Reading} (None, w₂) (read_of tag work)
      then_another more = stepped_again (accepted more)

-- ---- writing, call by call

module _ (version mode padding : ℕ) (r : Rec) (buffer output : List ℕ) where
  pub begun : {q : Result Writer Refusal} → q ≡ begin_of version mode false → on_begun padding r buffer output q ≡ write_of version mode padding r buffer output
  unfolding write_of
  begun begins = ap (on_begun padding r buffer output) begins

  module _ {w : Writer} (begins : Ok w ≡ begin_of version mode false) where
    pub added : {x : Result ℕ Refusal} {w₁ : Writer} {b : List ℕ} → ◌≡◌ {A = Adding} ((x, w₁), b) (add_of w r buffer)
        → on_added padding output (x, w₁) b ≡ write_of version mode padding r buffer output
    added adds = ap {B = Writing} (λ (o : Adding). on_added padding output o.0 o.1) adds ∙ begun begins

    module _ {x : Result ℕ Refusal} {w₁ : Writer} {b : List ℕ} (adds : ◌≡◌ {A = Adding} ((x, w₁), b) (add_of w r buffer)) where
      -- by the answer that adding told
      told : {x' : Result ℕ Refusal} → x ≡ x' → on_added padding output (x', w₁) b ≡ write_of version mode padding r buffer output
      told known = ap (λ (z : Result ℕ Refusal). on_added padding output (z, w₁) b) (sym known) ∙ added adds

      pub declined : {k : Refusal} → x ≡ Err k → ◌≡◌ {A = Writing} (Err k, (b, output)) (write_of version mode padding r buffer output)
      declined known = told known

      pub finished : {n : ℕ} → x ≡ Ok n → {f : Result ℕ Refusal} {w₂ : Writer} {o : List ℕ} → ◌≡◌ {A = Finishing} ((f, w₂), o) (finish_of w₁ padding b output)
          → ◌≡◌ {A = Writing} (f, (b, o)) (write_of version mode padding r buffer output)
      finished known finishes = ap {B = Writing} (λ (z : Finishing). (z.0.0, (b, z.1))) finishes ∙ told known

-- ---- the tag lies in the output

write_within : (version mode padding : ℕ) (r : Rec) (buffer output : List ℕ) →
    let o = write_of version mode padding r buffer output in Within o.0 o.1.1
unfolding write_of
write_within version mode padding r buffer output = begun (begin_of version mode false)
  where
    added : (q : Added) (b : List ℕ) → let o = on_added padding output q b in Within o.0 o.1.1
    added (Ok n, w) b = (finish_told w padding b output).1
    added (Err k, w) b = tt

    begun : (q : Result Writer Refusal) → let o = on_begun padding r buffer output q in Within o.0 o.1.1
    begun (Ok w) = added (add_of w r buffer).0 (add_of w r buffer).1
    begun (Err k) = tt

-- ---- there and back

-- what a closure gives for the record, where it pairs it with n
pub mapped : (n : ℕ) (o : Option Record) (x : Option (ℕ × Record)) (P : Record → ℕ × Record → Type 0) → MatchOption o (x ≡ None) (λ r. IsSomeAnd x (P r))
    → ((r : Record) (y : ℕ × Record) → P r y → y ≡ (n, r)) → Ok x ≡ back_as n o
mapped n None x P is pairs = ap Ok is
mapped n (Some r) (Some y) P is pairs = ap (λ (z : ℕ × Record). Ok (Some z)) (pairs r y is)
mapped n (Some r) None P is pairs = absurd is

module _ (version mode padding : ℕ) (r : Rec) (buffer output work : List ℕ) {q : Result ℕ Refusal} {b o : List ℕ}
    (e : ◌≡◌ {A = Writing} (q, (b, o)) (write_of version mode padding r buffer output)) where
  pub tag_within : {n : ℕ} → q ≡ Ok n → n ≤ length o
  tag_within known =
      subst (λ (x : Result ℕ Refusal). Within x o) known (subst (λ (z : Writing). Within z.0 z.1.1) (sym e) (write_within version mode padding r buffer output))

  abbrev whole : Trip
  whole = back_of version mode padding r buffer output work

  trip : {q' : Result ℕ Refusal} → q ≡ q' → on_wrote b o work q' ≡ whole
  unfolding back_of
  trip known = sym (ap (on_wrote b o work) known) ∙ ap (λ (z : Writing). on_wrote z.1.0 z.1.1 work z.0) e

  abbrev Ends : Result (Option (ℕ × Record)) Refusal → List ℕ → Type 0
  Ends x left = (◌≡◌ {A = Trip} (x, (b, (o, left))) whole) × (wrote_count (write_of version mode padding r buffer output).0 ≤ length work → Kept r x o left)

  pub back_refused : {k : Refusal} → q ≡ Err k → Ends (Err k) work
  back_refused {k} known =
      let number : 0 < k.number = subst WroteNumber known (subst (λ (z : Writing). WroteNumber z.0) (sym e) (wrote_number version mode padding r buffer output)) in
      (trip known, λ room z. absurd (omega arith))

  pub back_read : {n : ℕ} → FitsIn q r → q ≡ Ok n → {y : Option Record} {left : List ℕ} → ◌≡◌ {A = Reading} (y, left) (read_of (take n o) work)
      → {x : Result (Option (ℕ × Record)) Refusal} → x ≡ back_as n y → Ends x left
  back_read {n} fits known {y} {left} reads pairs =
      let all : ◌≡◌ {A = Trip} (back_as n y, (b, (o, left))) whole = ap {B = Trip} (λ (x : Reading). (back_as n x.0, (b, (o, x.1)))) reads ∙ trip known in
      rw pairs (
        all,
        λ room. subst (λ (t : Trip). Kept r t.0 t.1.1.0 t.1.1.1) (sym all)
            (there_and_back version mode padding r buffer output work (subst (λ (x : Result ℕ Refusal). FitsIn x r) known fits) room),
      )
