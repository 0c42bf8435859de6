-- A lift in the steps that the code makes: each of its answers. Assumes nothing.
use mathlib.Core.Path.{◌≡◌, refl, sym, ap, ◌∙◌}
use Prim.Native.Nat.{ℕ, ◌+◌, ◌-◌, ◌^◌, ◌<◌}
use native.Mathlib.Omega.{arith}
use mathlib.Core.Bool.{Bool, true, false, ◌&&◌, not}
use mathlib.Core.List.{List}
use lib.Seq.{sets}
use lib.Dec.{ltb, eqb}
use borrow.Author.Tests.{ltb-true, eqb-true}
use Rattle.std.specs.Result.{result_eq}
use Rattle.std.proofs.lemmas.Bool.{not-true, not-false}
use Rattle.laws.proofs.Bools.{false_not_true}
use Rattle.laws.proofs.Results.{err_not_ok}
use Rattle.format.specs.Bytes.{pick}
use Rattle.format.specs.Numbers.{bytes_of}
use Rattle.writer.specs.Between.{placed_of}
use Rattle.raise.specs.Raise.{Answer}
use Rattle.raise.specs.Promises.{counted}
use Rattle.raise.specs.Frames.{framed_of}
use Rattle.raise.specs.declared.frames.Framed.{Framed}
use Rattle.raise.specs.declared.seeking.Sought.{Sought}
use Rattle.raise.specs.Seeks.{is_field, raised_at}
use Rattle.edit.specs.Lift.{meter_id, counts_in}
use Rattle.edit.specs.Lifting.{byte_before, gap_of, outgrown_in, outgrown_at, or_else, lifted_at}
use Rattle.std.specs.Prelude.{Result, Ok, Err}
use Rattle.format.specs.declared.refusals.Refusal.{Refusal}
use Rattle.format.specs.Refusals.{refusal, number_in}

-- ---- the frame outgrown

module _ (begin start stop last : ℕ) (user : List ℕ) (counter : ℕ) (tag : List ℕ) where
  pub grow_refused : {k : Refusal} → framed_of tag ≡ Err k → ◌≡◌ {A = Answer} (Err k, tag) (outgrown_at begin start stop last user counter tag)
  unfolding outgrown_at
  grow_refused e = ap (outgrown_in begin start stop last user counter tag) (sym e)

  pub grow_put : {f : Framed} → framed_of tag ≡ Ok f
      → counts_in counter (placed_of f.version (gap_of begin stop last f.end) (counted (meter_id f.version) user (byte_before tag start) counter) tag)
      ≡ outgrown_at begin start stop last user counter tag
  unfolding outgrown_at
  grow_put e = ap (outgrown_in begin start stop last user counter tag) (sym e)

-- ---- after a raise

-- 44 says that the sum fits 64 bits, and leaves the tag as it was
too_short : (small fits : Bool) (value : ℕ) (s t tag : List ℕ)
    → ◌≡◌ {A = Answer} (Err (refusal 44), t) (pick small (pick fits (Ok value, s) (Err (refusal 44), tag)) (Err (refusal 43), tag))
    → (small ≡ true) × (t ≡ tag)
too_short true true value s t tag e = err_not_ok (ap (λ (o : Answer). o.0) e)
too_short true false value s t tag e = (refl, ap (λ (o : Answer). o.1) e)
too_short false fits value s t tag e = absurd (let z : 44 ≡ 43 = ap (λ (o : Answer). number_in o.0) e in omega arith)

-- the code's test for 44, and what it says
abbrev pub is_short : Result ℕ Refusal → Bool
is_short x = result_eq eqb (λ (a b : Refusal). eqb a.number b.number) x (Err (refusal 44))

short_not : (x : Result ℕ Refusal) (t : List ℕ) (on : Answer) → is_short x ≡ false → or_else (x, t) on ≡ (x, t)
short_not (Ok n) t on e = refl
short_not (Err k) t on e = rw e

short_is : (x : Result ℕ Refusal) → is_short x ≡ true → x ≡ Err (refusal 44)
short_is (Ok n) e = absurd (false_not_true e)
short_is (Err k) e = ap {B = Result ℕ Refusal} (λ (n : ℕ). Err (refusal n)) (eqb-true k.number 44 e)

module _ (o : Sought) (user : List ℕ) (amount : ℕ) (tag : List ℕ) {x : Result ℕ Refusal} {t : List ℕ}
    (is : ◌≡◌ {A = Answer} (x, t) (raised_at o.start o.stop o.counter amount tag)) where
  abbrev grown : List ℕ → Answer
  grown s = outgrown_at o.begin o.start o.stop o.last user (o.counter + amount) s

  abbrev lifted : Answer
  lifted = lifted_at o.begin o.start o.stop o.counter o.last user amount tag

  pub lift_stays : not (is_short x) ≡ true → ◌≡◌ {A = Answer} (x, t) lifted
  unfolding lifted_at
  lift_stays other = sym (short_not x t (grown tag) (not-true _ other)) ∙ ap (λ (y : Answer). or_else y (grown tag)) is

  module _ (short : not (is_short x) ≡ false) where
    refused : x ≡ Err (refusal 44)
    refused = short_is x (not-false _ short)

    known : (ltb (o.counter + amount) (2 ^ 64) ≡ true) × (t ≡ tag)
    unfolding raised_at
    known =
        let value = o.counter + amount in
        let fits = is_field o.start o.stop tag && ltb value (256 ^ (o.stop - o.start)) in
        too_short (ltb value (2 ^ 64)) fits value (sets tag o.start (bytes_of (o.stop - o.start) value)) t tag (ap (λ (y : Result ℕ Refusal). (y, t)) (sym refused) ∙ is)

    pub lift_small : o.counter + amount < 2 ^ 64
    lift_small = ltb-true (o.counter + amount) (2 ^ 64) known.0

    pub lift_grown : grown t ≡ lifted
    unfolding lifted_at
    lift_grown =
        ap grown known.1
        ∙ ap (λ (z : Result ℕ Refusal). or_else (z, t) (grown tag)) (sym refused)
        ∙ ap (λ (y : Answer). or_else y (grown tag)) is
