-- Laws of a stored body's length: its refusal is that of the record. Assumes nothing.
use mathlib.Core.Path.{◌≡◌, refl}
use Prim.Native.Nat.{ℕ, ◌^◌, ◌≤◌, ◌<◌}
use native.Mathlib.Omega.{arith}
use mathlib.Core.Logic.{inl, inr}
use lib.ListN.{length}
use borrow.Author.Tests.{le-leb, leb-false, ne_eqb}
use Rattle.format.specs.Bytes.{first}
use Rattle.format.specs.Record.{Rec}
use Rattle.format.specs.Encode.{body_bytes, stored_of, size_checks}
use Rattle.format.specs.declared.Version.{Version}
use Rattle.format.specs.declared.Version.TheVariants.{Id3v22, Id3v23, Id3v24}
use Rattle.format.specs.declared.Mode.{Mode}
use Rattle.format.proofs.Checks.{none_refused, first_none}
use Rattle.std.specs.Prelude.{Ok}
use Rattle.format.specs.Refusals.{passed}
use Rattle.checks.proofs.Passed.{Answer, sound}
use Rattle.checks.specs.Sizes.{size_refusal}
use Rattle.writer.specs.Pens.{Sized}

same_size : (v : Version) (m : Mode) (r : Rec) → size_refusal v (length (stored_of v m (body_bytes r.content))) ≡ first (size_checks v m r)
unfolding size_refusal
same_size Id3v22 m r = refl
same_size Id3v23 m r = refl
same_size Id3v24 m r = refl

-- beyond 2^28 all lengths are refused alike
large_size : (v : Version) (a b : ℕ) → 2 ^ 28 ≤ a → 2 ^ 28 ≤ b → size_refusal v a ≡ size_refusal v b
unfolding size_refusal
large_size Id3v22 a b h g =
    rw (ne_eqb a 0 (λ z. omega arith), ne_eqb b 0 (λ z. omega arith), le-leb (2 ^ 24) a (omega arith), le-leb (2 ^ 24) b (omega arith))
large_size Id3v23 a b h g = rw (le-leb (2 ^ 28) a h, le-leb (2 ^ 28) b g)
large_size Id3v24 a b h g = rw (le-leb (2 ^ 28) a h, le-leb (2 ^ 28) b g)

-- a number that is the stored body's length, or as large as it beyond 2^28
pub size_refusal_lem : (v : Version) (m : Mode) (r : Rec) (n : ℕ) → Sized (length (stored_of v m (body_bytes r.content))) n → size_refusal v n ≡ first (size_checks v m r)
size_refusal_lem v m r n (inl e) = rw e (same_size v m r)
size_refusal_lem v m r n (inr h) = rw (← same_size v m r) (large_size v n _ h.1 h.0)

-- a length that is not refused, and is therefore the stored body's
small_size : (v : Version) (n : ℕ) → size_refusal v n ≡ 0 → n < 2 ^ 28
unfolding size_refusal
small_size Id3v22 n e = omega (arith, leb-false (2 ^ 24) n (none_refused _ 22 (first_none _ _ (first_none _ _ e).1).0))
small_size Id3v23 n e = omega (arith, leb-false (2 ^ 28) n (none_refused _ 23 (first_none _ _ e).0))
small_size Id3v24 n e = omega (arith, leb-false (2 ^ 28) n (none_refused _ 23 (first_none _ _ e).0))

pub exact_size : (v : Version) (n exact : ℕ) → Sized exact n → ◌≡◌ {A = Answer} (Ok tt) (passed (size_refusal v n)) → (n ≡ exact) × (n < 2 ^ 28)
exact_size v n exact (inl e) good = (e, small_size v n (sound _ good))
exact_size v n exact (inr h) good = absurd (omega (arith, small_size v n (sound _ good)))
