-- The counter's bytes: these laws are all that the rest knows of them. Assumes nothing.
use mathlib.Core.Path.{◌≡◌, ap}
use Prim.Native.Nat.{ℕ, ◌^◌, ◌<◌}
use mathlib.Core.List.{List}
use lib.ListN.{length}
use Rattle.format.specs.Numbers.{bytes_of}
use Rattle.format.specs.Popularimeter.{counter_of}
use Rattle.format.proofs.Numbers.{length_digits, number_back}
use Rattle.raise.specs.Raise.{field_of}

module _ (f : List ℕ) (n : ℕ) where
  -- the field keeps its length
  pub field_length : length (field_of f n) ≡ length f
  field_length = length_digits 256 (length f) n

  -- its counter is the value, if that fits the bytes there
  pub field_counter : n < 256 ^ length f → counter_of (field_of f n) ≡ n
  field_counter fits = number_back (length f) n fits

  -- another value afterwards is that value alone
  pub field_again : (k : ℕ) → field_of (field_of f n) k ≡ field_of f k
  field_again k = ap (λ (m : ℕ). bytes_of m k) field_length
