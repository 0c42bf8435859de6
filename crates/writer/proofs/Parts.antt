-- A part of a buffer that is written as a whole. Assumes nothing.
use mathlib.Core.Path.{◌≡◌}
use Prim.Native.Nat.{ℕ, zero, suc, ◌+◌, ◌-◌, ◌≤◌}
use native.Mathlib.Nat.{div-one}
use native.Mathlib.Omega.{arith}
use mathlib.Core.List.{List}
use lib.ListN.{length, take, drop}
use lib.Seq.{sets, take_all}
use borrow.Rule.Slice.PartMut.{put_mid}
use Rattle.std.specs.Int.{to_be_bytes}
use mir.Syntax.{w64}
use Rattle.laws.proofs.Stores.{sets_in}
use Rattle.format.specs.Numbers.{digits, bytes_of}
use Rattle.format.proofs.Numbers.{length_digits}

pub part_put : (o : List ℕ) (p k : ℕ) (l : List ℕ) → p + length l ≤ length o → p + length l - p ≡ k → put_mid p k o l ≡ sets o p l
part_put o p k l h e =
    let m : k ≡ length l = omega arith in
    rw (m, sets_in o p l h)

-- the last bytes of a number
digits_behind : (j k n : ℕ) → drop j (bytes_of (j + k) n) ≡ bytes_of k n
unfolding digits
digits_behind zero k n = let e : 0 + k ≡ k = omega arith in rw e
digits_behind (suc j) k n = let e : suc j + k ≡ suc (j + k) = omega arith in rw e (digits_behind j k n)

eight_bytes : (n : ℕ) → to_be_bytes w64 n ≡ bytes_of 8 n
unfolding digits
eight_bytes n = simp div-one

pub last_bytes : (k n : ℕ) (l : List ℕ) → k ≤ 8 → l ≡ to_be_bytes w64 n → take (8 - (8 - k)) (drop (8 - k) l) ≡ bytes_of k n
last_bytes k n l h is =
    let e : 8 - k + k ≡ 8 = omega arith in
    let last : drop (8 - k) l ≡ bytes_of k n = rw (is, eight_bytes) (rw e at (digits_behind (8 - k) k n)) in
    rw last (take_all (8 - (8 - k)) (bytes_of k n) (omega (arith, length_digits 256 k n)))
