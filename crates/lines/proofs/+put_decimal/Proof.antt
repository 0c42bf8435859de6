-- `lines::put_decimal` meets its contract. The measure is the number, which falls at each call. Assumes nothing.
use mathlib.Core.Path.{◌≡◌}
use Prim.Native.Nat.{ℕ, ◌<◌}
use native.Mathlib.Omega.{arith}
use borrow.Author.Rules.{rules}
use borrow.Fn.Kinds.{In}
use borrow.Fn.PlainCycle.{Measures, is, falls, and}
use Rattle.lines.proofs.Numbers.{one_digit, more_digits}
use Rattle.lines.proofs.Puts.{in_words, andthen, room_left, front}
use Rattle.lines.proofs.put_decimal.Reads as put-decimal
use Rattle.lines.proofs.put_decimal.Kinds as put-decimal-kinds
use Rattle.lines.proofs.+put_decimal.Lts-put_decimal as put-decimal-lts
use Rattle.lines.proofs.put_byte.Reads as put-byte-reads
use Rattle.lines.proofs.+put_decimal.{statement}
use Rattle.lines.proofs.+put_decimal.Tie.{close}

abbrev μ-put-decimal : Measures 1 put-decimal-kinds.ps ℕ
μ-put-decimal κs a = a.1.1.0

abbrev put_decimal_at : ℕ → In 1 put-decimal-kinds.ps
put_decimal_at t =
    and 1 put-decimal-kinds.ps (is 1 put-decimal-kinds.ps μ-put-decimal t) put-decimal.Pre

abbrev put_decimal_below : ℕ → In 1 put-decimal-kinds.ps
put_decimal_below t =
    and 1 put-decimal-kinds.ps (falls 1 put-decimal-kinds.ps ◌<◌ μ-put-decimal t) put-decimal.Pre

-- what the callees ask and give
abbrev calls : ℕ → put-decimal-lts.Claims
calls t = (put-byte-reads.Asked, put-byte-reads.Learnt, put_decimal_below t, put-decimal.Post)

put_decimal_cast_put_byte : (t : ℕ) → put-decimal-lts.Need-overflow_cast-n (calls t) (put_decimal_at t) put-decimal.Post
put_decimal_cast_put_byte t c = search rules

put_decimal_add_put_byte : (t : ℕ) → put-decimal-lts.Need-overflow_add-n (calls t) (put_decimal_at t) put-decimal.Post
put_decimal_add_put_byte t c = search rules

put_decimal_put_byte_requires : (t : ℕ) → put-decimal-lts.Need-put_byte-requires (calls t) (put_decimal_at t) put-decimal.Post
put_decimal_put_byte_requires t c κs =
    let at_start = c.before.before.before in
    rw (← one_digit _ c.before.if-n-lt10.true) at at_start.requires.1

put_decimal_same_length : (t : ℕ) → put-decimal-lts.Need-shape_of-out-then-n-lt10 (calls t) (put_decimal_at t) put-decimal.Post
put_decimal_same_length t c = search rules

put_decimal_returns : (t : ℕ) → put-decimal-lts.Need-returns-then-n-lt10 (calls t) (put_decimal_at t) put-decimal.Post
put_decimal_returns t c =
    let at_if_n_lt10 = c.before.before.before.before in
    in_words c.before.before.put_byte.ensures (one_digit _ at_if_n_lt10.if-n-lt10.true)

put_decimal_put_decimal_requires : (t : ℕ) → put-decimal-lts.Need-put_decimal-next-requires (calls t) (put_decimal_at t) put-decimal.Post
put_decimal_put_decimal_requires t c κs =
    let at_start = c.before.before.before in
    let e : at_start.args.n ≡ t = at_start.requires.0 in
    (omega arith, front _ _ (rw (← more_digits _ c.before.if-n-lt10.false at_start.ranges.n.fits) at at_start.requires.1))

put_decimal_cast_put_byte_2 : (t : ℕ) → put-decimal-lts.Need-overflow_cast-n-2 (calls t) (put_decimal_at t) put-decimal.Post
put_decimal_cast_put_byte_2 t c = search rules

put_decimal_add_put_byte_2 : (t : ℕ) → put-decimal-lts.Need-overflow_add-n-2 (calls t) (put_decimal_at t) put-decimal.Post
put_decimal_add_put_byte_2 t c = search rules

put_decimal_put_byte_requires_2 : (t : ℕ) → put-decimal-lts.Need-put_byte-requires-2 (calls t) (put_decimal_at t) put-decimal.Post
put_decimal_put_byte_requires_2 t c κs =
    let at_put_decimal_next = c.before.before.before in
    let at_if_n_lt10 = at_put_decimal_next.before.before in
    let at_start = at_if_n_lt10.before.before in
    room_left at_put_decimal_next.put_decimal-next.ensures (rw (← more_digits _ at_if_n_lt10.if-n-lt10.false at_start.ranges.n.fits) at at_start.requires.1)

put_decimal_same_length_2 : (t : ℕ) → put-decimal-lts.Need-shape_of-out (calls t) (put_decimal_at t) put-decimal.Post
put_decimal_same_length_2 t c = search rules

put_decimal_returns_2 : (t : ℕ) → put-decimal-lts.Need-returns (calls t) (put_decimal_at t) put-decimal.Post
put_decimal_returns_2 t c =
    let at_put_decimal_next = c.before.before.before.before.before.before in
    let at_if_n_lt10 = at_put_decimal_next.before.before in
    let at_start = at_if_n_lt10.before.before in
    in_words (andthen at_put_decimal_next.put_decimal-next.ensures c.before.before.put_byte-2.ensures) (more_digits _ at_if_n_lt10.if-n-lt10.false at_start.ranges.n.fits)

pub +put_decimal_spec : {M : Type 1} → statement M
+put_decimal_spec = close μ-put-decimal λ t. put-decimal-lts.spec (calls t)
    (put_decimal_at t)
    put-decimal.Post
    (put_decimal_cast_put_byte t)
    (put_decimal_add_put_byte t)
    (put_decimal_put_byte_requires t)
    (put_decimal_same_length t)
    (put_decimal_returns t)
    (put_decimal_put_decimal_requires t)
    (put_decimal_cast_put_byte_2 t)
    (put_decimal_add_put_byte_2 t)
    (put_decimal_put_byte_requires_2 t)
    (put_decimal_same_length_2 t)
    (put_decimal_returns_2 t)
