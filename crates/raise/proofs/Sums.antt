-- The sum and its refusals. Assumes nothing.
use mathlib.Core.Path.{◌≡◌}
use Prim.Native.Nat.{ℕ, ◌+◌, ◌-◌, ◌^◌, ◌≤◌, ◌<◌}
use mathlib.Core.Bool.{true, false, and-false}
use mathlib.Core.List.{List}
use lib.ListN.{length}
use lib.Seq.{sets}
use lib.Dec.{ltb}
use borrow.Author.Tests.{lt-ltb, le-ltb, le-leb, lt-leb}
use Rattle.format.specs.Numbers.{bytes_of}
use Rattle.raise.specs.Raise.{Answer}
use Rattle.raise.specs.Seeks.{is_field, raised_at}
use Rattle.std.specs.Prelude.{Ok, Err}
use Rattle.format.specs.Refusals.{refusal}

-- the bytes from start up to stop
module _ (start stop : ℕ) (tag : List ℕ) where
  pub field_back : stop < start → is_field start stop tag ≡ false
  field_back lt = rw (lt-leb start stop lt)

  module _ (le : start ≤ stop) where
    pub field_past : length tag < stop → is_field start stop tag ≡ false
    field_past lt = rw (le-leb start stop le, lt-leb stop (length tag) lt)

    pub field_there : stop ≤ length tag → is_field start stop tag ≡ true
    field_there there = rw (le-leb start stop le, le-leb stop (length tag) there)

module _ (start stop counter amount : ℕ) (tag : List ℕ) where
  pub sum_large : 2 ^ 64 ≤ counter + amount → ◌≡◌ {A = Answer} (Err (refusal 43), tag) (raised_at start stop counter amount tag)
  unfolding raised_at
  sum_large h = rw (le-ltb (counter + amount) (2 ^ 64) h)

  module _ (small : counter + amount < 2 ^ 64) where
    pub sum_wide : ltb (counter + amount) (256 ^ (stop - start)) ≡ false → ◌≡◌ {A = Answer} (Err (refusal 44), tag) (raised_at start stop counter amount tag)
    unfolding raised_at
    sum_wide h = rw (lt-ltb (counter + amount) (2 ^ 64) small, h, and-false)

    -- no such bytes
    pub sum_nowhere : is_field start stop tag ≡ false → ◌≡◌ {A = Answer} (Err (refusal 44), tag) (raised_at start stop counter amount tag)
    unfolding raised_at
    sum_nowhere h = rw (lt-ltb (counter + amount) (2 ^ 64) small, h)

    pub sum_stored : is_field start stop tag ≡ true → ltb (counter + amount) (256 ^ (stop - start)) ≡ true → (after : List ℕ) → after ≡ sets tag start (bytes_of (stop - start) (counter + amount))
        → ◌≡◌ {A = Answer} (Ok (counter + amount), after) (raised_at start stop counter amount tag)
    unfolding raised_at
    sum_stored f h after e = rw (lt-ltb (counter + amount) (2 ^ 64) small, f, h, e)
