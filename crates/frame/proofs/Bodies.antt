-- The answers of the functions that read a body, a law for each case. Assumes nothing.
use mathlib.Core.Path.{◌≡◌, refl, ap}
use Prim.Native.Nat.{ℕ, suc, ◌+◌, ◌-◌, ◌/◌, ◌%◌, ◌^◌, ◌<◌, ◌≤◌, min}
use native.Mathlib.Nat.{div-one}
use native.Mathlib.Omega.{arith}
use mathlib.Core.Bool.{true, false}
use mathlib.Core.List.{List}
use lib.ListN.{length, take, drop, get_or}
use lib.Seq.{slice, take_all, take-length}
use lib.Dec.{eqb, leb}
use borrow.Author.Tests.{eq-eqb, ne_eqb, le-leb, lt-leb, lt-ltb, le-ltb}
use Rattle.laws.proofs.Cuts.{length_cut, take_drop}
use Rattle.laws.proofs.Slices.{slice_drop, slice_cut}
use Rattle.format.specs.Bytes.{first, span, zero_at, zeros_in}
use Rattle.format.specs.Numbers.{number}
use Rattle.format.specs.Text.{text_end}
use Rattle.format.specs.Table.{width_checks}
use Rattle.format.specs.Chapter.{names_len}
use Rattle.format.specs.Record.{body_refusal, parts_of, nowhere}
use Rattle.format.proofs.Popularimeter.{counted_taken}
use Rattle.format.specs.declared.Version.{Version}
use Rattle.format.specs.declared.Kind.{Kind}
use Rattle.format.specs.declared.Fields.{Fields}
use Rattle.format.specs.declared.Parts.{Parts}
use Rattle.format.specs.declared.Span.{Span}
use Rattle.frame.specs.Bodies.{parsed_of}
use Rattle.frame.proofs.Children.{names_within}
use Rattle.std.specs.Prelude.{Ok, Err}
use Rattle.format.specs.Refusals.{refusal}

-- ---- any kind, of a body that was taken from its buffer

module _ (v : Version) (kind : Kind) (at : ℕ) (b body : List ℕ) (same : b ≡ body) where
  pub refused_as : (k : ℕ) → body_refusal kind b ≡ k → (k ≡ 0 → ⊥) → Err (refusal k) ≡ parsed_of v kind at body
  unfolding parsed_of
  refused_as k e some = rw (← same, e, ne_eqb k 0 some)

  pub refused : (k : ℕ) → body_refusal kind b ≡ suc k → Err (refusal (suc k)) ≡ parsed_of v kind at body
  refused k e = refused_as (suc k) e (λ z. omega arith)

  pub accepted : (p : Parts) → body_refusal kind b ≡ 0 → p ≡ parts_of v kind at b → Ok p ≡ parsed_of v kind at body
  unfolding parsed_of
  accepted p e f = rw (← same, e, f)

-- ---- text

module _ (b : List ℕ) where
  pub text_empty : length b ≡ 0 → body_refusal Kind.Text b ≡ 11
  unfolding body_refusal first
  text_empty h = rw (eq-eqb (length b) 0 h)

  module _ (some : length b ≡ 0 → ⊥) where
    pub text_unknown : 4 ≤ get_or b 0 0 → body_refusal Kind.Text b ≡ 12
    unfolding body_refusal first
    text_unknown h = rw (ne_eqb (length b) 0 some, le-leb 4 (get_or b 0 0) h)

    pub text_known : get_or b 0 0 < 4 → body_refusal Kind.Text b ≡ 0
    unfolding body_refusal first
    text_known h = rw (ne_eqb (length b) 0 some, lt-leb 4 (get_or b 0 0) h)

pub text_parts : (v : Version) (at : ℕ) (b : List ℕ) (n : ℕ) (none : Span) → n ≡ text_end v (get_or b 0 0) (slice 1 (length b) b) → none ≡ nowhere
    → record { fields = Fields.Text (get_or b 0 0); name = none; names = none; rest = span (at + 1) n } ≡ parts_of v Kind.Text at b
unfolding parts_of
text_parts v at b n none e f = rw (e, f, take-length)

-- ---- popularimeters

-- the counter where it lies in the buffer
pub counter_lies : (from to len : ℕ) (s b : List ℕ) → b ≡ slice from to s → len + 1 < length b
    → slice (from + len + 2) (from + length b) s ≡ drop (len + 2) b
counter_lies from to len s b same h =
    let begin : from + len + 2 ≡ from + (len + 2) = omega arith in
    let end : from + length b ≡ min to (length s) = omega (arith, ap length same, length_cut from to s) in
    rw (begin, slice_drop from (len + 2) (from + length b) s, slice_cut from to (from + length b) s end, same)

module _ (b : List ℕ) (len : ℕ) (zero : len ≡ zero_at b) where
  pub popularimeter_cut : length b ≤ len + 1 → body_refusal Kind.Popularimeter b ≡ 11
  unfolding body_refusal first
  popularimeter_cut h = rw (← zero, le-ltb (len + 1) (length b) h)

  module _ (rated : len + 1 < length b) where
    pub popularimeter_large : 2 ^ 64 ≤ number (drop (len + 2) b) → body_refusal Kind.Popularimeter b ≡ 35
    unfolding body_refusal first
    popularimeter_large h = rw (← zero, lt-ltb (len + 1) (length b) rated, le-ltb (number (drop (len + 2) b)) (2 ^ 64) h)

    pub popularimeter_whole : number (drop (len + 2) b) < 2 ^ 64 → body_refusal Kind.Popularimeter b ≡ 0
    unfolding body_refusal
    popularimeter_whole h = counted_taken (record { rated = rw (← zero) rated; fits = rw (← zero) h })

  pub popularimeter_parts : (v : Version) (at counter : ℕ) (none : Span) → counter ≡ number (drop (len + 2) b) → none ≡ nowhere
      → record { fields = Fields.Popularimeter (get_or b (len + 1) 0) counter; name = span at len; names = none; rest = none } ≡ parts_of v Kind.Popularimeter at b
  unfolding parts_of
  popularimeter_parts v at counter none e f = rw (← zero, e, f)

-- ---- lookup tables

-- a number of no more bytes than are read
pub short_cut : (n f t : ℕ) (b : List ℕ) → t ≤ f + n → take n (slice f t b) ≡ slice f t b
short_cut n f t b h = take_all n (slice f t b) (omega (arith, length_cut f t b))

module _ (b : List ℕ) where
  pub table_cut : length b < 10 → body_refusal Kind.Table b ≡ 11
  unfolding body_refusal first
  table_cut h = rw (lt-ltb (length b) 10 h)

  pub table_checked : 10 ≤ length b → body_refusal Kind.Table b ≡ first (width_checks (get_or b 8 0) (get_or b 9 0))
  unfolding body_refusal first
  table_checked h = rw (le-ltb (length b) 10 h)

  pub table_parts : (v : Version) (at x y z : ℕ) (none : Span)
      → x ≡ number (take 2 (slice 0 2 b)) → y ≡ number (take 3 (slice 2 5 b)) → z ≡ number (take 3 (slice 5 8 b)) → none ≡ nowhere
      → record { fields = Fields.Table x y z (get_or b 8 0) (get_or b 9 0); name = none; names = none; rest = span (at + 10) (length b - 10) } ≡ parts_of v Kind.Table at b
  unfolding parts_of
  table_parts v at x y z none ex ey ez f =
      rw (ex, ey, ez, f, short_cut 2 0 2 b (omega arith), short_cut 3 2 5 b (omega arith), short_cut 3 5 8 b (omega arith))

-- ---- chapters

module _ (b : List ℕ) (len : ℕ) (zero : len ≡ zero_at b) where
  pub chapter_cut : length b < len + 17 → body_refusal Kind.Chapter b ≡ 11
  unfolding body_refusal
  chapter_cut h = rw (← zero, lt-leb (len + 17) (length b) h)

  pub chapter_whole : len + 17 ≤ length b → body_refusal Kind.Chapter b ≡ 0
  unfolding body_refusal
  chapter_whole h = rw (← zero, le-leb (len + 17) (length b) h)

  abbrev time_at : ℕ → ℕ
  time_at at = number (slice at (at + 4) b)

  pub chapter_parts : (v : Version) (at t u w x : ℕ) (none : Span) → t ≡ time_at (len + 1) → u ≡ time_at (len + 5) → w ≡ time_at (len + 9) → x ≡ time_at (len + 13) → none ≡ nowhere
      → record { fields = Fields.Chapter t u w x; name = span at len; names = none; rest = span (at + (len + 17)) (length b - (len + 17)) } ≡ parts_of v Kind.Chapter at b
  unfolding parts_of
  chapter_parts v at t u w x none et eu ew ex f = rw (← zero, et, eu, ew, ex, f, take_drop 4 (len + 1) b, take_drop 4 (len + 5) b, take_drop 4 (len + 9) b, take_drop 4 (len + 13) b)

-- ---- tables of contents

module _ (b : List ℕ) (len : ℕ) (zero : len ≡ zero_at b) where
  pub contents_cut : length b < len + 3 → body_refusal Kind.Contents b ≡ 11
  unfolding body_refusal
  contents_cut h = rw (← zero, lt-leb (len + 3) (length b) h)

  module _ (names : List ℕ) (behind : names ≡ slice (len + 3) (length b) b) where
    names_behind : names ≡ drop (len + 3) b
    names_behind = rw take-length at behind

    module _ (reaches : len + 3 ≤ length b) where
      pub contents_missing : leb (get_or b (len + 2) 0) (zeros_in names) ≡ false → body_refusal Kind.Contents b ≡ 11
      unfolding body_refusal
      contents_missing h = rw (← zero, le-leb (len + 3) (length b) reaches, ← names_behind, h)

      pub contents_whole : leb (get_or b (len + 2) 0) (zeros_in names) ≡ true → body_refusal Kind.Contents b ≡ 0
      unfolding body_refusal
      contents_whole h = rw (← zero, le-leb (len + 3) (length b) reaches, ← names_behind, h)

      -- the names lie within the body
      pub contents_within : (k n : ℕ) → n ≡ names_len k names → len + 3 + n ≤ length b
      contents_within k n e = omega (arith, names_within k names, ap length behind, length_cut (len + 3) (length b) b)

    pub contents_parts : (v : Version) (at n : ℕ) → n ≡ names_len (get_or b (len + 2) 0) names
        → record {
          fields = Fields.Contents (eqb (get_or b (len + 1) 0 / 2 % 2) 1) (eqb (get_or b (len + 1) 0 % 2) 1);
          name = span at len;
          names = span (at + (len + 3)) n;
          rest = span (at + (len + 3 + n)) (length b - (len + 3 + n));
        } ≡ parts_of v Kind.Contents at b
    unfolding parts_of
    contents_parts v at n e = rw (← zero, ← names_behind, ← e, div-one)

-- ---- raw bodies

pub raw_taken : (b : List ℕ) → body_refusal Kind.Raw b ≡ 0
unfolding body_refusal
raw_taken b = refl

pub raw_parts : (v : Version) (at : ℕ) (b : List ℕ) (none : Span) → none ≡ nowhere
    → record { fields = Fields.Raw; name = none; names = none; rest = span at (length b) } ≡ parts_of v Kind.Raw at b
unfolding parts_of
raw_parts v at b none f = rw f
