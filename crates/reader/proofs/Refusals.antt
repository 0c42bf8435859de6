-- The checks of the header: the first that fails, and what is known where none does. Assumes nothing.
use mathlib.Core.Path.{◌≡◌, refl, sym}
use Prim.Native.Nat.{ℕ, zero, suc, ◌+◌, ◌%◌, ◌≤◌, ◌<◌, min}
use native.Mathlib.Omega.{arith}
use mathlib.Core.Bool.{true, false, ◌&&◌, and-false}
use mathlib.Core.List.{List, [], ◌∷◌}
use lib.ListN.{length, take, get_or, length-take}
use lib.Seq.{slice}
use lib.Dec.{ltb, eqb}
use borrow.Author.Tests.{leb-true, ltb-false, lt-ltb, le-ltb, ne_eqb}
use Rattle.laws.proofs.Bools.{and_true}
use Rattle.format.specs.Bytes.{first}
use Rattle.format.specs.Numbers.{from_synchsafe}
use Rattle.format.specs.Header.{edition_of, flags_of, size_of, cut_of, is_extended, ext_of, header_checks, header_refusal}
use Rattle.format.specs.Numbered.{is_version}
use Rattle.format.proofs.Checks.{first_none, none_of, none_refused, none_else}
use Rattle.reader.specs.Headers.{is_tag}

-- those before place i pass, and the one there gives a number: it is the first that fails
first_at : (i k : ℕ) (l : List ℕ) → first (take i l) ≡ 0 → get_or l i 0 ≡ suc k → suc k ≡ first l
unfolding first
first_at i k [] p e = absurd (omega arith)
first_at zero k (x ∷ l) p e = rw (e, ne_eqb (suc k) 0 (λ z. omega arith))
first_at (suc i) k (x ∷ l) p e =
    let h = first_none x (take i l) p in
    rw h.0 (first_at i k l h.1 e)

-- where a tag of some size ends
pub cut_end : (tag : List ℕ) {size end : ℕ} → size ≡ size_of tag → end ≡ min (10 + size) (length tag) → end ≡ length (cut_of tag)
cut_end tag e is = rw (is, e) (sym (length-take (10 + size_of tag) tag))

-- ---- the first that fails

pub no_tag : (tag : List ℕ) → is_tag tag ≡ false → 1 ≡ header_refusal tag
unfolding first header_refusal
no_tag tag e = first_at 0 0 (header_checks tag) refl (rw e)

module _ (tag : List ℕ) (is : is_tag tag ≡ true) where
  pub long : 10 ≤ length tag
  long = leb-true 10 _ (and_true _ _ is).0

  pub unknown_version : is_version (edition_of tag) ≡ false → 2 ≡ header_refusal tag
  unfolding first header_refusal
  unknown_version e = first_at 1 1 (header_checks tag) (rw is) (rw e)

  module _ (known : is_version (edition_of tag) ≡ true) where
    pub unknown_flags : (flags_of tag % 16 ≡ 0 → ⊥) → 3 ≡ header_refusal tag
    unfolding first header_refusal
    unknown_flags ne = first_at 2 2 (header_checks tag) (rw (is, known)) (rw (ne_eqb _ 0 ne))

-- the first three checks pass
pub record Begun (tag : List ℕ) : Type 0 where
  pub is : is_tag tag ≡ true
  pub known : is_version (edition_of tag) ≡ true
  pub clear : flags_of tag % 16 ≡ 0

module _ {tag : List ℕ} (b : Begun tag) where
  pub no_extended : is_extended tag ≡ false → 0 ≡ header_refusal tag
  unfolding first header_refusal
  no_extended e = rw (b.is, b.known, b.clear, e, and-false)

  -- ---- the extended header

  module _ (there : is_extended tag ≡ true) where
    pub compressed : edition_of tag ≡ 2 → 4 ≡ header_refusal tag
    unfolding first header_refusal
    compressed e = first_at 3 3 (header_checks tag) (rw (b.is, b.known, b.clear)) (rw (e, there))

    module _ (ne : edition_of tag ≡ 2 → ⊥) where
      plain : (eqb (edition_of tag) 2 && is_extended tag) ≡ false
      plain = rw (ne_eqb _ 2 ne)

      pub missing_bytes : length (cut_of tag) < 16 → 5 ≡ header_refusal tag
      unfolding first header_refusal
      missing_bytes h =
          first_at 4 4 (header_checks tag) (rw (b.is, b.known, b.clear, plain)) (rw (there, lt-ltb (length (cut_of tag)) 16 h))

      -- it is there: its size decides
      module _ (h : 16 ≤ length (cut_of tag)) where
        abbrev size : ℕ
        size = from_synchsafe (slice 10 14 tag)

        pub small_extended : size < 6 → 6 ≡ header_refusal tag
        unfolding first header_refusal ext_of
        small_extended less =
            first_at 5 5 (header_checks tag) (rw (b.is, b.known, b.clear, plain, there, le-ltb (length (cut_of tag)) 16 h)) (rw (there, lt-ltb size 6 less))

        pub extended : 6 ≤ size → 0 ≡ header_refusal tag
        unfolding first header_refusal ext_of
        extended more = rw (b.is, b.known, b.clear, plain, there, le-ltb (length (cut_of tag)) 16 h, le-ltb size 6 more)

-- ---- none of them fails

pub record Accepted (tag : List ℕ) : Type 0 where
  pub begun : 10 ≤ length tag
  pub least : 2 ≤ edition_of tag
  pub most : edition_of tag ≤ 4
  pub there : is_extended tag ≡ true → 16 ≤ length tag

pub accepted : (tag : List ℕ) → header_refusal tag ≡ 0 → Accepted tag
unfolding header_refusal
accepted tag e =
    let none = none_of (header_checks tag) e in
    let known = and_true _ _ (none_else (is_version (edition_of tag)) 1 (none 1)) in
    record {
      begun = leb-true 10 _ (and_true _ _ (none_else (is_tag tag) 0 (none 0))).0;
      least = leb-true 2 _ known.0;
      most = leb-true _ 4 known.1;
      there = λ x.
          let l : ltb (length (cut_of tag)) 16 ≡ false = rw x at (none_refused (is_extended tag && ltb (length (cut_of tag)) 16) 4 (none 4)) in
          omega (arith, ltb-false (length (cut_of tag)) 16 l, length-take (10 + size_of tag) tag);
    }
