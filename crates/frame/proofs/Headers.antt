-- What stands where a frame may begin, by the first test that decides it. Assumes nothing.
use mathlib.Core.Path.{◌≡◌, refl, sym, ◌∙◌}
use Prim.Native.Nat.{ℕ, ◌+◌, ◌-◌, ◌≤◌, ◌<◌, min}
use native.Mathlib.Omega.{arith}
use mathlib.Core.Bool.{Bool, true, false, ◌&&◌}
use mathlib.Core.List.{List}
use lib.ListN.{length, take, drop, get_or}
use lib.Dec.{ltb}
use borrow.Author.Tests.{lt-ltb, le-ltb, eq-eqb, ne_eqb, ltb-false}
use Rattle.std.specs.Prelude.{Result, Ok, Err, Some, None}
use Rattle.format.specs.Bytes.{first}
use Rattle.format.specs.Refusals.{refusal, passed}
use Rattle.format.specs.declared.refusals.Refusal.{Refusal}
use Rattle.format.specs.Numbers.{number}
use Rattle.format.specs.Ids.{id_len, is_utf8}
use Rattle.format.specs.Frame.{head_len, frame_size, is_compressed, is_flagged, wants_whole, length_bytes, frame_checks, head, head_of}
use Rattle.format.specs.declared.Version.{Version}
use Rattle.format.specs.declared.Head.{Head}
use Rattle.format.proofs.Checks.{none_of, none_refused, none_else, first_stops}
use Rattle.frame.specs.Headers.{Begun}
use Rattle.frame.proofs.Passes.{passes, refuses}

-- ---- the first bytes

pub head_some : (v : Version) → 6 ≤ head_len v
head_some Version.Id3v22 = omega arith
head_some Version.Id3v23 = omega arith
head_some Version.Id3v24 = omega arith

-- ---- the first checks

module _ (v : Version) (depth : ℕ) (s : List ℕ) where
  pub too_deep : 8 < depth → ◌≡◌ {A = Result Unit Refusal} (Err (refusal 13)) (passed (first (take 4 (frame_checks v depth s))))
  unfolding first
  too_deep h = rw (lt-ltb 8 depth h)

  -- the depth passes: the id and the flags decide
  pub not_deep : depth ≤ 8 → first (drop 1 (take 4 (frame_checks v depth s))) ≡ first (take 4 (frame_checks v depth s))
  unfolding first
  not_deep h = rw (le-ltb 8 depth h)

-- ---- the header

module _ (v : Version) (depth : ℕ) (s : List ℕ) where
  -- the quiet end
  pub ends_short : length s < head_len v → Ok None ≡ head_of v depth s
  unfolding head_of
  ends_short h = rw (lt-ltb (length s) (head_len v) h)

  module _ (long : head_len v ≤ length s) where
    pub ends_padded : get_or s 0 0 ≡ 0 → Ok None ≡ head_of v depth s
    unfolding head_of
    ends_padded e = rw (le-ltb (length s) (head_len v) long, eq-eqb (get_or s 0 0) 0 e)

    refused : (get_or s 0 0 ≡ 0 → ⊥) → (k : ℕ) → (k ≡ 0 → ⊥) → first (frame_checks v depth s) ≡ k → Err (refusal k) ≡ head_of v depth s
    unfolding head_of
    refused some k ne e = rw (le-ltb (length s) (head_len v) long, ne_eqb (get_or s 0 0) 0 some, e, ne_eqb k 0 ne)

-- a frame begins
module _ (v : Version) (depth : ℕ) (s : List ℕ) (long : head_len v ≤ length s) (some : get_or s 0 0 ≡ 0 → ⊥) where
  -- its first checks decide
  pub refused_first : {e : Refusal} → ◌≡◌ {A = Result Unit Refusal} (Err e) (passed (first (take 4 (frame_checks v depth s)))) → Err e ≡ head_of v depth s
  refused_first {e} given =
      let checks : List ℕ = frame_checks v depth s in
      let d = refuses given in
      refused v depth s long some e.number (λ z. d.1 (sym d.0 ∙ z)) (first_stops (take 4 checks) (drop 4 checks) d.1 ∙ sym d.0)

  -- or they pass
  pub begun : ◌≡◌ {A = Result Unit Refusal} (Ok tt) (passed (first (take 4 (frame_checks v depth s)))) → (depth ≤ 8) × Begun v s
  begun given =
      let none = none_of (take 4 (frame_checks v depth s)) (passes given) in (
        ltb-false 8 depth (none_refused (ltb 8 depth) 12 (none 0)),
        record {
          long = long;
          some = some;
          utf8 = none_else (is_utf8 (take (id_len v) s)) 6 (none 1);
          plain = none_refused _ 7 (none 2);
          alone = none_refused _ 8 (none 3);
        },
      )

-- ---- the body

-- a check that is made of some editions only
only_if : (a : Bool) {t : Bool} → (a ≡ true → t ≡ false) → (a && t) ≡ false
only_if true h = h refl
only_if false h = refl

module _ (v : Version) (s : List ℕ) (b : Begun v s) (depth : ℕ) (shallow : depth ≤ 8) where
  checks_left : first (frame_checks v depth s) ≡ first (drop 4 (frame_checks v depth s))
  unfolding first
  checks_left = rw (le-ltb 8 depth shallow, b.utf8, b.plain, b.alone)

  module _ (n : ℕ) (is_length : n ≡ length_bytes v s) where
    pub no_length : length s < head_len v + n → Err (refusal 5) ≡ head_of v depth s
    unfolding first
    no_length h = refused v depth s b.long b.some 5 (λ z. omega arith) (checks_left ∙ rw (← is_length, lt-ltb (length s) (head_len v + n) h))

    module _ (there : head_len v + n ≤ length s) (whole : ℕ) (is-size : whole ≡ frame_size v s) where
      pub too_small : wants_whole v ≡ true → whole < n → Err (refusal 10) ≡ head_of v depth s
      unfolding first
      too_small w h =
          refused v depth s b.long b.some 10 (λ z. omega arith)
          (checks_left ∙ rw (← is_length, le-ltb (length s) (head_len v + n) there, ← is-size, w, lt-ltb whole n h))

      module _ (size : ℕ) (is_IsBody : size ≡ whole - n) where
        pub not_whole : wants_whole v ≡ true → n ≤ whole → length s - (head_len v + n) < size → Err (refusal 5) ≡ head_of v depth s
        unfolding first
        not_whole w hn h =
            refused v depth s b.long b.some 5 (λ z. omega arith)
            (checks_left
            ∙ rw (
              ← is_length,
              le-ltb (length s) (head_len v + n) there,
              ← is-size,
              w,
              le-ltb whole n hn,
              ← is_IsBody,
              lt-ltb (length s - (head_len v + n)) size h,
            ))

        pub found : (wants_whole v ≡ true → (n ≤ whole) × (size ≤ length s - (head_len v + n))) → (id : ℕ) → id ≡ number (take (id_len v) s)
            → (compressed flagged : Bool) → compressed ≡ is_compressed v s → flagged ≡ is_flagged v s → (h : Head)
            → h ≡ head id compressed flagged (ltb (length s - (head_len v + n)) size) (head_len v + n) (min size (length s - (head_len v + n)))
            → Ok (Some h) ≡ head_of v depth s
        unfolding head_of first
        found w id is_id_lem compressed flagged is_compressed_lem is_flagged_lem h is_found =
            rw (
              is_found,
              is_id_lem,
              is_compressed_lem,
              is_flagged_lem,
              le-ltb (length s) (head_len v) b.long,
              ne_eqb (get_or s 0 0) 0 b.some,
              checks_left,
              ← is_length,
              le-ltb (length s) (head_len v + n) there,
              ← is-size,
              only_if (wants_whole v) (λ e. le-ltb whole n (w e).0),
              ← is_IsBody,
              only_if (wants_whole v) (λ e. le-ltb (length s - (head_len v + n)) size (w e).1),
            )
