-- A table of contents that was encoded is read back. Assumes nothing.
use mathlib.Core.Path.{◌≡◌, refl, sym, ap, ◌∙◌}
use Prim.Native.Nat.{ℕ, ◌+◌, ◌≤◌}
use native.Mathlib.Omega.{arith}
use mathlib.Core.Bool.{Bool, true, false}
use mathlib.Core.List.{List, ◌∷◌, ◌++◌}
use lib.ListN.{length, take, drop, length-append}
use lib.Seq.{take-append_seam, drop-append_seam, drop-drop}
use borrow.Author.Tests.{le-leb}
use Rattle.format.specs.Bytes.{has, zero_at, zeros_in}
use Rattle.format.specs.Chapter.{flag_byte, count_in, after_count, names_in, top_level_in, ordered_in, contents_run, contents_body}
use Rattle.format.specs.Record.{body_refusal, run_of, parts_of, contents}
use Rattle.format.specs.Encode.{body_bytes, last_or}
use Rattle.format.specs.declared.Version.{Version}
use Rattle.format.proofs.Zeros.{length_named, drop_name, get_d_name, zeros_append, names_back}
use Rattle.format.proofs.ReadBack.{ReadBack, part_in_lem, part_rest, part_name}

-- ---- the flags

top_level_back : (t o : Bool) → has 2 (flag_byte t o) ≡ t
top_level_back true true = refl
top_level_back true false = refl
top_level_back false true = refl
top_level_back false false = refl

ordered_back : (t o : Bool) → has 1 (flag_byte t o) ≡ o
ordered_back true true = refl
ordered_back true false = refl
ordered_back false true = refl
ordered_back false false = refl

-- ---- the body

pub contents_back : (v : Version) (element : List ℕ) (topLevel ordered : Bool) (children run : List ℕ) → zero_at element ≡ length element
    → zeros_in children ≤ 255 → last_or 0 children ≡ 0 → ReadBack v (contents element topLevel ordered children run)
unfolding body_refusal run_of parts_of body_bytes
contents_back v element t o children run none few closed =
    let z : List ℕ = flag_byte t o ∷ zeros_in children ∷ children ++ run in
    let b = contents_body element t o children run in
    let top : top_level_in b ≡ t = ap (has 2) (get_d_name element z none 0) ∙ top_level_back t o in
    let order : ordered_in b ≡ o = ap (has 1) (get_d_name element z none 0) ∙ ordered_back t o in
    let count : count_in b ≡ zeros_in children = get_d_name element z none 1 in
    let after : after_count b ≡ children ++ run = drop_name element z none 2 in
    let len : length b ≡ zero_at b + 3 + (length children + length run) = omega (arith, length_named element z none, length-append children run) in
    let names : names_in b ≡ length children = rw (count, after) (names_back 0 children run closed) in
    let named : take (names_in b) (after_count b) ≡ children = rw (names, after) (take-append_seam children run) in
    let behind : drop (names_in b) (after_count b) ≡ run = rw (names, after) (drop-append_seam children run) in
    let rest : drop (contents_run b) b ≡ run = sym (drop-drop (names_in b) (zero_at b + 3) b) ∙ behind in
    let reaches : zero_at b + 3 ≤ length b = omega arith in
    let enough : count_in b ≤ zeros_in (after_count b) = rw (count, after, zeros_append) (omega arith) in
    let within : contents_run b ≤ length b = omega arith in
    record {
      taken = rw (le-leb (zero_at b + 3) (length b) reaches, le-leb (count_in b) (zeros_in (after_count b)) enough);
      run = rest;
      view =
          λ at s lies.
          rw (
            part_name at element z s none lies,
            top,
            order,
            part_in_lem at (zero_at b + 3) (names_in b) b s lies within,
            named,
            part_rest at (contents_run b) b s lies within,
            rest,
          );
    }
