-- A chapter that was encoded is read back. Assumes nothing.
use mathlib.Core.Path.{◌≡◌, ap, ◌∙◌}
use Prim.Native.Nat.{ℕ, ◌+◌, ◌*◌, ◌^◌, ◌≤◌, ◌<◌}
use native.Mathlib.Omega.{arith}
use mathlib.Core.List.{List, [], ◌∷◌, ◌++◌}
use lib.ListN.{length, take, drop, get_or}
use borrow.Author.Tests.{le-leb}
use Rattle.laws.proofs.Slices.{blocks, block_at, drop_blocks, length_blocks}
use Rattle.format.specs.Bytes.{zero_at}
use Rattle.format.specs.Numbers.{number, bytes_of}
use Rattle.format.specs.Chapter.{time_in, chapter_run}
use Rattle.format.specs.Record.{body_refusal, run_of, parts_of, chapter}
use Rattle.format.specs.Encode.{body_bytes}
use Rattle.format.specs.declared.Version.{Version}
use Rattle.format.proofs.Numbers.{length_digits, number_back}
use Rattle.format.proofs.Zeros.{length_named, drop_name}
use Rattle.format.proofs.ReadBack.{ReadBack, part_rest, part_name}

-- ---- element id, zero, any numbers of four bytes, run

abbrev timed : List ℕ → List ℕ → List ℕ → List ℕ
timed element times run = element ++ (0 ∷ blocks (bytes_of 4) times run)

module _ (element times run : List ℕ) (none : zero_at element ≡ length element) where
  time_back : (i : ℕ) → i < length times → get_or times i 0 < 2 ^ 32 → time_in i (timed element times run) ≡ get_or times i 0
  time_back i h small =
      ap (λ (s : List ℕ). number (take 4 s)) (drop_name element (blocks (bytes_of 4) times run) none (4 * i))
      ∙ ap number (block_at (bytes_of 4) 4 (length_digits 256 4) times run i h)
      ∙ number_back 4 (get_or times i 0) small

  run_back : drop (zero_at (timed element times run) + (1 + 4 * length times)) (timed element times run) ≡ run
  run_back =
      drop_name element (blocks (bytes_of 4) times run) none (4 * length times)
      ∙ drop_blocks (bytes_of 4) 4 (length_digits 256 4) times run

  -- the run begins within the body
  run_within_lem : zero_at (timed element times run) + (1 + 4 * length times) ≤ length (timed element times run)
  run_within_lem =
      omega
      (arith, length_named element (blocks (bytes_of 4) times run) none, length_blocks (bytes_of 4) 4 (length_digits 256 4) times run)

-- ---- the body

pub chapter_back : (v : Version) (element : List ℕ) (a b c d : ℕ) (run : List ℕ) → zero_at element ≡ length element
    → a < 2 ^ 32 → b < 2 ^ 32 → c < 2 ^ 32 → d < 2 ^ 32 → ReadBack v (chapter element a b c d run)
unfolding body_refusal run_of parts_of body_bytes
chapter_back v element a b c d run none a4 b4 c4 d4 =
    let times : List ℕ = a ∷ b ∷ c ∷ d ∷ [] in
    let body = timed element times run in
    let within : chapter_run body ≤ length body = run_within_lem element times run none in
    let rest : drop (chapter_run body) body ≡ run = run_back element times run none in
    let time = time_back element times run none in
    record {
      taken = rw le-leb;
      run = rest;
      view =
          λ at s lies.
          rw (
            part_name at element (blocks (bytes_of 4) times run) s none lies,
            time 0 (omega arith) a4,
            time 1 (omega arith) b4,
            time 2 (omega arith) c4,
            time 3 (omega arith) d4,
            part_rest at (chapter_run body) body s lies within,
            rest,
          );
    }
