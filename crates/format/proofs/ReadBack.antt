-- What it means that a body is read back as the content it was written from; each kind has its proof in a file of its own. Assumes nothing.
use mathlib.Core.Path.{◌≡◌, refl, sym, ap, ◌∙◌}
use Prim.Native.Nat.{ℕ, zero, suc, ◌+◌, ◌-◌, ◌≤◌}
use native.Mathlib.Omega.{arith}
use mathlib.Core.List.{List, [], ◌∷◌, ◌++◌}
use lib.ListN.{length, take, drop, length-drop}
use lib.Seq.{drop-drop, take-take, take_all}
use Rattle.laws.proofs.Slices.{take_drop_take}
use Rattle.format.specs.Bytes.{span, part, zero_at}
use Rattle.format.specs.Record.{body_refusal, run_of, parts_of, content_of, deviations_of, Content, text, popularimeter, table, chapter, contents, raw}
use Rattle.format.specs.Encode.{kind_in, body_bytes}
use Rattle.format.specs.declared.Version.{Version}
use Rattle.format.specs.declared.Kind.{Kind}
use Rattle.format.proofs.Zeros.{length_named, take_name}

-- the run of subframes that a content has
abbrev pub run_in : Content → List ℕ
run_in (text e s) = []
run_in (popularimeter user r c) = []
run_in (table f b m v w ds) = []
run_in (chapter element a b c d run) = run
run_in (contents element t o children run) = run
run_in (raw body) = []

-- what the parts of a body b at a place show in a buffer s
abbrev pub seen : Version → Kind → ℕ → List ℕ → List ℕ → Content
seen v kind at b s =
    let p = parts_of v kind at b in
    content_of p.fields (part p.name s) (part p.names s) (part p.rest s) (deviations_of p.fields (part p.rest s))

-- The body is not refused, its run is the content's, and wherever it lies its parts show the content.
pub record ReadBack (v : Version) (c : Content) : Type 0 where
  pub taken : body_refusal (kind_in c) (body_bytes c) ≡ 0
  pub run : run_of (kind_in c) (body_bytes c) ≡ run_in c
  pub view : (at : ℕ) (s : List ℕ) → take (length (body_bytes c)) (drop at s) ≡ body_bytes c → seen v (kind_in c) at (body_bytes c) s ≡ c

-- ---- a part of a body, taken in the buffer that the body lies in

pub part_in_lem : (at k l : ℕ) (b s : List ℕ) → take (length b) (drop at s) ≡ b → k + l ≤ length b → part (span (at + k) l) s ≡ take l (drop k b)
part_in_lem at k l b s e h =
    ap (take l) (sym (drop-drop k at s)) ∙ sym (take_drop_take l k (length b) (drop at s) h) ∙ ap (λ (x : List ℕ). take l (drop k x)) e

-- the same at the body's front
pub part_front : (at l : ℕ) (b s : List ℕ) → take (length b) (drop at s) ≡ b → l ≤ length b → part (span at l) s ≡ take l b
part_front at l b s e h = sym (take-take l (length b) (drop at s) h) ∙ ap (take l) e

-- from a place in the body to its end
pub part_rest : (at k : ℕ) (b s : List ℕ) → take (length b) (drop at s) ≡ b → k ≤ length b → part (span (at + k) (length b - k)) s ≡ drop k b
part_rest at k b s e h =
    part_in_lem at k (length b - k) b s e (omega arith) ∙ take_all (length b - k) (drop k b) (omega (arith, length-drop k b))

-- a name before the body's first zero
pub part_name : (at : ℕ) (name z s : List ℕ) → zero_at name ≡ length name → take (length (name ++ (0 ∷ z))) (drop at s) ≡ name ++ (0 ∷ z)
    → part (span at (zero_at (name ++ (0 ∷ z)))) s ≡ name
part_name at name z s none e =
    let b = name ++ (0 ∷ z) in
    part_front at (zero_at b) b s e (omega (arith, length_named name z none)) ∙ take_name name z none
