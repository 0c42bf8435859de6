-- The quiet end, the first checks, and the body of the edition. Assumes nothing.
use mathlib.Core.Path.{◌≡◌, ap, subst, ◌∙◌}
use Prim.Native.Nat.{ℕ, ◌≤◌}
use mathlib.Core.List.{List}
use Rattle.std.specs.Prelude.{Result, Option}
use Rattle.std.proofs.lemmas.Result.{err_from_is_err_and}
use Rattle.format.specs.Frame.{head_of}
use Rattle.format.specs.declared.Version.{Version}
use Rattle.format.specs.declared.Version.TheVariants.{Id3v22, Id3v23, Id3v24}
use Rattle.format.specs.declared.Head.{Head}
use Rattle.format.specs.declared.refusals.Refusal.{Refusal}
use Rattle.frame.specs.Headers.{Begun}
use Rattle.frame.proofs.Headers.{ends_short, ends_padded, refused_first, begun}
use Rattle.frame.proofs.heads.decode.Goals as goal
use Rattle.frame.proofs.heads.decode.Goals.{then-b-head_len-via-then-b-head_len, then-b-head_len-via-else-b-head_len+then-b-eq0}

-- what is found in the front b of what is there, of the edition that it is
decoded : (version v : Version) (depth : ℕ) (b part : List ℕ) → version ≡ v → depth ≤ 8 → b ≡ part
    → (h : Result (Option Head) Refusal) → ((depth : ℕ) → depth ≤ 8 → h ≡ head_of v depth b) → h ≡ head_of version depth part
decoded version v depth b part is shallow same h e = rw (is, ← same) (e depth shallow)

pub returns-then-b-head_len : goal.returns-then-b-head_len
returns-then-b-head_len c =
    let a = c.args in
    let b = c.part-b.result.now in
    elim c.then-b-head_len.branch [
      | then-b-head_len-via-then-b-head_len w ↦ ends_short a.version a.depth b (rw c.head_len.ensures.0 at w.if-b-head_len.true) ∙ ap (head_of a.version a.depth) c.part-b.ensures
      | then-b-head_len-via-else-b-head_len+then-b-eq0 w ↦
          ends_padded a.version a.depth b (rw c.head_len.ensures.0 at w.if-b-head_len.false) w.if-b-eq0.true ∙ ap (head_of a.version a.depth) c.part-b.ensures
    ]

pub returns-in_err-first_refusal : goal.returns-in_err-first_refusal
returns-in_err-first_refusal c =
    let a = c.args in
    let p = err_from_is_err_and c.from_residual.result c.from_residual.ensures.1 in
    rw (p.1, p.2) (refused_first a.version a.depth c.part-b.result.now (rw c.head_len.ensures.0 at c.if-b-head_len.false) c.if-b-eq0.false c.in_err-first_refusal.ensures
    ∙ ap (head_of a.version a.depth) c.part-b.ensures)

pub with_body-requires : goal.with_body-requires
with_body-requires c =
    let a = c.args in
    let d = begun a.version a.depth c.part-b.result.now (rw c.head_len.ensures.0 at c.if-b-head_len.false) c.if-b-eq0.false c.in_ok-first_refusal.ensures in
    subst (λ (v : Version). Begun v c.part-b.result.now) c.in-Id3v22.is d.1

pub with_body-requires-in-Id3v23 : goal.with_body-requires-in-Id3v23
with_body-requires-in-Id3v23 c =
    let a = c.args in
    let d = begun a.version a.depth c.part-b.result.now (rw c.head_len.ensures.0 at c.if-b-head_len.false) c.if-b-eq0.false c.in_ok-first_refusal.ensures in
    subst (λ (v : Version). Begun v c.part-b.result.now) c.in-Id3v23.is d.1

pub with_body-requires-in-Id3v24 : goal.with_body-requires-in-Id3v24
with_body-requires-in-Id3v24 c =
    let a = c.args in
    let d = begun a.version a.depth c.part-b.result.now (rw c.head_len.ensures.0 at c.if-b-head_len.false) c.if-b-eq0.false c.in_ok-first_refusal.ensures in
    subst (λ (v : Version). Begun v c.part-b.result.now) c.in-Id3v24.is d.1

pub returns-in-Id3v22 : goal.returns-in-Id3v22
returns-in-Id3v22 c =
    let a = c.args in
    let d = begun a.version a.depth c.part-b.result.now (rw c.head_len.ensures.0 at c.if-b-head_len.false) c.if-b-eq0.false c.in_ok-first_refusal.ensures in
    decoded a.version Id3v22 a.depth _ _ c.in-Id3v22.is d.0 c.part-b.ensures _ c.with_body.ensures

pub returns-in-Id3v23 : goal.returns-in-Id3v23
returns-in-Id3v23 c =
    let a = c.args in
    let d = begun a.version a.depth c.part-b.result.now (rw c.head_len.ensures.0 at c.if-b-head_len.false) c.if-b-eq0.false c.in_ok-first_refusal.ensures in
    decoded a.version Id3v23 a.depth _ _ c.in-Id3v23.is d.0 c.part-b.ensures _ c.with_body-in-Id3v23.ensures

pub returns-in-Id3v24 : goal.returns-in-Id3v24
returns-in-Id3v24 c =
    let a = c.args in
    let d = begun a.version a.depth c.part-b.result.now (rw c.head_len.ensures.0 at c.if-b-head_len.false) c.if-b-eq0.false c.in_ok-first_refusal.ensures in
    decoded a.version Id3v24 a.depth _ _ c.in-Id3v24.is d.0 c.part-b.ensures _ c.with_body-in-Id3v24.ensures
