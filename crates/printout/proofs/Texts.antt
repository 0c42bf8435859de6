-- Where all lines were put, the buffer holds their text. Assumes nothing.
use mathlib.Core.Path.{◌≡◌, refl, sym, ap, ◌∙◌}
use Prim.Native.Nat.{ℕ, ◌+◌, ◌≤◌}
use native.Mathlib.Omega.{arith}
use mathlib.Core.Bool.{Bool, true, false}
use mathlib.Core.List.{List, [], ◌∷◌, ◌++◌}
use lib.ListN.{length, length-append}
use lib.Seq.{sets, length-sets}
use lib.Dec.{leb}
use borrow.Author.Tests.{leb-true, le-leb}
use Rattle.laws.proofs.Stores.{sets_append}
use Rattle.format.specs.Bytes.{pick}
use Rattle.lines.specs.Placed.{placed_of}
use Rattle.printout.specs.Lines.{Line, text_of}
use Rattle.printout.specs.Turns.{Outcome, on_placed, put_lines}
use Rattle.std.specs.Prelude.{Option, Some, None}

-- bytes t were put at a place and after them lies q
pub record Holds (t : List ℕ) (at : ℕ) (out : List ℕ) (q : ℕ) (o : List ℕ) : Type 0 where
  pub behind : q ≡ at + length t
  pub bytes : o ≡ sets out at t
  pub within : at ≤ length out → q ≤ length o

join : {t u out s o : List ℕ} {at p q : ℕ} → Holds t at out p s → Holds u p s q o → Holds (t ++ u) at out q o
join {t} {u} {out} {at = at} a b = record {
  behind = omega (arith, length-append t u, a.behind, b.behind);
  bytes = rw (b.bytes, a.bytes, a.behind) (sym (sets_append out at t u));
  within = λ h. b.within (a.within h);
}

none : (at : ℕ) (out : List ℕ) → Holds [] at out at out
none at out = record { behind = omega arith; bytes = refl; within = λ h. h }

-- a line that was put
placed : (t : List ℕ) (at : ℕ) (out : List ℕ) {p : ℕ} {o : List ℕ} → placed_of t at out ≡ (Some p, o) → Holds t at out p o
unfolding placed_of
placed t at out {p} {o} e = by_room (leb (at + length t) (length out)) refl e
  where
    by_room : (b : Bool) → leb (at + length t) (length out) ≡ b
        → ◌≡◌ {A = Option ℕ × List ℕ} (pick b (Some (at + length t), sets out at t) (None, out)) (Some p, o)
        → Holds t at out p o
    by_room true is e =
        let q : Some (at + length t) ≡ Some p = ap (λ (x : Option ℕ × List ℕ). x.0) e in
        let ends : p ≡ at + length t = cc in
        let same : o ≡ sets out at t = sym (ap (λ (x : Option ℕ × List ℕ). x.1) e) in
        record { behind = ends; bytes = same; within = λ h. rw same (omega (arith, length-sets out at t, leb-true (at + length t) (length out) is)) }
    by_room false is e =
        let q : None ≡ Some p = ap (λ (x : Option ℕ × List ℕ). x.0) e in
        absurd (let z : ◌≡◌ {A = ℕ} 0 1 = cc in omega arith)

pub holds : (ls : List Line) (at : ℕ) (work out : List ℕ) {q : ℕ} {w o : List ℕ} → put_lines ls at work out ≡ (Some q, (w, o))
    → Holds (text_of ls) at out q o
unfolding put_lines text_of
holds [] at work out {q} {w} {o} e =
    let p : Some at ≡ Some q = ap (λ (x : Outcome). x.0) e in
    let ends : q ≡ at = cc in
    let same : o ≡ out = sym (ap (λ (x : Outcome). x.1.1) e) in
    rw (ends, same) (none at out)
holds (l ∷ ls) at work out {q} {w} {o} e = by_placed (placed_of l.text at out).0 (placed_of l.text at out).1 refl (λ p s d. holds ls p l.work s d) e
  where
    by_placed : (p : Option ℕ) (s : List ℕ) → placed_of l.text at out ≡ (p, s)
        → ((k : ℕ) (x : List ℕ) → put_lines ls k l.work x ≡ (Some q, (w, o)) → Holds (text_of ls) k x q o)
        → on_placed (λ k x. put_lines ls k l.work x) l.work p s ≡ (Some q, (w, o)) → Holds (l.text ++ text_of ls) at out q o
    by_placed (Some p) s put go e = join (placed l.text at out put) (go p s e)
    by_placed None s put go e =
        let p : None ≡ Some q = ap (λ (x : Outcome). x.0) e in
        absurd (let z : ◌≡◌ {A = ℕ} 0 1 = cc in omega arith)

-- ---- what was put ends inside the buffer

pub line_within : (t : List ℕ) (at : ℕ) (out : List ℕ) {x : Option ℕ} {o : List ℕ} → ◌≡◌ {A = Option ℕ × List ℕ} (x, o) (placed_of t at out) → {q : ℕ}
    → x ≡ Some q → at ≤ length out → q ≤ length o
line_within t at out {o = o} e is h =
    (placed t at out (sym e ∙ ap {B = Option ℕ × List ℕ} (λ (p : Option ℕ). (p, o)) is)).within h

pub lines_within : (ls : List Line) (work out : List ℕ) {x : Option ℕ} {w o : List ℕ} → ◌≡◌ {A = Outcome} (x, (w, o)) (put_lines ls 0 work out) → {q : ℕ}
    → x ≡ Some q → q ≤ length o
lines_within ls work out {w = w} {o = o} e is =
    (holds ls 0 work out (sym e ∙ ap {B = Outcome} (λ (p : Option ℕ). (p, (w, o))) is)).within (omega arith)

-- ---- where the whole text has room, every line is put

pub all_put : (ls : List Line) (at : ℕ) (work out : List ℕ) → at + length (text_of ls) ≤ length out
    → (put_lines ls at work out).0 ≡ Some (at + length (text_of ls))
unfolding put_lines text_of placed_of
all_put [] at work out h =
    let same : at ≡ at + 0 = omega arith in
    ap Some same
all_put (l ∷ ls) at work out h =
    let t : List ℕ = l.text in
    let long : length (t ++ text_of ls) ≡ length t + length (text_of ls) = length-append t (text_of ls) in
    let fits : leb (at + length t) (length out) ≡ true = le-leb (at + length t) (length out) (omega arith) in
    let behind : at + length t + length (text_of ls) ≡ at + length (t ++ text_of ls) = omega arith in
    rw (fits, ← behind) (all_put ls (at + length t) l.work (sets out at t) (omega (arith, length-sets out at t)))
