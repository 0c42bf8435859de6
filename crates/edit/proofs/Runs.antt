-- A run of subframes that 29 lets pass is plain, or odd for a compressed frame in it and for nothing else. Assumes nothing.
use mathlib.Core.Path.{◌≡◌, refl, sym, ap, ◌∙◌, subst}
use mathlib.Core.Logic.{◌⊎◌, inl, inr}
use Prim.Native.Nat.{ℕ, zero, suc, ◌+◌, ◌<◌}
use native.Mathlib.Omega.{arith}
use mathlib.Core.Bool.{Bool, true, false, not, ◌||◌, or-true}
use mathlib.Core.List.{List, [], ◌∷◌}
use lib.ListN.{length, take, drop, length-take, length-drop}
use lib.Dec.{eqb-suc-zero}
use Rattle.format.specs.Frame.{head_of, head}
use Rattle.format.specs.Record.{run_of}
use Rattle.format.specs.Walk.{Out, shown_kind, left_over, walked}
use Rattle.format.specs.Looks.{both, plain_if, all_zero, frame_look, on_look, look_at}
use Rattle.format.specs.declared.Version.{Version}
use Rattle.format.specs.declared.Head.{Head}
use Rattle.format.proofs.Heads.{stands, lies}
use Rattle.format.proofs.Walks.{run_shorter, walk_nothing, walk_refused}
use Rattle.format.proofs.Strict.{accepted}
use Rattle.format.proofs.Looking.{look_head}
use Rattle.raise.proofs.Refusing.{refused_some}
use Rattle.edit.specs.Promises.{Uncompressed}
use Rattle.std.specs.Prelude.{Result, Option, Ok, Err, Some, None}
use Rattle.format.specs.declared.refusals.Refusal.{Refusal}

-- ---- a header

-- what is known of a frame that begins bytes in which none is compressed
abbrev Within : Version → ℕ → List ℕ → Result (Option Head) Refusal → Type 0
Within v depth s (Ok None) = Unit {0}
Within v depth s (Err k) = Unit {0}
Within v depth s (Ok (Some h)) =
    (h.compressed ≡ false) × Uncompressed v (depth + 1) (run_of (shown_kind v h.id false) (take h.len (drop h.start s))) × Uncompressed v depth (drop (h.start + h.len) s)

within : {v : Version} {depth : ℕ} {s : List ℕ} (x : Result (Option Head) Refusal) → head_of v depth s ≡ x → Uncompressed v depth s → Within v depth s x
within {v} {depth} {s} x e (Uncompressed.ends h) = subst (Within v depth s) (sym h ∙ e) tt
within {v} {depth} {s} x e (Uncompressed.stops h) = subst (Within v depth s) (sym h ∙ e) tt
within {v} {depth} {s} x e (Uncompressed.frame h u w) = subst (Within v depth s) (sym h ∙ e) (refl, u, w)

-- ---- the run

abbrev pub PlainOrOdd : Version → ℕ → List ℕ → Type 0
PlainOrOdd v depth s = ((look_at v depth s ≡ Ok true) × Uncompressed v depth s) ⊎ ((look_at v depth s ≡ Ok false) × (Uncompressed v depth s → ⊥))

nothing_over : (s : List ℕ) → left_over true s ≡ 0 → s ≡ []
nothing_over [] e = refl
nothing_over (x ∷ s) e = absurd (let z : ◌≡◌ {A = ℕ} 29 0 = rw (eqb-suc-zero (length s)) at e in omega arith)

module _ (v : Version) (depth : ℕ) (s room : List ℕ) (h : (d : ℕ) (t r : List ℕ) → length t < length s → (walked true v d t r).0 ≡ 0 → PlainOrOdd v d t) where
  look_is : (x : Result (Option Head) Refusal) → head_of v depth s ≡ x → (walked true v depth s room).0 ≡ 0 → PlainOrOdd v depth s
  unfolding on_look all_zero frame_look
  look_is (Ok None) e a =
      let none : s ≡ [] = nothing_over s (sym (ap (λ (o : Out). o.0) (walk_nothing true v depth s room e)) ∙ a) in
      inl (look_head v depth s (Ok None) e ∙ rw (none, or-true), Uncompressed.ends e)
  look_is (Err k) e a =
      absurd (refused_some v depth s e (sym (ap (λ (o : Out). o.0) (walk_refused true v depth s room e)) ∙ a))
  look_is (Ok (Some one)) e a =
      let l = lies (stands v depth s one.id one.compressed one.flagged one.short one.start one.len e) in
      let t = accepted v depth s room e a in
      let kind = shown_kind v one.id one.compressed in
      let b = take one.len (drop one.start s) in
      let run = h (depth + 1) (run_of kind b) room
      (omega (arith, l.six, l.within, run_shorter kind b, length-take one.len (drop one.start s), length-drop one.start s)) t.run in
      let rest = h depth (drop (one.start + one.len) s) t.after (omega (arith, l.six, l.within, length-drop (one.start + one.len) s)) t.rest in
      let looks : look_at v depth s ≡ both (both (look_at v (depth + 1) (run_of kind b)) (plain_if (not (one.compressed || false)))) (look_at v depth (drop (one.start + one.len) s)) =
      look_head v depth s _ e ∙ rw (t.unflagged, t.whole, t.body) in
      by one.compressed e run rest looks
    where
      by : (c : Bool) → head_of v depth s ≡ Ok (Some (head one.id c one.flagged one.short one.start one.len)) → PlainOrOdd v (depth + 1) (run_of (shown_kind v one.id c) (take one.len (drop one.start s)))
          → PlainOrOdd v depth (drop (one.start + one.len) s)
          → look_at v depth s ≡ both (both (look_at v (depth + 1) (run_of (shown_kind v one.id c) (take one.len (drop one.start s)))) (plain_if (not (c || false)))) (look_at v depth (drop (one.start + one.len) s))
          → PlainOrOdd v depth s
      by true e (inl p) (inl q) is = inr (is ∙ rw (p.0, q.0), λ u. absurd (let z : true ≡ false = (within _ e u).0 in let y : ◌≡◌ {A = ℕ} 0 1 = cc in omega arith))
      by true e (inl p) (inr q) is = inr (is ∙ rw (p.0, q.0), λ u. q.1 (within _ e u).2)
      by true e (inr p) (inl q) is = inr (is ∙ rw (p.0, q.0), λ u. absurd (let z : true ≡ false = (within _ e u).0 in let y : ◌≡◌ {A = ℕ} 0 1 = cc in omega arith))
      by true e (inr p) (inr q) is = inr (is ∙ rw (p.0, q.0), λ u. q.1 (within _ e u).2)
      by false e (inl p) (inl q) is = inl (is ∙ rw (p.0, q.0), Uncompressed.frame e p.1 q.1)
      by false e (inl p) (inr q) is = inr (is ∙ rw (p.0, q.0), λ u. q.1 (within _ e u).2)
      by false e (inr p) (inl q) is = inr (is ∙ rw (p.0, q.0), λ u. p.1 (within _ e u).1)
      by false e (inr p) (inr q) is = inr (is ∙ rw (p.0, q.0), λ u. q.1 (within _ e u).2)

looks_within : (n : ℕ) (v : Version) (depth : ℕ) (s room : List ℕ) → length s < n → (walked true v depth s room).0 ≡ 0 → PlainOrOdd v depth s
looks_within zero v depth s room lt a = absurd (omega arith)
looks_within (suc n) v depth s room lt a =
    look_is v depth s room (λ d t r le. looks_within n v d t r (omega arith)) (head_of v depth s) refl a

-- What the strict walk accepts looks plain, and none in it is compressed; or it looks odd, and one is.
pub run_looks : (v : Version) (depth : ℕ) (s room : List ℕ) → (walked true v depth s room).0 ≡ 0 → PlainOrOdd v depth s
run_looks v depth s room a = looks_within (suc (length s)) v depth s room (omega arith) a
