-- The equation of the look at frames: nothing past here sees the count. Assumes nothing.
use mathlib.Core.Path.{◌≡◌, refl, sym, ap, ◌∙◌}
use Prim.Native.Nat.{ℕ, zero, suc, ◌+◌, ◌≤◌, ◌<◌}
use native.Mathlib.Nat.{le_refl, not-suc-le-zero}
use native.Mathlib.Omega.{arith}
use mathlib.Core.Bool.{Bool, true, false, not, ◌||◌, or-true}
use mathlib.Core.List.{List, [], ◌∷◌}
use lib.ListN.{length, take, drop, length-take, length-drop}
use lib.Dec.{eqb}
use borrow.Author.Tests.{eqb-true}
use Rattle.laws.proofs.Bools.{false_not_true}
use Rattle.format.specs.Bytes.{pick, zeros}
use Rattle.format.specs.Frame.{head_of}
use Rattle.format.specs.Record.{body_refusal, run_of}
use Rattle.format.specs.Walk.{Out, is_resynced, shown_kind, inside_of, body_of, and_then, walked}
use Rattle.format.specs.declared.Version.{Version}
use Rattle.format.specs.declared.Version.TheVariants.{Id3v22, Id3v23, Id3v24}
use Rattle.format.specs.declared.Head.{Head}
use Rattle.format.specs.Looks.{Look}
use Rattle.format.proofs.Heads.{stands, lies}
use Rattle.format.proofs.Walks.{run_shorter, walk_nothing, walk_found}
use Rattle.format.proofs.Strict.{inside_run}
use Rattle.format.specs.Looks.{both, plain_if, unless, all_zero, frame_look, on_look, look_for, look_at}
use Rattle.std.specs.Prelude.{Result, Option, Ok, Err, Some, None}
use Rattle.format.specs.declared.refusals.Refusal.{Refusal}
use Rattle.format.specs.Refusals.{refusal}

-- ---- a step depends on its recursion only at shorter lists

frame_cong : (v : Version) (go go' : List ℕ → Look) (id : ℕ) (c f short : Bool) (b : List ℕ) → ((s : List ℕ) → length s ≤ length b → go s ≡ go' s)
    → frame_look v go id c f short b ≡ frame_look v go' id c f short b
unfolding frame_look
frame_cong v go go' id c f short b h = rw (h (run_of (shown_kind v id c) b) (run_shorter (shown_kind v id c) b))

head_cong : (v : Version) (go go' : ℕ → List ℕ → Look) (depth : ℕ) (s : List ℕ) → ((d : ℕ) (t : List ℕ) → length t < length s → go d t ≡ go' d t)
    → (x : Result (Option Head) Refusal) → head_of v depth s ≡ x → on_look v go depth s x ≡ on_look v go' depth s x
unfolding on_look
head_cong v go go' depth s h (Ok None) e = refl
head_cong v go go' depth s h (Err k) e = refl
head_cong v go go' depth s h (Ok (Some h')) e =
    let l = lies (stands v depth s h'.id h'.compressed h'.flagged h'.short h'.start h'.len e) in
    let b = take h'.len (drop h'.start s) in
    let eb = frame_cong v (go (depth + 1)) (go' (depth + 1)) h'.id h'.compressed h'.flagged h'.short b
    (λ t le. h (depth + 1) t (omega (arith, l.six, l.within, length-take h'.len (drop h'.start s), length-drop h'.start s))) in
    rw (eb, h depth (drop (h'.start + h'.len) s) (omega (arith, l.six, l.within, length-drop (h'.start + h'.len) s)))

none_begins : (v : Version) (depth : ℕ) → head_of v depth [] ≡ Ok None
unfolding head_of
none_begins Id3v22 depth = refl
none_begins Id3v23 depth = refl
none_begins Id3v24 depth = refl

nothing_left : (v : Version) (n depth : ℕ) → look_for v n depth [] ≡ Ok true
unfolding look_for on_look all_zero
nothing_left v zero depth = refl
nothing_left v (suc n) depth = rw (none_begins v depth, or-true)

enough : (v : Version) (n m depth : ℕ) (s : List ℕ) → length s ≤ n → length s ≤ m → look_for v n depth s ≡ look_for v m depth s
unfolding look_for
enough v zero zero depth s hn hm = refl
enough v zero (suc m) depth [] hn hm = sym (nothing_left v (suc m) depth)
enough v zero (suc m) depth (x ∷ s) hn hm = absurd (not-suc-le-zero hn)
enough v (suc n) zero depth [] hn hm = nothing_left v (suc n) depth
enough v (suc n) zero depth (x ∷ s) hn hm = absurd (not-suc-le-zero hm)
enough v (suc n) (suc m) depth s hn hm =
    head_cong v (look_for v n) (look_for v m) depth s (λ d t lt. enough v n m d t (omega arith) (omega arith)) (head_of v depth s) refl

-- the equation that a reader expects
pub look_eq : (v : Version) (depth : ℕ) (s : List ℕ) → look_at v depth s ≡ on_look v (look_at v) depth s (head_of v depth s)
unfolding look_at look_for on_look all_zero
look_eq v depth [] = rw (none_begins v depth, or-true)
look_eq v depth (x ∷ s) =
    head_cong v (look_for v (length s)) (look_at v) depth (x ∷ s)
    (λ d t lt. enough v (length s) (length t) d t (omega arith) (le_refl (length t))) (head_of v depth (x ∷ s)) refl

module _ (v : Version) (depth : ℕ) (s : List ℕ) where
  pub look_head : (x : Result (Option Head) Refusal) → head_of v depth s ≡ x → look_at v depth s ≡ on_look v (look_at v) depth s x
  look_head x e = look_eq v depth s ∙ rw e

-- ---- what is plain all through is plain in each part

pub not_plain : {A : Type 0} (k : ℕ) → ◌≡◌ {A = Look} (Err (refusal k)) (Ok true) → A
not_plain k e = absurd (let z : ◌≡◌ {A = ℕ} 0 1 = cc in omega arith)

not_odd : {A : Type 0} → ◌≡◌ {A = Look} (Ok false) (Ok true) → A
not_odd e = absurd (let z : ◌≡◌ {A = ℕ} 0 1 = cc in omega arith)

pub both_plain : (x y : Look) → both x y ≡ Ok true → (x ≡ Ok true) × (y ≡ Ok true)
both_plain (Err k) y e = not_plain k.number e
both_plain (Ok false) (Err k) e = not_plain k.number e
both_plain (Ok false) (Ok false) e = not_odd e
both_plain (Ok false) (Ok true) e = not_odd e
both_plain (Ok true) y e = (refl, e)

pub if_plain : (t : Bool) → plain_if t ≡ Ok true → t ≡ true
if_plain true e = refl
if_plain false e = not_odd e

pub unless_plain : (k : ℕ) (x : Look) → unless k x ≡ Ok true → (k ≡ 0) × (x ≡ Ok true)
unless_plain zero x e = (refl, e)
unless_plain (suc k) x e = not_plain (suc k) e

pub picked_plain : (t : Bool) (k : ℕ) (x : Look) → pick t (Err (refusal k)) x ≡ Ok true → (t ≡ false) × (x ≡ Ok true)
picked_plain true k x e = not_plain k e
picked_plain false k x e = (refl, e)

none_of_three : (a b c : Bool) → not (a || (b || c)) ≡ true → (a ≡ false) × (b ≡ false) × (c ≡ false)
none_of_three true b c e = absurd (false_not_true e)
none_of_three false true c e = absurd (false_not_true e)
none_of_three false false true e = absurd (false_not_true e)
none_of_three false false false e = (refl, refl, refl)

-- a frame that is plain
pub record Plainly (v : Version) (go : List ℕ → Look) (id : ℕ) (c f short : Bool) (b : List ℕ) : Type 0 where
  pub no_compressed : c ≡ false
  pub no_flagged : f ≡ false
  pub no_short : short ≡ false
  pub taken : body_refusal (shown_kind v id c) b ≡ 0
  pub run : go (run_of (shown_kind v id c) b) ≡ Ok true

pub frame_plain : (v : Version) (go : List ℕ → Look) (id : ℕ) (c f short : Bool) (b : List ℕ) → frame_look v go id c f short b ≡ Ok true
    → Plainly v go id c f short b
unfolding frame_look
frame_plain v go id c f short b e =
    let kind = shown_kind v id c in
    let p = picked_plain (is_resynced c f) 40 _ e in
    let q = both_plain (unless (body_refusal kind b) (go (run_of kind b))) (plain_if (not (c || (f || short)))) p.1 in
    let r = unless_plain (body_refusal kind b) (go (run_of kind b)) q.0 in
    let n = none_of_three c f short (if_plain _ q.1) in
    record { no_compressed = n.0; no_flagged = n.1; no_short = n.2; taken = r.0; run = r.1 }

pub plain_frame : (v : Version) (go : List ℕ → Look) (id : ℕ) (b : List ℕ) → body_refusal (shown_kind v id false) b ≡ 0
    → go (run_of (shown_kind v id false) b) ≡ Ok true → frame_look v go id false false false b ≡ Ok true
unfolding frame_look
plain_frame v go id b taken run = rw (taken, run)

-- ---- what is plain, reading reads without a room

walk_head : (v : Version) (depth : ℕ) (s room : List ℕ) → ((d : ℕ) (t : List ℕ) → length t < length s → look_at v d t ≡ Ok true → walked false v d t room ≡ (0, room))
    → (x : Result (Option Head) Refusal) → head_of v depth s ≡ x → on_look v (look_at v) depth s x ≡ Ok true → walked false v depth s room ≡ (0, room)
unfolding on_look
walk_head v depth s room h (Ok None) e p = walk_nothing false v depth s room e
walk_head v depth s room h (Err k) e p = not_plain k.number p
walk_head v depth s room h (Ok (Some h')) e p =
    let l = lies (stands v depth s h'.id h'.compressed h'.flagged h'.short h'.start h'.len e) in
    let b = take h'.len (drop h'.start s) in
    let kind = shown_kind v h'.id h'.compressed in
    let q = both_plain (frame_look v (look_at v (depth + 1)) h'.id h'.compressed h'.flagged h'.short b) _ p in
    let t = frame_plain v (look_at v (depth + 1)) h'.id h'.compressed h'.flagged h'.short b q.0 in
    let run : walked false v (depth + 1) (run_of kind b) room ≡ (0, room) =
    h (depth + 1) (run_of kind b) (omega (arith, run_shorter kind b, l.six, l.within, length-take h'.len (drop h'.start s), length-drop h'.start s)) t.run in
    let inside : inside_of (walked false v (depth + 1)) kind b room ≡ (0, room) = inside_run (walked false v (depth + 1)) kind b room t.taken ∙ run in
    let body : body_of (is_resynced h'.compressed h'.flagged) (walked false v (depth + 1)) kind b room ≡ (0, room) = rw t.no_flagged inside in
    let rest = h depth (drop (h'.start + h'.len) s) (omega (arith, l.six, l.within, length-drop (h'.start + h'.len) s)) q.1 in
    walk_found false v depth s room e ∙ ap (λ (o : Out). and_then o (walked false v depth (drop (h'.start + h'.len) s))) body ∙ rest

walk_within : (n : ℕ) (v : Version) (depth : ℕ) (s room : List ℕ) → length s < n → look_at v depth s ≡ Ok true → walked false v depth s room ≡ (0, room)
walk_within zero v depth s room lt p = absurd (omega arith)
walk_within (suc n) v depth s room lt p =
    walk_head v depth s room (λ d t le q. walk_within n v d t room (omega arith) q) (head_of v depth s) refl (sym (look_head v depth s (head_of v depth s) refl) ∙ p)

-- A run that is plain is read in any room, which stays as it is.
pub walk_plain : (v : Version) (depth : ℕ) (s room : List ℕ) → look_at v depth s ≡ Ok true → walked false v depth s room ≡ (0, room)
walk_plain v depth s room p = walk_within (suc (length s)) v depth s room (omega arith) p

-- ---- zeros

pub zero_zeros : (s : List ℕ) → all_zero s ≡ true → s ≡ zeros (length s)
unfolding all_zero
zero_zeros [] e = refl
zero_zeros (x ∷ s) e = by (eqb x 0) refl e (zero_zeros s)
  where
    by : (t : Bool) → eqb x 0 ≡ t → pick t (all_zero s) false ≡ true → (all_zero s ≡ true → s ≡ zeros (length s)) → x ∷ s ≡ zeros (suc (length s))
    by true z h go = let a : x ≡ 0 = eqb-true x 0 z in let b = go h in cc
    by false z h go = absurd (false_not_true h)

pub zeros_zero : (n : ℕ) → all_zero (zeros n) ≡ true
unfolding all_zero
zeros_zero zero = refl
zeros_zero (suc n) = zeros_zero n
