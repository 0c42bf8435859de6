-- The equation of the walk: nothing past here sees the count. Assumes nothing.
use mathlib.Core.Path.{◌≡◌, refl, sym, ◌∙◌}
use Prim.Native.Nat.{ℕ, zero, suc, ◌+◌, ◌-◌, ◌≤◌, ◌<◌}
use native.Mathlib.Nat.{le_refl, le_trans, not-suc-le-zero}
use native.Mathlib.Omega.{arith}
use mathlib.Core.Bool.{Bool, true, false}
use mathlib.Core.List.{List, [], ◌∷◌}
use lib.ListN.{length, take, drop, length-take, length-drop}
use Rattle.format.specs.Bytes.{pick}
use Rattle.format.specs.Unsynch.{resynchronised}
use Rattle.format.specs.Frame.{head_of}
use Rattle.format.specs.Chapter.{chapter_run, contents_run}
use Rattle.format.specs.Record.{run_of}
use Rattle.format.specs.Walk.{Out, and_then, inside_of, resynced_of, body_of, is_resynced, shown_kind, left_over, unfit, on_head, step_of, walk_bytes, walked}
use Rattle.format.specs.declared.Version.{Version}
use Rattle.format.specs.declared.Version.TheVariants.{Id3v22, Id3v23, Id3v24}
use Rattle.format.specs.declared.Kind.{Kind}
use Rattle.format.specs.declared.Head.{Head}
use Rattle.format.proofs.Unsynch.{resync_shorter}
use Rattle.format.proofs.Heads.{stands, lies}
use Rattle.std.specs.Prelude.{Result, Option, Ok, Err, Some, None}
use Rattle.format.specs.declared.refusals.Refusal.{Refusal}
use Rattle.format.specs.Refusals.{refusal}
use Rattle.format.specs.Frame.{head}

pub run_shorter : (kind : Kind) (b : List ℕ) → length (run_of kind b) ≤ length b
unfolding run_of
run_shorter Kind.Text b = omega arith
run_shorter Kind.Popularimeter b = omega arith
run_shorter Kind.Table b = omega arith
run_shorter Kind.Chapter b = omega (arith, length-drop (chapter_run b) b)
run_shorter Kind.Contents b = omega (arith, length-drop (contents_run b) b)
run_shorter Kind.Raw b = omega arith

-- ---- a step depends on its recursion only at shorter lists

module _ (go go' : List ℕ → List ℕ → Out) (kind : Kind) where
  inside_cong : (b room : List ℕ) → ((s r : List ℕ) → length s ≤ length b → go s r ≡ go' s r) → inside_of go kind b room ≡ inside_of go' kind b room
  unfolding inside_of
  inside_cong b room h = rw (h (run_of kind b) room (run_shorter kind b))

  body_cong : (resynced : Bool) (b room : List ℕ) → ((s r : List ℕ) → length s ≤ length b → go s r ≡ go' s r)
      → body_of resynced go kind b room ≡ body_of resynced go' kind b room
  unfolding resynced_of
  body_cong true b room h =
      let u = resynchronised b in
      let e = inside_cong u (drop (length u) room) (λ s r le. h s r (le_trans le (resync_shorter false b))) in
      rw e
  body_cong false b room h = inside_cong b room h

module _ (strict : Bool) (v : Version) (go go' : ℕ → List ℕ → List ℕ → Out) (depth : ℕ) (s room : List ℕ)
    (h : (d : ℕ) (t r : List ℕ) → length t < length s → go d t r ≡ go' d t r) where
  head_cong : (x : Result (Option Head) Refusal) → head_of v depth s ≡ x → on_head strict v go depth s room x ≡ on_head strict v go' depth s room x
  unfolding on_head
  head_cong (Ok None) e = refl
  head_cong (Err k) e = refl
  head_cong (Ok (Some h')) e =
      let l = lies (stands v depth s h'.id h'.compressed h'.flagged h'.short h'.start h'.len e) in
      let b = take h'.len (drop h'.start s) in
      let rest = drop (h'.start + h'.len) s in
      let eb : body_of (is_resynced h'.compressed h'.flagged) (go (depth + 1)) (shown_kind v h'.id h'.compressed) b room ≡ body_of (is_resynced h'.compressed h'.flagged) (go' (depth + 1)) (shown_kind v h'.id h'.compressed) b room =
      body_cong (go (depth + 1)) (go' (depth + 1)) (shown_kind v h'.id h'.compressed) (is_resynced h'.compressed h'.flagged) b room
      (λ t r le. h (depth + 1) t r (omega (arith, l.six, l.within, length-take h'.len (drop h'.start s), length-drop h'.start s))) in
      let er : go depth rest ≡ go' depth rest = (λ i r. h depth rest r (omega (arith, l.six, l.within, length-drop (h'.start + h'.len) s)) i) in
      rw (eb, er)

  step_cong : step_of strict v go depth s room ≡ step_of strict v go' depth s room
  unfolding step_of
  step_cong = head_cong (head_of v depth s) refl

-- ---- counts that suffice agree

-- of nothing no frame begins
pub none_begins : (v : Version) (depth : ℕ) → head_of v depth [] ≡ Ok None
unfolding head_of
none_begins Id3v22 depth = refl
none_begins Id3v23 depth = refl
none_begins Id3v24 depth = refl

nothing_left : (strict : Bool) (v : Version) (f depth : ℕ) (room : List ℕ) → (left_over strict [], room) ≡ walk_bytes strict v f depth [] room
unfolding walk_bytes step_of on_head
nothing_left strict v zero depth room = refl
nothing_left strict v (suc f) depth room = rw (none_begins v depth)

enough : (strict : Bool) (v : Version) (f g depth : ℕ) (s room : List ℕ) → length s ≤ f → length s ≤ g
    → walk_bytes strict v f depth s room ≡ walk_bytes strict v g depth s room
unfolding walk_bytes
enough strict v zero zero depth s room hf hg = refl
enough strict v zero (suc g) depth [] room hf hg = nothing_left strict v (suc g) depth room
enough strict v zero (suc g) depth (x ∷ s) room hf hg = absurd (not-suc-le-zero hf)
enough strict v (suc f) zero depth [] room hf hg = sym (nothing_left strict v (suc f) depth room)
enough strict v (suc f) zero depth (x ∷ s) room hf hg = absurd (not-suc-le-zero hg)
enough strict v (suc f) (suc g) depth s room hf hg =
    step_cong strict v (walk_bytes strict v f) (walk_bytes strict v g) depth s room
    (λ d t r lt. enough strict v f g d t r (omega arith) (omega arith))

-- the equation that a reader expects
pub walked_eq : (strict : Bool) (v : Version) (depth : ℕ) (s room : List ℕ) → walked strict v depth s room ≡ step_of strict v (walked strict v) depth s room
unfolding walked walk_bytes step_of on_head
walked_eq strict v depth [] room = rw (none_begins v depth)
walked_eq strict v depth (x ∷ s) room =
    step_cong strict v (walk_bytes strict v (length s)) (walked strict v) depth (x ∷ s) room
    (λ d t r lt. enough strict v (length s) (length t) d t r (omega arith) (le_refl (length t)))

-- ---- the walk for what begins

module _ (strict : Bool) (v : Version) (depth : ℕ) (s room : List ℕ) where
  walk_head : (x : Result (Option Head) Refusal) → head_of v depth s ≡ x → walked strict v depth s room ≡ on_head strict v (walked strict v) depth s room x
  unfolding step_of
  walk_head x e = walked_eq strict v depth s room ∙ rw e

  -- no frame begins
  pub walk_nothing : head_of v depth s ≡ Ok None → walked strict v depth s room ≡ (left_over strict s, room)
  unfolding on_head
  walk_nothing e = walk_head (Ok None) e

  pub walk_refused : {k : ℕ} → head_of v depth s ≡ Err (refusal k) → walked strict v depth s room ≡ (k, room)
  unfolding on_head
  walk_refused {k} e = walk_head (Err (refusal k)) e

  -- a frame: its body, and then what follows it
  pub walk_found : {id : ℕ} {c f short : Bool} {start len : ℕ} → head_of v depth s ≡ Ok (Some (head id c f short start len))
      → walked strict v depth s room ≡ pick (unfit strict short f) (29, room)
      (and_then (body_of (is_resynced c f) (walked strict v (depth + 1)) (shown_kind v id c) (take len (drop start s)) room)
      (walked strict v depth (drop (start + len) s)))
  unfolding on_head
  walk_found {id} {c} {f} {short} {start} {len} e = walk_head (Ok (Some (head id c f short start len))) e
