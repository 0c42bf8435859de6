-- A popularimeter's block with another counter: plain still, of the same user, with that counter's bytes. Assumes nothing.
use mathlib.Core.Path.{◌≡◌, refl, sym, ap, ◌∙◌}
use Prim.Native.Nat.{ℕ, suc, ◌+◌, ◌-◌, ◌^◌, ◌<◌}
use native.Mathlib.Omega.{arith}
use mathlib.Core.Bool.{Bool, true, false, ◌&&◌}
use mathlib.Core.List.{List, [], ◌∷◌, ◌++◌, append-nil}
use lib.ListN.{length, take, drop, set, length-drop, drop_of_length-le}
use lib.Seq.{sets, sets-eq, length-sets, length-take-le, drop-set-add}
use lib.Dec.{eqb}
use borrow.Author.Tests.{eqb-true, eq-eqb}
use Rattle.laws.proofs.Bools.{and_true, false_not_true}
use Rattle.laws.proofs.Stores.{take_sets}
use Rattle.format.specs.Bytes.{zero_at}
use Rattle.format.specs.Frame.{head_len, head_of}
use Rattle.format.specs.Popularimeter.{popularimeter_refusal, counter_of}
use Rattle.format.specs.Record.{body_refusal, run_of}
use Rattle.format.specs.Walk.{shown_kind}
use Rattle.format.specs.declared.Version.{Version}
use Rattle.format.specs.declared.Kind.{Kind}
use Rattle.format.specs.declared.Head.{Head}
use Rattle.format.proofs.Heads.{stands, lies}
use Rattle.blocks.specs.Blocks.{Block}
use Rattle.blocks.proofs.Bodies.{head_by}
use Rattle.format.proofs.Popularimeter.{taken_counted}
use Rattle.blocks.proofs.Counters.{stored_taken, counted}
use Rattle.format.specs.Looks.{frame_look, look_for, look_at}
use Rattle.raise.specs.Raise.{head_start, head_kind, is_popularimeter, same_bytes, user_of, body_in, is_mine, field_in, field_at}
use Rattle.format.proofs.Looking.{Plainly, frame_plain, plain_frame}
use Rattle.raise.proofs.Plainness.{PlainBlock}
use Rattle.std.specs.Prelude.{Result, Option, Ok}
use Rattle.format.specs.declared.refusals.Refusal.{Refusal}

-- ---- stores

pub drop_sets : (n : ℕ) (l : List ℕ) (k : ℕ) (x : List ℕ) → drop n (sets l (n + k) x) ≡ sets (drop n l) k x
drop_sets n l k [] = refl
drop_sets n l k (y ∷ x) =
    let e : suc (n + k) ≡ n + suc k = omega arith in
    ap (λ (i : ℕ). drop n (sets (set l (n + k) y) i x)) e ∙ drop_sets n (set l (n + k) y) (suc k) x ∙ ap (λ (m : List ℕ). sets m (suc k) x) (drop-set-add n l k y)

pub sets_whole : (l x : List ℕ) → length x ≡ length l → sets l 0 x ≡ x
sets_whole l x e =
    let none : drop (0 + length x) l ≡ [] = drop_of_length-le l {i = 0 + length x} (omega arith) in
    sets-eq x l 0 (omega arith) ∙ ap (λ (m : List ℕ). x ++ m) none ∙ append-nil x

-- ---- bytes that are the same

pub same_true : (s t : List ℕ) → same_bytes s t ≡ true → s ≡ t
same_true [] [] e = refl
same_true [] (y ∷ t) e = absurd (false_not_true e)
same_true (x ∷ s) [] e = absurd (false_not_true e)
same_true (x ∷ s) (y ∷ t) e =
    let p = and_true (eqb x y) (same_bytes s t) e in
    let a = eqb-true x y p.0 in
    let b = same_true s t p.1 in
    cc

pub same_refl : (s : List ℕ) → same_bytes s s ≡ true
same_refl [] = refl
same_refl (x ∷ s) = rw (eq-eqb x x refl) (same_refl s)

kind_true : (k : Kind) → is_popularimeter k ≡ true → k ≡ Kind.Popularimeter
kind_true Kind.Text e = absurd (false_not_true e)
kind_true Kind.Popularimeter e = refl
kind_true Kind.Table e = absurd (false_not_true e)
kind_true Kind.Chapter e = absurd (false_not_true e)
kind_true Kind.Contents e = absurd (false_not_true e)
kind_true Kind.Raw e = absurd (false_not_true e)

-- ---- the parts of a block by its header

module _ {v : Version} {b : List ℕ} (w : Block v b) where
  pub body_is : body_in v b ≡ drop w.start b
  unfolding body_in
  body_is = ap (λ (h : Result (Option Head) Refusal). drop (head_start h) b) w.head

  pub mine_is : (user : List ℕ) → is_mine v user b ≡ (is_popularimeter (shown_kind v w.id w.compressed) && same_bytes (user_of (drop w.start b)) user)
  unfolding is_mine
  mine_is user =
      ap (λ (h : Result (Option Head) Refusal). is_popularimeter (head_kind v h) && same_bytes (user_of (body_in v b)) user) w.head
      ∙ ap (λ (s : List ℕ). is_popularimeter (shown_kind v w.id w.compressed) && same_bytes (user_of s) user) body_is

  pub field_is : field_in v b ≡ drop (zero_at (drop w.start b) + 2) (drop w.start b)
  unfolding field_in
  field_is = ap (λ (s : List ℕ). drop (zero_at s + 2) s) body_is

  pub at_is : field_at v b ≡ w.start + (zero_at (drop w.start b) + 2)
  unfolding field_at
  at_is = ap (λ (h : Result (Option Head) Refusal). head_start h + (zero_at (body_in v b) + 2)) w.head ∙ ap (λ (s : List ℕ). w.start + (zero_at s + 2)) body_is

  -- a popularimeter of this user
  pub mine_kind : (user : List ℕ) → is_mine v user b ≡ true → shown_kind v w.id w.compressed ≡ Kind.Popularimeter
  mine_kind user e =
      kind_true _ (and_true (is_popularimeter (shown_kind v w.id w.compressed)) (same_bytes (user_of (drop w.start b)) user) (sym (mine_is user) ∙ e)).0

  pub mine_user : (user : List ℕ) → is_mine v user b ≡ true → user_of (drop w.start b) ≡ user
  mine_user user e =
      same_true _ user (and_true (is_popularimeter (shown_kind v w.id w.compressed)) (same_bytes (user_of (drop w.start b)) user) (sym (mine_is user) ∙ e)).1

-- no block is two users'
pub one_user : {v : Version} {b : List ℕ} (w : Block v b) (user user' : List ℕ) → is_mine v user b ≡ true → is_mine v user' b ≡ true → user ≡ user'
one_user w user user' e e' = sym (mine_user w user e) ∙ mine_user w user' e'

-- ---- a popularimeter's block that is plain

module _ {v : Version} {b : List ℕ} (p : PlainBlock v b) (kind : shown_kind v p.block.id p.block.compressed ≡ Kind.Popularimeter) where
  pub kind_taken : popularimeter_refusal (drop p.block.start b) ≡ 0
  unfolding body_refusal
  kind_taken =
      let w = p.block in
      let body = drop w.start b in
      ap (λ (k : Kind). body_refusal k body) (sym kind) ∙ (frame_plain v (look_at v 2) w.id w.compressed w.flagged false body p.looks).taken

  -- the counter's bytes end with the block
  pub field_ends : field_at v b + length (field_in v b) ≡ length b
  field_ends =
      let w = p.block in
      let body = drop w.start b in
      let r = (taken_counted body kind_taken).rated in
      omega (arith, at_is w, ap length (field_is w), length-drop (zero_at body + 2) body, length-drop w.start b, w.ends)

-- ---- and with other counter bytes, whose number fits 64 bits

module _ {v : Version} {b : List ℕ} (p : PlainBlock v b) (kind : shown_kind v p.block.id p.block.compressed ≡ Kind.Popularimeter)
    (x : List ℕ) (long : length x ≡ length (field_in v b)) (small : counter_of x < 2 ^ 64) where
  abbrev w : Block v b
  w = p.block

  abbrev body : List ℕ
  body = drop w.start b

  abbrev at : ℕ
  at = zero_at body + 2

  abbrev new : List ℕ
  new = sets b (field_at v b) x

  known : Plainly v (look_at v 2) w.id w.compressed w.flagged false body
  known = frame_plain v (look_at v 2) w.id w.compressed w.flagged false body p.looks

  pub long_is : length x ≡ length (drop p.block.start b) - (zero_at (drop p.block.start b) + 2)
  long_is = long ∙ ap length (field_is w) ∙ length-drop at body

  new_head : head_of v 1 new ≡ head_of v 1 b
  new_head =
      let l = lies (stands v 1 b w.id w.compressed w.flagged false w.start w.len w.head) in
      let front : take (head_len v) new ≡ take (head_len v) b = take_sets (head_len v) b (field_at v b) x (omega (arith, l.head, at_is w)) in
      head_by v 1 new b front (length-sets b (field_at v b) x)

  pub new_block : Block v (sets b (field_at v b) x)
  new_block = record {
    id = w.id;
    compressed = w.compressed;
    flagged = w.flagged;
    start = w.start;
    len = w.len;
    head = new_head ∙ w.head;
    ends = w.ends ∙ sym (length-sets b (field_at v b) x);
  }

  new_body : drop w.start new ≡ sets body at x
  new_body = ap (λ (i : ℕ). drop w.start (sets b i x)) (at_is w) ∙ drop_sets w.start b at x

  abbrev body' : List ℕ
  body' = sets body at x

  new_taken : popularimeter_refusal body' ≡ 0
  new_taken = stored_taken v body x (kind_taken p kind) long_is small

  new_user : user_of body' ≡ user_of body
  new_user = let e = counted v body x (kind_taken p kind) long_is in cc

  new_zero : zero_at body' ≡ zero_at body
  new_zero =
      let a = (taken_counted body (kind_taken p kind)).rated in
      let c = (taken_counted body' new_taken).rated in
      sym (length-take-le (zero_at body') body' (omega arith)) ∙ ap length new_user ∙ length-take-le (zero_at body) body (omega arith)

  none_look : look_at v 2 [] ≡ Ok true
  unfolding look_at look_for
  none_look = refl

  pub new_plain : PlainBlock v (sets b (field_at v b) x)
  unfolding new_block body_refusal run_of
  new_plain =
      let c = known.no_compressed in
      let f = known.no_flagged in
      let k : shown_kind v w.id false ≡ Kind.Popularimeter = ap (shown_kind v w.id) (sym c) ∙ kind in
      let fine : body_refusal (shown_kind v w.id false) body' ≡ 0 = ap (λ (j : Kind). body_refusal j body') k ∙ new_taken in
      let run : look_at v 2 (run_of (shown_kind v w.id false) body') ≡ Ok true = ap (λ (j : Kind). look_at v 2 (run_of j body')) k ∙ none_look in
      let looks : frame_look v (look_at v 2) w.id w.compressed w.flagged false (drop w.start new) ≡ Ok true =
      ap (λ (t : Bool). frame_look v (look_at v 2) w.id t w.flagged false (drop w.start new)) c
      ∙ ap (λ (t : Bool). frame_look v (look_at v 2) w.id false t false (drop w.start new)) f
      ∙ ap (λ (s : List ℕ). frame_look v (look_at v 2) w.id false false false s) new_body
      ∙ plain_frame v (look_at v 2) w.id body' fine run in
      record { block = new_block; looks = looks }

  -- it is the same users'
  pub new_mine : (user : List ℕ) → is_mine v user (sets b (field_at v b) x) ≡ is_mine v user b
  unfolding new_block
  new_mine user =
      mine_is new_block user
      ∙ ap (λ (s : List ℕ). is_popularimeter (shown_kind v w.id w.compressed) && same_bytes (user_of s) user) new_body
      ∙ ap (λ (s : List ℕ). is_popularimeter (shown_kind v w.id w.compressed) && same_bytes s user) new_user
      ∙ sym (mine_is w user)

  -- the bytes lie where they lay, and are these
  pub new_at : field_at v (sets b (field_at v b) x) ≡ field_at v b
  unfolding new_block
  new_at = at_is new_block ∙ ap (λ (s : List ℕ). w.start + (zero_at s + 2)) new_body ∙ ap (λ (n : ℕ). w.start + (n + 2)) new_zero ∙ sym (at_is w)

  pub new_field : field_in v (sets b (field_at v b) x) ≡ x
  unfolding new_block
  new_field =
      let e : at ≡ at + 0 = omega arith in
      field_is new_block
      ∙ ap (λ (s : List ℕ). drop (zero_at s + 2) s) new_body
      ∙ ap (λ (n : ℕ). drop (n + 2) body') new_zero
      ∙ ap (λ (n : ℕ). drop at (sets body n x)) e
      ∙ drop_sets at body 0 x
      ∙ sets_whole (drop at body) x (long ∙ ap length (field_is w))
