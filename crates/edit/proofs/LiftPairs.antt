-- Two lifts: for two users the order does not matter where both are accepted, for one user the amounts add up. Assumes nothing.
use mathlib.Core.Path.{◌≡◌, sym, ap, ◌∙◌, subst}
use Prim.Native.Nat.{ℕ, ◌+◌, ◌^◌, ◌≤◌, ◌<◌}
use native.Mathlib.Omega.{arith}
use mathlib.Core.List.{List, [], ◌∷◌}
use lib.ListN.{length, set}
use lib.Seq.{get_or-set_same, get_or-set_other, set-set, set_comm}
use Rattle.format.specs.Header.{size_of}
use Rattle.format.specs.Popularimeter.{counter_of}
use Rattle.format.specs.declared.Version.{Version}
use Rattle.blocks.specs.Blocks.{joined, with_blocks}
use Rattle.raise.specs.Raise.{is_mine, field_in, places_from, block_at, tag_version, tag_blocks}
use Rattle.raise.proofs.Search.{found}
use Rattle.raise.proofs.Stored.{one_user}
use Rattle.raise.proofs.Accepting.{sum_at}
use Rattle.edit.specs.Lift.{lifted_of}
use Rattle.edit.specs.LiftPromises.{LiftsCommute, LiftsAdd}
use Rattle.edit.proofs.LiftAccepting.{lift_block, lift_refusal, lift_blocks, tag_lifted, Lifted, lift_accept}
use Rattle.edit.proofs.LiftCame.{lift_accepted}
use Rattle.edit.proofs.LiftAfter.{was_plain, lt, old_meter, new_meter, size_same, version_same, after_blocks, after_places}
use Rattle.edit.proofs.OtherBlocks.{with_again}
use Rattle.edit.proofs.LiftTwice.{lift_again}
use Rattle.std.specs.Prelude.{Ok}

-- ---- lifts of blocks

abbrev pub sum_from : Version → List (List ℕ) → ℕ → ℕ → ℕ
sum_from v bs i amount = counter_of (field_in v (block_at bs i)) + amount

abbrev pub next_blocks : Version → List (List ℕ) → ℕ → ℕ → List (List ℕ)
next_blocks v bs i amount = set bs i (lift_block v (block_at bs i) (sum_from v bs i amount))

module _ (v : Version) (bs : List (List ℕ)) (i j amount more : ℕ) (ne : i ≡ j → ⊥) where
  pub other_block : block_at (next_blocks v bs i amount) j ≡ block_at bs j
  other_block = get_or-set_other bs i j (lift_block v (block_at bs i) (sum_from v bs i amount)) [] (λ z. ne (sym z))

  pub other_sum : sum_from v (next_blocks v bs i amount) j more ≡ sum_from v bs j more
  other_sum = ap (λ (b : List ℕ). counter_of (field_in v b) + more) other_block

  both_blocks : next_blocks v (next_blocks v bs i amount) j more ≡ set (next_blocks v bs i amount) j (lift_block v (block_at bs j) (sum_from v bs j more))
  both_blocks = ap (λ (b : List ℕ). set (next_blocks v bs i amount) j (lift_block v b (counter_of (field_in v b) + more))) other_block

pub blocks_commute : (v : Version) (bs : List (List ℕ)) (i j amount more : ℕ) → (i ≡ j → ⊥)
    → next_blocks v (next_blocks v bs i amount) j more ≡ next_blocks v (next_blocks v bs j more) i amount
blocks_commute v bs i j amount more ne =
    both_blocks v bs i j amount more ne
    ∙ set_comm bs i j (lift_block v (block_at bs i) (sum_from v bs i amount)) (lift_block v (block_at bs j) (sum_from v bs j more)) ne
    ∙ sym (both_blocks v bs j i more amount (λ z. ne (sym z)))

-- ---- a lift after a lift

module _ {tag user other : List ℕ} {amount more : ℕ} (a : Lifted tag user amount) (c : Lifted (tag_lifted tag a.i amount) other more) where
  abbrev v : Version
  v = tag_version tag

  abbrev bs : List (List ℕ)
  bs = tag_blocks tag

  abbrev tag' : List ℕ
  tag' = tag_lifted tag a.i amount

  pub second_place : places_from (tag_version tag) other 0 (tag_blocks tag) ≡ c.i ∷ []
  second_place = sym (after_places a other) ∙ c.only

  pub second_sum : sum_at (tag_lifted tag a.i amount) c.i more ≡ sum_from (tag_version tag) (next_blocks (tag_version tag) (tag_blocks tag) a.i amount) c.i more
  second_sum =
      ap (λ (u : Version). sum_from u (tag_blocks tag') c.i more) (version_same a)
      ∙ ap (λ (l : List (List ℕ)). sum_from v l c.i more) (after_blocks a)

  pub second_blocks : lift_blocks (tag_lifted tag a.i amount) c.i (sum_at (tag_lifted tag a.i amount) c.i more)
      ≡ next_blocks (tag_version tag) (next_blocks (tag_version tag) (tag_blocks tag) a.i amount) c.i more
  second_blocks =
      ap (λ (u : Version). next_blocks u (tag_blocks tag') c.i more) (version_same a)
      ∙ ap (λ (l : List (List ℕ)). next_blocks v l c.i more) (after_blocks a)

  second_tag : tag_lifted tag' c.i more ≡ with_blocks (next_blocks v (next_blocks v bs a.i amount) c.i more) tag
  second_tag =
      ap (λ (l : List (List ℕ)). with_blocks l tag') second_blocks
      ∙ with_again tag (was_plain a).is.all_there (lift_blocks tag a.i (sum_at tag a.i amount)) a.room (next_blocks v (next_blocks v bs a.i amount) c.i more)

-- ---- two users

-- the other user's block is another
pub other_place : {tag user : List ℕ} {amount : ℕ} (a : Lifted tag user amount) (other : List ℕ) (j : ℕ) → (user ≡ other → ⊥)
    → places_from (tag_version tag) other 0 (tag_blocks tag) ≡ j ∷ [] → a.i ≡ j → ⊥
other_place {tag} {user} a other j apart only same =
    let mine = (found (tag_version tag) user (tag_blocks tag) a.i [] a.only).1 in
    let theirs = (found (tag_version tag) other (tag_blocks tag) j [] only).1 in
    apart (one_user (old_meter a).plain.block user other mine (ap (λ (k : ℕ). is_mine (tag_version tag) other (block_at (tag_blocks tag) k)) same ∙ theirs))

pub lifts_commute : LiftsCommute
lifts_commute tag user other amount more n k n' k' t s t' s' apart e f e' f' =
    let v = tag_version tag in
    let bs = tag_blocks tag in
    let g = lift_accepted tag user amount e in
    let g' = lift_accepted tag other more e' in
    let a = g.was in
    let a' = g'.was in
    let h = lift_accepted (tag_lifted tag a.i amount) other more (ap (λ (m : List ℕ). lifted_of m other more) (sym g.tag_is) ∙ f) in
    let h' = lift_accepted (tag_lifted tag a'.i more) user amount (ap (λ (m : List ℕ). lifted_of m user amount) (sym g'.tag_is) ∙ f') in
    let c = h.was in
    let c' = h'.was in
    let at : c.i ≡ a'.i = let p = sym (second_place a c) ∙ a'.only in cc in
    let at' : c'.i ≡ a.i = let p = sym (second_place a' c') ∙ a.only in cc in
    let ne = other_place a other a'.i apart a'.only in
    let k_is : k ≡ k' =
    h.sum ∙ second_sum a c ∙ ap (λ (j : ℕ). sum_from v (next_blocks v bs a.i amount) j more) at ∙ other_sum v bs a.i a'.i amount more ne ∙ sym g'.sum in
    let n_is : n' ≡ n =
    h'.sum ∙ second_sum a' c' ∙ ap (λ (j : ℕ). sum_from v (next_blocks v bs a'.i more) j amount) at'
    ∙ other_sum v bs a'.i a.i more amount (λ z. ne (sym z)) ∙ sym g.sum in
    let one : s ≡ with_blocks (next_blocks v (next_blocks v bs a.i amount) a'.i more) tag =
    h.tag_is ∙ second_tag a c ∙ ap (λ (j : ℕ). with_blocks (next_blocks v (next_blocks v bs a.i amount) j more) tag) at in
    let two : s' ≡ with_blocks (next_blocks v (next_blocks v bs a'.i more) a.i amount) tag =
    h'.tag_is ∙ second_tag a' c' ∙ ap (λ (j : ℕ). with_blocks (next_blocks v (next_blocks v bs a'.i more) j amount) tag) at' in
    (sym n_is, k_is, one ∙ ap (λ (l : List (List ℕ)). with_blocks l tag) (blocks_commute v bs a.i a'.i amount more ne) ∙ sym two)

-- ---- one user

pub lifts_add : LiftsAdd
lifts_add tag user amount more n k t s e f =
    let v = tag_version tag in
    let bs = tag_blocks tag in
    let g = lift_accepted tag user amount e in
    let a = g.was in
    let i = a.i in
    let b = block_at bs i in
    let first = sum_at tag i amount in
    let c_of = lift_accepted (tag_lifted tag i amount) user more (ap (λ (m : List ℕ). lifted_of m user more) (sym g.tag_is) ∙ f) in
    let c = c_of.was in
    let at : c.i ≡ i = let p = sym (second_place a c) ∙ a.only in cc in
    let new = lift_block v b first in
    let there : block_at (next_blocks v bs i amount) i ≡ new = get_or-set_same bs i new [] (lt a) in
    let last = sum_at tag i (amount + more) in
    let sum : sum_from v (next_blocks v bs i amount) i more ≡ last =
    ap (λ (d : List ℕ). counter_of (field_in v d) + more) there ∙ omega (arith, (new_meter a).counts) in
    let sum' : sum_at (tag_lifted tag i amount) c.i more ≡ last = second_sum a c ∙ ap (λ (j : ℕ). sum_from v (next_blocks v bs i amount) j more) at ∙ sum in
    let small : last < 2 ^ 64 = subst (λ (m : ℕ). m < 2 ^ 64) sum' c.small in
    let taken : lift_refusal v new last ≡ 0 =
    ap (λ (d : List ℕ). lift_refusal v d last) (sym there)
    ∙ ap (λ (l : List (List ℕ)). lift_refusal v (block_at l i) last) (sym (after_blocks a))
    ∙ ap (λ (j : ℕ). lift_refusal v (block_at (tag_blocks (tag_lifted tag i amount)) j) last) (sym at)
    ∙ ap (λ (u : Version). lift_refusal u (block_at (tag_blocks (tag_lifted tag i amount)) c.i) last) (sym (version_same a))
    ∙ ap (lift_refusal (tag_version (tag_lifted tag i amount)) (block_at (tag_blocks (tag_lifted tag i amount)) c.i)) (sym sum')
    ∙ c.taken in
    let again = lift_again (old_meter a) first last (omega arith) a.small small a.taken taken in
    let blocks : next_blocks v (next_blocks v bs i amount) c.i more ≡ lift_blocks tag i last =
    ap (λ (j : ℕ). next_blocks v (next_blocks v bs i amount) j more) at
    ∙ ap (λ (m : ℕ). set (next_blocks v bs i amount) i (lift_block v (block_at (next_blocks v bs i amount) i) m)) sum
    ∙ ap (λ (d : List ℕ). set (next_blocks v bs i amount) i (lift_block v d last)) there
    ∙ set-set bs i new (lift_block v new last)
    ∙ ap (set bs i) again.0 in
    let both : Lifted tag user (amount + more) = record {
      looks = a.looks;
      i = i;
      only = a.only;
      small = small;
      taken = again.1;
      room = subst (λ (m : ℕ). length (joined (lift_blocks tag i last)) ≤ m) (size_same a)
          (subst (λ (l : List (List ℕ)). length (joined l) ≤ size_of (tag_lifted tag i amount)) (second_blocks a c ∙ blocks) c.room);
    } in
    let sum_is : last ≡ k = sym sum' ∙ sym c_of.sum in
    let tag_is : tag_lifted tag i (amount + more) ≡ s = ap (λ (l : List (List ℕ)). with_blocks l tag) (sym blocks) ∙ sym (second_tag a c) ∙ sym c_of.tag_is in
    lift_accept both ∙ (λ j. (Ok (sum_is j), tag_is j))
