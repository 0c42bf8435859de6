-- A lift for one user and one for another: what the one changes for the other is the room, and nothing else. Assumes nothing.
use mathlib.Core.Path.{◌≡◌, refl, sym, ap, ◌∙◌, subst}
use mathlib.Core.Logic.{◌⊎◌, inl, inr}
use Prim.Native.Nat.{ℕ, zero, suc, ◌+◌, ◌^◌, ◌≤◌, ◌<◌}
use native.Mathlib.Omega.{arith}
use mathlib.Core.Bool.{Bool, true, false}
use mathlib.Core.List.{List, [], ◌∷◌}
use lib.ListN.{length, set, length-set}
use lib.Dec.{ltb, leb, eqb, eqb-suc-zero}
use borrow.Author.Tests.{ltb-true, ltb-false, lt-ltb, leb-true, le-leb}
use Rattle.format.specs.Bytes.{pick}
use Rattle.format.specs.Frame.{has_length}
use Rattle.format.specs.Header.{size_of}
use Rattle.format.specs.Popularimeter.{counter_of}
use Rattle.format.specs.Encode.{encode}
use Rattle.format.specs.Looks.{tag_look}
use Rattle.format.specs.declared.Version.{Version}
use Rattle.format.specs.declared.Mode.{Mode}
use Rattle.blocks.specs.Blocks.{joined, with_blocks}
use Rattle.raise.specs.Raise.{field_in, places_from, block_at, Answer, tag_version, tag_blocks}
use Rattle.raise.proofs.Accepting.{sum_at, Accepted}
use Rattle.edit.specs.Edit.{refuse, fitted}
use Rattle.edit.specs.Lift.{counts_in, lift_to, lift_places, lifted_of}
use Rattle.edit.specs.LiftPromises.{adding_refusal, lift_rec, SameButRoom, LiftOtherSame, LiftsOrder, LiftsEither}
use Rattle.edit.proofs.LiftMeters.{counted_block}
use Rattle.edit.proofs.LiftAccepting.{fits_in, lift_block, lift_refusal, lift_blocks, tag_lifted, lift_at, lift_in, lift_out, put_is, Lifted, lift_accept}
use Rattle.edit.proofs.LiftCame.{replaced_blocks, within_lifted, lift_accepted}
use Rattle.edit.proofs.LiftAfter.{lt, old_meter, size_same, version_same, after_blocks, after_looks, after_places}
use Rattle.edit.proofs.LiftGrows.{joined_set, lift_grows}
use Rattle.edit.proofs.LiftReads.{lift_refused_same}
use Rattle.edit.proofs.LiftPairs.{next_blocks, other_block, blocks_commute, other_place, second_place, second_blocks, lifts_commute}
use Rattle.std.specs.Prelude.{Result, Ok, Err}
use Rattle.format.specs.declared.refusals.Refusal.{Refusal}
use Rattle.format.specs.Refusals.{refusal}

-- ---- the answer by the block, the sum and the room

abbrev add_answer : ℕ → ℕ → Bool → Result ℕ Refusal
add_answer zero value room = pick room (Ok value) (Err (refusal 20))
add_answer (suc k) value room = Err (refusal (suc k))

abbrev lift_answer : Version → List ℕ → ℕ → Bool → Result ℕ Refusal
lift_answer v b value room = pick (ltb value (2 ^ 64)) (add_answer (lift_refusal v b value) value room) (Err (refusal 43))

abbrev has_room : List ℕ → ℕ → ℕ → Bool
has_room tag i amount = leb (length (joined (lift_blocks tag i (sum_at tag i amount)))) (size_of tag)

module _ (tag user : List ℕ) (amount i : ℕ) (looks : tag_look tag ≡ Ok true) (only : places_from (tag_version tag) user 0 (tag_blocks tag) ≡ i ∷ []) where
  abbrev v : Version
  v = tag_version tag

  abbrev b : List ℕ
  b = block_at (tag_blocks tag) i

  abbrev value : ℕ
  value = sum_at tag i amount

  fitted_answer : (t : Bool) (s : List ℕ) → (counts_in value (pick t (Ok tt, s) (refuse 20 tag))).0 ≡ pick t (Ok value) (Err (refusal 20))
  fitted_answer true s = refl
  fitted_answer false s = refl

  put_answer : (k : ℕ) → (counts_in value (pick (eqb k 0) (fitted (replaced_blocks tag i amount) tag) (refuse k tag))).0
      ≡ add_answer k value (leb (length (joined (replaced_blocks tag i amount))) (size_of tag))
  unfolding fitted
  put_answer zero = fitted_answer (leb (length (joined (replaced_blocks tag i amount))) (size_of tag)) (with_blocks (replaced_blocks tag i amount) tag)
  put_answer (suc k) = rw (eqb-suc-zero k)

  small_answer : value < 2 ^ 64 → (t : Bool) → fits_in v b value ≡ t
      → (lifted_of tag user amount).0 ≡ add_answer (pick t 0 (adding_refusal tag i amount)) value
      (leb (length (joined (set (tag_blocks tag) i (pick t (counted_block v b value) (encode v Mode.Off (lift_rec tag i amount)))))) (size_of tag))
  unfolding within_lifted
  small_answer small true e =
      let a : Accepted tag user amount = record { looks = looks; i = i; only = only; small = small; fits = ltb-true _ _ e } in
      let new : lift_block v b value ≡ counted_block v b value = rw e in
      let room : length (joined (set (tag_blocks tag) i (counted_block v b value))) ≤ size_of tag =
      subst (λ (c : List ℕ). length (joined (set (tag_blocks tag) i c)) ≤ size_of tag) new (within_lifted a).room in
      ap (λ (x : Answer). x.0) (lift_in tag user amount i looks only small (ltb-true _ _ e)).0
      ∙ rw (le-leb (length (joined (set (tag_blocks tag) i (counted_block v b value)))) (size_of tag) room)
  small_answer small false e =
      ap (λ (x : Answer). x.0) (lift_out tag user amount i looks only small (ltb-false _ _ e) ∙ ap (counts_in value) (put_is tag user amount i looks only small))
      ∙ put_answer (adding_refusal tag i amount)

  sum_answer : (t : Bool) → ltb value (2 ^ 64) ≡ t
      → (lifted_of tag user amount).0 ≡ pick t (add_answer (lift_refusal v b value) value (has_room tag i amount)) (Err (refusal 43))
  unfolding lift_to
  sum_answer true e = small_answer (ltb-true _ _ e) (fits_in v b value) refl
  sum_answer false e = ap (λ (x : Answer). x.0) (lift_at tag user amount i looks only) ∙ rw e

  lift_answer_lem : (lifted_of tag user amount).0 ≡ lift_answer (tag_version tag) (block_at (tag_blocks tag) i) (sum_at tag i amount) (has_room tag i amount)
  lift_answer_lem = sum_answer (ltb value (2 ^ 64)) refl

-- ---- another user's answer

rooms_differ : (v : Version) (b : List ℕ) (value : ℕ) (p q : Bool) → SameButRoom (lift_answer v b value p) (lift_answer v b value q)
rooms_differ v b value p q = by (ltb value (2 ^ 64)) (lift_refusal v b value) p q
  where
    by : (t : Bool) (k : ℕ) (p q : Bool) → SameButRoom (pick t (add_answer k value p) (Err (refusal 43))) (pick t (add_answer k value q) (Err (refusal 43)))
    by false k p q = SameButRoom.same (Err (refusal 43))
    by true (suc k) p q = SameButRoom.same (Err (refusal (suc k)))
    by true zero true true = SameButRoom.same (Ok value)
    by true zero true false = SameButRoom.taken value
    by true zero false true = SameButRoom.freed value
    by true zero false false = SameButRoom.same (Err (refusal 20))

both_are : {x y : Result ℕ Refusal} (z : Result ℕ Refusal) → x ≡ z → y ≡ z → SameButRoom x y
both_are {x} {y} z e f = subst (SameButRoom x) (e ∙ sym f) (SameButRoom.same x)

lift_places_lem : (tag user : List ℕ) (amount : ℕ) (l : List ℕ) → tag_look tag ≡ Ok true → places_from (tag_version tag) user 0 (tag_blocks tag) ≡ l
    → lifted_of tag user amount ≡ lift_places (tag_version tag) (tag_blocks tag) amount tag l
unfolding lifted_of
lift_places_lem tag user amount l looks places = rw (looks, places)

module _ {tag user : List ℕ} {amount : ℕ} (a : Lifted tag user amount) (other : List ℕ) (more : ℕ) (apart : user ≡ other → ⊥) where
  abbrev u : Version
  u = tag_version tag

  abbrev bs : List (List ℕ)
  bs = tag_blocks tag

  abbrev tag' : List ℕ
  tag' = tag_lifted tag a.i amount

  module _ (j : ℕ) (only : places_from (tag_version tag) other 0 (tag_blocks tag) ≡ j ∷ []) where
    -- its block is as it was, and so are its sum and what adding refuses of it
    same_block : block_at (tag_blocks tag') j ≡ block_at bs j
    same_block = ap (λ (l : List (List ℕ)). block_at l j) (after_blocks a) ∙ other_block u bs a.i j amount more (other_place a other j apart only)

    same_sum : sum_at tag' j more ≡ sum_at tag j more
    same_sum =
        ap (λ (w : Version). counter_of (field_in w (block_at (tag_blocks tag') j)) + more) (version_same a)
        ∙ ap (λ (c : List ℕ). counter_of (field_in u c) + more) same_block

    same_refusal : lift_refusal (tag_version tag') (block_at (tag_blocks tag') j) (sum_at tag' j more) ≡ lift_refusal u (block_at bs j) (sum_at tag j more)
    same_refusal =
        ap (λ (w : Version). lift_refusal w (block_at (tag_blocks tag') j) (sum_at tag' j more)) (version_same a)
        ∙ ap (λ (c : List ℕ). lift_refusal u c (sum_at tag' j more)) same_block
        ∙ ap (lift_refusal u (block_at bs j)) same_sum

    one_differs : SameButRoom (lifted_of tag other more).0 (lifted_of tag' other more).0
    one_differs =
        let before = lift_answer_lem tag other more j a.looks only in
        let after = lift_answer_lem tag' other more j (after_looks a) (after_places a other ∙ only) in
        let same : lift_answer (tag_version tag') (block_at (tag_blocks tag') j) (sum_at tag' j more) (has_room tag' j more)
        ≡ lift_answer u (block_at bs j) (sum_at tag j more) (has_room tag' j more) =
        ap (λ (k : ℕ). pick (ltb (sum_at tag' j more) (2 ^ 64)) (add_answer k (sum_at tag' j more) (has_room tag' j more)) (Err (refusal 43))) same_refusal
        ∙ ap (λ (n : ℕ). pick (ltb n (2 ^ 64)) (add_answer (lift_refusal u (block_at bs j) (sum_at tag j more)) n (has_room tag' j more)) (Err (refusal 43))) same_sum in
        subst (λ (x : Result ℕ Refusal). SameButRoom x (lifted_of tag' other more).0) (sym before)
        (subst (SameButRoom (lift_answer u (block_at bs j) (sum_at tag j more) (has_room tag j more))) (sym (after ∙ same))
        (rooms_differ u (block_at bs j) (sum_at tag j more) (has_room tag j more) (has_room tag' j more)))

  places_differ : (l : List ℕ) → places_from u other 0 bs ≡ l → SameButRoom (lifted_of tag other more).0 (lifted_of tag' other more).0
  places_differ [] e =
      both_are (Err (refusal 41)) (ap (λ (x : Answer). x.0) (lift_places_lem tag other more [] a.looks e))
      (ap (λ (x : Answer). x.0) (lift_places_lem tag' other more [] (after_looks a) (after_places a other ∙ e)))
  places_differ (j ∷ []) e = one_differs j e
  places_differ (i ∷ j ∷ l) e =
      both_are (Err (refusal 42)) (ap (λ (x : Answer). x.0) (lift_places_lem tag other more (i ∷ j ∷ l) a.looks e))
      (ap (λ (x : Answer). x.0) (lift_places_lem tag' other more (i ∷ j ∷ l) (after_looks a) (after_places a other ∙ e)))

pub lift_other_same : LiftOtherSame
lift_other_same tag user other amount more apart = by (lifted_of tag user amount).0 (lifted_of tag user amount).1 refl
  where
    by : (r : Result ℕ Refusal) (t : List ℕ) → lifted_of tag user amount ≡ (r, t) → SameButRoom (lifted_of tag other more).0 (lifted_of t other more).0
    by (Ok n) t e =
        let g = lift_accepted tag user amount e in
        subst (λ (s : List ℕ). SameButRoom (lifted_of tag other more).0 (lifted_of s other more).0) (sym g.tag_is)
        (places_differ g.was other more apart (places_from (tag_version tag) other 0 (tag_blocks tag)) refl)
    by (Err k) t e =
        subst (λ (s : List ℕ). SameButRoom (lifted_of tag other more).0 (lifted_of s other more).0) (sym (lift_refused_same tag user amount k.number t e))
        (SameButRoom.same (lifted_of tag other more).0)

-- ---- the other order

module _ {tag user other : List ℕ} {amount more : ℕ} (a : Lifted tag user amount) (c : Lifted (tag_lifted tag a.i amount) other more) (apart : user ≡ other → ⊥) where
  abbrev j : ℕ
  j = c.i

  there : places_from (tag_version tag) other 0 (tag_blocks tag) ≡ j ∷ []
  there = second_place a c

  small_first : sum_at tag j more < 2 ^ 64
  small_first = subst (λ (n : ℕ). n < 2 ^ 64) (same_sum a other more apart j there) c.small

  taken_first : lift_refusal (tag_version tag) (block_at (tag_blocks tag) j) (sum_at tag j more) ≡ 0
  taken_first = sym (same_refusal a other more apart j there) ∙ c.taken

  -- where the other has room by itself, both are accepted
  other_first : length (joined (lift_blocks tag j (sum_at tag j more))) ≤ size_of tag → Lifted tag other more
  other_first room = record { looks = a.looks; i = j; only = there; small = small_first; taken = taken_first; room = room }

  this_second : (room : length (joined (lift_blocks tag j (sum_at tag j more))) ≤ size_of tag) → Lifted (tag_lifted tag j more) user amount
  unfolding other_first
  this_second room =
      let d = other_first room in
      let v = tag_version tag in
      let bs = tag_blocks tag in
      let i = a.i in
      let back : other ≡ user → ⊥ = λ z. apart (sym z) in
      let ne = other_place a other j apart there in
      let blocks : lift_blocks (tag_lifted tag j more) i (sum_at (tag_lifted tag j more) i amount) ≡ lift_blocks (tag_lifted tag i amount) j (sum_at (tag_lifted tag i amount) j more) =
      ap (λ (w : Version). next_blocks w (tag_blocks (tag_lifted tag j more)) i amount) (version_same d)
      ∙ ap (λ (l : List (List ℕ)). next_blocks v l i amount) (after_blocks d)
      ∙ sym (blocks_commute v bs i j amount more ne)
      ∙ sym (second_blocks a c) in
      record {
        looks = after_looks d;
        i = i;
        only = after_places d user ∙ a.only;
        small = subst (λ (n : ℕ). n < 2 ^ 64) (sym (same_sum d user amount back i a.only)) a.small;
        taken = same_refusal d user amount back i a.only ∙ a.taken;
        room = subst (λ (n : ℕ). length (joined (lift_blocks (tag_lifted tag j more) i (sum_at (tag_lifted tag j more) i amount))) ≤ n) (size_same a ∙ sym (size_same d))
            (subst (λ (l : List (List ℕ)). length (joined l) ≤ size_of (tag_lifted tag i amount)) (sym blocks) c.room);
      }

  first_accepted : length (joined (lift_blocks tag j (sum_at tag j more))) ≤ size_of tag → lifted_of tag other more ≡ (Ok (sum_at tag j more), tag_lifted tag j more)
  unfolding other_first
  first_accepted room = lift_accept (other_first room)

  -- where it has none, 20
  other_lacks : has_room tag j more ≡ false → (lifted_of tag other more).0 ≡ Err (refusal 20)
  other_lacks e = lift_answer_lem tag other more j a.looks there ∙ rw (lt-ltb (sum_at tag j more) (2 ^ 64) small_first, taken_first, e)

both_then : (tag user other : List ℕ) (amount more n k : ℕ) (t s : List ℕ) (apart : user ≡ other → ⊥) → lifted_of tag user amount ≡ (Ok n, t)
    → lifted_of t other more ≡ (Ok k, s) → (a : Lifted tag user amount) (c : Lifted (tag_lifted tag a.i amount) other more)
    → length (joined (lift_blocks tag c.i (sum_at tag c.i more))) ≤ size_of tag
    → (t' : List ℕ) × ((lifted_of tag other more ≡ (Ok k, t')) × (lifted_of t' user amount ≡ (Ok n, s)))
both_then tag user other amount more n k t s apart e f a c room =
    let t' = tag_lifted tag c.i more in
    let one = first_accepted a c apart room in
    let two = lift_accept (this_second a c apart room) in
    let q = lifts_commute tag user other amount more n k _ _ t s t' _ apart e f one two in
    (t', (one ∙ (λ x. (Ok (sym q.1 x), t')), two ∙ (λ x. (Ok (sym q.0 x), sym q.2 x))))

pub lifts_order : LiftsOrder
lifts_order tag user other amount more n k t s apart e f =
    let g = lift_accepted tag user amount e in
    let a = g.was in
    let f' : lifted_of (tag_lifted tag a.i amount) other more ≡ (Ok k, s) = ap (λ (m : List ℕ). lifted_of m other more) (sym g.tag_is) ∙ f in
    let c = (lift_accepted (tag_lifted tag a.i amount) other more f').was in
    by a c (has_room tag c.i more) refl
  where
    by : (a : Lifted tag user amount) (c : Lifted (tag_lifted tag a.i amount) other more) (t : Bool) → has_room tag c.i more ≡ t
        → (lifted_of tag other more ≡ (Err (refusal 20), tag))
        ⊎ ((t' : List ℕ) × ((lifted_of tag other more ≡ (Ok k, t')) × (lifted_of t' user amount ≡ (Ok n, s))))
    by a c true h = inr (both_then tag user other amount more n k t s apart e f a c (leb-true _ _ h))
    by a c false h =
        let answer = other_lacks a c apart h in
        let m = (lifted_of tag other more).1 in
        let is : lifted_of tag other more ≡ (Err (refusal 20), m) = (λ x. (answer x, m)) in
        inl (is ∙ ap {B = Answer} (λ (l : List ℕ). (Err (refusal 20), l)) (lift_refused_same tag other more 20 m is))

-- ---- where nothing is freed

-- the other by itself takes no more than both
alone_room : {tag user other : List ℕ} {amount more : ℕ} (a : Lifted tag user amount) (c : Lifted (tag_lifted tag a.i amount) other more) → (user ≡ other → ⊥)
    → has_length (tag_version tag) (block_at (tag_blocks tag) a.i) ≡ false → length (joined (lift_blocks tag c.i (sum_at tag c.i more))) ≤ size_of tag
alone_room {tag} {user} {other} {amount} {more} a c apart none =
    let v = tag_version tag in
    let bs = tag_blocks tag in
    let i = a.i in
    let j = c.i in
    let ne = other_place a other j apart (second_place a c) in
    let cs = next_blocks v bs j more in
    let b = block_at cs i in
    let new = lift_block v b (counter_of (field_in v b) + amount) in
    let kept : b ≡ block_at bs i = other_block v bs j i more amount (λ z. ne (sym z)) in
    let block : new ≡ lift_block v (block_at bs i) (sum_at tag i amount) = ap (λ (d : List ℕ). lift_block v d (counter_of (field_in v d) + amount)) kept in
    let lt : i < length cs = omega (arith, lt a, length-set bs j (lift_block v (block_at bs j) (sum_at tag j more))) in
    let both : length (joined (next_blocks v cs i amount)) ≤ size_of tag =
    subst (λ (n : ℕ). length (joined (next_blocks v cs i amount)) ≤ n) (size_same a)
    (subst (λ (l : List (List ℕ)). length (joined l) ≤ size_of (tag_lifted tag i amount)) (second_blocks a c ∙ blocks_commute v bs i j amount more ne) c.room) in
    omega (arith, joined_set cs i new lt, lift_grows (old_meter a) (sum_at tag i amount) a.small none, ap length block, ap length kept)

pub lifts_either : LiftsEither
lifts_either tag user other amount more n k i t s apart only none e f =
    let g = lift_accepted tag user amount e in
    let a = g.was in
    let at : a.i ≡ i = let p = sym a.only ∙ only in cc in
    let none' = ap (λ (j : ℕ). has_length (tag_version tag) (block_at (tag_blocks tag) j)) at ∙ none in
    let f' : lifted_of (tag_lifted tag a.i amount) other more ≡ (Ok k, s) = ap (λ (m : List ℕ). lifted_of m other more) (sym g.tag_is) ∙ f in
    let c = (lift_accepted (tag_lifted tag a.i amount) other more f').was in
    both_then tag user other amount more n k t s apart e f a c (alone_room a c apart none')
