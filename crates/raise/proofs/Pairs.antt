-- Two raises: for two users the order does not matter, for one user the amounts add up. Assumes nothing.
use mathlib.Core.Path.{◌≡◌, refl, sym, ap, ◌∙◌, subst}
use Prim.Native.Nat.{ℕ, ◌+◌, ◌^◌, ◌≤◌, ◌<◌}
use native.Mathlib.Omega.{arith}
use mathlib.Core.Bool.{Bool, true, false}
use mathlib.Core.List.{List, [], ◌∷◌}
use lib.ListN.{length, set}
use lib.Seq.{get_or-set_same, get_or-set_other}
use lib.Dec.{ltb}
use borrow.Author.Tests.{ltb-true, ltb-false}
use Rattle.laws.proofs.Stores.{sets_comm}
use Rattle.format.specs.Bytes.{pick}
use Rattle.format.specs.Popularimeter.{counter_of}
use Rattle.format.specs.declared.Version.{Version}
use Rattle.format.specs.Looks.{tag_look}
use Rattle.raise.specs.Raise.{is_mine, field_of, field_in, field_at, places_from, block_at, place_of, counted_tag, Answer, raise_to, on_places, tag_version, tag_blocks, raised_of}
use Rattle.raise.specs.Promises.{OtherSame, RaisesCommute, RaisesAdd}
use Rattle.raise.proofs.Fields.{field_length, field_counter, field_again}
use Rattle.raise.proofs.Stored.{one_user, field_ends, new_at, new_field}
use Rattle.raise.proofs.Search.{found}
use Rattle.raise.proofs.Stores.{sets_twice, same_begin, ends_before}
use Rattle.raise.proofs.Accepting.{sum_at, tag_after, Accepted, accept, accepted, refused_same}
use Rattle.raise.proofs.After.{lt, mine, at_block, kind, long, small, block_after, version_same, after_blocks, after_looks, after_places, block_length}
use Rattle.std.specs.Prelude.{Result, Ok, Err}
use Rattle.format.specs.declared.refusals.Refusal.{Refusal}
use Rattle.format.specs.Refusals.{refusal}

-- ---- answers by the block alone

abbrev answered : ℕ → ℕ → Result ℕ Refusal
answered value long = pick (ltb value (2 ^ 64)) (pick (ltb value (256 ^ long)) (Ok value) (Err (refusal 44))) (Err (refusal 43))

answer_is : (v : Version) (bs : List (List ℕ)) (i value : ℕ) (tag : List ℕ) → (raise_to v bs i value tag).0 ≡ answered value (length (field_in v (block_at bs i)))
unfolding raise_to
answer_is v bs i value tag = by (ltb value (2 ^ 64)) (ltb value (256 ^ length (field_in v (block_at bs i)))) (counted_tag v bs i value tag)
  where
    by : (p q : Bool) (s : List ℕ)
        → (pick {A = Answer} p (pick q (Ok value, s) (Err (refusal 44), tag)) (Err (refusal 43), tag)).0 ≡ pick p (pick q (Ok value) (Err (refusal 44))) (Err (refusal 43))
    by true true s = refl
    by true false s = refl
    by false q s = refl

-- the same blocks where that user's are: the same answer
same_answer : (v : Version) (bs cs : List (List ℕ)) (more : ℕ) (tag tag' l : List ℕ) → ((j : ℕ) (m : List ℕ) → l ≡ j ∷ m → block_at cs j ≡ block_at bs j)
    → (on_places v cs more tag' l).0 ≡ (on_places v bs more tag l).0
same_answer v bs cs more tag tag' [] h = refl
same_answer v bs cs more tag tag' (j ∷ []) h =
    answer_is v cs j (counter_of (field_in v (block_at cs j)) + more) tag'
    ∙ ap (λ (b : List ℕ). answered (counter_of (field_in v b) + more) (length (field_in v b))) (h j [] refl)
    ∙ sym (answer_is v bs j (counter_of (field_in v (block_at bs j)) + more) tag)
same_answer v bs cs more tag tag' (j ∷ k ∷ l) h = refl

-- what a plain tag answers
answer_plain : (tag user : List ℕ) (amount : ℕ) → tag_look tag ≡ Ok true
    → raised_of tag user amount ≡ on_places (tag_version tag) (tag_blocks tag) amount tag (places_from (tag_version tag) user 0 (tag_blocks tag))
unfolding raised_of
answer_plain tag user amount e = rw e

-- ---- two users

module _ {tag user : List ℕ} {amount : ℕ} (a : Accepted tag user amount) (other : List ℕ) (apart : user ≡ other → ⊥) where
  -- the other user's block is another
  pub other_place : (j : ℕ) (m : List ℕ) → places_from (tag_version tag) other 0 (tag_blocks tag) ≡ j ∷ m → a.i ≡ j → ⊥
  other_place j m e same =
      let theirs = (found (tag_version tag) other (tag_blocks tag) j m e).1 in
      apart (one_user (at_block a).block user other (mine a) (ap (λ (k : ℕ). is_mine (tag_version tag) other (block_at (tag_blocks tag) k)) same ∙ theirs))

  pub other_block : (j : ℕ) (m : List ℕ) → places_from (tag_version tag) other 0 (tag_blocks tag) ≡ j ∷ m
      → block_at (set (tag_blocks tag) a.i (block_after a)) j ≡ block_at (tag_blocks tag) j
  other_block j m e = get_or-set_other (tag_blocks tag) a.i j (block_after a) [] (λ z. other_place j m e (sym z))

  pub after_other : (more : ℕ) → (raised_of (tag_after tag a.i amount) other more).0 ≡ (raised_of tag other more).0
  after_other more =
      let v = tag_version tag in
      let bs = tag_blocks tag in
      let tag' = tag_after tag a.i amount in
      let l = places_from v other 0 bs in
      let one : (raised_of tag' other more).0 ≡ (on_places v (set bs a.i (block_after a)) more tag' l).0 =
      ap (λ (o : Answer). o.0) (answer_plain tag' other more (after_looks a))
      ∙ ap (λ (k : List ℕ). (on_places (tag_version tag') (tag_blocks tag') more tag' k).0) (after_places a other)
      ∙ ap (λ (u : Version). (on_places u (tag_blocks tag') more tag' l).0) (version_same a)
      ∙ ap (λ (cs : List (List ℕ)). (on_places v cs more tag' l).0) (after_blocks a) in
      one ∙ same_answer v bs (set bs a.i (block_after a)) more tag tag' l other_block ∙ sym (ap (λ (o : Answer). o.0) (answer_plain tag other more a.looks))

pub other_same : OtherSame
other_same tag user other amount more apart = by (raised_of tag user amount).0 (raised_of tag user amount).1 refl
  where
    by : (r : Result ℕ Refusal) (t : List ℕ) → raised_of tag user amount ≡ (r, t) → (raised_of t other more).0 ≡ (raised_of tag other more).0
    by (Ok n) t e =
        let g = accepted tag user amount e in
        ap (λ (s : List ℕ). (raised_of s other more).0) g.tag_is ∙ after_other g.was other apart more
    by (Err k) t e = ap (λ (s : List ℕ). (raised_of s other more).0) (refused_same tag user amount e)

-- ---- their order

-- one block changed, as long as it was: another's counter lies where it lay
moved_none : (v : Version) (bs : List (List ℕ)) (i j value : ℕ) (b tag : List ℕ) → length b ≡ length (block_at bs i) → block_at (set bs i b) j ≡ block_at bs j
    → counted_tag v (set bs i b) j value tag ≡ counted_tag v bs j value tag
unfolding counted_tag
moved_none v bs i j value b tag long same = rw (same, same_begin bs i b long j)

before : (v : Version) (bs : List (List ℕ)) (i j n k : ℕ) (tag : List ℕ) → i < j → i < length bs → field_at v (block_at bs i) + length (field_in v (block_at bs i)) ≡ length (block_at bs i)
    → counted_tag v bs i n (counted_tag v bs j k tag) ≡ counted_tag v bs j k (counted_tag v bs i n tag)
unfolding counted_tag
before v bs i j n k tag lt le ends =
    sets_comm tag (place_of v bs i) (place_of v bs j) (field_of (field_in v (block_at bs i)) n) (field_of (field_in v (block_at bs j)) k)
    (omega (arith, ends_before bs i j lt le, field_length (field_in v (block_at bs i)) n))

either_order : (v : Version) (bs : List (List ℕ)) (i j n k : ℕ) (tag : List ℕ) → (i ≡ j → ⊥) → i < length bs → j < length bs
    → field_at v (block_at bs i) + length (field_in v (block_at bs i)) ≡ length (block_at bs i)
    → field_at v (block_at bs j) + length (field_in v (block_at bs j)) ≡ length (block_at bs j)
    → counted_tag v bs i n (counted_tag v bs j k tag) ≡ counted_tag v bs j k (counted_tag v bs i n tag)
either_order v bs i j n k tag ne hi hj ei ej = by (ltb i j) refl
  where
    by : (t : Bool) → ltb i j ≡ t → counted_tag v bs i n (counted_tag v bs j k tag) ≡ counted_tag v bs j k (counted_tag v bs i n tag)
    by true e = before v bs i j n k tag (ltb-true i j e) hi ei
    by false e =
        let le = ltb-false i j e in
        let below : j < i = by_ne i j ne le in
        sym (before v bs j i k n tag below hj ej)
      where
        by_ne : (i j : ℕ) → (i ≡ j → ⊥) → j ≤ i → j < i
        by_ne i j ne le = omega arith

-- where the other user's raise is accepted before, it gives that tag after
module _ {tag user other : List ℕ} {amount more : ℕ} (a : Accepted tag user amount) (c : Accepted tag other more) (apart : user ≡ other → ⊥) where
  abbrev v : Version
  v = tag_version tag

  abbrev bs : List (List ℕ)
  bs = tag_blocks tag

  -- the tag after both, this one last
  both_after : {k : ℕ} {s : List ℕ} → raised_of (tag_after tag a.i amount) other more ≡ (Ok k, s)
      → s ≡ counted_tag v bs c.i (sum_at tag c.i more) (tag_after tag a.i amount)
  both_after {k} {s} e =
      let tag' = tag_after tag a.i amount in
      let j = c.i in
      let cs = set bs a.i (block_after a) in
      let same = other_block a other apart j [] c.only in
      let g = accepted tag' other more e in
      let at_j : g.was.i ≡ j = let p = sym g.was.only ∙ after_places a other ∙ c.only in cc in
      let value : sum_at tag' j more ≡ sum_at tag j more =
      ap (λ (u : Version). counter_of (field_in u (block_at (tag_blocks tag') j)) + more) (version_same a)
      ∙ ap (λ (l : List (List ℕ)). counter_of (field_in v (block_at l j)) + more) (after_blocks a)
      ∙ ap (λ (b : List ℕ). counter_of (field_in v b) + more) same in
      g.tag_is
      ∙ ap (λ (i : ℕ). tag_after tag' i more) at_j
      ∙ ap (λ (u : Version). counted_tag u (tag_blocks tag') j (sum_at tag' j more) tag') (version_same a)
      ∙ ap (λ (l : List (List ℕ)). counted_tag v l j (sum_at tag' j more) tag') (after_blocks a)
      ∙ ap (λ (n : ℕ). counted_tag v cs j n tag') value
      ∙ moved_none v bs a.i j (sum_at tag j more) (block_after a) tag' (block_length a) same

pub raises_commute : RaisesCommute
raises_commute tag user other amount more n k t s apart e f =
    let v = tag_version tag in
    let bs = tag_blocks tag in
    let g = accepted tag user amount e in
    let a = g.was in
    let f' : raised_of (tag_after tag a.i amount) other more ≡ (Ok k, s) = ap (λ (m : List ℕ). raised_of m other more) (sym g.tag_is) ∙ f in
    let apart' : other ≡ user → ⊥ = λ z. apart (sym z) in
    let t' = (raised_of tag other more).1 in
    let answer : (raised_of tag other more).0 ≡ Ok k = sym (after_other a other apart more) ∙ ap (λ (o : Answer). o.0) f' in
    let e' : raised_of tag other more ≡ (Ok k, t') = (λ i. (answer i, t')) in
    let h = accepted tag other more e' in
    let c = h.was in
    let s' = (raised_of (tag_after tag c.i more) user amount).1 in
    let answer' : (raised_of (tag_after tag c.i more) user amount).0 ≡ Ok n = after_other c user apart' amount ∙ ap (λ (o : Answer). o.0) e in
    let f'' : raised_of (tag_after tag c.i more) user amount ≡ (Ok n, s') = (λ i. (answer' i, s')) in
    let one = both_after a c apart f' in
    let two = both_after c a apart' f'' in
    let ne : a.i ≡ c.i → ⊥ = other_place a other apart c.i [] c.only in
    let order : counted_tag v bs a.i (sum_at tag a.i amount) (tag_after tag c.i more) ≡ counted_tag v bs c.i (sum_at tag c.i more) (tag_after tag a.i amount) =
    either_order v bs a.i c.i (sum_at tag a.i amount) (sum_at tag c.i more) tag ne (lt a) (lt c) (field_ends (at_block a) (kind a)) (field_ends (at_block c) (kind c)) in
    let same : s' ≡ s = two ∙ order ∙ sym one in
    let there : raised_of t' user amount ≡ (Ok n, s') = ap (λ (m : List ℕ). raised_of m user amount) h.tag_is ∙ f'' in
    (t', (e', there ∙ ap {B = Answer} (λ (m : List ℕ). (Ok n, m)) same))

-- ---- one user

twice_counted : (v : Version) (bs : List (List ℕ)) (i n k : ℕ) (tag b : List ℕ) → length b ≡ length (block_at bs i) → field_at v b ≡ field_at v (block_at bs i)
    → field_in v b ≡ field_of (field_in v (block_at bs i)) n → block_at (set bs i b) i ≡ b
    → counted_tag v (set bs i b) i k (counted_tag v bs i n tag) ≡ counted_tag v bs i k tag
unfolding counted_tag
twice_counted v bs i n k tag b long at field is =
    let f = field_in v (block_at bs i) in
    let p = place_of v bs i in
    let place : place_of v (set bs i b) i ≡ p = rw (is, at, same_begin bs i b long i) in
    let new : field_of (field_in v (block_at (set bs i b) i)) k ≡ field_of f k = rw (is, field) (field_again f n k) in
    rw (place, new) (sets_twice tag p (field_of f n) (field_of f k) (field_length f n ∙ sym (field_length f k)))

pub raises_add : RaisesAdd
raises_add tag user amount more n k t s e f =
    let v = tag_version tag in
    let bs = tag_blocks tag in
    let g = accepted tag user amount e in
    let a = g.was in
    let i = a.i in
    let b = block_at bs i in
    let first = sum_at tag i amount in
    let x = field_of (field_in v b) first in
    let tag' = tag_after tag i amount in
    let h = accepted tag' user more (ap (λ (m : List ℕ). raised_of m user more) (sym g.tag_is) ∙ f) in
    let c = h.was in
    let at_i : c.i ≡ i = let p = sym c.only ∙ after_places a user ∙ a.only in cc in
    let is : block_at (set bs i (block_after a)) i ≡ block_after a = get_or-set_same bs i (block_after a) [] (lt a) in
    let block : block_at (tag_blocks tag') c.i ≡ block_after a = ap (block_at (tag_blocks tag')) at_i ∙ ap (λ (l : List (List ℕ)). block_at l i) (after_blocks a) ∙ is in
    let field : field_in v (block_after a) ≡ x = new_field (at_block a) (kind a) x (long a) (small a) in
    let there : field_in (tag_version tag') (block_at (tag_blocks tag') c.i) ≡ x =
    ap (λ (u : Version). field_in u (block_at (tag_blocks tag') c.i)) (version_same a) ∙ ap (field_in v) block ∙ field in
    let counter : counter_of x ≡ first = field_counter (field_in v b) first a.fits in
    let second : sum_at tag' c.i more ≡ sum_at tag i (amount + more) = ap (λ (m : List ℕ). counter_of m + more) there ∙ omega (arith, counter) in
    let width : length (field_in (tag_version tag') (block_at (tag_blocks tag') c.i)) ≡ length (field_in v b) = ap length there ∙ long a in
    let both : Accepted tag user (amount + more) = record {
      looks = a.looks;
      i = i;
      only = a.only;
      small = subst (λ (m : ℕ). m < 2 ^ 64) second c.small;
      fits = subst (λ (m : ℕ). m < 256 ^ length (field_in v b)) second (subst (λ (m : ℕ). sum_at tag' c.i more < 256 ^ m) width c.fits);
    } in
    let last : s ≡ tag_after tag i (amount + more) =
    h.tag_is
    ∙ ap (λ (m : ℕ). counted_tag (tag_version tag') (tag_blocks tag') c.i m tag') second
    ∙ ap (λ (m : ℕ). counted_tag (tag_version tag') (tag_blocks tag') m (sum_at tag i (amount + more)) tag') at_i
    ∙ ap (λ (u : Version). counted_tag u (tag_blocks tag') i (sum_at tag i (amount + more)) tag') (version_same a)
    ∙ ap (λ (l : List (List ℕ)). counted_tag v l i (sum_at tag i (amount + more)) tag') (after_blocks a)
    ∙ twice_counted v bs i first (sum_at tag i (amount + more)) tag (block_after a) (block_length a) (new_at (at_block a) (kind a) x (long a) (small a)) field is in
    let sum : sum_at tag i (amount + more) ≡ k = sym second ∙ sym h.sum in
    accept both ∙ (λ j. (Ok (sum j), sym last j))
