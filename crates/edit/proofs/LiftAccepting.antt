-- When a lift is accepted, and what it then gives: the tag of the same blocks with one other, whichever way it went. Assumes nothing.
use mathlib.Core.Path.{◌≡◌, refl, sym, ap, ◌∙◌, subst}
use Prim.Native.Nat.{ℕ, suc, ◌+◌, ◌-◌, ◌^◌, ◌≤◌, ◌<◌}
use native.Mathlib.Omega.{arith}
use mathlib.Core.Bool.{Bool, true, false}
use mathlib.Core.List.{List, [], ◌∷◌, ◌++◌}
use lib.ListN.{length, take, drop, set, length-append, length-drop, length-replicate, take-append-drop}
use lib.Seq.{length-take-le, drop-drop}
use lib.Dec.{ltb, eqb}
use borrow.Author.Tests.{ltb-true, ltb-false, lt-ltb, le-ltb, le-leb, eq-eqb}
use Rattle.format.specs.Bytes.{pick, zeros}
use Rattle.format.specs.Header.{size_of}
use Rattle.format.specs.Record.{Rec}
use Rattle.format.specs.Encode.{encode, refusal_of}
use Rattle.format.specs.Looks.{tag_look}
use Rattle.format.specs.declared.Version.{Version}
use Rattle.format.specs.declared.Mode.{Mode}
use Rattle.blocks.specs.Blocks.{joined, with_blocks}
use Rattle.blocks.proofs.Headers.{same_size}
use Rattle.blocks.proofs.Edits.{splice_one}
use Rattle.raise.specs.Raise.{field_in, places_from, block_at, Answer, tag_version, tag_blocks, raised_of}
use Rattle.raise.proofs.Search.{found}
use Rattle.raise.proofs.Accepting.{sum_at, tag_after, Accepted, accept}
use Rattle.raise.proofs.After.{was_plain, block_after, after_plain, front_same, length_same}
use Rattle.raise.proofs.Promises.{raise_reads}
use Rattle.edit.specs.Edit.{refuse, fitted, put_in}
use Rattle.edit.specs.Lift.{recounted, counts_in, lift_to, lifted_of}
use Rattle.edit.proofs.LiftMeters.{counted_block}
use Rattle.std.specs.Prelude.{Ok}

-- ---- the block that a lift puts

-- the counter's bytes hold the sum
abbrev pub fits_in : Version → List ℕ → ℕ → Bool
fits_in v b value = ltb value (256 ^ length (field_in v b))

-- with the counter in its bytes, or in a frame of its own
abbrev pub lift_block : Version → List ℕ → ℕ → List ℕ
lift_block v b value = pick (fits_in v b value) (counted_block v b value) (encode v Mode.Off (recounted v b value))

-- what adding refuses of it, if it comes to that
abbrev pub lift_refusal : Version → List ℕ → ℕ → ℕ
lift_refusal v b value = pick (fits_in v b value) 0 (refusal_of v Mode.Off false (recounted v b value))

-- the blocks then
abbrev pub lift_blocks : List ℕ → ℕ → ℕ → List (List ℕ)
lift_blocks tag i value = set (tag_blocks tag) i (lift_block (tag_version tag) (block_at (tag_blocks tag) i) value)

-- ---- tags by their blocks

-- a tag with the header of another and what follows it, and these blocks and zeros in between
with_is : (tag tag' : List ℕ) (bs : List (List ℕ)) (p : ℕ) → 10 + size_of tag ≤ length tag' → take 10 tag' ≡ take 10 tag
    → drop (10 + size_of tag) tag' ≡ drop (10 + size_of tag) tag → take (size_of tag) (drop 10 tag') ≡ joined bs ++ zeros p → tag' ≡ with_blocks bs tag
unfolding with_blocks
with_is tag tag' bs p there front back region =
    let n = size_of tag in
    let long : length (take n (drop 10 tag')) ≡ n = length-take-le n (drop 10 tag') (omega (arith, length-drop 10 tag')) in
    let pad : p ≡ n - length (joined bs) = omega (arith, ap length region, length-append (joined bs) (zeros p), length-replicate {A = ℕ} p 0) in
    let behind : drop n (drop 10 tag') ≡ drop n (drop 10 tag) = drop-drop n 10 tag' ∙ back ∙ sym (drop-drop n 10 tag) in
    sym (take-append-drop 10 tag')
    ∙ ap (λ (l : List ℕ). l ++ drop 10 tag') front
    ∙ ap (λ (l : List ℕ). take 10 tag ++ l)
    (sym (take-append-drop n (drop 10 tag'))
    ∙ ap (λ (l : List ℕ). l ++ drop n (drop 10 tag')) (region ∙ ap (λ (k : ℕ). joined bs ++ zeros k) pad)
    ∙ ap (λ (l : List ℕ). (joined bs ++ zeros (n - length (joined bs))) ++ l) behind)

-- ---- in the counter's bytes

-- A raise that is accepted leaves the tag of the same blocks with that one counted.
pub raised_with : {tag user : List ℕ} {amount : ℕ} (a : Accepted tag user amount)
    → tag_after tag a.i amount ≡ with_blocks (set (tag_blocks tag) a.i (block_after a)) tag
raised_with {tag} {user} {amount} a =
    let tag' = tag_after tag a.i amount in
    let p = (was_plain a).is in
    let r = raise_reads tag user amount (sum_at tag a.i amount) tag' (accept a) in
    let size : size_of tag' ≡ size_of tag = same_size tag tag' (sym (front_same a)) in
    let n = 10 + size_of tag in
    let back : drop n tag' ≡ drop n tag = behind (r.at + r.count) n tag' tag r.in_tag r.same_back in
    with_is tag tag' _ (was_plain a).padding (omega (arith, p.all_there, length_same a)) (front_same a) back
    (ap (λ (k : ℕ). take k (drop 10 tag')) (sym size) ∙ (after_plain a).region)
  where
    behind : (k n : ℕ) (s t : List ℕ) → k ≤ n → drop k s ≡ drop k t → drop n s ≡ drop n t
    behind k n s t le e =
        let m : n ≡ k + (n - k) = omega arith in
        ap (λ (j : ℕ). drop j s) m ∙ sym (drop-drop (n - k) k s) ∙ ap (drop (n - k)) e ∙ drop-drop (n - k) k t ∙ ap (λ (j : ℕ). drop j t) (sym m)

-- ---- either way

module _ (tag user : List ℕ) (amount i : ℕ) (looks : tag_look tag ≡ Ok true) (only : places_from (tag_version tag) user 0 (tag_blocks tag) ≡ i ∷ []) where
  abbrev v : Version
  v = tag_version tag

  abbrev bs : List (List ℕ)
  bs = tag_blocks tag

  abbrev value : ℕ
  value = sum_at tag i amount

  abbrev width : ℕ
  width = length (field_in v (block_at bs i))

  pub place_lt : i < length (tag_blocks tag)
  place_lt = (found v user bs i [] only).0

  pub lift_at : lifted_of tag user amount ≡ lift_to (tag_version tag) (tag_blocks tag) i (sum_at tag i amount) tag
  unfolding lifted_of
  lift_at = rw (looks, only)

  module _ (small : sum_at tag i amount < 2 ^ 64) where
    -- the sum fits its bytes
    pub lift_in : sum_at tag i amount < 256 ^ length (field_in (tag_version tag) (block_at (tag_blocks tag) i))
        → (lifted_of tag user amount ≡ (Ok (sum_at tag i amount), with_blocks (lift_blocks tag i (sum_at tag i amount)) tag))
        × (lifted_of tag user amount ≡ raised_of tag user amount)
    unfolding lift_to
    lift_in fits =
        let a : Accepted tag user amount = record { looks = looks; i = i; only = only; small = small; fits = fits } in
        let t = lt-ltb value (256 ^ width) fits in
        let is : lifted_of tag user amount ≡ (Ok value, tag_after tag i amount) = lift_at ∙ rw (lt-ltb value (2 ^ 64) small, t) in
        let block : block_after a ≡ lift_block v (block_at bs i) value = rw t in
        (is ∙ ap {B = Answer} (λ (s : List ℕ). (Ok value, s)) (raised_with a ∙ ap (λ (b : List ℕ). with_blocks (set bs i b) tag) block), is ∙ sym (accept a))

    -- it does not: the frame is replaced
    pub lift_out : 256 ^ length (field_in (tag_version tag) (block_at (tag_blocks tag) i)) ≤ sum_at tag i amount
        → lifted_of tag user amount ≡ counts_in (sum_at tag i amount) (put_in i (suc i) (recounted (tag_version tag) (block_at (tag_blocks tag) i) (sum_at tag i amount)) tag)
    unfolding lift_to
    lift_out wide = lift_at ∙ rw (lt-ltb value (2 ^ 64) small, le-ltb value (256 ^ width) wide)

    pub put_is : put_in i (suc i) (recounted (tag_version tag) (block_at (tag_blocks tag) i) (sum_at tag i amount)) tag
        ≡ pick (eqb (refusal_of (tag_version tag) Mode.Off false (recounted (tag_version tag) (block_at (tag_blocks tag) i) (sum_at tag i amount))) 0)
        (fitted (set (tag_blocks tag) i (encode (tag_version tag) Mode.Off (recounted (tag_version tag) (block_at (tag_blocks tag) i) (sum_at tag i amount)))) tag)
        (refuse (refusal_of (tag_version tag) Mode.Off false (recounted (tag_version tag) (block_at (tag_blocks tag) i) (sum_at tag i amount))) tag)
    unfolding put_in
    put_is =
        let r = recounted v (block_at bs i) value in
        ap (λ (l : List (List ℕ)). pick (eqb (refusal_of v Mode.Off false r) 0) (fitted l tag) (refuse (refusal_of v Mode.Off false r) tag))
        (splice_one i (encode v Mode.Off r) bs place_lt)

-- ---- from the conditions to the answer

pub record Lifted (tag user : List ℕ) (amount : ℕ) : Type 0 where
  pub looks : tag_look tag ≡ Ok true
  pub i : ℕ
  pub only : places_from (tag_version tag) user 0 (tag_blocks tag) ≡ i ∷ []
  pub small : sum_at tag i amount < 2 ^ 64
  pub taken : lift_refusal (tag_version tag) (block_at (tag_blocks tag) i) (sum_at tag i amount) ≡ 0
  pub room : length (joined (lift_blocks tag i (sum_at tag i amount))) ≤ size_of tag

abbrev pub tag_lifted : List ℕ → ℕ → ℕ → List ℕ
tag_lifted tag i amount = with_blocks (lift_blocks tag i (sum_at tag i amount)) tag

module _ {tag user : List ℕ} {amount : ℕ} (a : Lifted tag user amount) where
  abbrev b : List ℕ
  b = block_at (tag_blocks tag) a.i

  abbrev sum : ℕ
  sum = sum_at tag a.i amount

  abbrev r : Rec
  r = recounted (tag_version tag) b sum

  accept_by : (t : Bool) → fits_in (tag_version tag) b sum ≡ t → lifted_of tag user amount ≡ (Ok sum, tag_lifted tag a.i amount)
  unfolding fitted
  accept_by true e = (lift_in tag user amount a.i a.looks a.only a.small (ltb-true _ _ e)).0
  accept_by false e =
      let k : refusal_of (tag_version tag) Mode.Off false r ≡ 0 = subst (λ (t : Bool). pick t 0 (refusal_of (tag_version tag) Mode.Off false r) ≡ 0) e a.taken in
      let new : lift_block (tag_version tag) b sum ≡ encode (tag_version tag) Mode.Off r = rw e in
      let room : length (joined (set (tag_blocks tag) a.i (encode (tag_version tag) Mode.Off r))) ≤ size_of tag =
      subst (λ (c : List ℕ). length (joined (set (tag_blocks tag) a.i c)) ≤ size_of tag) new a.room in
      lift_out tag user amount a.i a.looks a.only a.small (ltb-false _ _ e)
      ∙ ap (counts_in sum) (put_is tag user amount a.i a.looks a.only a.small)
      ∙ rw (eq-eqb (refusal_of (tag_version tag) Mode.Off false r) 0 k, le-leb (length (joined (set (tag_blocks tag) a.i (encode (tag_version tag) Mode.Off r)))) (size_of tag) room)
      (ap {B = Answer} (λ (c : List ℕ). (Ok sum, with_blocks (set (tag_blocks tag) a.i c) tag)) (sym new))

  pub lift_accept : lifted_of tag user amount ≡ (Ok (sum_at tag a.i amount), tag_lifted tag a.i amount)
  lift_accept = accept_by (fits_in (tag_version tag) b sum) refl
