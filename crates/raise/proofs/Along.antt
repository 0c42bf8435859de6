-- The search along the frames finds what the places of the blocks say. Assumes nothing.
use mathlib.Core.Path.{◌≡◌, refl, sym, ap, ◌∙◌}
use Prim.Native.Nat.{ℕ, suc, ◌+◌, ◌-◌, ◌≤◌, ◌<◌}
use native.Mathlib.Omega.{arith}
use mathlib.Core.Bool.{Bool, true, false}
use mathlib.Core.List.{List, [], ◌∷◌, ◌++◌, map}
use lib.ListN.{length, take, drop, length-append, length-take}
use lib.Seq.{take_all}
use Rattle.format.specs.Bytes.{pick, zeros}
use Rattle.format.specs.Header.{size_of}
use Rattle.format.specs.Popularimeter.{counter_of}
use Rattle.format.specs.Looks.{tag_look, Look}
use Rattle.format.specs.declared.Version.{Version}
use Rattle.blocks.specs.Blocks.{joined}
use Rattle.raise.specs.declared.users.Found.{Found}
use Rattle.raise.specs.declared.seeking.Sought.{Sought}
use Rattle.raise.specs.Raise.{Answer, is_mine, field_in, field_at, places_from, block_at, counted_tag, raise_to, on_places, on_tag, tag_version, tag_blocks, raised_of}
use Rattle.raise.specs.Frames.{looked_as}
use Rattle.raise.specs.Seeks.{also_of, found_on, sought_by, sought_on, sought_of, raised_at, raised_by}
use Rattle.raise.proofs.Plainness.{PlainBlock, plain_at, tag_plain}
use Rattle.raise.proofs.Stored.{mine_kind, field_ends}
use Rattle.raise.proofs.Search.{found}
use Rattle.raise.proofs.Stores.{ends_before}
use Rattle.raise.proofs.Sums.{field_there}
use Rattle.std.specs.Prelude.{Result, Ok, Err}
use Rattle.raise.specs.declared.seeking.Sought.{Sought}
use Rattle.format.specs.declared.refusals.Refusal.{Refusal}

-- ---- what was found, by the places

-- the first block is at a place
abbrev pub found_at : Version → ℕ → List (List ℕ) → List ℕ → Found
found_at v at bs [] = Found.None
found_at v at bs (i ∷ []) =
    Found.One (at + length (joined (take i bs))) (at + (length (joined (take i bs)) + field_at v (block_at bs i))) (at + (length (joined (take i bs)) + length (block_at bs i))) (counter_of (field_in v (block_at bs i)))
found_at v at bs (i ∷ j ∷ l) = Found.Many

-- one and no other, or many
abbrev only_if : List ℕ → Found → Found
only_if [] f = f
only_if (i ∷ l) f = Found.Many

module _ (v : Version) (user : List ℕ) where
  many_stays : (at : ℕ) (bs : List (List ℕ)) → found_on v user Found.Many at bs ≡ Found.Many
  unfolding found_on
  many_stays at [] = refl
  many_stays at (b ∷ bs) = by (is_mine v user b) (many_stays (at + length b) bs)
    where
      by : (t : Bool) → found_on v user Found.Many (at + length b) bs ≡ Found.Many
          → found_on v user (also_of Found.Many t at (at + field_at v b) (at + length b) (counter_of (field_in v b))) (at + length b) bs ≡ Found.Many
      by true e = e
      by false e = e

  one_stays : (w x y z : ℕ) (at k : ℕ) (bs : List (List ℕ)) → found_on v user (Found.One w x y z) at bs ≡ only_if (places_from v user k bs) (Found.One w x y z)
  unfolding found_on places_from
  one_stays w x y z at k [] = refl
  one_stays w x y z at k (b ∷ bs) = by (is_mine v user b) (one_stays w x y z (at + length b) (suc k) bs)
    where
      by : (t : Bool) → found_on v user (Found.One w x y z) (at + length b) bs ≡ only_if (places_from v user (suc k) bs) (Found.One w x y z)
          → found_on v user (also_of (Found.One w x y z) t at (at + field_at v b) (at + length b) (counter_of (field_in v b))) (at + length b) bs
          ≡ only_if (pick t (k ∷ places_from v user (suc k) bs) (places_from v user (suc k) bs)) (Found.One w x y z)
      by true e = many_stays (at + length b) bs
      by false e = e

  -- counted from one more
  places_shift : (k : ℕ) (bs : List (List ℕ)) → places_from v user (suc k) bs ≡ map suc (places_from v user k bs)
  unfolding places_from
  places_shift k [] = refl
  places_shift k (b ∷ bs) = by (is_mine v user b) (places_shift (suc k) bs)
    where
      by : (t : Bool) → places_from v user (suc (suc k)) bs ≡ map suc (places_from v user (suc k) bs)
          → pick t (suc k ∷ places_from v user (suc (suc k)) bs) (places_from v user (suc (suc k)) bs)
          ≡ map suc (pick t (k ∷ places_from v user (suc k) bs) (places_from v user (suc k) bs))
      by true e = ap (λ (l : List ℕ). suc k ∷ l) e
      by false e = e

  -- places behind a first block
  behind_first : (at : ℕ) (b : List ℕ) (bs : List (List ℕ)) (l : List ℕ) → found_at v (at + length b) bs l ≡ found_at v at (b ∷ bs) (map suc l)
  behind_first at b bs [] = refl
  behind_first at b bs (i ∷ []) =
      let j = joined (take i bs) in
      let start : at + length b + (length j + field_at v (block_at bs i)) ≡ at + (length (b ++ j) + field_at v (block_at bs i)) = omega (arith, length-append b j) in
      let stop : at + length b + (length j + length (block_at bs i)) ≡ at + (length (b ++ j) + length (block_at bs i)) = omega (arith, length-append b j) in
      let begin : at + length b + length j ≡ at + length (b ++ j) = omega (arith, length-append b j) in
      rw (start, stop, begin)
  behind_first at b bs (i ∷ k ∷ l) = refl

  -- the first is the user's
  first_found : (at : ℕ) (b : List ℕ) (bs : List (List ℕ)) (l : List ℕ)
      → only_if l (Found.One at (at + field_at v b) (at + length b) (counter_of (field_in v b))) ≡ found_at v at (b ∷ bs) (0 ∷ l)
  first_found at b bs [] =
      let start : at + field_at v b ≡ at + (0 + field_at v b) = omega arith in
      let stop : at + length b ≡ at + (0 + length b) = omega arith in
      let begin : at ≡ at + 0 = omega arith in
      ap (λ (n : ℕ). Found.One n (at + field_at v b) (at + length b) (counter_of (field_in v b))) begin
      ∙ ap (λ (n : ℕ). Found.One (at + 0) n (at + length b) (counter_of (field_in v b))) start
      ∙ ap (λ (n : ℕ). Found.One (at + 0) (at + (0 + field_at v b)) n (counter_of (field_in v b))) stop
  first_found at b bs (i ∷ l) = refl

  pub found_places : (at : ℕ) (bs : List (List ℕ)) → found_on v user Found.None at bs ≡ found_at v at bs (places_from v user 0 bs)
  unfolding found_on places_from
  found_places at [] = refl
  found_places at (b ∷ bs) = by (is_mine v user b) (found_places (at + length b) bs)
    where
      by : (t : Bool) → found_on v user Found.None (at + length b) bs ≡ found_at v (at + length b) bs (places_from v user 0 bs)
          → found_on v user (also_of Found.None t at (at + field_at v b) (at + length b) (counter_of (field_in v b))) (at + length b) bs
          ≡ found_at v at (b ∷ bs) (pick t (0 ∷ places_from v user 1 bs) (places_from v user 1 bs))
      by true e = one_stays at (at + field_at v b) (at + length b) (counter_of (field_in v b)) (at + length b) 1 bs ∙ first_found at b bs (places_from v user 1 bs)
      by false e = e ∙ behind_first at b bs (places_from v user 0 bs) ∙ ap (found_at v at (b ∷ bs)) (sym (places_shift 0 bs))

-- ---- in a plain tag

module _ (tag user : List ℕ) (looks : tag_look tag ≡ Ok true) (i : ℕ) (l : List ℕ)
    (is : places_from (tag_version tag) user 0 (tag_blocks tag) ≡ i ∷ l) where
  abbrev v : Version
  v = tag_version tag

  abbrev bs : List (List ℕ)
  bs = tag_blocks tag

  abbrev b : List ℕ
  b = block_at bs i

  lt : i < length bs
  lt = (found v user bs i l is).0

  at_block : PlainBlock v b
  at_block = plain_at (tag_plain tag looks).blocks i lt

  -- the counter's bytes are the block's last
  pub ends_here : field_at (tag_version tag) (block_at (tag_blocks tag) i) + length (field_in (tag_version tag) (block_at (tag_blocks tag) i)) ≡ length (block_at (tag_blocks tag) i)
  ends_here = field_ends at_block (mine_kind at_block.block user (found v user bs i l is).1)

  -- and the block lies in the tag
  pub in_tag : 10 + (length (joined (take i (tag_blocks tag))) + length (block_at (tag_blocks tag) i)) ≤ length tag
  in_tag =
      let p = tag_plain tag looks in
      let all : take (length bs) bs ≡ bs = take_all (length bs) bs (omega arith) in
      omega (
        arith,
        ends_before bs i (length bs) lt lt,
        ap (λ (m : List (List ℕ)). length (joined m)) all,
        ap length p.is.region,
        p.is.all_there,
        length-append (joined bs) (zeros p.padding),
        length-take (size_of tag) (drop 10 tag),
      )

-- ---- the raise by what was sought

-- where the last frame ends
abbrev last_of : List ℕ → ℕ
last_of tag = 10 + length (joined (tag_blocks tag))

module _ (tag user : List ℕ) (amount : ℕ) where
  raised_places : (l : List ℕ) → places_from (tag_version tag) user 0 (tag_blocks tag) ≡ l → tag_look tag ≡ Ok true
      → on_places (tag_version tag) (tag_blocks tag) amount tag l ≡ raised_by (sought_by (found_at (tag_version tag) 10 (tag_blocks tag) l) (last_of tag)) amount tag
  unfolding raise_to raised_at counted_tag
  raised_places [] is looks = refl
  raised_places (i ∷ []) is looks =
      let b = block_at (tag_blocks tag) i in
      let j = length (joined (take i (tag_blocks tag))) in
      let n : length (field_in (tag_version tag) b) ≡ 10 + (j + length b) - (10 + (j + field_at (tag_version tag) b)) = omega (arith, ends_here tag user looks i [] is) in
      let start = 10 + (j + field_at (tag_version tag) b) in
      let there = field_there start (10 + (j + length b)) tag (omega (arith, ends_here tag user looks i [] is)) (in_tag tag user looks i [] is) in
      rw (n, there)
  raised_places (i ∷ k ∷ l) is looks = refl

  raised_look : (x : Look) → tag_look tag ≡ x
      → on_tag tag (on_places (tag_version tag) (tag_blocks tag) amount tag (places_from (tag_version tag) user 0 (tag_blocks tag))) x
      ≡ raised_by (looked_as x (sought_on (tag_version tag) user 10 (tag_blocks tag))) amount tag
  unfolding sought_on
  raised_look (Err k) e = refl
  raised_look (Ok false) e = refl
  raised_look (Ok true) e =
      raised_places (places_from (tag_version tag) user 0 (tag_blocks tag)) refl e
      ∙ ap (λ (f : Found). raised_by (sought_by f (last_of tag)) amount tag) (sym (found_places (tag_version tag) user 10 (tag_blocks tag)))

  raised_sought : raised_of tag user amount ≡ raised_by (sought_of tag user) amount tag
  unfolding raised_of sought_of
  raised_sought = raised_look (tag_look tag) refl

  pub raise_refused : {k : Refusal} → sought_of tag user ≡ Err k → ◌≡◌ {A = Answer} (Err k, tag) (raised_of tag user amount)
  raise_refused e = ap (λ (o : Result Sought Refusal). raised_by o amount tag) (sym e) ∙ sym raised_sought

  pub raise_found : {o : Sought} → sought_of tag user ≡ Ok o → raised_at o.start o.stop o.counter amount tag ≡ raised_of tag user amount
  raise_found e = ap (λ (o : Result Sought Refusal). raised_by o amount tag) (sym e) ∙ sym raised_sought
