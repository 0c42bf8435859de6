-- A frame in the place of blocks of a plain tag: by bytes moved and stored, as the list of blocks has it. Assumes nothing.
use mathlib.Core.Path.{◌≡◌, refl, sym, ap, ◌∙◌}
use Prim.Native.Nat.{ℕ, ◌+◌, ◌-◌, ◌≤◌}
use native.Mathlib.Omega.{arith}
use mathlib.Core.Bool.{Bool, true, false, not}
use mathlib.Core.List.{List, [], ◌∷◌, ◌++◌, append_assoc, append-nil}
use lib.ListN.{length, take, drop, length-append, length-replicate, replicate-append-replicate, take-append-drop}
use lib.Seq.{slice, sets, drop-drop, take_at, drop_at, drop-append-add, drop-append-le, length-take-le}
use lib.Dec.{leb, eqb}
use borrow.Author.Tests.{leb-true, leb-false, le-leb, lt-leb}
use Rattle.laws.proofs.Cuts.{take_drop}
use Rattle.laws.proofs.Stores.{sets_in}
use Rattle.format.specs.Bytes.{pick, zeros}
use Rattle.format.specs.Header.{size_of}
use Rattle.format.specs.Record.{Rec}
use Rattle.format.specs.Encode.{refusal_of, encode}
use Rattle.format.specs.declared.Mode.{Mode}
use Rattle.moves.specs.Moves.{shifted}
use Rattle.writer.specs.declared.between.Gap.{Gap}
use Rattle.writer.specs.Between.{is_ordered, has_room, refitted, refit_of, placed_of}
use Rattle.blocks.specs.Blocks.{joined, splice, region_in, with_blocks}
use Rattle.blocks.proofs.Edits.{joined_append}
use Rattle.blocks.proofs.Plain.{plain_size}
use Rattle.raise.specs.Raise.{tag_version, tag_blocks}
use Rattle.raise.proofs.Plainness.{Plain}
use Rattle.edit.specs.Edit.{Edit, fitted, put_in}
use Rattle.edit.proofs.OtherBlocks.{drop_zeros}
use Rattle.std.specs.Prelude.{Ok, Err}
use Rattle.format.specs.Refusals.{refusal}
use Rattle.format.specs.Frame.{head}

-- ---- bytes

zeros_join : (new c back : List ℕ) (n k : ℕ) → (new ++ (c ++ zeros n)) ++ (zeros k ++ back) ≡ new ++ (c ++ (zeros (n + k) ++ back))
zeros_join new c back n k =
    append_assoc new (c ++ zeros n) (zeros k ++ back)
    ∙ ap (λ (l : List ℕ). new ++ l) (append_assoc c (zeros n) (zeros k ++ back) ∙ ap (λ (l : List ℕ). c ++ l) (sym (append_assoc (zeros n) (zeros k) back)))
    ∙ ap (λ (l : List ℕ). new ++ (c ++ (l ++ back))) (replicate-append-replicate n k 0)

-- In the place of m come others, with c after them, where zeros had room for them: c is moved, and the zeros are fewer or more.
module _ (u m c back new : List ℕ) (p : ℕ) (room : length new ≤ length m + p) where
  abbrev rest : List ℕ
  rest = m ++ (c ++ (zeros p ++ back))

  stays : slice (length u + length m) (length u + length m + length c) (u ++ rest) ≡ c
  stays =
      sym (take_drop (length c) (length u + length m) (u ++ rest))
      ∙ ap (take (length c)) (drop-append-add u rest (length m) ∙ drop_at m (c ++ (zeros p ++ back)) (length m) refl)
      ∙ take_at c (zeros p ++ back) (length c) refl

  abbrev freed : ℕ
  freed = length u + length m - (length u + length new)

  abbrev put : List ℕ
  put = new ++ (c ++ zeros freed)

  put_long : length put ≡ length new + (length c + freed)
  put_long = omega (arith, length-append new (c ++ zeros freed), length-append c (zeros freed), length-replicate {A = ℕ} freed 0)

  -- behind what was put only zeros are left, and what follows
  left : drop (length put) rest ≡ zeros (length m + length c + p - length put) ++ back
  left =
      let over = length put - (length m + length c) in
      let n : length put ≡ length (m ++ c) + over = omega (arith, put_long, length-append m c) in
      let k : p - over ≡ length m + length c + p - length put = omega (arith, put_long) in
      let z : drop over (zeros p) ≡ zeros (p - over) = drop_zeros over p in
      ap (λ (l : List ℕ). drop (length put) l) (sym (append_assoc m c (zeros p ++ back)))
      ∙ ap (λ (i : ℕ). drop i ((m ++ c) ++ (zeros p ++ back))) n
      ∙ drop-append-add (m ++ c) (zeros p ++ back) over
      ∙ drop-append-le over (zeros p) back (omega (arith, put_long, length-replicate {A = ℕ} p 0))
      ∙ ap (λ (l : List ℕ). l ++ back) (z ∙ ap zeros k)

  -- what was put, and what is left
  zeros_meet : put ++ (zeros (length m + length c + p - length put) ++ back) ≡ new ++ (c ++ (zeros (length m + p - length new) ++ back))
  zeros_meet =
      let k : freed + (length m + length c + p - length put) ≡ length m + p - length new = omega (arith, put_long) in
      zeros_join new c back freed (length m + length c + p - length put) ∙ ap (λ (n : ℕ). new ++ (c ++ (zeros n ++ back))) k

  put_stored : sets (u ++ rest) (length u) put ≡ u ++ (put ++ drop (length put) rest)
  put_stored =
      let fits : length u + length put ≤ length (u ++ rest) =
      omega (
        arith,
        put_long,
        length-append u rest,
        length-append m (c ++ (zeros p ++ back)),
        length-append c (zeros p ++ back),
        length-append (zeros p) back,
        length-replicate {A = ℕ} p 0,
      ) in
      sets_in (u ++ rest) (length u) put fits ∙ rw (take_at u rest (length u) refl, drop_at u rest (length u) refl)

  pub moved_stored : sets (u ++ rest) (length u) (new ++ (slice (length u + length m) (length u + length m + length c) (u ++ rest) ++ zeros freed))
      ≡ u ++ (new ++ (c ++ (zeros (length m + p - length new) ++ back)))
  moved_stored = ap (λ (l : List ℕ). sets (u ++ rest) (length u) (new ++ (l ++ zeros freed))) stays ∙ put_stored ∙ ap (λ (l : List ℕ). u ++ l) (ap (λ (l : List ℕ). put ++ l) left ∙ zeros_meet)

-- ---- numbers

leb_more : (n k m : ℕ) → leb (n + k) (n + m) ≡ leb k m
leb_more n k m = by (leb k m) refl
  where
    by : (t : Bool) → leb k m ≡ t → leb (n + k) (n + m) ≡ t
    by true e = le-leb (n + k) (n + m) (omega (arith, leb-true k m e))
    by false e = lt-leb (n + k) (n + m) (omega (arith, leb-false k m e))

-- ---- blocks

-- a region between a front and a back, in other brackets
parts_join : (head a m c z back : List ℕ) → head ++ (((a ++ (m ++ c)) ++ z) ++ back) ≡ (head ++ a) ++ (m ++ (c ++ (z ++ back)))
parts_join head a m c z back =
    ap (λ (l : List ℕ). head ++ l) (append_assoc (a ++ (m ++ c)) z back ∙ append_assoc a (m ++ c) (z ++ back) ∙ ap (λ (l : List ℕ). a ++ l) (append_assoc m c (z ++ back)))
    ∙ sym (append_assoc head a (m ++ (c ++ (z ++ back))))

-- the bytes before the i-th block, from it up to the j-th, and from there on
three_parts : (bs : List (List ℕ)) (i j : ℕ) → i ≤ j → joined bs ≡ joined (take i bs) ++ (joined (take (j - i) (drop i bs)) ++ joined (drop j bs))
three_parts bs i j le =
    let k : i + (j - i) ≡ j = omega arith in
    let back : drop (j - i) (drop i bs) ≡ drop j bs = drop-drop (j - i) i bs ∙ ap (λ (n : ℕ). drop n bs) k in
    ap joined (sym (take-append-drop i bs))
    ∙ joined_append (take i bs) (drop i bs)
    ∙ ap (λ (l : List (List ℕ)). joined (take i bs) ++ joined l) (sym (take-append-drop (j - i) (drop i bs)) ∙ ap (λ (l : List (List ℕ)). take (j - i) (drop i bs) ++ l) back)
    ∙ ap (λ (l : List ℕ). joined (take i bs) ++ l) (joined_append (take (j - i) (drop i bs)) (drop j bs))

joined_splice : (bs new : List (List ℕ)) (i j : ℕ) → joined (splice i j new bs) ≡ joined (take i bs) ++ (joined new ++ joined (drop j bs))
joined_splice bs new i j =
    joined_append (take i bs) (new ++ drop j bs) ∙ ap (λ (l : List ℕ). joined (take i bs) ++ l) (joined_append new (drop j bs))

-- where the blocks from the i-th up to the j-th of a tag lie, where the last one ends, and where the room for them does
abbrev pub gap_at : ℕ → ℕ → List ℕ → Gap
gap_at i j tag = record {
  from = 10 + length (joined (take i (tag_blocks tag)));
  to = 10 + length (joined (take j (tag_blocks tag)));
  last = 10 + length (joined (tag_blocks tag));
  end = 10 + size_of tag;
}

module _ {tag : List ℕ} (t : Plain tag) (i j : ℕ) (le : i ≤ j) where
  abbrev bs : List (List ℕ)
  bs = tag_blocks tag

  abbrev a : List ℕ
  a = joined (take i bs)

  abbrev m : List ℕ
  m = joined (take (j - i) (drop i bs))

  abbrev c : List ℕ
  c = joined (drop j bs)

  abbrev p : ℕ
  p = t.padding

  abbrev u : List ℕ
  u = take 10 tag ++ a

  abbrev behind : List ℕ
  behind = drop (size_of tag) (drop 10 tag)

  -- ---- lengths

  ten : length (take 10 tag) ≡ 10
  ten = length-take-le 10 tag (omega (arith, t.is.all_there))

  front_long : length u ≡ 10 + length a
  front_long = length-append (take 10 tag) a ∙ omega (arith, ten)

  all_long : length (joined bs) ≡ length a + (length m + length c)
  all_long = omega (arith, ap length (three_parts bs i j le), length-append a (m ++ c), length-append m c)

  to_long : length (joined (take j bs)) ≡ length a + length m
  to_long =
      let whole : joined bs ≡ joined (take j bs) ++ c = ap joined (sym (take-append-drop j bs)) ∙ joined_append (take j bs) (drop j bs) in
      omega (arith, ap length whole, length-append (joined (take j bs)) c, all_long)

  new_long : (new : List (List ℕ)) → length (joined (splice i j new bs)) ≡ length a + (length (joined new) + length c)
  new_long new = omega (arith, ap length (joined_splice bs new i j), length-append a (joined new ++ c), length-append (joined new) c)

  -- ---- the tag in its parts

  tag_parts : tag ≡ u ++ (m ++ (c ++ (zeros p ++ behind)))
  tag_parts =
      let region : region_in tag ≡ (a ++ (m ++ c)) ++ zeros p = t.is.region ∙ ap (λ (l : List ℕ). l ++ zeros p) (three_parts bs i j le) in
      sym (take-append-drop 10 tag)
      ∙ ap (λ (l : List ℕ). take 10 tag ++ l) (sym (take-append-drop (size_of tag) (drop 10 tag)) ∙ ap (λ (l : List ℕ). l ++ behind) region)
      ∙ parts_join (take 10 tag) a m c (zeros p) behind

  with_parts : (new : List (List ℕ)) → with_blocks (splice i j new bs) tag ≡ u ++ (joined new ++ (c ++ (zeros (length m + p - length (joined new)) ++ behind)))
  unfolding with_blocks
  with_parts new =
      let n : size_of tag - length (joined (splice i j new bs)) ≡ length m + p - length (joined new) = omega (arith, new_long new, plain_size t.is, all_long) in
      rw (n, joined_splice bs new i j) (parts_join (take 10 tag) a (joined new) c (zeros (length m + p - length (joined new))) behind)

  -- ---- the edit

  refitted_blocks : (new : List (List ℕ)) → length (joined (splice i j new bs)) ≤ size_of tag
      → refitted (gap_at i j tag) (joined new) tag ≡ with_blocks (splice i j new bs) tag
  unfolding refitted
  refitted_blocks new fits =
      let room : length (joined new) ≤ length m + p = omega (arith, new_long new, plain_size t.is, all_long) in
      let from : 10 + length a ≡ length u = sym front_long in
      let to : 10 + length (joined (take j bs)) ≡ length u + length m = omega (arith, front_long, to_long) in
      let last : 10 + length (joined bs) ≡ length u + length m + length c = omega (arith, front_long, all_long) in
      rw (from, to, last) (
      ap (λ (s : List ℕ). sets s (length u) (joined new ++ (slice (length u + length m) (length u + length m + length c) s ++ zeros (length u + length m - (length u + length (joined new)))))) tag_parts
      ∙ moved_stored u m c behind (joined new) p room
      )
      ∙ sym (with_parts new)

  in_order : is_ordered (gap_at i j tag) (length tag) ≡ true
  in_order =
      let low : 10 + length a ≤ 10 + length (joined (take j bs)) = omega (arith, to_long) in
      let middle : 10 + length (joined (take j bs)) ≤ 10 + length (joined bs) = omega (arith, to_long, all_long) in
      let high : 10 + length (joined bs) ≤ 10 + size_of tag = omega (arith, plain_size t.is) in
      rw (le-leb _ _ low, le-leb _ _ middle, le-leb _ _ high, le-leb _ _ t.is.all_there)

  -- there is room between the places exactly where the header's size has it
  room_same : (new : List (List ℕ)) → has_room (gap_at i j tag) (length (joined new)) ≡ leb (length (joined (splice i j new bs))) (size_of tag)
  room_same new =
      let n : 10 + length a + (length (joined new) + (10 + length (joined bs) - (10 + length (joined (take j bs))))) ≡ 10 + length (joined (splice i j new bs)) =
      omega (arith, to_long, all_long, new_long new) in
      ap (λ (k : ℕ). leb k (10 + size_of tag)) n ∙ leb_more 10 (length (joined (splice i j new bs))) (size_of tag)

  pub refit_fitted : (new : List (List ℕ)) → refit_of (gap_at i j tag) (joined new) tag ≡ fitted (splice i j new bs) tag
  unfolding refit_of fitted
  refit_fitted new = rw (in_order, room_same new) (by (leb (length (joined (splice i j new bs))) (size_of tag)) refl)
    where
      by : (t : Bool) → leb (length (joined (splice i j new bs))) (size_of tag) ≡ t
          → ◌≡◌ {A = Edit} (pick t (Ok tt, refitted (gap_at i j tag) (joined new) tag) (Err (refusal 20), tag))
          (pick t (Ok tt, with_blocks (splice i j new bs) tag) (Err (refusal 20), tag))
      by true e = rw (refitted_blocks new (leb-true _ _ e))
      by false e = refl

  -- A record's frame in the place of the blocks from the i-th up to the j-th.
  pub placed_put : (r : Rec) → placed_of (tag_version tag) (gap_at i j tag) r tag ≡ put_in i j r tag
  unfolding placed_of put_in
  placed_put r =
      let frame = encode (tag_version tag) Mode.Off r in
      let one : refit_of (gap_at i j tag) frame tag ≡ fitted (splice i j (frame ∷ []) bs) tag =
      ap (λ (l : List ℕ). refit_of (gap_at i j tag) l tag) (sym (append-nil frame)) ∙ refit_fitted (frame ∷ []) in
      rw one (by (eqb (refusal_of (tag_version tag) Mode.Off false r) 0) _ _)
    where
      by : (t : Bool) (x y : Edit) → pick (not t) y x ≡ pick t x y
      by true x y = refl
      by false x y = refl

  -- Those blocks away, and what follows them moved to their place.
  pub shifted_away : ◌≡◌ {A = Edit} (Ok tt, shifted (gap_at i j tag).to (gap_at i j tag).last (gap_at i j tag).from tag) (fitted (splice i j [] bs) tag)
  unfolding shifted fitted refitted
  shifted_away =
      let fits : length (joined (splice i j [] bs)) ≤ size_of tag = omega (arith, new_long [], plain_size t.is, all_long) in
      let there : 10 + length (joined bs) ≤ length tag = omega (arith, plain_size t.is, t.is.all_there) in
      let middle : 10 + length (joined (take j bs)) ≤ 10 + length (joined bs) = omega (arith, to_long, all_long) in
      let down : 10 + length a + (10 + length (joined bs) - (10 + length (joined (take j bs)))) ≤ length tag = omega (arith, to_long, all_long, there) in
      let nothing : 10 + length (joined (take j bs)) - (10 + length a) ≡ 10 + length (joined (take j bs)) - (10 + length a + 0) = omega arith in
      rw (le-leb _ _ fits, le-leb _ _ there, le-leb _ _ middle, le-leb _ _ down, nothing, ← refitted_blocks [] fits)
