-- What follows the blocks of a tag and begins no whole frame is read as one frame more, and then the end. Assumes nothing.
use mathlib.Core.Path.{◌≡◌, refl, sym, ap, ◌∙◌, subst}
use Prim.Native.Nat.{ℕ, zero, suc, ◌+◌, ◌≤◌}
use native.Mathlib.Omega.{arith}
use mathlib.Core.Bool.{Bool, true, false}
use mathlib.Core.List.{List, [], ◌++◌}
use lib.ListN.{length, drop}
use lib.Seq.{slice, drop-length}
use Rattle.laws.proofs.Slices.{slice_drop}
use Rattle.format.specs.Header.{is_whole}
use Rattle.format.specs.Frame.{head_of, head}
use Rattle.format.specs.Walk.{on_shown, frame_of}
use Rattle.format.specs.declared.Version.{Version}
use Rattle.format.specs.declared.Head.{Head}
use Rattle.reader.proofs.Numbered.{OfHead, head_number_lem}
use Rattle.promises.specs.Reading.{Reading, ended, read_from, read_all}
use Rattle.promises.proofs.Opening.{source}
use Rattle.promises.proofs.Stepping.{reader}
use Rattle.blocks.specs.Blocks.{Sight, nothing, refuses, none_by, sight_of, joined, AllBlocks, NoBlock, on_sight, read_blocks}
use Rattle.blocks.specs.Promises.{version_in, frames_in, room_in, CanOpen}
use Rattle.blocks.proofs.Reading.{room_of, work_then, go_on, first_read, end_read, refused_read, behind_front, blocks_read}
use Rattle.blocks.proofs.Regions.{quiet_read, source_then, steps_all}
use Rattle.blocks.proofs.Opens.{opened}
use Rattle.blocks.proofs.Tails.{no_block_short, short_all, none_quiet}
use Rattle.std.specs.Prelude.{Result, Option, Ok, Err, Some, None}
use Rattle.format.specs.declared.refusals.Refusal.{Refusal}

-- ---- what a header alone shows

pub sight_nothing : (v : Version) (s room : List ℕ) → head_of v 1 s ≡ Ok None → (sight_of v s room).0 ≡ nothing
unfolding sight_of frame_of on_shown
sight_nothing v s room e = rw e

none_refuses : (k : ℕ) → 1 ≤ k → none_by k ≡ refuses k
none_refuses zero h = absurd (omega arith)
none_refuses (suc k) h = refl

pub sight_refuses : (v : Version) (s room : List ℕ) {k : Refusal} → head_of v 1 s ≡ Err k → (sight_of v s room).0 ≡ refuses k.number
unfolding sight_of frame_of on_shown
sight_refuses v s room {k} e = rw e (none_refuses k.number (subst OfHead e (head_number_lem v 1 s)).0)

-- ---- one frame, and the end

abbrev pub then_end : Sight → Reading
then_end x = on_sight (λ (left : List ℕ). ([], ended)) x []

-- with the room that was left
abbrev pub last_reads : Version → Bool → List ℕ → List ℕ → Reading
last_reads v w rest left = then_end (sight_of v rest (room_of w left)).0

on_end : (go : List ℕ → Reading) (x : Sight) (left : List ℕ) → go left ≡ ([], ended) → on_sight go x left ≡ then_end x
on_end go nothing left e = refl
on_end go (refuses k) left e = refl
on_end go (Sight.shows r) left e = rw e

module _ (v : Version) (begin at end : ℕ) (tag work : List ℕ) (w : Bool) (n : ℕ) (h : NoBlock v (slice at end (source w tag work))) where
  abbrev s : List ℕ
  s = slice at end (source w tag work)

  by_head : (x : Result (Option Head) Refusal) → head_of v 1 s ≡ x → read_from (suc (suc n)) tag (reader v w begin at end) work ≡ then_end (sight_of v s (room_of w work)).0
  by_head (Ok None) x = end_read v (suc n) begin at end tag work w x ∙ ap then_end (sym (sight_nothing v s (room_of w work) x))
  by_head (Err k) x = refused_read v (suc n) begin at end tag work w x ∙ ap then_end (sym (sight_refuses v s (room_of w work) x))
  by_head (Ok (Some one)) x =
      let k = one.start + one.len in
      let o = sight_of v s (room_of w work) in
      let on = go_on (suc n) tag (reader v w begin (at + k) end) work in
      let is_short_lem : one.short ≡ true = no_block_short v s h x in
      let all : k ≡ length s = short_all v 1 s (x ∙ ap (λ (y : Bool). Ok (Some (head one.id one.compressed one.flagged y one.start one.len))) is_short_lem) in
      let behind : slice (at + k) end (source w tag work) ≡ [] = slice_drop at k end (source w tag work) ∙ ap (λ (i : ℕ). drop i s) all ∙ drop-length s in
      first_read v (suc n) begin at end tag work w x
      ∙ on_end on o.0 o.1 (quiet_read v begin (at + k) end tag work w n o.1 (rw behind (none_quiet v)))

  last_read : read_from (suc (suc n)) tag (reader v w begin at end) work ≡ then_end (sight_of v (slice at end (source w tag work)) (room_of w work)).0
  last_read = by_head (head_of v 1 s) refl

room_left : (w : Bool) (work left : List ℕ) → room_of w (work_then w work left) ≡ room_of w left
room_left true work left = refl
room_left false work left = refl

-- ---- a tag

-- Blocks, and then what begins no whole frame: the blocks' readings, then its own, as if it stood alone, and the end.
pub last_reads_lem : (tag work : List ℕ) (bs : List (List ℕ)) (rest : List ℕ) → CanOpen tag work → AllBlocks (version_in tag) bs → NoBlock (version_in tag) rest
    → frames_in tag ≡ joined bs ++ rest
    → read_all tag work ≡ read_blocks (version_in tag) bs (last_reads (version_in tag) (is_whole tag) rest) (room_in tag work)
last_reads_lem tag work bs rest o whole none is =
    let v = version_in tag in
    let w = is_whole tag in
    let p = opened v tag work o.taken refl w refl o.room in
    let at = p.begin + length (joined bs) in
    let n = suc (suc (length tag)) in
    let lies : slice p.begin p.end (source w tag p.left) ≡ joined bs ++ rest = p.lies ∙ is in
    let behind : slice at p.end (source w tag p.left) ≡ rest = behind_front p.begin p.end (joined bs) rest (source w tag p.left) lies in
    let there : (left : List ℕ) → slice at p.end (source w tag (work_then w p.left left)) ≡ rest =
    λ left. ap (slice at p.end) (source_then w tag p.left left) ∙ behind in
    let last : go_on n tag (reader v w p.begin at p.end) p.left ≡ last_reads v w rest =
    (λ i left.
    (last_read v p.begin at p.end tag (work_then w p.left left) w (length tag) (rw there none)
    ∙ ap (λ (s : List ℕ). then_end (sight_of v s (room_of w (work_then w p.left left))).0) (there left)
    ∙ ap (λ (room : List ℕ). then_end (sight_of v rest room).0) (room_left w p.left left))
    i) in
    let steps : length tag + (length bs + 2) ≡ length bs + n = omega arith in
    steps_all v w p.begin p.end tag work p.left p.opens (length bs + 2)
    ∙ ap (λ (k : ℕ). read_from k tag (reader v w p.begin p.begin p.end) p.left) steps
    ∙ blocks_read v p.begin p.end tag w n p.begin rest p.left whole lies
    ∙ ap (λ (g : List ℕ → Reading). read_blocks v bs g (room_of w p.left)) last
    ∙ ap (read_blocks v bs (last_reads v w rest)) p.kept
