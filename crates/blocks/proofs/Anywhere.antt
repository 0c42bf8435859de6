-- What is read depends on the bytes of the frames and on the room, not on where they stand. Assumes nothing.
use mathlib.Core.Path.{◌≡◌, refl, sym, ap, ◌∙◌, subst}
use Prim.Native.Nat.{ℕ, zero, suc, ◌+◌}
use native.Mathlib.Omega.{arith}
use mathlib.Core.Bool.{Bool, true, false}
use mathlib.Core.List.{List, [], ◌++◌}
use lib.ListN.{length, drop}
use lib.Seq.{slice}
use Rattle.laws.proofs.Slices.{slice_drop}
use Rattle.format.specs.Header.{is_whole}
use Rattle.format.specs.Frame.{head_of}
use Rattle.format.specs.Answers.{head_number}
use Rattle.format.specs.declared.Version.{Version}
use Rattle.format.specs.declared.Head.{Head}
use Rattle.promises.specs.Reading.{Reading, ended, refused, read_from, read_all}
use Rattle.promises.proofs.Opening.{source}
use Rattle.promises.proofs.Stepping.{reader}
use Rattle.blocks.specs.Blocks.{sight_of, joined, Blocks, blocks_in, read_blocks}
use Rattle.blocks.specs.Promises.{version_in, TagReads, AnyReads, StopsAt}
use Rattle.blocks.proofs.Reading.{room_of, work_then, go_on, first_read, end_read, refused_read, on_sight_lem, behind_front, blocks_read}
use Rattle.blocks.proofs.Regions.{source_then, steps_all, tag_read}
use Rattle.blocks.proofs.Opens.{opened}
use Rattle.blocks.proofs.CutUp.{any_read, any_tail}
use Rattle.std.specs.Prelude.{Result, Option, Ok, Err, Some, None}
use Rattle.format.specs.declared.refusals.Refusal.{Refusal}
use Rattle.format.specs.Refusals.{refusal}

-- ---- two readers with the same bytes before them and the same room

room_then : (w : Bool) (a b left : List ℕ) → room_of w (work_then w a left) ≡ room_of w (work_then w b left)
room_then true a b left = refl
room_then false a b left = refl

module _ (v : Version) (w : Bool) (tag tag' : List ℕ) (begin end begin' end' : ℕ) where
  abbrev Same : ℕ → Type 0
  Same n = (at at' : ℕ) (work work' : List ℕ) → slice at end (source w tag work) ≡ slice at' end' (source w tag' work') → room_of w work ≡ room_of w work'
      → read_from n tag (reader v w begin at end) work ≡ read_from n tag' (reader v w begin' at' end') work'

  module _ (n : ℕ) (go : Same n) (at at' : ℕ) (work work' : List ℕ) (bytes : slice at end (source w tag work) ≡ slice at' end' (source w tag' work'))
      (rooms : room_of w work ≡ room_of w work') where
    abbrev s : List ℕ
    s = slice at end (source w tag work)

    -- what lies after a frame is the same too
    behind : (k : ℕ) (left : List ℕ) → slice (at + k) end (source w tag (work_then w work left)) ≡ slice (at' + k) end' (source w tag' (work_then w work' left))
    behind k left =
        ap (slice (at + k) end) (source_then w tag work left)
        ∙ slice_drop at k end (source w tag work)
        ∙ ap (drop k) bytes
        ∙ sym (slice_drop at' k end' (source w tag' work'))
        ∙ ap (slice (at' + k) end') (sym (source_then w tag' work' left))

    by_head : (x : Result (Option Head) Refusal) → head_of v 1 s ≡ x
        → read_from (suc n) tag (reader v w begin at end) work ≡ read_from (suc n) tag' (reader v w begin' at' end') work'
    by_head (Ok None) e =
        end_read v n begin at end tag work w e ∙ sym (end_read v n begin' at' end' tag' work' w (sym (ap (head_of v 1) bytes) ∙ e))
    by_head (Err k) e =
        refused_read v n begin at end tag work w e ∙ sym (refused_read v n begin' at' end' tag' work' w (sym (ap (head_of v 1) bytes) ∙ e))
    by_head (Ok (Some h)) e =
        let k = h.start + h.len in
        let x = sight_of v s (room_of w work) in
        let g = go_on n tag (reader v w begin (at + k) end) work in
        let g' = go_on n tag' (reader v w begin' (at' + k) end') work' in
        first_read v n begin at end tag work w e
        ∙ on_sight_lem g g' x.0 x.1 (λ r q. go (at + k) (at' + k) (work_then w work x.1) (work_then w work' x.1) (behind k x.1) (room_then w work work' x.1))
        ∙ rw (bytes, rooms) (sym (first_read v n begin' at' end' tag' work' w (sym (ap (head_of v 1) bytes) ∙ e)))

  -- Readers with the same bytes before them and the same room read the same.
  pub same_read : (n : ℕ) → Same n
  unfolding read_from
  same_read zero at at' work work' bytes rooms = refl
  same_read (suc n) at at' work work' bytes rooms = by_head n (same_read n) at at' work work' bytes rooms (head_of v 1 (slice at end (source w tag work))) refl

-- ---- a tag

pub tag_reads : TagReads
tag_reads tag work bs rest o h =
    let v = version_in tag in
    let w = is_whole tag in
    let p = opened v tag work o.taken refl w refl o.room in
    tag_read v w p.begin p.end tag work p.left p.opens (subst (Blocks v bs rest) (sym p.lies) h)
    ∙ ap (read_blocks v bs (λ (left : List ℕ). ([], ended))) p.kept

pub any_reads : AnyReads
any_reads tag work o =
    let v = version_in tag in
    let w = is_whole tag in
    let p = opened v tag work o.taken refl w refl o.room in
    let bs = blocks_in v (slice p.begin p.end (source w tag p.left)) in
    let n = suc (suc (length tag)) in
    let after : List ℕ → Reading = go_on n tag (reader v w p.begin (p.begin + length (joined bs)) p.end) p.left in
    let steps : length tag + (length bs + 2) ≡ length bs + n = omega arith in
    let all = steps_all v w p.begin p.end tag work p.left p.opens (length bs + 2) in
    let read = any_read v p.begin p.begin p.end tag p.left w (length tag) in (
      after,
      any_tail v p.begin p.begin p.end tag p.left w (length tag),
      subst (λ (s : List ℕ). read_all tag work ≡ read_blocks v (blocks_in v s) after (room_of w work)) p.lies
          (all
          ∙ ap (λ (k : ℕ). read_from k tag (reader v w p.begin p.begin p.end) p.left) steps
          ∙ read
          ∙ ap (read_blocks v bs after) p.kept),
    )

head_refused : (x : Result (Option Head) Refusal) (k : ℕ) → head_number x ≡ suc k → x ≡ Err (refusal (suc k))
head_refused (Ok None) k e = absurd (omega arith)
head_refused (Err j) k e = ap {B = Result (Option Head) Refusal} (λ (n : ℕ). Err (refusal n)) e
head_refused (Ok (Some h)) k e = absurd (omega arith)

pub stops_at : StopsAt
stops_at tag work bs rest k o whole is number =
    let v = version_in tag in
    let w = is_whole tag in
    let p = opened v tag work o.taken refl w refl o.room in
    let at = p.begin + length (joined bs) in
    let lies : slice p.begin p.end (source w tag p.left) ≡ joined bs ++ rest = p.lies ∙ is in
    let behind : slice at p.end (source w tag p.left) ≡ rest = behind_front p.begin p.end (joined bs) rest (source w tag p.left) lies in
    let stops : go_on (suc (length tag)) tag (reader v w p.begin at p.end) p.left ≡ (λ (left : List ℕ). ([], refused (suc k))) =
    (λ i left.
    refused_read v (length tag) p.begin at p.end tag (work_then w p.left left) w
    (ap (λ (s : List ℕ). head_of v 1 (slice at p.end s)) (source_then w tag p.left left) ∙ ap (head_of v 1) behind ∙ head_refused (head_of v 1 rest) k number)
    i) in
    let steps : length tag + (length bs + 1) ≡ length bs + suc (length tag) = omega arith in
    steps_all v w p.begin p.end tag work p.left p.opens (length bs + 1)
    ∙ ap (λ (n : ℕ). read_from n tag (reader v w p.begin p.begin p.end) p.left) steps
    ∙ blocks_read v p.begin p.end tag w (suc (length tag)) p.begin rest p.left whole lies
    ∙ ap (λ (g : List ℕ → Reading). read_blocks v bs g (room_of w p.left)) stops
    ∙ ap (read_blocks v bs (λ (left : List ℕ). ([], refused (suc k)))) p.kept
