-- A frame that is cut is not refused for want of room. Assumes nothing.
use mathlib.Core.Path.{◌≡◌, refl, sym, ap, ◌∙◌, subst}
use Prim.Native.Nat.{ℕ, ◌+◌, ◌-◌, ◌≤◌}
use native.Mathlib.Omega.{arith}
use mathlib.Core.Bool.{Bool, true, false}
use mathlib.Core.List.{List, [], append-nil}
use lib.ListN.{length, take, drop, length-take}
use lib.Seq.{take-take}
use lib.Dec.{eqb}
use borrow.Author.Tests.{le-ltb}
use Rattle.laws.proofs.Slices.{take_drop_take}
use Rattle.laws.proofs.Results.{found_same}
use Rattle.format.specs.Bytes.{pick}
use Rattle.format.specs.Unsynch.{resynchronised, dropped, unsynchronised, is_on}
use Rattle.format.specs.Frame.{head_len, head_of, head}
use Rattle.format.specs.Record.{Rec, body_refusal, run_of}
use Rattle.format.specs.Walk.{Out, and_then, inside_of, resynced_of, is_resynced, shown_body, body_of, shown_kind, walked}
use Rattle.format.specs.Encode.{body_bytes, stored_of, encode}
use Rattle.format.specs.declared.Version.{Version}
use Rattle.format.specs.declared.Version.TheVariants.{Id3v22, Id3v23, Id3v24}
use Rattle.format.specs.declared.Mode.{Mode}
use Rattle.format.specs.declared.Mode.TheVariants.{Off, Crate, Standard}
use Rattle.format.specs.declared.Kind.{Kind}
use Rattle.format.specs.declared.Head.{Head}
use Rattle.format.proofs.Checks.{of_picked}
use Rattle.format.proofs.Unsynch.{resync_shorter, unsync_off, part_resynchronised, back}
use Rattle.format.proofs.Encoded.{flagged_by, body_there, head_back}
use Rattle.format.proofs.ReadBack.{run_in}
use Rattle.format.proofs.CheckNumbers.{of_frame, of_body}
use Rattle.format.proofs.Heads.{stands, lies}
use Rattle.format.proofs.CutHeads.{head_refuses, of_whole}
use Rattle.format.proofs.Walks.{walk_nothing, walk_refused, walk_found}
use Rattle.format.proofs.Accepted.{Sound}
use Rattle.promises.specs.Reading.{ended, refused}
use Rattle.blocks.specs.Blocks.{refuses, shows, sight_of, Unresynced}
use Rattle.blocks.proofs.Sights.{out_of, rec_in, sight_is}
use Rattle.stopped.proofs.Runs.{PartOf, run_part, part_unresynced}
use Rattle.stopped.proofs.Tails.{sight_nothing, sight_refuses, then_end}
use Rattle.std.specs.Prelude.{Result, Option, Ok, Err, Some, None}
use Rattle.format.specs.declared.refusals.Refusal.{Refusal}

-- ---- the checks of headers and bodies

-- no want of room
abbrev pub NotRoom : ℕ → Type 0
NotRoom k = k ≡ 14 → ⊥

head_fits : (v : Version) (depth : ℕ) (s : List ℕ) {k : Refusal} → head_of v depth s ≡ Err k → NotRoom k.number
head_fits v depth s e = subst NotRoom (head_refuses v depth s e).is (of_frame NotRoom (omega arith) v depth s)

body_fits : (kind : Kind) (b : List ℕ) → NotRoom (body_refusal kind b)
body_fits kind b = of_body NotRoom (omega arith) kind b

-- ---- a body and a run

-- in every room
abbrev Fits : (List ℕ → Out) → Type 0
Fits go = (room : List ℕ) → NotRoom (go room).0

abbrev OutFits : Out → Type 0
OutFits o = NotRoom o.0

inside_fits : (go : List ℕ → List ℕ → Out) (kind : Kind) (b : List ℕ) → Fits (go (run_of kind b)) → Fits (inside_of go kind b)
unfolding inside_of
inside_fits go kind b h room = of_picked OutFits (eqb (body_refusal kind b) 0) (λ e. h room) (λ e. body_fits kind b)

then_fits : (o : Out) (go : List ℕ → Out) → OutFits o → Fits go → OutFits (and_then o go)
then_fits o go h k = of_picked OutFits (eqb o.0 0) (λ e. k o.1) (λ e. h)

-- a body that is resynchronised into a room as long as it is, or not at all
bodies_fit : (rs : Bool) (go : List ℕ → List ℕ → Out) (kind : Kind) (b room : List ℕ) → (rs ≡ true → length b ≤ length room)
    → Fits (go (run_of kind (shown_body rs b))) → OutFits (body_of rs go kind b room)
unfolding resynced_of
bodies_fit true go kind b room long h =
    let u = resynchronised b in
    let le : length u ≤ length room = omega (arith, resync_shorter false b, long refl) in
    rw (le-ltb (length room) (length u) le) (inside_fits go kind u h (drop (length u) room))
bodies_fit false go kind b room long h = inside_fits go kind b h room

-- A run of which nothing is resynchronised is not refused for want of room, whatever room there is.
walk_fits : {v : Version} {depth : ℕ} {s : List ℕ} → Unresynced v depth s → Fits (walked false v depth s)
walk_fits {v} {depth} {s} (Unresynced.ends e) room = rw (walk_nothing false v depth s room e) (λ z. omega arith)
walk_fits {v} {depth} {s} (Unresynced.stops e) room = rw (walk_refused false v depth s room e) (head_fits v depth s e)
walk_fits {v} {depth} {s} (Unresynced.frame {id = id} {start = start} {len = len} {compressed = c} {flagged = f} e u run rest) room =
    let b = take len (drop start s) in
    let go = walked false v (depth + 1) in
    let kind = shown_kind v id c in
    let body : OutFits (body_of (is_resynced c f) go kind b room) = rw u (inside_fits go kind b (walk_fits run) room) in
    rw (walk_found false v depth s room e) (then_fits (body_of (is_resynced c f) go kind b room) (walked false v depth (drop (start + len) s)) body (walk_fits rest))

-- ---- a stored body that is cut

on_part : (m : Mode) → is_on m ≡ true → (i : ℕ) (b : List ℕ) → PartOf b (resynchronised (take i (unsynchronised m b)))
on_part m on i b =
    let u = unsynchronised m b in
    let j = i - dropped false (take i u) in
    (j, part_resynchronised i u ∙ ap (take j) (back m on b))

-- what is shown of a front part of a stored body is a front part of the body
shown_part : (v : Version) (m : Mode) (i : ℕ) (b : List ℕ) → PartOf b (shown_body (flagged_by v m) (take i (stored_of v m b)))
shown_part Id3v22 m i b = (i, refl)
shown_part Id3v23 m i b = (i, refl)
shown_part Id3v24 Off i b = (i, ap (take i) (unsync_off false b))
shown_part Id3v24 Crate i b = on_part Crate refl i b
shown_part Id3v24 Standard i b = on_part Standard refl i b

resynced_is : (f : Bool) → is_resynced false f ≡ f
resynced_is true = refl
resynced_is false = refl

-- ---- the frame of an accepted record, cut

pub ended_not : (k : ℕ) → ended ≡ refused k → ⊥
ended_not k e = let z : ◌≡◌ {A = ℕ} 0 1 = cc in omega arith

-- a record, or a refusal for something else
verdict_fits : (t : Bool) (k : ℕ) (x : Rec) → NotRoom k → (then_end (pick t (shows x) (refuses k))).1 ≡ refused 14 → ⊥
verdict_fits true k x h e = ended_not 14 e
verdict_fits false k x h e = h (cc)

-- the header of all of it
pub head_is : (v : Version) (m : Mode) (r : Rec) → Sound v m r
    → head_of v 1 (encode v m r) ≡ Ok (Some (head r.id false (flagged_by v m) false (head_len v) (length (stored_of v m (body_bytes r.content)))))
head_is v m r sound = rw append-nil at (head_back v m 1 r [] (omega arith) sound.is_id_lem sound.sizes)

module _ (v : Version) (m : Mode) (r : Rec) (sound : Sound v m r) (room : List ℕ) where
  abbrev body : List ℕ
  body = body_bytes r.content

  abbrev stored : List ℕ
  stored = stored_of v m body

  abbrev kind : Kind
  kind = shown_kind v r.id false

  run_is : run_of kind body ≡ run_in r.content
  run_is = ap (λ (k : Kind). run_of k body) sound.kind ∙ sound.back.run

  -- nothing inside a front part of the body is resynchronised
  run_fits : (j : ℕ) → Fits (walked false v 2 (run_of kind (take j body)))
  run_fits j =
      let p = run_part kind j body in
      let is : run_of kind (take j body) ≡ take p.0 (run_in r.content) = p.1 ∙ ap (take p.0) run_is in
      rw is (walk_fits (part_unresynced v 2 p.0 (run_in r.content) [] sound.run))

  stored_fits : (i : ℕ) → (flagged_by v m ≡ true → i ≤ length room) → OutFits (out_of v r.id false (flagged_by v m) (take i stored) room)
  stored_fits i long =
      let p = shown_part v m i body in
      rw (resynced_is (flagged_by v m))
      (bodies_fit (flagged_by v m) (walked false v 2) kind (take i stored) room (λ f. omega (arith, long f, length-take i stored)) (rw p.1 (run_fits p.0)))

  module _ (n : ℕ) (long : flagged_by v m ≡ true → n ≤ length room) where
    abbrev part : List ℕ
    part = take n (encode v m r)

    found_fits : {id : ℕ} {c f short : Bool} {start len : ℕ} → head_of v 1 part ≡ Ok (Some (head id c f short start len))
        → OutFits (out_of v id c f (take len (drop start part)) room)
    found_fits {id} {c} {f} {short} {start} {len} e =
        let l = lies (stands v 1 part id c f short start len e) in
        let w = of_whole v 1 n (encode v m r) e in
        let same = found_same (sym w.head ∙ head_is v m r sound) in
        let is_id_lem : id ≡ r.id = ap (λ (h : Head). h.id) same in
        let is_compressed_lem : c ≡ false = ap (λ (h : Head). h.compressed) same in
        let is_flagged_lem : f ≡ flagged_by v m = ap (λ (h : Head). h.flagged) same in
        let is_start : start ≡ head_len v = ap (λ (h : Head). h.start) same in
        let is_long : w.long ≡ length stored = ap (λ (h : Head). h.len) same in
        let inside : start + len ≤ n = omega (arith, l.within, length-take n (encode v m r)) in
        let there : take (length stored) (drop (head_len v) (encode v m r)) ≡ stored = rw append-nil at (body_there v m r []) in
        let bytes : take len (drop start part) ≡ take len stored =
        take_drop_take len start n (encode v m r) inside
        ∙ sym (take-take len w.long (drop start (encode v m r)) w.longer)
        ∙ rw (is_long, is_start, there) in
        rw (bytes, is_id_lem, is_compressed_lem, is_flagged_lem) (stored_fits len (λ g. omega (arith, long g)))

    by_head : (x : Result (Option Head) Refusal) → head_of v 1 part ≡ x → (then_end (sight_of v part room).0).1 ≡ refused 14 → ⊥
    by_head (Ok None) e z = ended_not 14 (rw (sight_nothing v part room e) at z)
    by_head (Err k) e z = verdict_fits false k.number r (head_fits v 1 part e) (rw (sight_refuses v part room e) at z)
    by_head (Ok (Some h)) e z =
        let s = take h.len (drop h.start part) in
        let k = (out_of v h.id h.compressed h.flagged s room).0 in
        verdict_fits (eqb k 0) k (rec_in v h.id h.compressed h.flagged h.short s) (found_fits e) (rw (sight_is v h.id h.compressed h.flagged h.short h.start h.len part e room) at z)

    -- A front part of it is not refused for want of room, if the room is as long or none is needed.
    pub cut_fits : (then_end (sight_of v (take n (encode v m r)) room).0).1 ≡ refused 14 → ⊥
    cut_fits = by_head (head_of v 1 part) refl
