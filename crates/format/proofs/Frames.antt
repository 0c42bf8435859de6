-- A frame of an accepted record is read back as that record. Assumes nothing.
use mathlib.Core.Path.{◌≡◌, refl, sym, ap, ◌∙◌}
use Prim.Native.Nat.{ℕ, zero, suc, ◌+◌, ◌-◌, ◌≤◌}
use native.Mathlib.Omega.{arith}
use mathlib.Core.Bool.{Bool, true, false}
use mathlib.Core.List.{List, [], ◌∷◌, ◌++◌}
use lib.ListN.{length, take, drop, length-append, length-drop}
use lib.Seq.{drop-drop, take-append_seam}
use borrow.Author.Tests.{le-ltb}
use Rattle.laws.proofs.Bools.{false_not_true}
use Rattle.format.specs.Bytes.{pick, put_front}
use Rattle.format.specs.Unsynch.{resynchronised, unsynchronised, is_on}
use Rattle.format.specs.Ids.{kind_of}
use Rattle.format.specs.Frame.{head_len, head_of}
use Rattle.format.specs.Record.{Rec, body_refusal, run_of, parts_of, view_of}
use Rattle.format.specs.Walk.{Out, inside_of, resynced_of, walked, record_of, on_shown, frame_of}
use Rattle.format.specs.Encode.{kind_in, body_bytes, stored_of, encode}
use Rattle.format.specs.declared.Version.{Version}
use Rattle.format.specs.declared.Version.TheVariants.{Id3v22, Id3v23, Id3v24}
use Rattle.format.specs.declared.Mode.{Mode}
use Rattle.format.specs.declared.Mode.TheVariants.{Off, Crate, Standard}
use Rattle.format.specs.declared.Kind.{Kind}
use Rattle.format.specs.declared.Head.{Head}
use Rattle.format.specs.declared.Record.{Record}
use Rattle.format.specs.Walk.{Shown}
use Rattle.format.proofs.Unsynch.{back, unsync_off}
use Rattle.format.proofs.Encoded.{flagged_by, head_back, body_there}
use Rattle.format.proofs.ReadBack.{ReadBack, seen}
use Rattle.format.proofs.Strict.{strict_read, inside_run}
use Rattle.format.proofs.Accepted.{Sound}
use Rattle.std.specs.Prelude.{Ok, Some}
use Rattle.format.specs.Frame.{head}

-- ---- the body

-- a body that is not flagged is stored as it is
pub plain_stored : (v : Version) (m : Mode) (b : List ℕ) → flagged_by v m ≡ false → stored_of v m b ≡ b
plain_stored Id3v22 m b e = refl
plain_stored Id3v23 m b e = refl
plain_stored Id3v24 Off b e = unsync_off false b
plain_stored Id3v24 Crate b e = absurd (false_not_true (sym e))
plain_stored Id3v24 Standard b e = absurd (false_not_true (sym e))

-- a flagged one gives its bytes back
pub flagged_stored : (v : Version) (m : Mode) (b : List ℕ) → flagged_by v m ≡ true → resynchronised (stored_of v m b) ≡ b
flagged_stored Id3v22 m b e = absurd (false_not_true e)
flagged_stored Id3v23 m b e = absurd (false_not_true e)
flagged_stored Id3v24 m b e = back m e b

module _ (v : Version) (m : Mode) (r : Rec) (sound : Sound v m r) where
  abbrev pub body : List ℕ
  body = body_bytes r.content

  -- inside the body nothing is refused, and the room stays as it is
  inside_back : (room : List ℕ) → inside_of (walked false v 2) (kind_of v r.id) body room ≡ (0, room)
  inside_back room =
      rw sound.kind
      (inside_run (walked false v 2) (kind_in r.content) body room sound.back.taken
      ∙ ap (λ (s : List ℕ). walked false v 2 s room) sound.back.run
      ∙ strict_read v 2 _ [] room sound.run)

  -- ---- the record

  -- the record with its body at a place
  abbrev pub record_at : Bool → ℕ → ℕ → Record
  record_at inWork place at = record_of r.id false false place inWork at (length body) (parts_of v (kind_of v r.id) at body)

  -- wherever the body lies in its buffer, the record is seen there
  pub seen_back : (inWork : Bool) (place at : ℕ) (tag work : List ℕ) → take (length body) (drop at (pick inWork work tag)) ≡ body
      → view_of (record_at inWork place at) tag work ≡ r
  unfolding view_of
  seen_back inWork place at tag work lies =
      let buffer = pick inWork work tag in
      let c : seen v (kind_of v r.id) at body buffer ≡ r.content =
      ap (λ (k : Kind). seen v k at body buffer) sound.kind ∙ sound.back.view at buffer lies in
      λ i. record { id = r.id; short = sym sound.whole i; compressed = sym sound.plain i; content = c i }

  module _ (begin at : ℕ) (rest : List ℕ) where
    abbrev pub s : List ℕ
    s = encode v m r ++ rest

    abbrev pub next : ℕ
    next = at + (head_len v + length (stored_of v m body))

    head_is : head_of v 1 s ≡ Ok (Some (head r.id false (flagged_by v m) false (head_len v) (length (stored_of v m body))))
    head_is = head_back v m 1 r rest (omega arith) sound.is_id_lem sound.sizes

    -- A frame that is not flagged is shown where it lies, and the room stays as it is.
    pub frame_plain : (inWork : Bool) (room : List ℕ) → flagged_by v m ≡ false
        → frame_of v inWork begin at s room ≡ (Ok (Some ((record_at inWork (at - begin) (at + head_len v)), next)), room)
    unfolding frame_of on_shown
    frame_plain inWork room e = rw (head_is, e, body_there v m r rest, plain_stored v m body e, inside_back room)

    -- A flagged one is shown at the front of the room.
    pub frame_flagged : (room : List ℕ) → flagged_by v m ≡ true → length body ≤ length room
        → frame_of v false begin at s room ≡ (Ok (Some ((record_at true (at - begin) 0), next)), put_front body room)
    unfolding frame_of on_shown resynced_of
    frame_flagged room e h =
        rw (head_is, e, body_there v m r rest, flagged_stored v m body e, le-ltb (length room) (length body) h, inside_back (drop (length body) room))
