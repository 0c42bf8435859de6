-- A step over the frame of an accepted record shows that record, and leaves what follows before the reader. Assumes nothing.
use mathlib.Core.Path.{◌≡◌, refl, ap, ◌∙◌}
use mathlib.Core.Logic.{◌⊎◌, inl, inr}
use Prim.Native.Nat.{ℕ, zero, suc, ◌+◌, ◌-◌, ◌≤◌}
use native.Mathlib.Omega.{arith}
use mathlib.Core.Bool.{Bool, true, false, or-true}
use mathlib.Core.List.{List, [], ◌++◌}
use lib.ListN.{length, take, drop, length-append, length-take, length-drop}
use lib.Seq.{slice, take-append_seam}
use lib.Dec.{ltb}
use borrow.Author.Tests.{ltb-false}
use Rattle.laws.proofs.Bools.{false_not_true}
use Rattle.laws.proofs.Slices.{slice_drop, in_slice, front_length}
use Rattle.format.specs.Bytes.{zeros, put_front}
use Rattle.format.specs.Unsynch.{guards}
use Rattle.format.specs.Frame.{head_len, head_of}
use Rattle.format.specs.Record.{Rec, view_of}
use Rattle.format.specs.Walk.{resynced_of, on_shown, frame_of}
use Rattle.format.specs.Encode.{body_bytes, stored_of, encode}
use Rattle.format.specs.declared.Version.{Version}
use Rattle.format.specs.declared.Version.TheVariants.{Id3v22, Id3v23, Id3v24}
use Rattle.format.specs.declared.Mode.{Mode}
use Rattle.format.specs.declared.Record.{Record}
use Rattle.format.proofs.Unsynch.{unsync_longer}
use Rattle.format.proofs.Encoded.{flagged_by, head_back, body_there, rest_there, encode_length}
use Rattle.format.proofs.Accepted.{Sound}
use Rattle.format.proofs.Frames.{plain_stored, flagged_stored, record_at, seen_back, frame_plain, frame_flagged}
use Rattle.format.proofs.Tags.{whole_by}
use Rattle.reader.specs.Reader.{stopped_as, step_of}
use Rattle.reader.specs.declared.Stop.{Stop}
use Rattle.reader.specs.declared.Reader.{Reader}
use Rattle.promises.proofs.Opening.{source}
use Rattle.std.specs.Prelude.{Ok, Err, Some, None}
use Rattle.format.specs.Refusals.{refusal}

-- a reader of a finished tag that goes on at a place
abbrev pub reader : Version → Bool → ℕ → ℕ → ℕ → Reader
reader v inWork begin at end = record { version = v; in_work = inWork; begin = begin; at = at; end = end; stop = Stop.Running }

-- ---- the padding

no_frame : (v : Version) (n : ℕ) → head_of v 1 (zeros n) ≡ Ok None
unfolding head_of
no_frame Id3v22 zero = refl
no_frame Id3v23 zero = refl
no_frame Id3v24 zero = refl
no_frame Id3v22 (suc n) = rw or-true
no_frame Id3v23 (suc n) = rw or-true
no_frame Id3v24 (suc n) = rw or-true

pub pads : (v : Version) (inWork : Bool) (begin at end n : ℕ) (tag work : List ℕ) → slice at end (source inWork tag work) ≡ zeros n
    → step_of (reader v inWork begin at end) tag work ≡ ((Ok None, stopped_as Stop.Ended (reader v inWork begin at end)), work)
unfolding step_of frame_of on_shown
pads v false begin at end n tag work e = rw (e, no_frame v n)
pads v true begin at end n tag work e = rw (e, no_frame v n)

-- ---- one frame

pub stored_longer : (v : Version) (m : Mode) (b : List ℕ) → length b ≤ length (stored_of v m b)
stored_longer Id3v22 m b = omega arith
stored_longer Id3v23 m b = omega arith
stored_longer Id3v24 m b = unsync_longer (guards m) false b

-- a flagged frame lies in no tag that is resynchronised as a whole
never_both : (v : Version) (m : Mode) → whole_by v m ≡ true → flagged_by v m ≡ true → ⊥
never_both Id3v22 m w f = false_not_true f
never_both Id3v23 m w f = false_not_true f
never_both Id3v24 m w f = false_not_true w

pub record Back (v : Version) (inWork : Bool) (begin at end : ℕ) (tag work : List ℕ) (r : Rec) (rest : List ℕ) : Type 0 where
  pub rec : Record
  pub next : ℕ
  pub left : List ℕ
  pub steps : step_of (reader v inWork begin at end) tag work ≡ ((Ok (Some rec), reader v inWork begin next end), left)
  pub view : view_of rec tag left ≡ r
  pub follows : slice next end (source inWork tag left) ≡ rest
  pub same : length left ≡ length work

module _ (v : Version) (m : Mode) (begin at end : ℕ) (tag work : List ℕ) (r : Rec) (sound : Sound v m r) (rest : List ℕ) where
  abbrev body : List ℕ
  body = body_bytes r.content

  abbrev stored : List ℕ
  stored = stored_of v m body

  -- what follows the frame in its buffer
  rest_follows : (s : List ℕ) → slice at end s ≡ encode v m r ++ rest → slice (at + (head_len v + length stored)) end s ≡ rest
  rest_follows s e = slice_drop at (head_len v + length stored) end s ∙ ap (drop (head_len v + length stored)) e ∙ rest_there v m r rest

  -- the stored body lies after the frame's header
  stored_lies : (s : List ℕ) → slice at end s ≡ encode v m r ++ rest → take (length stored) (drop (at + head_len v) s) ≡ stored
  stored_lies s e =
      let long : head_len v + length stored ≤ length (slice at end s) = rw e (omega (arith, length-append (encode v m r) rest, encode_length v m r)) in
      in_slice at end (head_len v) (length stored) s long ∙ ap (λ (l : List ℕ). take (length stored) (drop (head_len v) l)) e ∙ body_there v m r rest

  -- not flagged: shown where it lies
  plain_step : (inWork : Bool) → flagged_by v m ≡ false → slice at end (source inWork tag work) ≡ encode v m r ++ rest
      → step_of (reader v inWork begin at end) tag work
      ≡ ((Ok (Some (record_at v m r sound inWork (at - begin) (at + head_len v))), reader v inWork begin (at + (head_len v + length stored)) end), work)
  unfolding step_of
  plain_step false f e = rw (e, frame_plain v m r sound begin at rest false work f)
  plain_step true f e = rw (e, frame_plain v m r sound begin at rest true [] f)

  lies_plain : (inWork : Bool) → flagged_by v m ≡ false → slice at end (source inWork tag work) ≡ encode v m r ++ rest
      → take (length body) (drop (at + head_len v) (source inWork tag work)) ≡ body
  lies_plain inWork f e = rw (plain_stored v m body f) at (stored_lies (source inWork tag work) e)

  plain_back : (inWork : Bool) → flagged_by v m ≡ false → slice at end (source inWork tag work) ≡ encode v m r ++ rest
      → Back v inWork begin at end tag work r rest
  plain_back inWork f e = record {
    rec = record_at v m r sound inWork (at - begin) (at + head_len v);
    next = at + (head_len v + length stored);
    left = work;
    steps = plain_step inWork f e;
    view = seen_back v m r sound inWork (at - begin) (at + head_len v) tag work (lies_plain inWork f e);
    follows = rest_follows (source inWork tag work) e;
    same = refl;
  }

  -- flagged: shown at the front of the work buffer
  flagged_back : flagged_by v m ≡ true → length body ≤ length work → slice at end tag ≡ encode v m r ++ rest → Back v false begin at end tag work r rest
  unfolding step_of
  flagged_back f room e = record {
    rec = record_at v m r sound true (at - begin) 0;
    next = at + (head_len v + length stored);
    left = put_front body work;
    steps = rw (e, frame_flagged v m r sound begin at rest work f room);
    view = seen_back v m r sound true (at - begin) 0 tag (put_front body work) (take-append_seam body (drop (length body) work));
    follows = rest_follows tag e;
    same = front_length body work room;
  }

  -- a body is no longer than the tag that it lies in
  body_fits : slice at end tag ≡ encode v m r ++ rest → length body ≤ length tag
  body_fits e =
      omega (arith, ap length e, length-append (encode v m r) rest, encode_length v m r, stored_longer v m body, length-drop at (take end tag), length-take end tag)

  by_mode : (w f : Bool) → whole_by v m ≡ w → flagged_by v m ≡ f → length tag ≤ length work → slice at end (source w tag work) ≡ encode v m r ++ rest
      → Back v w begin at end tag work r rest
  by_mode w false ew ef room e = plain_back w ef e
  by_mode false true ew ef room e = flagged_back ef (omega (arith, body_fits e)) e
  by_mode true true ew ef room e = absurd (never_both v m ew ef)

  pub step_back : length tag ≤ length work → slice at end (source (whole_by v m) tag work) ≡ encode v m r ++ rest
      → Back v (whole_by v m) begin at end tag work r rest
  step_back room e = by_mode (whole_by v m) (flagged_by v m) refl refl room e

  -- ---- with any work buffer

  -- a step that is refused with 14
  abbrev pub NoRoom : Bool → Type 0
  NoRoom w = step_of (reader v w begin at end) tag work ≡ ((Err (refusal 14), stopped_as (Stop.Failed (refusal 14)) (reader v w begin at end)), work)

  -- a flagged body that is longer than the work buffer
  flagged_refused : flagged_by v m ≡ true → ltb (length work) (length body) ≡ true → slice at end tag ≡ encode v m r ++ rest → NoRoom false
  unfolding step_of frame_of on_shown resynced_of
  flagged_refused f t e =
      rw (e, head_back v m 1 r rest (omega arith) sound.is_id_lem sound.sizes, f, body_there v m r rest, flagged_stored v m body f, t)

  flagged_any : flagged_by v m ≡ true → (t : Bool) → ltb (length work) (length body) ≡ t → slice at end tag ≡ encode v m r ++ rest
      → Back v false begin at end tag work r rest ⊎ NoRoom false
  flagged_any f true t e = inr (flagged_refused f t e)
  flagged_any f false t e = inl (flagged_back f (ltb-false (length work) (length body) t) e)

  any_by : (w f : Bool) → whole_by v m ≡ w → flagged_by v m ≡ f → slice at end (source w tag work) ≡ encode v m r ++ rest
      → Back v w begin at end tag work r rest ⊎ NoRoom w
  any_by w false ew ef e = inl (plain_back w ef e)
  any_by false true ew ef e = flagged_any ef (ltb (length work) (length body)) refl e
  any_by true true ew ef e = absurd (never_both v m ew ef)

  -- shows the record, or is refused with 14
  pub step_any : slice at end (source (whole_by v m) tag work) ≡ encode v m r ++ rest → Back v (whole_by v m) begin at end tag work r rest ⊎ NoRoom (whole_by v m)
  step_any e = any_by (whole_by v m) (flagged_by v m) refl refl e

  -- where nothing is flagged
  pub step_plain : flagged_by v m ≡ false → slice at end (source (whole_by v m) tag work) ≡ encode v m r ++ rest
      → Back v (whole_by v m) begin at end tag work r rest
  step_plain f e = plain_back (whole_by v m) f e
