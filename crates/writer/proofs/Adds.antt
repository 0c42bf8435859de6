-- Adding, in the steps that the code makes: each of its answers. Assumes nothing.
use mathlib.Core.Path.{◌≡◌, sym, ap, ◌∙◌}
use Prim.Native.Nat.{ℕ, ◌+◌, ◌≤◌}
use mathlib.Core.Bool.{Bool, true, false}
use mathlib.Core.List.{List}
use lib.ListN.{length}
use lib.Seq.{sets}
use lib.Dec.{ltb}
use borrow.Author.Tests.{ne_eqb, ltb-false}
use Rattle.format.specs.Bytes.{pick, first}
use Rattle.format.specs.Frame.{head_len}
use Rattle.format.specs.Record.{Rec}
use Rattle.format.specs.Encode.{record_checks, size_checks, is_lost, refusal_of, body_bytes, stored_of, encode}
use Rattle.format.proofs.Encoded.{encode_length}
use Rattle.writer.specs.Writer.{Adding, append_of, add_of}
use Rattle.writer.specs.declared.Writer.{Writer}
use Rattle.checks.proofs.Firsts.{only}
use Rattle.checks.proofs.Firsts.{passed as first_passed}
use Rattle.checks.proofs.Passed.{Answer, sound, unsound, stop}
use Rattle.checks.proofs.Order.{with_size}
use Rattle.std.specs.Prelude.{Ok, Err}
use Rattle.format.specs.declared.refusals.Refusal.{Refusal}
use Rattle.format.specs.Refusals.{refusal, passed}

module _ (w : Writer) (r : Rec) (b : List ℕ) where
  abbrev lost : Bool
  lost = is_lost w.version w.altered r.id

  abbrev sized : ℕ
  sized = first (size_checks w.version w.mode r)

  abbrev number : ℕ
  number = refusal_of w.version w.mode w.altered r

  -- a refusal
  declined : {e : Refusal} → ◌≡◌ {A = Answer} (Err e) (passed number) → ◌≡◌ {A = Adding} ((Err e, w), b) (add_of w r b)
  unfolding add_of
  declined {e} is = let u = unsound number is in rw (u.1, ne_eqb number 0 u.0)

  -- one down to 34
  pub refused : {e : Refusal} → ◌≡◌ {A = Answer} (Err e) (passed (first (record_checks w.version r))) → ◌≡◌ {A = Adding} ((Err e, w), b) (add_of w r b)
  refused is = declined (stop _ _ is ∙ ap passed (sym (with_size w.version w.mode w.altered r)))

  -- none down to 34
  module _ (good : ◌≡◌ {A = Answer} (Ok tt) (passed (first (record_checks w.version r)))) where
    behind_them : number ≡ pick lost 0 sized
    behind_them = with_size w.version w.mode w.altered r ∙ first_passed _ _ (sound _ good) ∙ only _

    pub skipped : is_lost w.version w.altered r.id ≡ true → ◌≡◌ {A = Adding} ((Ok 0, w), b) (add_of w r b)
    unfolding add_of
    skipped t = rw (behind_them, t)

    module _ (kept : is_lost w.version w.altered r.id ≡ false) where
      pub too_long : {e : Refusal} → ◌≡◌ {A = Answer} (Err e) (passed (first (size_checks w.version w.mode r))) → ◌≡◌ {A = Adding} ((Err e, w), b) (add_of w r b)
      too_long is = declined (is ∙ ap passed (sym (rw kept at behind_them)))

      pub appended : ◌≡◌ {A = Answer} (Ok tt) (passed (first (size_checks w.version w.mode r))) → append_of w (encode w.version w.mode r) b ≡ add_of w r b
      unfolding add_of
      appended is = rw (behind_them, kept, sound _ is)

-- ---- the room

-- a header and a stored body of these lengths, and whether the buffer is too short for them
module _ (w : Writer) (r : Rec) (b : List ℕ) {head size : ℕ} {full : Bool} (eh : head ≡ head_len w.version)
    (es : size ≡ length (stored_of w.version w.mode (body_bytes r.content))) (ef : full ≡ ltb (length b) (w.used + (head + size))) where
  abbrev frame : List ℕ
  frame = encode w.version w.mode r

  whole : head + size ≡ length frame
  whole = rw (eh, es) (sym (encode_length w.version w.mode r))

  is_full : full ≡ ltb (length b) (w.used + length frame)
  is_full = ef ∙ rw whole

  pub no_room : full ≡ true → ◌≡◌ {A = Adding} ((Err (refusal 20), w), b) (append_of w (encode w.version w.mode r) b)
  no_room t = rw (← is_full, t)

  pub room : full ≡ false → w.used + length (encode w.version w.mode r) ≤ length b
  room t = ltb-false _ _ (sym is_full ∙ t)

  pub put_behind : {used : ℕ} {b' : List ℕ} → full ≡ false → used ≡ w.used + length (encode w.version w.mode r) → b' ≡ sets b w.used (encode w.version w.mode r)
      → ◌≡◌ {A = Adding} ((Ok (head + size), record { version = w.version; mode = w.mode; altered = w.altered; used = used }), b')
      (append_of w (encode w.version w.mode r) b)
  put_behind t eu eb = rw (← is_full, t, eu, eb, whole)
