-- The frame of a record that adding accepts, mode off: a block that reads as the record in any room, and looks as the record's run does. Assumes nothing.
use mathlib.Core.Path.{◌≡◌, sym, ap, ◌∙◌}
use Prim.Native.Nat.{ℕ}
use native.Mathlib.Omega.{arith}
use mathlib.Core.Bool.{Bool, false, true}
use mathlib.Core.List.{List, [], append-nil}
use lib.ListN.{length, take, drop, length-drop}
use lib.Seq.{take_all}
use Rattle.laws.proofs.Bools.{false_not_true}
use Rattle.format.specs.Frame.{head_len, head}
use Rattle.format.specs.Record.{Rec, body_refusal, run_of}
use Rattle.format.specs.Walk.{shown_kind}
use Rattle.format.specs.Encode.{kind_in, body_bytes, stored_of, encode}
use Rattle.format.specs.Looks.{frame_look, look_at}
use Rattle.format.specs.declared.Version.{Version}
use Rattle.format.specs.declared.Mode.TheVariants.{Off}
use Rattle.format.specs.declared.Kind.{Kind}
use Rattle.format.proofs.Encoded.{off_flagged, head_back, body_there, encode_length}
use Rattle.format.proofs.Accepted.{Sound}
use Rattle.format.proofs.Frames.{plain_stored}
use Rattle.walk.proofs.Looks.{both_end}
use Rattle.blocks.specs.Blocks.{Block, Shows}
use Rattle.blocks.proofs.Encoded.{encode_shows}
use Rattle.raise.specs.Promises.{run_within}
use Rattle.raise.proofs.Plainness.{block_look, PlainBlock}
use Rattle.std.specs.Prelude.{Ok, Some}

module _ (v : Version) (r : Rec) (sound : Sound v Off r) where
  abbrev body : List ℕ
  body = body_bytes r.content

  unfoldable pub off_block : Block v (encode v Off r)
  off_block = record {
    id = r.id;
    compressed = false;
    flagged = false;
    start = head_len v;
    len = length (stored_of v Off body);
    head = rw append-nil at (head_back v Off 1 r [] (omega arith) sound.is_id_lem sound.sizes)
        ∙ ap (λ (t : Bool). Ok (Some (head r.id false t false (head_len v) (length (stored_of v Off body))))) (off_flagged v);
    ends = sym (encode_length v Off r);
  }

  pub off_shows : Shows v 0 (encode v Off r) r
  off_shows = encode_shows v Off r sound 0 (λ t. absurd (false_not_true (sym (off_flagged v) ∙ t)))

  pub off_body : drop (head_len v) (encode v Off r) ≡ body_bytes r.content
  off_body =
      let all : take (length (stored_of v Off body)) (drop (head_len v) (encode v Off r)) ≡ stored_of v Off body = rw append-nil at (body_there v Off r []) in
      sym (take_all (length (stored_of v Off body)) (drop (head_len v) (encode v Off r)) (omega (arith, length-drop (head_len v) (encode v Off r), encode_length v Off r)))
      ∙ all ∙ plain_stored v Off body (off_flagged v)

  -- a look at the frame is one at its run
  pub off_look : block_look off_block ≡ look_at v 2 (run_within r.content)
  unfolding off_block frame_look
  off_look =
      let k : shown_kind v r.id false ≡ kind_in r.content = sound.kind in
      let taken : body_refusal (shown_kind v r.id false) body ≡ 0 = ap (λ (j : Kind). body_refusal j body) k ∙ sound.back.taken in
      let run : run_of (shown_kind v r.id false) body ≡ run_within r.content = ap (λ (j : Kind). run_of j body) k ∙ sound.back.run in
      rw (off_body, taken, run) (both_end (look_at v 2 (run_within r.content)))

  pub off_plain : look_at v 2 (run_within r.content) ≡ Ok true → PlainBlock v (encode v Off r)
  off_plain e = record { block = off_block; looks = off_look ∙ e }
