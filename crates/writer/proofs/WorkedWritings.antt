-- Worked cases of beginning, adding and finishing, by computation: refusals 2, 20, 21 and 24, skipped frames, and every lent buffer. Assumes nothing.
use mathlib.Core.Path.{◌≡◌, refl}
use Prim.Native.Nat.{ℕ, ◌^◌, ◌≤◌}
use mathlib.Core.Bool.{Bool, true, false}
use mathlib.Core.List.{List, [], ◌∷◌, ◌++◌}
use lib.ListN.{replicate, length-replicate}
use borrow.Author.Tests.{le-leb}
use Rattle.format.specs.Bytes.{first, named, ascii, among}
use Rattle.format.specs.Numbers.{digits}
use Rattle.format.specs.Unsynch.{unsync}
use Rattle.format.specs.Ids.{all_id_bytes, kind_of}
use Rattle.format.specs.Record.{Rec, raw}
use Rattle.format.specs.Encode.{body_bytes, encode, refusal_of, tag_of}
use Rattle.format.specs.declared.Version.{Version}
use Rattle.format.specs.declared.Version.TheVariants.{Id3v22, Id3v23, Id3v24}
use Rattle.format.specs.declared.Mode.{Mode}
use Rattle.format.specs.declared.Mode.TheVariants.{Off, Crate, Standard}
use Rattle.writer.specs.Writer.{begin_of, begin_plain_of, add_of, Adding, finish_of, Finishing}
use Rattle.writer.specs.declared.Writer.{Writer}
use Rattle.std.specs.Prelude.{Ok, Err}
use Rattle.format.specs.Refusals.{refusal}

adding : Writer → Rec → List ℕ → Adding
unfolding first among digits unsync all_id_bytes kind_of body_bytes encode refusal_of add_of
adding w r buffer = add_of w r buffer

finishing : Writer → ℕ → List ℕ → List ℕ → Finishing
unfolding digits unsync tag_of finish_of
finishing w padding buffer output = finish_of w padding buffer output

writer : Version → Mode → Bool → ℕ → Writer
writer v m altered used = record { version = v; mode = m; altered = altered; used = used }

rawly : ℕ → List ℕ → Rec
rawly id body = record { id = id; short = false; compressed = false; content = raw body }

-- ---- beginning

begun : begin_of 3 2 true ≡ Ok (writer Id3v23 Standard true 0)
unfolding begin_of writer
begun = refl

begun_plain : begin_plain_of 4 ≡ Ok (writer Id3v24 Off false 0)
unfolding begin_of writer
begun_plain = refl

version_5 : begin_of 5 0 false ≡ Err (refusal 2)
unfolding begin_of
version_5 = refl

version_1 : begin_of 1 0 false ≡ Err (refusal 2)
unfolding begin_of
version_1 = refl

mode_3 : begin_of 4 3 false ≡ Err (refusal 2)
unfolding begin_of
mode_3 = refl

-- ---- adding

-- after the frames there, and no other byte
added : adding (writer Id3v22 Standard false 2) (rawly (named "XAB") (0xFF ∷ 0xE0 ∷ [])) (replicate 11 7)
    ≡ ((Ok 8, writer Id3v22 Standard false 10), 7 ∷ 7 ∷ ascii "XAB" ++ (0 ∷ 0 ∷ 2 ∷ 0xFF ∷ 0xE0 ∷ 7 ∷ []))
unfolding adding writer rawly
added = refl

full : adding (writer Id3v22 Off false 2) (rawly (named "XAB") (9 ∷ [])) (replicate 8 7)
    ≡ ((Err (refusal 20), writer Id3v22 Off false 2), replicate 8 7)
unfolding adding writer rawly
full = refl

-- a collecting buffer shorter than its frames
shorter : adding (writer Id3v22 Off false 9) (rawly (named "XAB") (9 ∷ [])) (replicate 8 7)
    ≡ ((Err (refusal 20), writer Id3v22 Off false 9), replicate 8 7)
unfolding adding writer rawly
shorter = refl

wrong_id : adding (writer Id3v24 Off false 0) (rawly (named "XAB") []) (replicate 12 7)
    ≡ ((Err (refusal 21), writer Id3v24 Off false 0), replicate 12 7)
unfolding adding writer rawly
wrong_id = refl

-- skipped as accepted, without room
skipped : adding (writer Id3v24 Off true 5) (rawly (named "ETCO") (9 ∷ [])) [] ≡ ((Ok 0, writer Id3v24 Off true 5), [])
unfolding adding writer rawly
skipped = refl

-- ---- finishing

finished : finishing (writer Id3v24 Crate false 2) 1 (1 ∷ 2 ∷ 3 ∷ []) (replicate 14 7)
    ≡ ((Ok 13, writer Id3v24 Crate false 2), ascii "ID3" ++ (4 ∷ 0 ∷ 0x80 ∷ 0 ∷ 0 ∷ 0 ∷ 3 ∷ 1 ∷ 2 ∷ 0 ∷ 7 ∷ []))
unfolding finishing writer
finished = refl

small_output : finishing (writer Id3v24 Crate false 2) 1 (1 ∷ 2 ∷ 3 ∷ []) (replicate 12 7)
    ≡ ((Err (refusal 20), writer Id3v24 Crate false 2), replicate 12 7)
unfolding finishing writer
small_output = refl

short_buffer : finishing (writer Id3v24 Crate false 4) 1 (1 ∷ 2 ∷ 3 ∷ []) (replicate 20 7)
    ≡ ((Err (refusal 20), writer Id3v24 Crate false 4), replicate 20 7)
unfolding finishing writer
short_buffer = refl

-- padding of 2^28 bytes or more, whatever the frames
too_long_lem : (n : ℕ) → 2 ^ 28 ≤ n → finish_of (writer Id3v24 Off false 0) n [] [] ≡ ((Err (refusal 24), writer Id3v24 Off false 0), [])
unfolding finish_of writer
too_long_lem n h = simp (length-replicate, le-leb (2 ^ 28) n h)
