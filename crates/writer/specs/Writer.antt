-- Beginning a writer, adding a record and finishing a tag, with every lent buffer (document 01, "Writing", "Refusal numbers"). Assumes nothing.
use Rattle.std.specs.Prelude.{ℕ, ◌+◌, ◌^◌, Bool, false, not, ◌&&◌, ◌||◌, List, length, take, ltb, leb, eqb, Result, Ok, Err}
use Rattle.std.proofs.lemmas.List.Edits.{sets}
use Rattle.format.specs.Bytes.{pick}
use Rattle.format.specs.Header.{version_of}
use Rattle.format.specs.Numbered.{mode_of, is_mode, is_version}
use Rattle.format.specs.Record.{Rec}
use Rattle.format.specs.Encode.{is_lost, refusal_of, encode, region_bytes, tag_of}
use Rattle.writer.specs.declared.Writer.{Writer}
use Rattle.format.specs.declared.refusals.Refusal.{Refusal}
use Rattle.format.specs.Refusals.{refusal}

-- ---- beginning: the version is 2, 3 or 4, the mode 0 (off), 1 (crate) or 2 (standard)

abbrev pub is_known : ℕ → ℕ → Bool
is_known version mode = is_version version && is_mode mode

unfoldable pub begin_of : ℕ → ℕ → Bool → Result Writer Refusal
begin_of version mode altered =
    pick (is_known version mode)
    (Ok (record { version = version_of version; mode = mode_of mode; altered = altered; used = 0 }))
    (Err (refusal 2))

-- mode and mark default to off
abbrev pub begin_plain_of : ℕ → Result Writer Refusal
begin_plain_of version = begin_of version 0 false

-- ---- adding: the checks, the frames that an altered file loses, the room, the frame after those there

-- how many bytes a frame took, or a refusal, with the writer then
abbrev pub Added : Type 0
Added = Result ℕ Refusal × Writer

abbrev pub Adding : Type 0
Adding = Added × List ℕ

abbrev pub grown : ℕ → Writer → Writer
grown n w = record { version = w.version; mode = w.mode; altered = w.altered; used = w.used + n }

abbrev pub append_of : Writer → List ℕ → List ℕ → Adding
append_of w frame buffer =
    pick (ltb (length buffer) (w.used + length frame)) ((Err (refusal 20), w), buffer)
    ((Ok (length frame), grown (length frame) w), sets buffer w.used frame)

unfoldable pub add_of : Writer → Rec → List ℕ → Adding
add_of w r buffer =
    let k = refusal_of w.version w.mode w.altered r in
    pick (not (eqb k 0)) ((Err (refusal k), w), buffer)
    (pick (is_lost w.version w.altered r.id) ((Ok 0, w), buffer) (append_of w (encode w.version w.mode r) buffer))

-- ---- finishing: 24 on the frames that are there, then 20

-- how long the tag is, or a refusal, with the writer, which finishing does not change
abbrev pub Finished : Type 0
Finished = Result ℕ Refusal × Writer

abbrev pub Finishing : Type 0
Finishing = Finished × List ℕ

unfoldable pub finish_of : Writer → ℕ → List ℕ → List ℕ → Finishing
finish_of w padding buffer output =
    let frames = take w.used buffer in
    let tag = tag_of w.version w.mode padding frames in
    pick (leb (2 ^ 28) (length (region_bytes w.version w.mode padding frames))) ((Err (refusal 24), w), output)
    (pick (ltb (length buffer) w.used || ltb (length output) (length tag)) ((Err (refusal 20), w), output)
    ((Ok (length tag), w), sets output 0 tag))
