-- Tags that are changed in place: the reading of a whole tag without a work buffer, and whether it is of the plain sort (document 01, "Raising a counter"; request f). Assumes nothing.
use Rattle.std.specs.Prelude.{ℕ, zero, suc, ◌+◌, Bool, true, false, not, ◌&&◌, ◌||◌, List, [], ◌∷◌, length, take, drop, ltb, leb, eqb}
use Rattle.format.specs.Bytes.{pick, has}
use Rattle.format.specs.Header.{edition_of, flags_of, size_of, version_of, is_whole, is_extended, header_refusal, region_of}
use Rattle.format.specs.Frame.{head_of}
use Rattle.format.specs.Record.{body_refusal, run_of}
use Rattle.format.specs.Walk.{is_resynced, shown_kind}
use Rattle.format.specs.declared.Version.{Version}
use Rattle.format.specs.declared.Head.{Head}
use Rattle.std.specs.Prelude.{Result, Option, Ok, Err, Some, None}
use Rattle.format.specs.declared.refusals.Refusal.{Refusal}
use Rattle.format.specs.Refusals.{refusal}

-- what a look at frames comes to: a refusal, or whether all is plain
abbrev pub Look : Type 0
Look = Result Bool Refusal

-- one look and then another
abbrev pub both : Look → Look → Look
both (Err k) y = Err k
both (Ok false) (Err k) = Err k
both (Ok false) (Ok false) = Ok false
both (Ok false) (Ok true) = Ok false
both (Ok true) y = y

abbrev pub plain_if : Bool → Look
plain_if t = pick t (Ok true) (Ok false)

-- a refusal, or where there is none what follows
abbrev pub unless : ℕ → Look → Look
unless zero x = x
unless (suc k) x = Err (refusal (suc k))

unfoldable pub all_zero : List ℕ → Bool
all_zero [] = true
all_zero (x ∷ s) = pick (eqb x 0) (all_zero s) false

-- ---- a frame, by its header and its stored body, whose run of subframes go looks at

-- 40 at once where reading would resynchronise; else its body, its run, and then whether it is plain itself
unfoldable pub frame_look : Version → (List ℕ → Look) → ℕ → Bool → Bool → Bool → List ℕ → Look
frame_look v go id compressed flagged short b =
    let kind = shown_kind v id compressed in
    let on = both (unless (body_refusal kind b) (go (run_of kind b))) (plain_if (not (compressed || (flagged || short)))) in
    pick (is_resynced compressed flagged) (Err (refusal 40)) on

-- ---- frames one after the other, at a depth

-- behind the last frame: at the top level only zeros are plain
unfoldable pub on_look : Version → (ℕ → List ℕ → Look) → ℕ → List ℕ → Result (Option Head) Refusal → Look
on_look v go depth s (Ok None) = plain_if (ltb 1 depth || all_zero s)
on_look v go depth s (Err k) = Err k
on_look v go depth s (Ok (Some h)) =
    both (frame_look v (go (depth + 1)) h.id h.compressed h.flagged h.short (take h.len (drop h.start s))) (go depth (drop (h.start + h.len) s))

-- with a count of frames that is large enough, which nothing else sees
unfoldable pub look_for : Version → ℕ → ℕ → List ℕ → Look
look_for v zero depth s = Ok true
look_for v (suc n) depth s = on_look v (look_for v n) depth s (head_of v depth s)

unfoldable pub look_at : Version → ℕ → List ℕ → Look
look_at v depth s = look_for v (length s) depth s

-- ---- a tag

-- all bytes that the header promises are there; neither flag 40 nor flag 80
abbrev pub is_simple : List ℕ → Bool
is_simple tag = leb (10 + size_of tag) (length tag) && (not (is_extended tag) && not (has 0x80 (flags_of tag)))

-- The order of the numbers: the header's, 40 where all is unsynchronised, the frames' as reading goes; odd is 40 after all of these.
unfoldable pub tag_look : List ℕ → Look
tag_look tag =
    let on = both (look_at (version_of (edition_of tag)) 1 (region_of tag)) (plain_if (is_simple tag)) in
    unless (header_refusal tag) (pick (is_whole tag) (Err (refusal 40)) on)
