-- The text of every input has room. Assumes nothing.
use mathlib.Core.Path.{◌≡◌, refl, ap, ◌∙◌}
use Prim.Native.Nat.{ℕ, zero, suc, ◌+◌, ◌*◌, ◌≤◌, ◌<◌}
use native.Mathlib.Omega.{arith}
use mathlib.Core.List.{List, [], ◌∷◌}
use lib.ListN.{length, drop, length-append, length-take}
use Rattle.laws.proofs.Stores.{sets_in}
use Rattle.format.specs.Bytes.{part}
use Rattle.format.specs.Numbered.{version_number}
use Rattle.format.specs.Record.{buffer_of}
use Rattle.format.specs.Listing.{end_line, refused_line}
use Rattle.format.specs.declared.Version.{Version}
use Rattle.format.specs.declared.Fields.{Fields}
use Rattle.format.specs.declared.Record.{Record}
use Rattle.lines.proofs.Parts.{body_least, tag_length, end_length, refused_length, frame_room}
use Rattle.reader.specs.Reader.{header_of, open_of, step_of}
use Rattle.reader.specs.declared.Reader.{Reader}
use Rattle.reader.specs.Reader.{Step}
use Rattle.reader.proofs.Refusals.{accepted}
use Rattle.reader.proofs.Opens.{found}
use Rattle.printout.specs.Lines.{Line, line, header_line, record_in, on_step, frame_lines, on_open, opened_lines, on_header, lines_of, text_of, input_room, text_room}
use Rattle.printout.specs.Turns.{Outcome, put_lines}
use Rattle.printout.proofs.Texts.{holds, all_put}
use Rattle.promises.proofs.Bounds.{ahead, Opens, open_within}
use Rattle.room.specs.Listings.{Room, WholeText}
use Rattle.room.proofs.Passing.{step_passed}
use Rattle.std.specs.Prelude.{Result, Option, Ok, Err, Some, None}
use Rattle.format.specs.declared.refusals.Refusal.{Refusal}
use Rattle.reader.specs.declared.Header.{Header}

-- ---- a line

least_more : (f : Fields) (m n : ℕ) → m ≤ n → body_least f m ≤ body_least f n
least_more (Fields.Text e) m n h = omega arith
least_more (Fields.Popularimeter r c) m n h = omega arith
least_more (Fields.Table f b k v w) m n h = omega arith
least_more (Fields.Chapter a b c d) m n h = omega arith
least_more (Fields.Contents t o) m n h = omega arith
least_more Fields.Raw m n h = omega arith

-- at most sixteen bytes for each that the frame takes
line_room : (v : Version) (n : ℕ) (rec : Record) (tag work : List ℕ) → n < 100000 → rec.at < 100000 → rec.body.len < 100000
    → length (record_in v n rec tag work) ≤ 16 * (6 + body_least rec.heading.fields rec.name.len)
line_room v n rec tag work h i j =
    let s = buffer_of rec tag work in
    let user : length (part rec.name s) ≤ rec.name.len = omega (arith, length-take rec.name.len (drop rec.name.start s)) in
    omega (
      arith,
      frame_room n v rec.heading.id rec.at rec.body.len rec.heading.short rec.heading.fields (part rec.name s) h i j,
      least_more rec.heading.fields (length (part rec.name s)) rec.name.len user,
    )

-- ---- the frames

alone : (text work : List ℕ) → length (text_of (line text work ∷ [])) ≡ length text
unfolding text_of
alone text work = omega (arith, length-append text [])

first_line : (l : Line) (ls : List Line) → length (text_of (l ∷ ls)) ≡ length l.text + length (text_of ls)
unfolding text_of
first_line l ls = length-append l.text (text_of ls)

-- a reader that lists frame n and has so many bytes before it: its place and number stay small
record Begins (r : Reader) (n bytes : ℕ) : Type 0 where
  place : r.at + bytes ≤ input_room
  number : n + bytes ≤ input_room

module _ (f : ℕ) (tag : List ℕ)
    (go : (r : Reader) (n : ℕ) (work : List ℕ) → Begins r n (ahead r tag work) → length (text_of (frame_lines f tag r n work)) ≤ 16 * ahead r tag work + 29)
    (r : Reader) (n : ℕ) (work : List ℕ) (b : Begins r n (ahead r tag work)) where
  step_room : (x : Step) → (step_of r tag work).0 ≡ x → length (text_of (on_step (frame_lines f tag) n tag x (step_of r tag work).1)) ≤ 16 * ahead r tag work + 29
  step_room (Ok (Some rec), r') e =
      let left = (step_of r tag work).1 in
      let p = step_passed r tag work rec r' e in
      let next : Begins r' (n + 1) (ahead r' tag left) = record {
        place = omega (arith, p.onward, b.place);
        number = omega (arith, p.bytes, b.number);
      } in
      let shown = line_room r'.version n rec tag left (omega (arith, b.number)) (omega (arith, p.place, b.place)) (omega (arith, p.body, b.place)) in
      omega (
        arith,
        first_line (line (record_in r'.version n rec tag left) left) (frame_lines f tag r' (n + 1) left),
        shown,
        go r' (n + 1) left next,
        p.bytes,
      )
  step_room (Ok None, r') e = omega (arith, alone (end_line n) (step_of r tag work).1, end_length n)
  step_room (Err k, r') e = omega (arith, alone (refused_line k.number) (step_of r tag work).1, refused_length k.number)

frames_room : (f : ℕ) (tag : List ℕ) (r : Reader) (n : ℕ) (work : List ℕ) → Begins r n (ahead r tag work)
    → length (text_of (frame_lines f tag r n work)) ≤ 16 * ahead r tag work + 29
unfolding frame_lines text_of
frames_room zero tag r n work b = omega arith
frames_room (suc f) tag r n work b = step_room f tag (frames_room f tag) r n work b (step_of r tag work).0 refl

-- ---- a tag

module _ (tag : List ℕ) (small : length tag ≤ input_room) (ten : 10 ≤ length tag) where
  open_room : (o : Result Reader Refusal) (work : List ℕ) → Opens tag (o, work) → length (text_of (on_open tag o work)) + 131 ≤ 16 * length tag
  open_room (Ok r) work h =
      let w = h r refl in
      let b : Begins r 0 (ahead r tag work) = record { place = omega (arith, w.place); number = omega (arith, w.few) } in
      omega (arith, frames_room (length tag) tag r 0 work b, w.few)
  open_room (Err k) work h = omega (arith, alone (refused_line k.number) work, refused_length k.number)

  opened_room : (work : List ℕ) → length (text_of (opened_lines tag work)) + 131 ≤ 16 * length tag
  unfolding opened_lines
  opened_room work = open_room (open_of tag work).0 (open_of tag work).1 (open_within tag work)

head_room : (tag work : List ℕ) → length tag ≤ input_room → (h : Result Header Refusal) → header_of tag ≡ h → length (text_of (on_header h tag work)) ≤ text_room
head_room tag work small (Ok h) e =
    omega (
      arith,
      first_line (line (header_line h) work) (opened_lines tag work),
      tag_length (version_number h.version) h.size h.flags h.ext,
      opened_room tag small (accepted tag (found tag h e).0).begun work,
    )
head_room tag work small (Err k) e = omega (arith, alone (refused_line k.number) work, refused_length k.number)

-- ---- the promises

pub room : Room
unfolding lines_of
room tag work small = head_room tag work small (header_of tag) refl

pub whole_text : WholeText
whole_text tag work out small large =
    let ls = lines_of tag work in
    let t = text_of ls in
    let fits : 0 + length t ≤ length out = omega (arith, room tag work small) in
    let all : 0 + length t ≡ length t = omega arith in
    let o : Outcome = put_lines ls 0 work out in
    let put : o.0 ≡ Some (length t) = rw all at (all_put ls 0 work out fits) in
    let is : o ≡ (Some (length t), (o.1.0, o.1.1)) = ap {B = Outcome} (λ (p : Option ℕ). (p, o.1)) put in
    (put, (holds ls 0 work out is).bytes ∙ sets_in out 0 t fits)
