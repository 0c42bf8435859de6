-- The last line is always there. Assumes nothing.
use mathlib.Core.Path.{◌≡◌, refl, sym, ap, ◌∙◌}
use Prim.Native.Nat.{ℕ, zero, suc, ◌+◌, ◌≤◌}
use native.Mathlib.Omega.{arith}
use mathlib.Core.List.{List, [], ◌∷◌, ◌++◌, append_assoc, append-nil}
use lib.ListN.{length}
use Rattle.format.specs.Listing.{end_line, refused_line}
use Rattle.format.specs.Record.{Rec, view_of}
use Rattle.reader.specs.Reader.{header_of, open_of, step_of}
use Rattle.reader.specs.declared.Reader.{Reader}
use Rattle.reader.specs.Reader.{Step}
use Rattle.reader.proofs.Opens.{open_refused}
use Rattle.printout.specs.Lines.{Line, line, header_line, record_in, on_step, frame_lines, on_open, opened_lines, on_header, lines_of, text_of}
use Rattle.reader.proofs.Numbered.{Stopped, OfStep, step_number_lem, OfOpened, open_stopped}
use Rattle.promises.specs.Reading.{Reading, ended, refused, unfinished, ending_of, and_record, read_from, read_for, read_all}
use Rattle.promises.specs.Reading as reading
use Rattle.promises.proofs.Bounds.{finishes}
use Rattle.room.specs.Listings.{LastOf, end, refusal, LastLine}
use Rattle.std.specs.Prelude.{Result, Ok, Err, Some, None}
use Rattle.format.specs.declared.refusals.Refusal.{Refusal}
use Rattle.reader.specs.declared.Header.{Header}

-- ---- the last line where n frames were listed before

data LastFrom : ℕ → Reading → List ℕ → Type 0 where
  ends : (n : ℕ) (records : List Rec) → LastFrom n (records, ended) (end_line (n + length records))
  refuses : (n : ℕ) (records : List Rec) (k : ℕ) → LastFrom n (records, refused k) (refused_line k)

ends_here : (n : ℕ) → LastFrom n ([], ended) (end_line n)
ends_here n = let same : n + 0 ≡ n = omega arith in rw same at (ends n [])

record ClosedFrom (n : ℕ) (ls : List Line) (reading : Reading) : Type 0 where
  before : List Line
  last : Line
  lines : ls ≡ before ++ (last ∷ [])
  says : LastFrom n reading last.text

alone : (n : ℕ) (reading : Reading) (text work : List ℕ) → LastFrom n reading text → ClosedFrom n (line text work ∷ []) reading
alone n reading text work says = record { before = []; last = line text work; lines = refl; says = says }

one_fewer : {m : ℕ} {read : Reading} {text : List ℕ} (n : ℕ) (r : Rec) → m ≡ n + 1 → LastFrom m read text → LastFrom n (and_record r read) text
one_fewer n r e (ends m records) =
    let more : m + length records ≡ n + length (r ∷ records) = omega arith in
    rw more (ends n (r ∷ records))
one_fewer n r e (refuses m records k) = refuses n (r ∷ records) k

-- after a frame
one_more_lem : {read : Reading} {ls : List Line} (n : ℕ) (r : Rec) (l : Line) → ClosedFrom (n + 1) ls read → ClosedFrom n (l ∷ ls) (and_record r read)
one_more_lem n r l c = record {
  before = l ∷ c.before;
  last = c.last;
  lines = ap (λ (x : List Line). l ∷ x) c.lines;
  says = one_fewer n r refl c.says;
}

-- ---- the frames

ending_refused : (k : ℕ) → 1 ≤ k → ending_of k ≡ refused k
ending_refused zero h = absurd (omega arith)
ending_refused (suc k) h = refl

module _ (f : ℕ) (tag : List ℕ)
    (go : (r : Reader) (n : ℕ) (work : List ℕ) → Stopped r.stop → ((read_from f tag r work).1 ≡ unfinished → ⊥) → ClosedFrom n (frame_lines f tag r n work) (read_from f tag r work)) where
  step_closed : (x : Step) (n : ℕ) (work : List ℕ) → OfStep x → ((reading.on_step (read_from f tag) tag x work).1 ≡ unfinished → ⊥)
      → ClosedFrom n (on_step (frame_lines f tag) n tag x work) (reading.on_step (read_from f tag) tag x work)
  step_closed (Ok (Some rec), r) n work s h =
      one_more_lem n (view_of rec tag work) (line (record_in r.version n rec tag work) work) (go r (n + 1) work s h)
  step_closed (Ok None, r) n work s h = alone n ([], ended) (end_line n) work (ends_here n)
  step_closed (Err k, r) n work s h =
      rw (ending_refused k.number s.0.0) (alone n ([], refused k.number) (refused_line k.number) work (refuses n [] k.number))

frames_closed : (f : ℕ) (tag : List ℕ) (r : Reader) (n : ℕ) (work : List ℕ) → Stopped r.stop → ((read_from f tag r work).1 ≡ unfinished → ⊥)
    → ClosedFrom n (frame_lines f tag r n work) (read_from f tag r work)
unfolding frame_lines read_from
frames_closed zero tag r n work s h = absurd (h refl)
frames_closed (suc f) tag r n work s h =
    step_closed f tag (frames_closed f tag) (step_of r tag work).0 n (step_of r tag work).1 (step_number_lem r tag work s) h

-- ---- a tag

open_closed : (tag : List ℕ) (o : Result Reader Refusal) (work : List ℕ) → OfOpened (o, work) → ((reading.on_open (length tag) tag o work).1 ≡ unfinished → ⊥)
    → ClosedFrom 0 (on_open tag o work) (reading.on_open (length tag) tag o work)
open_closed tag (Ok r) work s h = frames_closed (length tag) tag r 0 work s h
open_closed tag (Err k) work s h = alone 0 ([], refused k.number) (refused_line k.number) work (refuses 0 [] k.number)

opened_closed : (tag work : List ℕ) → ClosedFrom 0 (opened_lines tag work) (read_all tag work)
unfolding opened_lines read_for
opened_closed tag work = open_closed tag (open_of tag work).0 (open_of tag work).1 (open_stopped tag work) (finishes tag work)

-- a refused header is answered by opening with its number
not_read : (tag work : List ℕ) (k : Refusal) → header_of tag ≡ Err k → read_all tag work ≡ ([], refused k.number)
unfolding read_for
not_read tag work k e = rw (← open_refused tag work k e)

head_closed : (tag work : List ℕ) (h : Result Header Refusal) → header_of tag ≡ h → ClosedFrom 0 (on_header h tag work) (read_all tag work)
head_closed tag work (Ok h) e =
    let c = opened_closed tag work in
    record {
      before = line (header_line h) work ∷ c.before;
      last = c.last;
      lines = ap (λ (x : List Line). line (header_line h) work ∷ x) c.lines;
      says = c.says;
    }
head_closed tag work (Err k) e =
    rw (not_read tag work k e) (alone 0 ([], refused k.number) (refused_line k.number) work (refuses 0 [] k.number))

lines_closed : (tag work : List ℕ) → ClosedFrom 0 (lines_of tag work) (read_all tag work)
unfolding lines_of
lines_closed tag work = head_closed tag work (header_of tag) refl

-- ---- the promise

last_of : {m : ℕ} {read : Reading} {text : List ℕ} → m ≡ 0 → LastFrom m read text → LastOf read text
last_of e (ends m records) =
    let all : m + length records ≡ length records = omega arith in
    rw all (end records)
last_of e (refuses m records k) = refusal records k

text_append : (a : List Line) (l : Line) → text_of (a ++ (l ∷ [])) ≡ text_of a ++ l.text
unfolding text_of
text_append [] l = simp append-nil
text_append (x ∷ a) l = rw (text_append a l) (sym (append_assoc x.text (text_of a) l.text))

pub last_line : LastLine
last_line tag work =
    let c = lines_closed tag work in
    record {
      before = c.before;
      last = c.last;
      lines = c.lines;
      text = ap text_of c.lines ∙ text_append c.before c.last;
      says = last_of refl c.says;
    }
