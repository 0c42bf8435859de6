-- What each exported function leaves with a refusal. Assumes nothing.
use mathlib.Core.Path.{◌≡◌, refl}
use Prim.Native.Nat.{ℕ, suc, ◌≤◌}
use native.Mathlib.Omega.{arith}
use mathlib.Core.Bool.{◌||◌}
use mathlib.Core.List.{List}
use lib.ListN.{length}
use lib.Seq.{get_or-set_same}
use lib.Dec.{leb, eqb}
use borrow.Author.Tests.{le-ltb}
use Rattle.laws.proofs.Bools.{false_not_true}
use Rattle.format.specs.Record.{rec_of}
use Rattle.format.proofs.Checks.{of_picked}
use Rattle.writer.specs.Writer.{begin_of, Adding, add_of, Finishing, finish_of}
use Rattle.writer.specs.Answers.{finished_number}
use Rattle.writer.specs.declared.Writer.{Writer}
use Rattle.reader.specs.Reader.{header_of, open_of, Stepped, step_of}
use Rattle.reader.specs.Answers.{opened_number}
use Rattle.promises.proofs.Adding.{Keeps, keeps}
use Rattle.promises.proofs.Refused.{refused_finish, refused_open}
use Rattle.capi.specs.Words.{word, reader_of, writer_of, heading_of}
use Rattle.capi.specs.Calls.{short, Left1, Left2, Left3, after_header, sv_header, after_open, sv_open, after_step, step_with, sv_step, after_begin, sv_begin, after_add, add_with, sv_add, after_finish, finish_with, sv_finish}
use Rattle.cpromises.specs.Refused.{SvRefusedBegin, SvRefusedAdd, SvRefusedFinish, SvRefusedHeader, SvRefusedOpen, SvRefusedStep}
use Rattle.std.specs.Prelude.{Result, Option, Ok, Err, Some, None}
use Rattle.format.specs.declared.refusals.Refusal.{Refusal}
use Rattle.reader.specs.declared.Header.{Header}
use Rattle.reader.specs.declared.Reader.{Reader}
use Rattle.format.specs.declared.Heading.{Heading}

-- ---- writing

begun : (writer : List ℕ) (k : ℕ) (x : Result Writer Refusal) → (after_begin x writer).0 ≡ suc k → (after_begin x writer).1 ≡ writer
begun writer k (Ok w) e = absurd (omega arith)
begun writer k (Err j) e = refl

pub sv_refused_begin : SvRefusedBegin
unfolding sv_begin
sv_refused_begin version mode altered writer k =
    let P : Left1 → Type 0 = λ o. o.0 ≡ suc k → o.1 ≡ writer in
    of_picked P (short 4 writer) (λ t e. refl) (λ t. of_picked P (leb 2 altered) (λ s e. refl) (λ s. begun writer k (begin_of version mode (eqb altered 1))))

module _ (name names rest deviations buffer writer count : List ℕ) (k : ℕ) where
  -- buffer and writer as before, and the count
  abbrev Kept : Left3 → Type 0
  Kept o = o.0 ≡ suc k → (o.1 ≡ buffer) × (o.2 ≡ writer) × (1 ≤ length count → word 0 o.3 ≡ 0)

  added : (w : Writer) (o : Adding) → Keeps w buffer o → Kept (after_add o writer count)
  added w ((Ok n, w'), left) h e = absurd (omega arith)
  added w ((Err j, w'), left) h e = (h.1.1, refl, λ one. get_or-set_same count 0 0 0 one)

  with_words : (w : Option Writer) (h : Option Heading) → Kept (add_with w h (λ w h. add_of w (rec_of h name names rest deviations) buffer) buffer writer count)
  with_words None h e = (refl, refl, λ one. get_or-set_same count 0 0 0 one)
  with_words (Some w) None e = (refl, refl, λ one. get_or-set_same count 0 0 0 one)
  with_words (Some w) (Some h) e =
      let r = rec_of h name names rest deviations in
      added w (add_of w r buffer) (keeps w r buffer) e

pub sv_refused_add : SvRefusedAdd
unfolding sv_add
sv_refused_add words name names rest deviations buffer writer count k =
    let P : Left3 → Type 0 =
    λ o. o.0 ≡ suc k → (o.1 ≡ buffer) × (o.2 ≡ writer) × (19 ≤ length words → 4 ≤ length writer → 1 ≤ length count → word 0 o.3 ≡ 0) in
    of_picked P (short 19 words || (short 4 writer || short 1 count))
    (λ t e. (refl, refl, λ a b c. absurd (false_not_true (rw (le-ltb _ _ a, le-ltb _ _ b, le-ltb _ _ c) at t))))
    (λ t e.
    let q = with_words name names rest deviations buffer writer count k (writer_of writer) (heading_of words) e in
    (q.0, q.1, λ a b c. q.2 c))

module _ (padding : ℕ) (buffer output count : List ℕ) (k : ℕ) where
  abbrev Left : Left2 → Type 0
  Left o = o.0 ≡ suc k → (o.1 ≡ output) × (1 ≤ length count → word 0 o.2 ≡ 0)

  abbrev Same : Finishing → Type 0
  Same o = finished_number o.0 ≡ suc k → o.1 ≡ output

  finished : (o : Finishing) → Same o → Left (after_finish o count)
  finished ((Ok n, w), left) h e = absurd (omega arith)
  finished ((Err j, w), left) h e = (h e, λ one. get_or-set_same count 0 0 0 one)

  finish_words : (w : Option Writer) → Left (finish_with w padding buffer output count)
  finish_words None e = (refl, λ one. get_or-set_same count 0 0 0 one)
  finish_words (Some w) e = finished (finish_of w padding buffer output) (λ n. (refused_finish w padding buffer output k n).2) e

pub sv_refused_finish : SvRefusedFinish
unfolding sv_finish
sv_refused_finish padding buffer output writer count k =
    let P : Left2 → Type 0 = λ o. o.0 ≡ suc k → (o.1 ≡ output) × (4 ≤ length writer → 1 ≤ length count → word 0 o.2 ≡ 0) in
    of_picked P (short 4 writer || short 1 count)
    (λ t e. (refl, λ a b. absurd (false_not_true (rw (le-ltb _ _ a, le-ltb _ _ b) at t))))
    (λ t e. let q = finish_words padding buffer output count k (writer_of writer) e in (q.0, λ a b. q.1 b))

-- ---- reading

headed : (header : List ℕ) (k : ℕ) (x : Result Header Refusal) → (after_header x header).0 ≡ suc k → (after_header x header).1 ≡ header
headed header k (Ok h) e = absurd (omega arith)
headed header k (Err j) e = refl

pub sv_refused_header : SvRefusedHeader
unfolding sv_header
sv_refused_header tag header k =
    let P : Left1 → Type 0 = λ o. o.0 ≡ suc k → o.1 ≡ header in
    of_picked P (short 4 header) (λ t e. refl) (λ t. headed header k (header_of tag))

module _ (work reader : List ℕ) (k : ℕ) where
  abbrev Opens : Result Reader Refusal × List ℕ → Type 0
  Opens o = opened_number o.0 ≡ suc k → o.1 ≡ work

  opened : (o : Result Reader Refusal × List ℕ) → Opens o → (after_open o reader).0 ≡ suc k → ((after_open o reader).1 ≡ work) × ((after_open o reader).2 ≡ reader)
  opened (Ok r, left) h e = absurd (omega arith)
  opened (Err j, left) h e = (h e, refl)

pub sv_refused_open : SvRefusedOpen
unfolding sv_open
sv_refused_open tag work reader k =
    let P : Left2 → Type 0 = λ o. o.0 ≡ suc k → (o.1 ≡ work) × (o.2 ≡ reader) in
    of_picked P (short 7 reader) (λ t e. (refl, refl)) (λ t. opened work reader k (open_of tag work) (λ n. (refused_open tag work k n).1))

module _ (tag work reader words : List ℕ) (k : ℕ) where
  stepped : (o : Stepped) → (after_step o reader words).0 ≡ suc k → (after_step o reader words).3 ≡ words
  stepped ((Ok (Some rec), r), left) e = absurd (omega arith)
  stepped ((Ok None, r), left) e = refl
  stepped ((Err j, r), left) e = refl

  step_words : (g : Option Reader) → (step_with g tag work reader words).0 ≡ suc k → (step_with g tag work reader words).3 ≡ words
  step_words None e = refl
  step_words (Some r) e = stepped (step_of r tag work) e

pub sv_refused_step : SvRefusedStep
unfolding sv_step
sv_refused_step tag work reader words k =
    let P : Left3 → Type 0 = λ o. o.0 ≡ suc k → o.3 ≡ words in
    of_picked P (short 7 reader || short 19 words) (λ t e. refl) (λ t. step_words tag work reader words k (reader_of reader))
