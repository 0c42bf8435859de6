-- What each call returns with a refusal. Assumes nothing.
use mathlib.Core.Path.{◌≡◌, refl, sym}
use Prim.Native.Nat.{ℕ, suc, ◌+◌, ◌^◌}
use native.Mathlib.Omega.{arith}
use mathlib.Core.Bool.{not, ◌||◌}
use mathlib.Core.List.{List, []}
use lib.ListN.{length, take}
use lib.Dec.{leb, ltb, eqb}
use Rattle.format.specs.Unsynch.{resynchronised}
use Rattle.format.specs.Header.{is_whole, header_refusal, region_of}
use Rattle.format.specs.Encode.{encode, is_lost, refusal_of, region_bytes, tag_of}
use Rattle.format.proofs.Checks.{of_picked}
use Rattle.writer.specs.Writer.{is_known, begin_of, Adding, add_of, Finishing, finish_of, Added}
use Rattle.writer.specs.Answers.{begun_number, begun_writer, added_number, added_count, added_writer, finished_number, finished_count, finished_writer}
use Rattle.writer.specs.declared.Writer.{Writer}
use Rattle.reader.specs.Reader.{header_of, open_whole, open_of, step_of}
use Rattle.reader.specs.Answers.{headed_number, headed_fields, opened_number, opened_reader}
use Rattle.promises.specs.Refused.{RefusedBegin, RefusedAdd, RefusedFinish, AddCounts, RefusedHeader, RefusedOpen, RefusedStep}
use Rattle.promises.proofs.Adding.{keeps, declined_keeps}
use Rattle.promises.proofs.Bounds.{no_record}
use Rattle.std.specs.Prelude.{Result, Ok, Err}
use Rattle.format.specs.declared.refusals.Refusal.{Refusal}
use Rattle.reader.specs.declared.Header.{Header}
use Rattle.reader.specs.declared.Reader.{Reader}

-- ---- writing

abbrev BeginBy : ℕ → Result Writer Refusal → Type 0
BeginBy k o = begun_number o ≡ suc k → (suc k ≡ 2) × (begun_writer o ≡ [])

pub refused_begin : RefusedBegin
unfolding begin_of
refused_begin version mode altered k = of_picked (BeginBy k) (is_known version mode) (λ t n. absurd (omega arith)) (λ t n. (sym n, refl))

none_counted : (k : ℕ) (x : Added) → added_number x ≡ suc k → added_count x ≡ 0
none_counted k (Ok n, w) e = absurd (omega arith)
none_counted k (Err j, w) e = refl

pub refused_add : RefusedAdd
refused_add w r b k n =
    let s = declined_keeps w b k (add_of w r b) (keeps w r b) n in
    (none_counted k (add_of w r b).0 n, s.0, s.1)

abbrev FinishBy : Writer → List ℕ → ℕ → Finishing → Type 0
FinishBy w output k o = finished_number o.0 ≡ suc k → (finished_count o.0 ≡ 0) × (finished_writer o.0 ≡ w) × (o.1 ≡ output)

pub refused_finish : RefusedFinish
unfolding finish_of
refused_finish w padding b output k =
    let frames = take w.used b in
    let tag = tag_of w.version w.mode padding frames in
    of_picked (FinishBy w output k) (leb (2 ^ 28) (length (region_bytes w.version w.mode padding frames))) (λ t n. (refl, refl, refl))
    (λ t. of_picked (FinishBy w output k) (ltb (length b) w.used || ltb (length output) (length tag)) (λ s n. (refl, refl, refl))
    (λ s n. absurd (omega arith)))

abbrev CountsBy : Writer → Adding → Type 0
CountsBy w o = (added_writer o.0).used ≡ w.used + added_count o.0

pub add_counts : AddCounts
unfolding add_of
add_counts w r b =
    of_picked (CountsBy w) (not (eqb (refusal_of w.version w.mode w.altered r) 0)) (λ t. omega arith)
    (λ t. of_picked (CountsBy w) (is_lost w.version w.altered r.id) (λ l. omega arith)
    (λ l. of_picked (CountsBy w) (ltb (length b) (w.used + length (encode w.version w.mode r))) (λ s. omega arith) (λ s. refl)))

-- ---- reading

abbrev HeaderBy : ℕ → Result Header Refusal → Type 0
HeaderBy k o = headed_number o ≡ suc k → headed_fields o ≡ []

pub refused_header : RefusedHeader
unfolding header_of
refused_header tag k = of_picked (HeaderBy k) (eqb (header_refusal tag) 0) (λ t n. absurd (omega arith)) (λ t n. refl)

abbrev OpenBy : List ℕ → ℕ → Result Reader Refusal × List ℕ → Type 0
OpenBy work k o = opened_number o.0 ≡ suc k → (opened_reader o.0 ≡ []) × (o.1 ≡ work)

pub refused_open : RefusedOpen
unfolding open_of open_whole
refused_open tag work k =
    of_picked (OpenBy work k) (not (eqb (header_refusal tag) 0)) (λ t n. (refl, refl))
    (λ t. of_picked (OpenBy work k) (is_whole tag)
    (λ s. of_picked (OpenBy work k) (ltb (length work) (length (resynchronised (region_of tag)))) (λ l n. (refl, refl)) (λ l n. absurd (omega arith)))
    (λ s n. absurd (omega arith)))

pub refused_step : RefusedStep
refused_step r tag work k n = no_record k (step_of r tag work).0 n
