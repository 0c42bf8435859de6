-- The equation of the next popularimeter: nothing past here sees the count. Assumes nothing.
use Rattle.std.proofs.Common.{◌≡◌, ℕ, zero, suc, ◌<◌, Ok, Err, Some, None, List, [], ◌∷◌, refl, arith}
use Rattle.laws.proofs.Cuts.{length_cut}
use Rattle.format.specs.declared.Record.{Record}
use Rattle.walk.specs.Sources.{source_of}
use Rattle.reader.specs.Reader.{Step, step_of}
use Rattle.reader.specs.declared.Reader.{Reader}
use Rattle.reader.proofs.Steps.{answered, answered_moves}
use Rattle.meter.specs.Meter.{passed_over, metered_in, Nexted, or_on, on_step, next_in, left_of, next_of}
use Rattle.meter.specs.declared.Meter.{Meter}
use Rattle.meter.specs.declared.Metered.{Metered}

-- ---- a frame leaves fewer bytes

pub step_left : (r : Reader) (tag work : List ℕ) (rec : Record) (r' : Reader) → (step_of r tag work).0 ≡ (Ok (Some rec), r') → left_of r' < left_of r
step_left r tag work rec r' e =
    let m = answered_moves r tag work rec r' e in
    rw (answered r tag work rec r' e).moved (omega (arith, m.six, m.within, length_cut r.at r.end (source_of r.in_work work tag)))

-- ---- what is made of a step depends on what goes on only where fewer bytes are left

module _ (go go' : Meter → List ℕ → Nexted) (m : Meter) (work : List ℕ)
    (same : (m' : Meter) (w : List ℕ) → left_of m'.reader < left_of m.reader → go m' w ≡ go' m' w) where
  or_cong : (p : List Metered) (m' : Meter) → left_of m'.reader < left_of m.reader → or_on go p m' work ≡ or_on go' p m' work
  or_cong [] m' h = same m' work h
  or_cong (p ∷ ps) m' h = refl

  on_cong : (x : Step) → ((rec : Record) (r' : Reader) → x ≡ (Ok (Some rec), r') → left_of r' < left_of m.reader) → on_step go m x work ≡ on_step go' m x work
  on_cong (Ok (Some rec), r) h = or_cong (metered_in m.frames rec) (passed_over rec.heading r m) (h rec r refl)
  on_cong (Ok None, r) h = refl
  on_cong (Err k, r) h = refl

step_cong : (go go' : Meter → List ℕ → Nexted) (m : Meter) (tag work : List ℕ)
    → ((m' : Meter) (w : List ℕ) → left_of m'.reader < left_of m.reader → go m' w ≡ go' m' w)
    → on_step go m (step_of m.reader tag work).0 (step_of m.reader tag work).1 ≡ on_step go' m (step_of m.reader tag work).0 (step_of m.reader tag work).1
step_cong go go' m tag work same =
    on_cong go go' m (step_of m.reader tag work).1 same (step_of m.reader tag work).0 (step_left m.reader tag work)

-- ---- counts that suffice agree

enough : (f g : ℕ) (tag : List ℕ) (m : Meter) (work : List ℕ) → left_of m.reader < f → left_of m.reader < g → next_in f tag m work ≡ next_in g tag m work
unfolding next_in
enough zero g tag m work hf hg = absurd (omega arith)
enough (suc f) zero tag m work hf hg = absurd (omega arith)
enough (suc f) (suc g) tag m work hf hg =
    step_cong (next_in f tag) (next_in g tag) m tag work (λ m' w h. enough f g tag m' w (omega arith) (omega arith))

-- The equation that a reader expects.
pub next_eq : (m : Meter) (tag work : List ℕ)
    → next_of m tag work ≡ on_step (λ m' w. next_of m' tag w) m (step_of m.reader tag work).0 (step_of m.reader tag work).1
unfolding next_of next_in
next_eq m tag work =
    step_cong (next_in (left_of m.reader) tag) (λ m' w. next_of m' tag w) m tag work
    (λ m' w h. enough (left_of m.reader) (suc (left_of m'.reader)) tag m' w h (omega arith))
