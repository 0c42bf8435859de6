-- A meter that runs keeps its edition, its frames and its mark for missing bytes, and stops as it answers. Assumes nothing.
use Rattle.std.proofs.Common.{◌≡◌, ℕ, zero, suc, ◌<◌, Bool, ◌||◌, Result, Ok, Err, Option, Some, None, List, sym, refl, subst, arith}
use Rattle.format.specs.declared.refusals.Refusal.{Refusal}
use Rattle.walk.specs.Passing.{pass_in}
use Rattle.walk.specs.declared.passing.Met.{Met}
use Rattle.reader.specs.declared.Stop.{Stop}
use Rattle.meter.specs.Meter.{one_more, Next, Nexted, left_of, next_of}
use Rattle.meter.specs.Meets.{moved_as, met_next}
use Rattle.meter.specs.declared.Meter.{Meter}
use Rattle.meter.proofs.Meets.{next_met, passed_less}

-- m' is m at another place, with other marks
pub record Moved (m : Meter) (stop : Stop) (m' : Meter) : Type 0 where
  pub at : ℕ
  pub frames : ℕ
  pub short : Bool
  pub compressed : Bool
  pub same : m' ≡ moved_as at frames short compressed stop m

abbrev pub Goes : Meter → Next → Type 0
Goes m (Ok (Some p), m') = Moved m Stop.Running m'
Goes m (Ok None, m') = Moved m Stop.Ended m'
Goes m (Err k, m') = Moved m (Stop.Failed k) m'

module _ (m : Meter) (at frames : ℕ) (short compressed : Bool) where
  moved_itself : (stop : Stop) → Moved m stop (moved_as at frames short compressed stop m)
  moved_itself stop = record { at = at; frames = frames; short = short; compressed = compressed; same = refl }

  further : {stop : Stop} {m' : Meter} → Moved (moved_as at frames short compressed Stop.Running m) stop m' → Moved m stop m'
  further o = record { at = o.at; frames = o.frames; short = o.short; compressed = o.compressed; same = o.same }

  goes_further : (x : Next) → Goes (moved_as at frames short compressed Stop.Running m) x → Goes m x
  goes_further (Ok (Some p), m') o = further o
  goes_further (Ok None, m') o = further o
  goes_further (Err k, m') o = further o

module _ (tag : List ℕ) (go : Meter → List ℕ → Nexted) (m : Meter) (work : List ℕ)
    (later : (m' : Meter) (w : List ℕ) → m'.reader.stop ≡ Stop.Running → left_of m'.reader < left_of m.reader → Goes m' (go m' w).0) where
  met_goes : (met : Result (Option Met) Refusal) (left : List ℕ)
      → ◌≡◌ {A = Result (Option Met) Refusal × List ℕ} (met, left) (pass_in m.reader.version m.reader.in_work m.reader.begin m.reader.at m.reader.end tag work)
      → Goes m (met_next go m met left).0
  met_goes (Ok None) left e = moved_itself m _ _ _ _ Stop.Ended
  met_goes (Err k) left e = moved_itself m _ _ _ _ (Stop.Failed k)
  met_goes (Ok (Some (Met.Passed next short packed))) left e =
      let r = m.reader in
      let m' : Meter = moved_as next (one_more m.frames) (m.short || short) (m.compressed || packed) Stop.Running m in
      goes_further m _ _ _ _ (go m' left).0 (later m' left refl (passed_less r.version r.in_work r.begin r.at r.end tag work next short packed e refl))
  met_goes (Ok (Some (Met.Popularimeter next inWork user rating counter))) left e = moved_itself m _ _ _ _ Stop.Running

goes_in : (n : ℕ) (m : Meter) (tag work : List ℕ) → left_of m.reader < n → m.reader.stop ≡ Stop.Running → Goes m (next_of m tag work).0
goes_in zero m tag work h is = absurd (omega arith)
goes_in (suc n) m tag work h is =
    subst (λ (x : Nexted). Goes m x.0) (sym (next_met m tag work is))
    (met_goes tag (λ m' w. next_of m' tag w) m work (λ m' w run less. goes_in n m' tag w (omega arith) run) _ _ refl)

pub next_goes : (m : Meter) (tag work : List ℕ) → m.reader.stop ≡ Stop.Running → Goes m (next_of m tag work).0
next_goes m tag work is = goes_in (suc (left_of m.reader)) m tag work (omega arith) is
