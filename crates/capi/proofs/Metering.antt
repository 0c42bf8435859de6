-- What the calls over meters do with words is what Meters says of them. Assumes nothing.
use mathlib.Core.Path.{◌≡◌, refl, sym, ap, subst, ◌∙◌}
use Prim.Native.Nat.{ℕ, zero, suc, ◌≤◌, ◌<◌}
use native.Mathlib.Omega.{arith}
use mathlib.Core.Bool.{Bool, true, false, not, ◌&&◌, ◌||◌}
use mathlib.Core.List.{List, [], ◌∷◌}
use lib.ListN.{length, set, drop}
use lib.Seq.{sets, drop-cons}
use lib.Dec.{leb, ltb, eqb}
use borrow.Author.Tests.{le-ltb, leb-true, eqb-true, eqb-false, ne_eqb, lt-leb}
use Rattle.laws.proofs.Bools.{and_true, false_not_true}
use Rattle.laws.proofs.Results.{ok_same, ok_not_err, err_not_ok}
use Rattle.format.proofs.Checks.{of_picked}
use Rattle.format.specs.Bytes.{pick}
use Rattle.format.specs.Unsynch.{resynchronised}
use Rattle.format.specs.Header.{version_of, is_whole, header_refusal, region_of}
use Rattle.format.specs.Numbered.{is_version, version_number, version_said}
use Rattle.format.specs.declared.Version.{Version}
use Rattle.reader.specs.Reader.{stopped_as, open_whole, open_of}
use Rattle.reader.specs.declared.Stop.{Stop}
use Rattle.meter.specs.Meter.{is_missing, meter_at, opened_as, meter_open_of, Nexted, next_of, Next}
use Rattle.meter.specs.Meets.{moved_as}
use Rattle.meter.specs.declared.Meter.{Meter}
use Rattle.meter.proofs.Meets.{next_ended, next_failed}
use Rattle.meter.proofs.Keeps.{Goes, next_goes}
use Rattle.capi.specs.Words.{word, is_flag, stop_number, failure, is_stop, stop_of, is_reader}
use Rattle.capi.specs.Calls.{short, Left2, Left3}
use Rattle.capi.specs.Meters.{meter_words, is_meter, meter_with, meter_of, sv_meter_open, after_next, next_with, sv_meter_next}
use Rattle.capi.proofs.Left.{enough2}
use Rattle.capi.proofs.Backs.{flag_same}
use Rattle.capi.specs.Metering.{opened_words, is_running, stopped_of, moved_words, answered_of}
use Rattle.std.specs.Prelude.{Result, Ok, Err, Some, None}
use Rattle.format.specs.declared.refusals.Refusal.{Refusal}
use Rattle.format.specs.Refusals.{refusal}
use Rattle.reader.specs.declared.Reader.{Reader}

-- ---- single words say what they are

-- the edition that a number says

bad_version : (n : ℕ) {k : Refusal} → version_said n ≡ Err k → is_version n ≡ false
bad_version n {k} e = false_where_bad (is_version n) e
  where
    false_where_bad : (t : Bool) → pick t (Ok (version_of n)) (Err (refusal 2)) ≡ Err k → t ≡ false
    false_where_bad true h = ok_not_err h
    false_where_bad false h = refl

good_version : (n : ℕ) {v : Version} → version_said n ≡ Ok v → (is_version n ≡ true) × (v ≡ version_of n)
good_version n {v} e = true_where_good (is_version n) e
  where
    true_where_good : (t : Bool) → pick t (Ok (version_of n)) (Err (refusal 2)) ≡ Ok v → (t ≡ true) × (v ≡ version_of n)
    true_where_good true h = (refl, sym (ok_same h))
    true_where_good false h = err_not_ok h

version_same : (n : ℕ) → is_version n ≡ true → version_number (version_of n) ≡ n
version_same n e = same_by_tests (eqb n 2) (eqb n 3) refl refl
  where
    same_by_tests : (a b : Bool) → eqb n 2 ≡ a → eqb n 3 ≡ b → version_number (version_of n) ≡ n
    same_by_tests true b ea eb = rw ea (sym (eqb-true n 2 ea))
    same_by_tests false true ea eb = rw (ea, eb) (sym (eqb-true n 3 eb))
    same_by_tests false false ea eb =
        let f = and_true (leb 2 n) (leb n 4) e in
        let l = leb-true 2 n f.0 in
        let h = leb-true n 4 f.1 in
        let h2 = eqb-false n 2 ea in
        let h3 = eqb-false n 3 eb in
        let z : 4 ≡ n = omega (arith, h2, h3) in
        rw (ea, eb) z

-- a refusal alone has a number
stop_same : (s n : ℕ) → is_stop s n ≡ true → (stop_number (stop_of s n) ≡ s) × (failure (stop_of s n) ≡ n)
stop_same zero n e = (refl, sym (eqb-true n 0 e))
stop_same (suc zero) n e = (refl, sym (eqb-true n 0 e))
stop_same (suc (suc zero)) n e = (refl, refl)
stop_same (suc (suc (suc s))) n e =
    let a : eqb (suc (suc (suc s))) 2 ≡ false = ne_eqb (suc (suc (suc s))) 2 (λ z. omega arith) in
    let b : leb (suc (suc (suc s))) 1 ≡ false = lt-leb (suc (suc (suc s))) 1 (omega arith) in
    absurd (false_not_true (rw (a, b) at e))

-- ---- eleven words

eleven : (words : List ℕ) → 11 ≤ length words
    → words
    ≡ word 0 words ∷ word 1 words ∷ word 2 words ∷ word 3 words ∷ word 4 words ∷ word 5 words ∷ word 6 words ∷ word 7 words ∷ word 8 words ∷ word 9 words ∷ word 10 words ∷ drop 11 words
eleven words h =
    let word_first : (i : ℕ) → i < 11 → drop i words ≡ word i words ∷ drop (suc i) words = λ i k. drop-cons words i 0 (omega arith) in
    cc (
      word_first 0 (omega arith),
      word_first 1 (omega arith),
      word_first 2 (omega arith),
      word_first 3 (omega arith),
      word_first 4 (omega arith),
      word_first 5 (omega arith),
      word_first 6 (omega arith),
      word_first 7 (omega arith),
      word_first 8 (omega arith),
      word_first 9 (omega arith),
      word_first 10 (omega arith),
    )

-- what holds of every list that begins with eleven words
of_eleven : (P : List ℕ → Type 0) → ((a b c d e f g h i j k : ℕ) (rest : List ℕ) → P (a ∷ b ∷ c ∷ d ∷ e ∷ f ∷ g ∷ h ∷ i ∷ j ∷ k ∷ rest)) → (words : List ℕ) → 11 ≤ length words → P words
of_eleven P law words h = subst P (sym (eleven words h)) (law _ _ _ _ _ _ _ _ _ _ _ _)

-- ---- what words say

-- what tells that words say a meter
record Says (words : List ℕ) : Type 0 where
  version : is_version (word 0 words) ≡ true
  in_work : is_flag (word 1 words) ≡ true
  stop : is_stop (word 5 words) (word 6 words) ≡ true
  short : is_flag (word 8 words) ≡ true
  compressed : is_flag (word 9 words) ≡ true
  missing : is_flag (word 10 words) ≡ true

says_meter : (words : List ℕ) → is_meter words ≡ true → Says words
says_meter words e =
    let a = and_true (is_reader (word 0 words) (word 1 words) (word 5 words) (word 6 words)) (is_flag (word 8 words) && (is_flag (word 9 words) && is_flag (word 10 words))) e in
    let b = and_true (is_version (word 0 words)) (is_flag (word 1 words) && is_stop (word 5 words) (word 6 words)) a.0 in
    let c = and_true (is_flag (word 1 words)) (is_stop (word 5 words) (word 6 words)) b.1 in
    let d = and_true (is_flag (word 8 words)) (is_flag (word 9 words) && is_flag (word 10 words)) a.1 in
    let f = and_true (is_flag (word 9 words)) (is_flag (word 10 words)) d.1 in
    record { version = b.0; in_work = c.0; stop = c.1; short = d.0; compressed = f.0; missing = f.1 }

abbrev meter_said : List ℕ → Meter
meter_said words = meter_with (version_of (word 0 words)) (stop_of (word 5 words) (word 6 words)) words

-- the meter that words say, put into them, leaves them as they are
same_words : (words : List ℕ) → 11 ≤ length words → Says words → meter_words (meter_said words) words ≡ words
unfolding meter_words
same_words =
    of_eleven (λ words. Says words → meter_words (meter_said words) words ≡ words)
    (λ a b c d e f g h i j k rest s. rw (version_same a s.version, flag_same b s.in_work, (stop_same f g s.stop).0, (stop_same f g s.stop).1, flag_same i s.short, flag_same j s.compressed, flag_same k s.missing))

-- what tells that words say a running meter
record Runs (words : List ℕ) : Type 0 where
  version : is_version (word 0 words) ≡ true
  in_work : is_flag (word 1 words) ≡ true
  stop : word 5 words ≡ 0
  number : word 6 words ≡ 0
  short : is_flag (word 8 words) ≡ true
  compressed : is_flag (word 9 words) ≡ true
  missing : is_flag (word 10 words) ≡ true

says_running : (words : List ℕ) → is_version (word 0 words) ≡ true → is_running words ≡ true → Runs words
says_running words v e =
    let a = and_true (eqb (word 5 words) 0 && eqb (word 6 words) 0) (is_flag (word 1 words) && (is_flag (word 8 words) && (is_flag (word 9 words) && is_flag (word 10 words)))) e in
    let b = and_true (eqb (word 5 words) 0) (eqb (word 6 words) 0) a.0 in
    let c = and_true (is_flag (word 1 words)) (is_flag (word 8 words) && (is_flag (word 9 words) && is_flag (word 10 words))) a.1 in
    let d = and_true (is_flag (word 8 words)) (is_flag (word 9 words) && is_flag (word 10 words)) c.1 in
    let f = and_true (is_flag (word 9 words)) (is_flag (word 10 words)) d.1 in
    record {
      version = v;
      in_work = c.0;
      stop = eqb-true (word 5 words) 0 b.0;
      number = eqb-true (word 6 words) 0 b.1;
      short = d.0;
      compressed = f.0;
      missing = f.1;
    }

abbrev meter_running : List ℕ → Meter
meter_running words = meter_with (version_of (word 0 words)) Stop.Running words

running_of : (words : List ℕ) → Runs words → meter_of words ≡ meter_running words ∷ []
unfolding meter_of
running_of words r = rw (r.version, r.in_work, r.stop, r.number, r.short, r.compressed, r.missing)

-- a meter whose words do not say that it runs has stopped
stopped_of_lem : (words : List ℕ) → Says words → is_running words ≡ false → word 5 words ≡ 0 → ⊥
stopped_of_lem words s e z =
    let n : word 6 words ≡ 0 = sym (stop_same (word 5 words) (word 6 words) s.stop).1 ∙ rw z in
    let yes : is_running words ≡ true = rw (z, n, s.in_work, s.short, s.compressed, s.missing) in
    false_not_true (sym e ∙ yes)

-- ---- only the words that change are stored

module _ (at frames : ℕ) (short compressed : Bool) where
  abbrev moved : Stop → List ℕ → Meter
  moved stop words = moved_as at frames short compressed stop (meter_running words)

  found_words : (words : List ℕ) → 11 ≤ length words → Runs words → moved_words (moved Stop.Running words) words ≡ meter_words (moved Stop.Running words) words
  unfolding meter_words moved_words
  found_words =
      of_eleven (λ words. Runs words → moved_words (moved Stop.Running words) words ≡ meter_words (moved Stop.Running words) words)
      (λ a b c d e f g h i j k rest r. rw (version_same a r.version, flag_same b r.in_work, flag_same k r.missing, r.stop, r.number))

  ended_words : (words : List ℕ) → 11 ≤ length words → Runs words → set (moved_words (moved Stop.Ended words) words) 5 1 ≡ meter_words (moved Stop.Ended words) words
  unfolding meter_words moved_words
  ended_words =
      of_eleven (λ words. Runs words → set (moved_words (moved Stop.Ended words) words) 5 1 ≡ meter_words (moved Stop.Ended words) words)
      (λ a b c d e f g h i j k rest r. rw (version_same a r.version, flag_same b r.in_work, flag_same k r.missing, r.number))

  failed_words : (n : ℕ) (words : List ℕ) → 11 ≤ length words → Runs words
      → sets (moved_words (moved (Stop.Failed (refusal n)) words) words) 5 (2 ∷ n ∷ []) ≡ meter_words (moved (Stop.Failed (refusal n)) words) words
  unfolding meter_words moved_words
  failed_words n =
      of_eleven (λ words. Runs words → sets (moved_words (moved (Stop.Failed (refusal n)) words) words) 5 (2 ∷ n ∷ []) ≡ meter_words (moved (Stop.Failed (refusal n)) words) words)
      (λ a b c d e f g h i j k rest r. rw (version_same a r.version, flag_same b r.in_work, flag_same k r.missing))

abbrev with_work : List ℕ → Left2 → Left3
with_work work o = (o.0, work, o.1, o.2)

answered_words : (x : Next) (work meter metered : List ℕ) → 11 ≤ length meter → Runs meter → Goes (meter_running meter) x
    → with_work work (answered_of x meter metered) ≡ after_next (x, work) meter metered
answered_words (Ok (Some p), m) work meter metered h r o = rw (o.same, found_words o.at o.frames o.short o.compressed meter h r)
answered_words (Ok None, m) work meter metered h r o = rw (o.same, ended_words o.at o.frames o.short o.compressed meter h r)
answered_words (Err k, m) work meter metered h r o = rw (o.same, failed_words o.at o.frames o.short o.compressed k.number meter h r)

-- ---- sv_meter_open

-- a meter that was opened runs, and has passed nothing
abbrev Fresh : Result Meter Refusal → Type 0
Fresh (Ok m) = m ≡ meter_at m.missing (stopped_as Stop.Running m.reader)
Fresh (Err k) = Unit {0}

fresh : (tag work : List ℕ) → Fresh (meter_open_of tag work).0
unfolding meter_open_of open_of open_whole
fresh tag work =
    let P : Result Reader Refusal × List ℕ → Type 0 = λ o. Fresh (opened_as (is_missing tag) o.0) in
    let u = resynchronised (region_of tag) in
    of_picked P (not (eqb (header_refusal tag) 0)) (λ a. tt)
    (λ a. of_picked P (is_whole tag) (λ b. of_picked P (ltb (length work) (length u)) (λ d. tt) (λ d. refl)) (λ b. refl))

pub open_ready : (tag work meter : List ℕ) {answer : Result Meter Refusal} {left : List ℕ} {m : Meter} → 11 ≤ length meter → (answer, left) ≡ meter_open_of tag work
    → answer ≡ Ok m → sv_meter_open tag work meter ≡ (0, left, opened_words m meter)
unfolding sv_meter_open meter_words opened_words
open_ready tag work meter {m} h e is =
    let g : Fresh (Ok m) = subst Fresh (ap (λ (o : Result Meter Refusal × List ℕ). o.0) (sym e) ∙ is) (fresh tag work) in
    let w : meter_words m meter ≡ opened_words m meter = ap (λ (z : Meter). meter_words z meter) g in
    rw (le-ltb _ _ h, ← e, is, w)

-- ---- words that say no running meter stay as they are

module _ (tag work meter metered : List ℕ) (h : 11 ≤ length meter) where
  stays_as : (stop : Stop) → stop_of (word 5 meter) (word 6 meter) ≡ stop → Says meter → (k : ℕ) → {x : Next}
      → ◌≡◌ {A = Nexted} (x, work) (next_of (meter_with (version_of (word 0 meter)) stop meter) tag work)
      → after_next (x, work) meter metered ≡ (k, work, meter_words (meter_with (version_of (word 0 meter)) stop meter) meter, metered)
      → after_next (next_of (meter_said meter) tag work) meter metered ≡ (k, work, meter, metered)
  stays_as stop e s k next after =
      let m = meter_with (version_of (word 0 meter)) stop meter in
      let same : meter_words m meter ≡ meter = ap (λ (z : Stop). meter_words (meter_with (version_of (word 0 meter)) z meter) meter) (sym e) ∙ same_words meter h s in
      ap (λ (z : Stop). after_next (next_of (meter_with (version_of (word 0 meter)) z meter) tag work) meter metered) e
      ∙ ap (λ (z : Nexted). after_next z meter metered) (sym next)
      ∙ after
      ∙ ap {B = Left3} (λ (z : List ℕ). (k, work, z, metered)) same

  says_stopped : is_running meter ≡ false → Says meter → (one : Bool) → eqb (word 5 meter) 1 ≡ one
      → after_next (next_of (meter_said meter) tag work) meter metered ≡ (pick one 256 (word 6 meter), work, meter, metered)
  says_stopped is s true eo =
      stays_as Stop.Ended (rw (eqb-true (word 5 meter) 1 eo)) s 256 (next_ended (meter_with (version_of (word 0 meter)) Stop.Ended meter) tag work refl) refl
  says_stopped is s false eo =
      let n = word 6 meter in
      let z : eqb (word 5 meter) 0 ≡ false = ne_eqb (word 5 meter) 0 (stopped_of_lem meter s is) in
      stays_as (Stop.Failed (refusal n)) (rw (z, eo)) s n (next_failed (meter_with (version_of (word 0 meter)) (Stop.Failed (refusal n)) meter) tag work refl) refl

  stays : is_running meter ≡ false → (t : Bool) → is_meter meter ≡ t
      → next_with (meter_of meter) tag work meter metered ≡ (pick t (pick (eqb (word 5 meter) 1) 256 (word 6 meter)) 2, work, meter, metered)
  unfolding meter_of
  stays is true t = rw t (says_stopped is (says_meter meter t) (eqb (word 5 meter) 1) refl)
  stays is false t = rw t

-- ---- sv_meter_next

module _ (tag work meter metered : List ℕ) where
  pub next_short : (short 11 meter || short 6 metered) ≡ true → sv_meter_next tag work meter metered ≡ (20, work, meter, metered)
  unfolding sv_meter_next
  next_short e = rw e

  module _ (e : (short 11 meter || short 6 metered) ≡ false) where
    pub next_unknown : {k : Refusal} → version_said (word 0 meter) ≡ Err k → sv_meter_next tag work meter metered ≡ (2, work, meter, metered)
    unfolding sv_meter_next meter_of
    next_unknown v = rw (e, bad_version (word 0 meter) v)

    -- a stopped meter stays stopped
    pub next_stopped : is_running meter ≡ false → sv_meter_next tag work meter metered ≡ (stopped_of meter, work, meter, metered)
    unfolding sv_meter_next
    next_stopped is = rw e (stays tag work meter metered (enough2 11 6 meter metered e).0 is (is_meter meter) refl)

    pub next_then : {v : Version} → version_said (word 0 meter) ≡ Ok v → is_running meter ≡ true → {m : Meter} → m ≡ meter_with v Stop.Running meter
        → {answer : Next} {left : List ℕ} {o : Left2} → (answer, left) ≡ next_of m tag work → o ≡ answered_of answer meter metered
        → with_work left o ≡ sv_meter_next tag work meter metered
    unfolding sv_meter_next
    next_then v is {m} em {answer} {left} {o} en eo =
        let k = good_version (word 0 meter) v in
        let r = says_running meter k.0 is in
        let h = (enough2 11 6 meter metered e).0 in
        let en2 : ◌≡◌ {A = Nexted} (answer, left) (next_of (meter_running meter) tag work) = en ∙ ap (λ (z : Meter). next_of z tag work) (em ∙ ap (λ (z : Version). meter_with z Stop.Running meter) k.1) in
        let g : Goes (meter_running meter) answer = subst (λ (x : Nexted). Goes (meter_running meter) x.0) (sym en2) (next_goes (meter_running meter) tag work refl) in
        ap (with_work left) eo ∙ answered_words answer left meter metered h r g ∙ rw (e, running_of meter r, ← en2)
