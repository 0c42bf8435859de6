-- Metering by the exported functions is metering by the definitions. Assumes nothing.
use mathlib.Core.Path.{◌≡◌, refl, sym, ap, ◌∙◌, subst}
use Prim.Native.Nat.{ℕ, zero, suc, ◌≤◌, ◌<◌}
use native.Mathlib.Omega.{arith}
use mathlib.Core.List.{List, [], ◌∷◌}
use lib.ListN.{length, get_or, drop, get_or-append}
use lib.Seq.{sets-eq, length-sets}
use borrow.Author.Tests.{le-ltb}
use Rattle.reader.proofs.Numbered.{Stopped}
use Rattle.meter.specs.Meter.{meter_open_of, next_of, Next}
use Rattle.meter.specs.Answers.{next_meter}
use Rattle.meter.specs.declared.Meter.{Meter}
use Rattle.meter.specs.declared.Metered.{Metered}
use Rattle.meter.proofs.Numbered.{OfNext, next_number_lem, OfOpen, open_number}
use Rattle.promises.specs.Reading.{refused, unfinished, ending_of}
use Rattle.promises.specs.Metering.{Metering, counted_of, on_next as takeNext, meter_from, on_open as takeOpen, meter_all}
use Rattle.promises.proofs.Money.{meter_finishes}
use Rattle.capi.specs.Words.{word, flag}
use Rattle.capi.specs.Calls.{Left2, Left3}
use Rattle.capi.specs.Meters.{meter_list, meter_words, meter_of, metered_words, after_meter_open, sv_meter_open, after_next, sv_meter_next}
use Rattle.capi.proofs.Backs.{flag_back}
use Rattle.capi.proofs.Follows.{meter_open_next, meter_next_next}
use Rattle.cpromises.specs.AnyTag.{end_number}
use Rattle.cpromises.specs.Metering.{counted_by, SvMetering, on_next, sv_meter_from, on_open, sv_metering}
use Rattle.cpromises.specs.Money.{SaysLast, SvMeters, SvMeterFinishes}
use Rattle.cpromises.proofs.Reading.{of_positive}
use Rattle.std.specs.Prelude.{Result, Ok, Err, Some, None}
use Rattle.format.specs.declared.refusals.Refusal.{Refusal}

-- ---- the words of a popularimeter, and how many words there are

module _ (p : Metered) (metered : List ℕ) (h : 6 ≤ length metered) where
  abbrev given : List ℕ
  given = metered_words p metered

  abbrev listed : List ℕ
  listed = flag p.in_work ∷ p.user.start ∷ p.user.len ∷ p.rating ∷ p.counter ∷ p.frame ∷ []

  metered_length : length given ≡ length metered
  unfolding metered_words
  metered_length = length-sets metered 0 listed

  word_at : (i : ℕ) → i < 6 → word i given ≡ get_or listed i 0
  unfolding metered_words
  word_at i k = ap (λ (m : List ℕ). get_or m i 0) (sets-eq listed metered 0 h) ∙ get_or-append listed (drop 6 metered) 0 i k

  -- What the words show is the popularimeter as it is viewed.
  counted_is : (tag work : List ℕ) → counted_by given tag work ≡ counted_of p tag work
  counted_is tag work =
      rw (
        word_at 0 (omega arith),
        word_at 1 (omega arith),
        word_at 2 (omega arith),
        word_at 3 (omega arith),
        word_at 4 (omega arith),
        word_at 5 (omega arith),
        flag_back p.in_work,
      )

meter_length : (m : Meter) (words : List ℕ) → length (meter_words m words) ≡ length words
unfolding meter_words
meter_length m words = length-sets words 0 (meter_list m)

-- ---- the calls

-- what the exported functions meter, after an opening that answered this number in these words, is what the definitions meter
record Same (opening : ℕ) (before : List ℕ) (o : SvMetering) (d : Metering) : Type 0 where
  counted : o.counted ≡ d.counted
  number : o.number ≡ end_number d.ending
  says : SaysLast opening before o.left d.last
  finishes : o.number ≡ 0 → d.ending ≡ unfinished

module _ (tag before : List ℕ) where
  abbrev Meters : ℕ → Type 0
  Meters n = (m : Meter) (work meter metered : List ℕ) → meter_of meter ≡ m ∷ [] → Stopped m.reader.stop → 11 ≤ length meter → 6 ≤ length metered
      → Same 0 before (sv_meter_from n tag work meter metered) (meter_from n tag m work)

  module _ (n : ℕ) (go : Meters n) (m : Meter) (work meter metered : List ℕ) (f : meter_of meter ≡ m ∷ []) (p : Stopped m.reader.stop)
      (h : 11 ≤ length meter) (k : 6 ≤ length metered) where
    abbrev left : List ℕ
    left = (next_of m tag work).1

    called : (x : Next) → (next_of m tag work).0 ≡ x → sv_meter_next tag work meter metered ≡ after_next (x, left) meter metered
    unfolding sv_meter_next
    called x e = rw (le-ltb _ _ h, le-ltb _ _ k, f, ← e)

    left_says : (x : Next) → (next_of m tag work).0 ≡ x → meter_of (after_next (x, left) meter metered).2 ≡ next_meter x ∷ []
    left_says x e =
        ap (λ (z : Left3). meter_of z.2) (sym (called x e)) ∙ meter_next_next tag work meter h metered k f ∙ ap (λ (y : Next). next_meter y ∷ []) e

    abbrev Then : Next → Left3 → Type 0
    Then x o = Same 0 before (on_next tag (sv_meter_from n tag) o) (takeNext (meter_from n tag) tag x left)

    next_meters : (x : Next) → (next_of m tag work).0 ≡ x → Then x (sv_meter_next tag work meter metered)
    next_meters (Ok (Some q), m') e =
        let x : Next = (Ok (Some q), m') in
        let h' : 11 ≤ length (meter_words m' meter) = rw (meter_length m' meter) h in
        let k' : 6 ≤ length (metered_words q metered) = rw (metered_length q metered k) k in
        let p' : Stopped m'.reader.stop = subst OfNext e (next_number_lem m tag work p) in
        let more = go m' left (meter_words m' meter) (metered_words q metered) (left_says x e) p' h' k' in
        subst (Then x) (sym (called x e)) (record {
          counted = rw (counted_is q metered k tag left, more.counted);
          number = more.number;
          says = more.says;
          finishes = more.finishes;
        })
    next_meters (Ok None, m') e =
        let x : Next = (Ok None, m') in
        subst (Then x) (sym (called x e)) (record { counted = refl; number = refl; says = (m', refl, left_says x e); finishes = λ z. absurd (omega arith) })
    next_meters (Err k, m') e =
        let x : Next = (Err k, m') in
        subst (Then x) (sym (called x e))
        (of_positive
        (λ j. Same 0 before (on_next tag (sv_meter_from n tag) (j, left, meter_words m' meter, metered)) (record { counted = []; ending = ending_of j; last = m' ∷ [] }))
        (λ j. record { counted = refl; number = refl; says = (m', refl, left_says x e); finishes = λ z. absurd (omega arith) })
        k.number (subst OfNext e (next_number_lem m tag work p)).0)

  meters : (n : ℕ) → Meters n
  unfolding meter_from sv_meter_from
  meters zero m work meter metered f p h k = record { counted = refl; number = refl; says = (m, refl, f); finishes = λ z. refl }
  meters (suc n) m work meter metered f p h k = next_meters n (meters n) m work meter metered f p h k (next_of m tag work).0 refl

module _ (tag work meter metered : List ℕ) (h : 11 ≤ length meter) (k : 6 ≤ length metered) where
  abbrev work' : List ℕ
  work' = (meter_open_of tag work).1

  abbrev Opens : Result Meter Refusal → Left2 → Type 0
  Opens x o = Same o.0 meter (on_open (length tag) tag metered o) (takeOpen (length tag) tag x work')

  opened : (x : Result Meter Refusal) → (meter_open_of tag work).0 ≡ x → sv_meter_open tag work meter ≡ after_meter_open (x, work') meter
  unfolding sv_meter_open
  opened x e = rw (le-ltb _ _ h, ← e)

  open_meters : (x : Result Meter Refusal) → (meter_open_of tag work).0 ≡ x → Opens x (sv_meter_open tag work meter)
  open_meters (Ok m) e =
      let x : Result Meter Refusal = Ok m in
      let both : meter_open_of tag work ≡ (x, work') = ap {B = Result Meter Refusal × List ℕ} (λ (y : Result Meter Refusal). (y, work')) e in
      let f : meter_of (meter_words m meter) ≡ m ∷ [] = ap (λ (z : Left2). meter_of z.2) (sym (opened x e)) ∙ meter_open_next tag work meter h both in
      let h' : 11 ≤ length (meter_words m meter) = rw (meter_length m meter) h in
      subst (Opens x) (sym (opened x e))
      (meters tag meter (length tag) m work' (meter_words m meter) metered f (subst OfOpen e (open_number tag work)) h' k)
  open_meters (Err k) e =
      let x : Result Meter Refusal = Err k in
      subst (Opens x) (sym (opened x e))
      (of_positive (λ j. Same j meter (on_open (length tag) tag metered (j, work', meter)) (record { counted = []; ending = refused j; last = [] }))
      (λ j. record { counted = refl; number = refl; says = (refl, refl); finishes = λ z. absurd (omega arith) })
      k.number (subst OfOpen e (open_number tag work)).0)

  whole_meters : Same (sv_meter_open tag work meter).0 meter (sv_metering tag work meter metered) (meter_all tag work)
  unfolding sv_metering meter_all
  whole_meters = open_meters (meter_open_of tag work).0 refl

-- ---- any bytes

pub sv_meters : SvMeters
sv_meters tag work meter metered lent =
    let o = whole_meters tag work meter metered lent.meter_words_lem lent.metered_words_lem in
    (o.counted, o.number, o.says)

pub sv_meter_finishes : SvMeterFinishes
sv_meter_finishes tag work meter metered lent z =
    meter_finishes tag work ((whole_meters tag work meter metered lent.meter_words_lem lent.metered_words_lem).finishes z)
