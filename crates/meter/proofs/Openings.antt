-- What opening a tag with a plain header answers. Assumes nothing.
use Rattle.std.proofs.Common.{◌≡◌, ℕ, ◌+◌, ◌*◌, ◌/◌, ◌%◌, ◌<◌, ◌≤◌, min, Bool, true, false, Result, Ok, Err, Some, None, eqb, List, length, take, sym, refl, ap, ◌∙◌, arith, length-take, eqb-true, le-leb}
use mathlib.Core.Bool.{and-false}
use lib.Seq.{slice}
use Rattle.laws.proofs.Results.{some_same, none_not_some}
use Rattle.format.specs.Bytes.{pick}
use Rattle.format.specs.Numbers.{number}
use Rattle.format.specs.Header.{edition_of, flags_of, size_of, version_of, is_whole, cut_of, is_extended, ext_of, header_refusal}
use Rattle.format.specs.Numbered.{is_version}
use Rattle.format.specs.declared.refusals.Refusal.{Refusal}
use Rattle.format.specs.declared.Version.{Version}
use Rattle.format.specs.declared.Version.TheVariants.{Id3v22, Id3v23, Id3v24}
use Rattle.format.proofs.Numbers.{Digits}
use Rattle.loads.proofs.Words.{number_four, first_three}
use Rattle.reader.specs.Reader.{reader_at, open_of}
use Rattle.reader.specs.Headers.{is_tag}
use Rattle.reader.specs.declared.Reader.{Reader}
use Rattle.reader.proofs.Refusals.{no_extended}
use Rattle.meter.specs.Meter.{is_missing, meter_at, opened_as, meter_open_of}
use Rattle.meter.specs.Openings.{front_if, front_of}
use Rattle.meter.specs.declared.Meter.{Meter}

-- ---- a header whose flags do not count

record Plain (tag : List ℕ) (v : Version) : Type 0 where
  edition : version_of (edition_of tag) ≡ v
  known : is_version (edition_of tag) ≡ true
  clear : flags_of tag % 16 ≡ 0
  short : is_extended tag ≡ false
  apart : is_whole tag ≡ false

none_plain : (tag : List ℕ) (e : ℕ) (v : Version) → edition_of tag ≡ e → version_of e ≡ v → is_version e ≡ true → flags_of tag ≡ 0 → Plain tag v
none_plain tag e v is is-v is_Known f =
    record { edition = rw is is-v; known = rw is is_Known; clear = rw f; short = rw f; apart = rw f }

rest_clear : (f : ℕ) → f % 128 ≡ 0 → (f % 16 ≡ 0) × (f / 64 % 2 ≡ 0)
rest_clear f h = (omega arith, omega arith)

four_plain : (tag : List ℕ) → edition_of tag ≡ 4 → flags_of tag % 128 ≡ 0 → Plain tag Id3v24
four_plain tag is f =
    let c = rest_clear (flags_of tag) f in
    record { edition = rw is; known = rw is; clear = rw c.0; short = rw c.1; apart = rw (is, and-false) }

module _ (tag : List ℕ) (bytes : Digits 256 tag) (long : 10 ≤ length tag) where
  -- the first four bytes by the edition's
  edition_of_lem : (e : ℕ) → e < 256 → number (slice 0 4 tag) ≡ 0x49_4433 * 256 + e → edition_of tag ≡ e
  edition_of_lem e h is = omega (arith, number_four 0 tag (omega arith), bytes 3)

  begins : (e : ℕ) → e < 256 → number (slice 0 4 tag) ≡ 0x49_4433 * 256 + e → is_tag tag ≡ true
  begins e h is =
      let three : number (take 3 tag) ≡ 0x49_4433 = sym (first_three 0 tag (omega arith) bytes) ∙ omega arith in
      rw (le-leb 10 (length tag) long, three)

  module _ (v : Version) (is_tag_lem : is_tag tag ≡ true) (p : Plain tag v) where
    accepted : header_refusal tag ≡ 0
    accepted =
        sym (no_extended (record { is = is_tag_lem; known = p.known; clear = p.clear }) p.short)

    opens_plain : (work : List ℕ) → open_of tag work ≡ (Ok (reader_at v false 10 (min (10 + size_of tag) (length tag))), work)
    unfolding open_of ext_of
    opens_plain work =
        let end : length (cut_of tag) ≡ min (10 + size_of tag) (length tag) = length-take (10 + size_of tag) tag in
        let start : min 10 (length (cut_of tag)) ≡ 10 = omega (arith, end) in
        rw (accepted, p.apart, p.short, p.edition, start, end)

    meter_plain : (work : List ℕ)
        → ◌≡◌ {A = Result Meter Refusal × List ℕ} (Ok (meter_at (is_missing tag) (reader_at v false 10 (min (10 + size_of tag) (length tag)))), work) (meter_open_of tag work)
    unfolding meter_open_of
    meter_plain work = rw (opens_plain work)

  module _ (front flags : ℕ) (is_front : front ≡ number (slice 0 4 tag)) (is-flags : flags ≡ flags_of tag) where
    abbrev Begins : Version → Type 0
    Begins v = (is_tag tag ≡ true) × Plain tag v

    begins_with : (e : ℕ) (v : Version) → e < 256 → front ≡ 0x49_4433 * 256 + e → version_of e ≡ v → is_version e ≡ true → flags ≡ 0 → Begins v
    begins_with e v h is is-v is_Known f =
        let first = sym is_front ∙ is in
        (begins e h first, none_plain tag e v (edition_of_lem e h first) is-v is_Known (sym is-flags ∙ f))

    plain_if_lem : (clear : Bool) (v u : Version) → front_if clear v ≡ Some u → (clear ≡ true) × (v ≡ u)
    plain_if_lem true v u h = (refl, some_same h)
    plain_if_lem false v u h = none_not_some h

    plain_front : (u : Version) (two : Bool) → eqb front 0x4944_3302 ≡ two → (three : Bool) → eqb front 0x4944_3303 ≡ three → (four : Bool) → eqb front 0x4944_3304 ≡ four
        → pick two (front_if (eqb flags 0) Id3v22) (pick three (front_if (eqb flags 0) Id3v23) (pick four (front_if (eqb (flags % 0x80) 0) Id3v24) None)) ≡ Some u → Begins u
    plain_front u true e2 three e3 four e4 h =
        let p = plain_if_lem (eqb flags 0) Id3v22 u h in
        rw (← p.1) (begins_with 2 Id3v22 (omega arith) (eqb-true front 0x4944_3302 e2) refl refl (eqb-true flags 0 p.0))
    plain_front u false e2 true e3 four e4 h =
        let p = plain_if_lem (eqb flags 0) Id3v23 u h in
        rw (← p.1) (begins_with 3 Id3v23 (omega arith) (eqb-true front 0x4944_3303 e3) refl refl (eqb-true flags 0 p.0))
    plain_front u false e2 false e3 true e4 h =
        let p = plain_if_lem (eqb (flags % 0x80) 0) Id3v24 u h in
        let first = sym is_front ∙ eqb-true front 0x4944_3304 e4 in
        rw (← p.1)
        (begins 4 (omega arith) first, four_plain tag (edition_of_lem 4 (omega arith) first) (ap (λ (f : ℕ). f % 128) (sym is-flags) ∙ eqb-true (flags % 0x80) 0 p.0))
    plain_front u false e2 false e3 false e4 h = none_not_some h

    pub opens : (v : Version) → front_of front flags ≡ Some v → (work : List ℕ)
        → ◌≡◌ {A = Result Meter Refusal × List ℕ} (Ok (meter_at (is_missing tag) (reader_at v false 10 (min (10 + size_of tag) (length tag)))), work) (meter_open_of tag work)
    opens v h work =
        let p = plain_front v (eqb front 0x4944_3302) refl (eqb front 0x4944_3303) refl (eqb front 0x4944_3304) refl h in
        meter_plain v p.0 p.1 work

-- ---- any header

module _ (tag work left : List ℕ) where
  pub opens_any : (reader : Reader) (m : Meter) → m ≡ meter_at (is_missing tag) reader → ◌≡◌ {A = Result Reader Refusal × List ℕ} (Ok reader, left) (open_of tag work)
      → ◌≡◌ {A = Result Meter Refusal × List ℕ} (Ok m, left) (meter_open_of tag work)
  unfolding meter_open_of
  opens_any reader m is e = rw is (ap {B = Result Meter Refusal × List ℕ} (λ (o : Result Reader Refusal × List ℕ). (opened_as (is_missing tag) o.0, o.1)) e)

  pub opens_refused : (k : Refusal) → ◌≡◌ {A = Result Reader Refusal × List ℕ} (Err k, left) (open_of tag work)
      → ◌≡◌ {A = Result Meter Refusal × List ℕ} (Err k, left) (meter_open_of tag work)
  unfolding meter_open_of
  opens_refused k e = ap {B = Result Meter Refusal × List ℕ} (λ (o : Result Reader Refusal × List ℕ). (opened_as (is_missing tag) o.0, o.1)) e
