-- What a header that was found says of the tag, and what opening the tag then answers. Assumes nothing.
use mathlib.Core.Path.{◌≡◌, refl, sym, ap, ◌∙◌}
use Prim.Native.Nat.{ℕ, ◌+◌, ◌≤◌, min}
use native.Mathlib.Omega.{arith}
use mathlib.Core.Bool.{Bool, true, false, not, ◌&&◌, and-true, and-false}
use mathlib.Core.List.{List}
use lib.ListN.{length}
use lib.Seq.{slice}
use lib.Dec.{ltb, eqb}
use borrow.Author.Tests.{eqb-true, eqb-false}
use Rattle.laws.proofs.Results.{ok_same, err_same, ok_not_err, err_not_ok}
use Rattle.format.specs.Bytes.{pick, has, put_front}
use Rattle.format.specs.Unsynch.{resynchronised}
use Rattle.format.specs.Header.{edition_of, flags_of, version_of, is_whole, ext_of, header_refusal, region_start, region_end}
use Rattle.format.specs.declared.Version.{Version}
use Rattle.format.proofs.Checks.{not_first, not_second}
use Rattle.unsynch.specs.Puts.{Out, into_of}
use Rattle.reader.specs.declared.Header.{Header}
use Rattle.reader.specs.declared.Reader.{Reader}
use Rattle.reader.specs.Reader.{fields_of, header_of, reader_at, open_whole, open_of}
use Rattle.reader.specs.Headers.{is_whole_in}
use Rattle.reader.proofs.Refusals.{cut_end, accepted}
use Rattle.std.specs.Prelude.{Result, Ok, Err}
use Rattle.format.specs.declared.refusals.Refusal.{Refusal}
use Rattle.format.specs.Refusals.{refusal}

abbrev Answer : Type 0
Answer = Result Reader Refusal × List ℕ

-- ---- the header

pub found : (tag : List ℕ) (h : Header) → header_of tag ≡ Ok h → (header_refusal tag ≡ 0) × (h ≡ fields_of tag)
unfolding header_of
found tag h e =
    let p = not_second (eqb (header_refusal tag) 0) (Ok (fields_of tag)) (Err (refusal (header_refusal tag))) (Ok h) e (λ d. err_not_ok d) in
    (eqb-true (header_refusal tag) 0 p.0, sym (ok_same p.1))

pub open_refused : (tag work : List ℕ) (k : Refusal) → header_of tag ≡ Err k → ◌≡◌ {A = Answer} (Err k, work) (open_of tag work)
unfolding header_of open_of
open_refused tag work k e =
    let p = not_first (eqb (header_refusal tag) 0) (Ok (fields_of tag)) (Err (refusal (header_refusal tag))) (Err k) e (λ d. ok_not_err d) in
    rw (p.0, ← err_same p.1)

-- where the frames lie
module _ (tag : List ℕ) (h : Header) (e : header_of tag ≡ Ok h) (end : ℕ) (ends : end ≡ min (10 + h.size) (length tag)) where
  pub region_end_lem : end ≡ region_end tag
  region_end_lem = cut_end tag (ap (λ (x : Header). x.size) (found tag h e).1) ends

  pub region_start_lem : (start : ℕ) → start ≡ min (10 + h.ext) end → start ≡ region_start tag
  region_start_lem start is =
      let ext : h.ext ≡ ext_of tag = ap (λ (x : Header). x.ext) (found tag h e).1 in
      rw (is, ext, region_end_lem)

-- a known edition as a version says the same of whole tags
pub whole_in_lem : (e f : ℕ) → 2 ≤ e → e ≤ 4 → is_whole_in (version_of e) f ≡ (has 0x80 f && not (eqb e 4))
whole_in_lem e f lo hi = by_edition (eqb e 2) refl (eqb e 3) refl
  where
    by_edition : (two : Bool) → eqb e 2 ≡ two → (three : Bool) → eqb e 3 ≡ three → is_whole_in (version_of e) f ≡ (has 0x80 f && not (eqb e 4))
    by_edition true t three h = rw (eqb-true e 2 t, and-true)
    by_edition false t true h = rw (eqb-true e 3 h, and-true)
    by_edition false t false h =
        let four : e ≡ 4 = omega (arith, eqb-false e 2 t, eqb-false e 3 h) in
        rw (four, and-false)

-- ---- opening

-- what was put, as an answer
abbrev as_opened : Version → Result ℕ Refusal → Result Reader Refusal
as_opened v (Ok n) = Ok (reader_at v true 0 n)
as_opened v (Err k) = Err k

-- what is made of bytes that were put, by whether they had the room
put_as : {A : Type 0} (f : Result ℕ Refusal → A) (u work : List ℕ)
    → ◌≡◌ {A = A × List ℕ} (f (into_of u work).0, (into_of u work).1)
    (pick (ltb (length work) (length u)) (f (Err (refusal 14)), work) (f (Ok (length u)), put_front u work))
put_as {A} f u work = by_room (ltb (length work) (length u))
  where
    by_room : (t : Bool)
        → ◌≡◌ {A = A × List ℕ}
        (let o : Out = pick t (Err (refusal 14), work) (Ok (length u), put_front u work) in (f o.0, o.1))
        (pick t (f (Err (refusal 14)), work) (f (Ok (length u)), put_front u work))
    by_room true = refl
    by_room false = refl

-- what is known of a tag that is to be opened: its header, where its frames lie, and whether they are resynchronised
pub record Told (tag : List ℕ) (h : Header) (start end : ℕ) (whole : Bool) : Type 0 where
  pub head : header_of tag ≡ Ok h
  pub starts : start ≡ region_start tag
  pub ends : end ≡ region_end tag
  pub says : whole ≡ is_whole_in h.version h.flags

module _ {tag : List ℕ} {h : Header} {start end : ℕ} {whole : Bool} (t : Told tag h start end whole) (work : List ℕ) where
  none : header_refusal tag ≡ 0
  none = (found tag h t.head).0

  version_is : h.version ≡ version_of (edition_of tag)
  version_is = ap (λ (x : Header). x.version) (found tag h t.head).1

  whole_is : whole ≡ is_whole tag
  whole_is =
      let a = accepted tag none in
      t.says
      ∙ ap (λ (x : Header). is_whole_in x.version x.flags) (found tag h t.head).1
      ∙ whole_in_lem (edition_of tag) (flags_of tag) a.least a.most

  -- the frames stay where they are
  pub in_tag : whole ≡ false → {r : Reader} → r ≡ reader_at h.version false start end → ◌≡◌ {A = Answer} (Ok r, work) (open_of tag work)
  unfolding open_of
  in_tag off is = rw (none, ← whole_is, off, is, version_is, t.starts, t.ends)

  -- they are put into the work buffer, if it has the room
  module _ (on : whole ≡ true) {put : Result ℕ Refusal} {left : List ℕ} (puts : ◌≡◌ {A = Out} (put, left) (into_of (resynchronised (slice start end tag)) work)) where
    opened : ◌≡◌ {A = Answer} (as_opened h.version put, left) (open_of tag work)
    unfolding open_of open_whole
    opened =
        let u : List ℕ = resynchronised (slice start end tag) in
        let there : open_of tag work ≡ open_whole h.version u work = rw (none, ← whole_is, on, version_is, t.starts, t.ends) in
        ap {B = Answer} (λ (o : Out). (as_opened h.version o.0, o.1)) puts ∙ put_as (as_opened h.version) u work ∙ sym there

    pub in_work : {n : ℕ} → put ≡ Ok n → {r : Reader} → r ≡ reader_at h.version true 0 n
        → ◌≡◌ {A = Answer} (Ok r, left) (open_of tag work)
    in_work is ready = rw ready (rw is at opened)

    pub too_small : {k : Refusal} → put ≡ Err k → ◌≡◌ {A = Answer} (Err k, left) (open_of tag work)
    too_small is = rw is at opened
