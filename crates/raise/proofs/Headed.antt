-- What a header that was read says of the frames of its tag. Assumes nothing.
use mathlib.Core.Path.{◌≡◌, sym, ap, ◌∙◌}
use Prim.Native.Nat.{ℕ}
use mathlib.Core.Bool.{Bool, true, false, not}
use mathlib.Core.List.{List}
use lib.Dec.{eqb}
use Rattle.laws.proofs.Results.{err_same, ok_not_err}
use Rattle.format.specs.Header.{edition_of, flags_of, version_of, is_whole, header_refusal, region_start, region_end}
use Rattle.format.specs.Looks.{is_simple}
use Rattle.format.proofs.Checks.{not_first}
use Rattle.reader.specs.declared.Header.{Header}
use Rattle.reader.specs.Reader.{fields_of, header_of}
use Rattle.reader.specs.Headers.{is_whole_in}
use Rattle.reader.proofs.Refusals.{accepted}
use Rattle.reader.proofs.Opens.{found, whole_in_lem}
use Rattle.raise.specs.Frames.{framed_of, framed_with}
use Rattle.std.specs.Prelude.{Ok, Err}
use Rattle.format.specs.declared.refusals.Refusal.{Refusal}
use Rattle.format.specs.Refusals.{refusal}

pub header_refuses : (tag : List ℕ) {k : Refusal} → header_of tag ≡ Err k → Err k ≡ framed_of tag
unfolding header_of framed_of
header_refuses tag {k} e =
    let p = not_first (eqb (header_refusal tag) 0) (Ok (fields_of tag)) (Err (refusal (header_refusal tag))) (Err k) e (λ d. ok_not_err d) in
    rw (p.0, sym (err_same p.1))

module _ (tag : List ℕ) (h : Header) (e : header_of tag ≡ Ok h) where
  none : header_refusal tag ≡ 0
  none = (found tag h e).0

  whole_is : is_whole_in h.version h.flags ≡ is_whole tag
  whole_is =
      let a = accepted tag none in
      ap (λ (x : Header). is_whole_in x.version x.flags) (found tag h e).1 ∙ whole_in_lem (edition_of tag) (flags_of tag) a.least a.most

  pub whole_refused : is_whole_in h.version h.flags ≡ true → Err (refusal 40) ≡ framed_of tag
  unfolding framed_of
  whole_refused on = let w : is_whole tag ≡ true = sym whole_is ∙ on in rw (none, w)

  pub frames_told : {begin end : ℕ} {simple : Bool} → is_whole_in h.version h.flags ≡ false → begin ≡ region_start tag → end ≡ region_end tag → simple ≡ is_simple tag
      → Ok (framed_with h.version begin end (not simple)) ≡ framed_of tag
  unfolding framed_of
  frames_told off begins ends simply =
      let w : is_whole tag ≡ false = sym whole_is ∙ off in
      let v : h.version ≡ version_of (edition_of tag) = ap (λ (x : Header). x.version) (found tag h e).1 in
      rw (none, w, v, begins, ends, simply)
