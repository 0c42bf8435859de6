-- What a look through the frames comes to, and what that says of the tag. Assumes nothing.
use mathlib.Core.Path.{◌≡◌, refl, sym, ap, ◌∙◌, subst}
use Prim.Native.Nat.{ℕ, zero, suc, ◌+◌, ◌≤◌}
use native.Mathlib.Omega.{arith}
use mathlib.Core.Bool.{Bool, true, false, not}
use mathlib.Core.List.{List}
use lib.ListN.{length, length-take}
use lib.Seq.{slice}
use lib.Dec.{leb}
use borrow.Author.Tests.{ne_eqb, leb-true, not-true}
use Rattle.laws.proofs.Bools.{and_true}
use Rattle.format.specs.Bytes.{has}
use Rattle.format.specs.Header.{edition_of, flags_of, size_of, version_of, is_whole, is_extended, ext_of, header_refusal, region_start, region_end, region_of}
use Rattle.format.specs.Frame.{head_of}
use Rattle.format.specs.Looks.{both, plain_if, all_zero, on_look, look_at, is_simple, tag_look, Look}
use Rattle.format.specs.declared.Version.{Version}
use Rattle.format.proofs.Looking.{look_head, both_plain, if_plain}
use Rattle.walk.proofs.Looks.{both_stop}
use Rattle.blocks.specs.Blocks.{region_in}
use Rattle.blocks.proofs.Headers.{same_region}
use Rattle.raise.specs.Raise.{tag_version}
use Rattle.raise.specs.Frames.{framed_of, looked_as, ended_as, framed_with}
use Rattle.std.specs.Prelude.{Result, Ok, Err, None}
use Rattle.format.specs.declared.refusals.Refusal.{Refusal}
use Rattle.format.specs.Refusals.{refusal}
use Rattle.raise.specs.declared.frames.Framed.{Framed}

-- ---- where the look ends

-- what was seen so far and the look at the rest say the same as the look at all
module _ {A : Type 0} (v : Version) (s : List ℕ) (oddly : Bool) (rest : List ℕ) (odd : Bool)
    (same : both (plain_if (not odd)) (look_at v 1 rest) ≡ both (plain_if (not oddly)) (look_at v 1 s)) (answer : Result A Refusal) where
  -- it stops
  pub look_stops : {k : Refusal} → look_at v 1 rest ≡ Err k → Err k ≡ looked_as (both (plain_if (not oddly)) (look_at v 1 s)) answer
  look_stops {k} e =
      let stops : both (plain_if (not oddly)) (look_at v 1 s) ≡ Err k = sym same ∙ ap (both (plain_if (not odd))) e ∙ both_stop (not odd) k in
      rw stops

  -- no frame is left
  module _ (ends : head_of v 1 rest ≡ Ok None) (x : Result A Refusal) (is : odd ≡ false → x ≡ answer) where
    zeros_look : look_at v 1 rest ≡ plain_if (all_zero rest)
    unfolding on_look
    zeros_look = look_head v 1 rest (Ok None) ends

    pub look_ends : ended_as odd (all_zero rest) x ≡ looked_as (both (plain_if (not oddly)) (look_at v 1 s)) answer
    look_ends = by odd (all_zero rest) (sym same ∙ ap (both (plain_if (not odd))) zeros_look) is
      where
        by : (o z : Bool) → both (plain_if (not oddly)) (look_at v 1 s) ≡ both (plain_if (not o)) (plain_if z) → (o ≡ false → x ≡ answer)
            → ended_as o z x ≡ looked_as (both (plain_if (not oddly)) (look_at v 1 s)) answer
        by true true e h = rw e
        by true false e h = rw e
        by false true e h = rw e (h refl)
        by false false e h = rw e

-- ---- of the tag

-- how the frames of a tag are told
pub data FramedAs (tag : List ℕ) : Result Framed Refusal → Type 0 where
  header : {k : ℕ} → header_refusal tag ≡ suc k → FramedAs tag (Err (refusal (suc k)))
  whole : header_refusal tag ≡ 0 → is_whole tag ≡ true → FramedAs tag (Err (refusal 40))
  frames : header_refusal tag ≡ 0 → is_whole tag ≡ false
      → FramedAs tag (Ok (framed_with (version_of (edition_of tag)) (region_start tag) (region_end tag) (not (is_simple tag))))

pub framed_as : (tag : List ℕ) {x : Result Framed Refusal} → x ≡ framed_of tag → FramedAs tag x
unfolding framed_of
framed_as tag e = subst (FramedAs tag) (sym e) (by (header_refusal tag) refl (is_whole tag) refl)
  where
    by : (k : ℕ) → header_refusal tag ≡ k → (w : Bool) → is_whole tag ≡ w → FramedAs tag (framed_of tag)
    by zero h true w = rw (h, w) (FramedAs.whole h w)
    by zero h false w = rw (h, w) (FramedAs.frames h w)
    by (suc k) h w i = rw (h, ne_eqb (suc k) 0 (λ z. omega (arith, z))) (FramedAs.header h)

other_order : (x : Look) (t : Bool) → both (plain_if (not (not t))) x ≡ both x (plain_if t)
other_order (Err k) true = refl
other_order (Err k) false = refl
other_order (Ok false) true = refl
other_order (Ok false) false = refl
other_order (Ok true) true = refl
other_order (Ok true) false = refl

-- where all is plain the frames begin behind the header, and are as many bytes as it says
plain_place : (tag : List ℕ) → is_simple tag ≡ true → (region_start tag ≡ 10) × ((region_end tag ≡ 10 + size_of tag) × (region_of tag ≡ region_in tag))
unfolding ext_of
plain_place tag simple =
    let p = and_true (leb (10 + size_of tag) (length tag)) _ simple in
    let q = and_true (not (is_extended tag)) (not (has 0x80 (flags_of tag))) p.1 in
    let there : 10 + size_of tag ≤ length tag = leb-true (10 + size_of tag) (length tag) p.0 in
    let off : is_extended tag ≡ false = not-true (is_extended tag) q.0 in
    let ext : ext_of tag ≡ 0 = rw off in
    let ends : region_end tag ≡ 10 + size_of tag = omega (arith, there, length-take (10 + size_of tag) tag) in
    (omega (arith, ext, ends), (ends, same_region tag tag refl (omega arith) off))

module _ {A : Type 0} (tag : List ℕ) where
  pub framed_refused : {k : Refusal} (answer : Result A Refusal) → FramedAs tag (Err k) → Err k ≡ looked_as (tag_look tag) answer
  unfolding tag_look
  framed_refused answer (FramedAs.header h) = rw h
  framed_refused answer (FramedAs.whole h w) = rw (h, w)

  same_looked : (x : Look) (a b : Result A Refusal) → (x ≡ Ok true → a ≡ b) → looked_as x a ≡ looked_as x b
  same_looked (Err k) a b f = refl
  same_looked (Ok false) a b f = refl
  same_looked (Ok true) a b f = f refl

  -- what is answered of the frames, by their version, places and bytes, is answered of the tag
  pub framed_looked : (answer : Version → ℕ → ℕ → List ℕ → Result A Refusal) {f : Framed} → FramedAs tag (Ok f)
      → looked_as (both (plain_if (not f.odd)) (look_at f.version 1 (slice f.begin f.end tag))) (answer f.version f.begin f.end (slice f.begin f.end tag))
      ≡ looked_as (tag_look tag) (answer (tag_version tag) 10 (10 + size_of tag) (region_in tag))
  unfolding tag_look
  framed_looked answer (FramedAs.frames h w) =
      let v = version_of (edition_of tag) in
      let look : Look = both (look_at v 1 (region_of tag)) (plain_if (is_simple tag)) in
      let there : look ≡ Ok true
      → answer v (region_start tag) (region_end tag) (region_of tag) ≡ answer v 10 (10 + size_of tag) (region_in tag) =
      λ z. let p = plain_place tag (if_plain (is_simple tag) (both_plain (look_at v 1 (region_of tag)) (plain_if (is_simple tag)) z).1) in
      ap (λ (n : ℕ). answer v n (region_end tag) (region_of tag)) p.0
      ∙ ap (λ (n : ℕ). answer v 10 n (region_of tag)) p.1.0
      ∙ ap (answer v 10 (10 + size_of tag)) p.1.1 in
      rw (h, w, other_order (look_at v 1 (region_of tag)) (is_simple tag)) (same_looked look _ _ there)

pub framed_fits : {tag : List ℕ} {f : Framed} → FramedAs tag (Ok f) → f.end ≤ length tag
framed_fits {tag} (FramedAs.frames h w) = omega (arith, length-take (10 + size_of tag) tag)
