-- Laws of finishing a tag: its length, its parts put one by one, and its refusals. Assumes nothing.
use mathlib.Core.Path.{◌≡◌, refl, sym, ap, ◌∙◌}
use Prim.Native.Nat.{ℕ, suc, ◌+◌, ◌-◌, ◌*◌, ◌/◌, ◌^◌, ◌≤◌, ◌<◌}
use native.Mathlib.Omega.{arith}
use mathlib.Core.Bool.{Bool, true, false}
use mathlib.Core.List.{List, [], ◌∷◌, ◌++◌}
use lib.ListN.{length, set, take, drop, length-append, length-take, length-replicate, take-append-drop}
use lib.Seq.{slice, sets, length-sets, length-take-le, set_comm, take-set-lt, drop-set-lt}
use lib.Dec.{ltb, leb}
use borrow.Author.Tests.{le-leb, lt-leb, leb-true, leb-false, lt-ltb, le-ltb, ltb-true, ltb-false}
use Rattle.laws.proofs.Stores.{sets_append}
use Rattle.format.specs.Bytes.{pick, zeros, ascii}
use Rattle.format.specs.Numbers.{digits, bytes_of, synchsafe}
use Rattle.format.specs.Unsynch.{unsync, unsynchronised}
use Rattle.format.specs.Numbered.{version_number}
use Rattle.format.specs.Encode.{whole_of, edition_byte, flags_byte, region_bytes, tag_of}
use Rattle.format.specs.declared.Version.{Version}
use Rattle.format.specs.declared.Version.TheVariants.{Id3v22, Id3v23, Id3v24}
use Rattle.format.specs.declared.Mode.{Mode}
use Rattle.format.specs.declared.Mode.TheVariants.{Off, Crate, Standard}
use Rattle.format.proofs.Unsynch.{unsync_off, unsync_length}
use Rattle.unsynch.specs.Puts.{Out, placed_of}
use Rattle.writer.specs.Writer.{Finishing, finish_of}
use Rattle.writer.specs.Finishes.{whole_mode, header_bytes, frames_put}
use Rattle.writer.specs.declared.Writer.{Writer}
use Rattle.std.specs.Prelude.{Result, Ok, Err}
use Rattle.format.specs.declared.refusals.Refusal.{Refusal}
use Rattle.laws.proofs.Results.{ok_same, ok_not_err, err_not_ok}
use Rattle.format.specs.Refusals.{refusal}

-- ---- the region

whole_by_lem : (v : Version) (m : Mode) (frames : List ℕ) → unsynchronised (whole_mode v m) frames ≡ whole_of v m frames
whole_by_lem Id3v22 m frames = refl
whole_by_lem Id3v23 m frames = refl
whole_by_lem Id3v24 m frames = unsync_off false frames

-- by the mode that was found
pub whole_is : (v : Version) (m : Mode) {mode : Mode} → mode ≡ whole_mode v m → (frames : List ℕ) → unsynchronised mode frames ≡ whole_of v m frames
whole_is v m e frames = rw e (whole_by_lem v m frames)

region_length : (v : Version) (m : Mode) (padding : ℕ) (frames : List ℕ)
    → length (region_bytes v m padding frames) ≡ length (whole_of v m frames) + padding
region_length v m padding frames =
    length-append (whole_of v m frames) (zeros padding) ∙ ap (λ (k : ℕ). length (whole_of v m frames) + k) (length-replicate padding 0)

twice : (m : Mode) (s : List ℕ) → length (unsynchronised m s) ≤ 2 * length s - 1
unfolding unsync
twice m [] = omega arith
twice m (x ∷ s) = omega (arith, unsync_length m (x ∷ s) (omega arith))

-- whether it is too long: by the padding and twice the frames, or by a count
module _ (v : Version) (m : Mode) (padding used : ℕ) (buffer : List ℕ) where
  abbrev frames : List ℕ
  frames = take used buffer

  abbrev size : ℕ
  size = length (region_bytes v m padding frames)

  pub short_frames : padding < 2 ^ 28 → used ≤ (2 ^ 28 - padding) / 2 → false ≡ leb (2 ^ 28) size
  short_frames h g =
      let u : length (whole_of v m frames) ≤ 2 * length frames - 1 = rw (← whole_by_lem v m frames) (twice (whole_mode v m) frames) in
      sym (lt-leb (2 ^ 28) size (omega (arith, region_length v m padding frames, u, length-take used buffer)))

  pub by_count : padding < 2 ^ 28 → {mode : Mode} → mode ≡ whole_mode v m → {n : ℕ} → n ≡ length (unsynchronised mode (slice 0 used buffer))
      → leb (2 ^ 28 - padding) n ≡ leb (2 ^ 28) size
  by_count h {mode} em {n} en = on_length (leb (2 ^ 28) size) refl
    where
      is : size ≡ n + padding
      is =
          let u : n ≡ length (whole_of v m frames) = en ∙ ap length (whole_is v m em frames) in
          omega (arith, region_length v m padding frames)

      on_length : (t : Bool) → leb (2 ^ 28) size ≡ t → leb (2 ^ 28 - padding) n ≡ t
      on_length true e = le-leb (2 ^ 28 - padding) n (omega (arith, is, leb-true (2 ^ 28) size e))
      on_length false e = lt-leb (2 ^ 28 - padding) n (omega (arith, is, leb-false (2 ^ 28) size e))

-- ---- the frames, in what the padding leaves of the output

-- stores into the front of a list
sets_front : (r : ℕ) (o : List ℕ) (p : ℕ) (l : List ℕ) → p + length l ≤ r → sets (take r o) p l ++ drop r o ≡ sets o p l
sets_front r o p [] h = take-append-drop r o
sets_front r o p (x ∷ l) h =
    let lt : p < r = omega arith in
    ap (λ (s : List ℕ). sets s (suc p) l ++ drop r o) (sym (take-set-lt r o p x lt))
    ∙ ap (λ (s : List ℕ). sets (take r (set o p x)) (suc p) l ++ s) (sym (drop-set-lt r o p x lt))
    ∙ sets_front r (set o p x) (suc p) l (omega arith)

module _ (u o : List ℕ) (padding : ℕ) where
  pub in_front : {room : ℕ} → padding ≤ length o → room ≡ length o - padding → {r : Result ℕ Refusal} {p : List ℕ} → ◌≡◌ {A = Out} (r, p) (placed_of u 10 (take room o))
      → ◌≡◌ {A = Out} (r, p ++ drop room o) (frames_put u padding o)
  in_front {room} le is {r} {p} e =
      ap {B = Out} (λ (z : Out). (z.0, z.1 ++ drop room o)) e ∙ on_room (ltb (length o) (10 + (length u + padding))) refl
    where
      long : length (take room o) ≡ room
      long = length-take-le room o (omega arith)

      on_room : (t : Bool) → ltb (length o) (10 + (length u + padding)) ≡ t
          → ◌≡◌ {A = Out} ((placed_of u 10 (take room o)).0, (placed_of u 10 (take room o)).1 ++ drop room o)
          (pick t (Err (refusal 20), o) (Ok (length u), sets o 10 u))
      on_room true f = rw (lt-ltb (length (take room o)) (10 + length u) (omega (arith, long, ltb-true (length o) (10 + (length u + padding)) f)), take-append-drop)
      on_room false f =
          let g : 10 + length u ≤ room = omega (arith, ltb-false (length o) (10 + (length u + padding)) f) in
          rw (le-ltb (length (take room o)) (10 + length u) (omega (arith, long)), sets_front room o 10 u g)

-- ---- the header

letters_are : bytes_of 3 0x494433 ≡ ascii "ID3"
unfolding digits
letters_are = refl

edition_is : (v : Version) → bytes_of 1 (version_number v) ≡ edition_byte v ∷ []
unfolding digits
edition_is Id3v22 = refl
edition_is Id3v23 = refl
edition_is Id3v24 = refl

flags_is : (m : Mode) → bytes_of 2 (flags_byte m) ≡ 0 ∷ flags_byte m ∷ []
unfolding digits
flags_is Off = refl
flags_is Crate = refl
flags_is Standard = refl

pub header_is : (v : Version) (m : Mode) (size : ℕ)
    → bytes_of 3 0x494433 ++ (bytes_of 1 (version_number v) ++ (bytes_of 2 (flags_byte m) ++ synchsafe size)) ≡ header_bytes v m size
header_is v m size = rw (letters_are, edition_is v, flags_is m)

-- ---- the tag

-- a byte stored before a list, and a list before another: the order does not matter
set_sets : (o : List ℕ) (q : ℕ) (l : List ℕ) (p x : ℕ) → p < q → set (sets o q l) p x ≡ sets (set o p x) q l
set_sets o q [] p x h = refl
set_sets o q (y ∷ l) p x h =
    set_sets (set o q y) (suc q) l p x (omega arith) ∙ ap (λ (s : List ℕ). sets s (suc q) l) (set_comm o q p y x (λ e. omega arith))

sets_before : (o : List ℕ) (p : ℕ) (h l : List ℕ) → sets (sets o (p + length h) l) p h ≡ sets o p (h ++ l)
sets_before o p [] l = let e : p + 0 ≡ p = omega arith in ap (λ (k : ℕ). sets o k l) e
sets_before o p (x ∷ h) l =
    let e : p + suc (length h) ≡ suc p + length h = omega arith in
    ap (λ (s : List ℕ). sets s (suc p) h) (set_sets o (p + suc (length h)) l p x (omega arith))
    ∙ ap (λ (k : ℕ). sets (sets (set o p x) k l) (suc p) h) e
    ∙ sets_before (set o p x) (suc p) h l

header_length : (v : Version) (m : Mode) (size : ℕ) → length (header_bytes v m size) ≡ 10
unfolding digits
header_length v m _ = refl

tag_is : (v : Version) (m : Mode) (padding : ℕ) (frames : List ℕ)
    → tag_of v m padding frames ≡ header_bytes v m (length (whole_of v m frames) + padding) ++ (whole_of v m frames ++ zeros padding)
unfolding tag_of digits
tag_is v m padding frames = rw (region_length v m padding frames)

tag_length : (v : Version) (m : Mode) (padding : ℕ) (frames : List ℕ) → length (tag_of v m padding frames) ≡ 10 + (length (whole_of v m frames) + padding)
tag_length v m padding frames =
    let u = whole_of v m frames in
    ap length (tag_is v m padding frames)
    ∙ length-append (header_bytes v m (length u + padding)) (u ++ zeros padding)
    ∙ omega (arith, header_length v m (length u + padding), region_length v m padding frames)

-- the frames are put, or refused for want of room
module _ (v : Version) (m : Mode) (padding : ℕ) (frames o : List ℕ) {r : Result ℕ Refusal} {o₁ : List ℕ} (e : ◌≡◌ {A = Out} (r, o₁) (frames_put (whole_of v m frames) padding o)) where
  abbrev u : List ℕ
  u = whole_of v m frames

  abbrev tag : List ℕ
  tag = tag_of v m padding frames

  -- the same test decides
  placed : placed_of tag 0 o ≡ pick (ltb (length o) (10 + (length u + padding))) (Err (refusal 20), o) (Ok (10 + (length u + padding)), sets o 0 tag)
  placed =
      let n : 0 + length tag ≡ 10 + (length u + padding) = omega (arith, tag_length v m padding frames) in
      rw (n, tag_length v m padding frames)

  pub tag_refused : {k : Refusal} → r ≡ Err k → ◌≡◌ {A = Out} (Err k, o₁) (placed_of tag 0 o)
  tag_refused {k} er = on_room (ltb (length o) (10 + (length u + padding))) e ∙ sym placed
    where
      on_room : (t : Bool) → ◌≡◌ {A = Out} (r, o₁) (pick t (Err (refusal 20), o) (Ok (length u), sets o 10 u))
          → ◌≡◌ {A = Out} (Err k, o₁) (pick t (Err (refusal 20), o) (Ok (10 + (length u + padding)), sets o 0 tag))
      on_room true f = ap {B = Out} (λ (q : Result ℕ Refusal). (q, o₁)) (sym er) ∙ f
      on_room false f = err_not_ok (sym er ∙ ap (λ (z : Out). z.0) f)

  -- they are put: how many bytes they are, what the output holds, and that there is room for all
  pub record Frames (n : ℕ) : Type 0 where
    pub many : n ≡ length u
    pub holds : o₁ ≡ sets o 10 u
    pub long : length o₁ ≡ length o
    pub room : 10 + (length u + padding) ≤ length o

  pub tag_frames : {n : ℕ} → r ≡ Ok n → Frames n
  tag_frames {n} er = on_room (ltb (length o) (10 + (length u + padding))) refl e
    where
      on_room : (t : Bool) → ltb (length o) (10 + (length u + padding)) ≡ t → ◌≡◌ {A = Out} (r, o₁) (pick t (Err (refusal 20), o) (Ok (length u), sets o 10 u)) → Frames n
      on_room true et f = ok_not_err (sym er ∙ ap (λ (z : Out). z.0) f)
      on_room false et f =
          let h : o₁ ≡ sets o 10 u = ap (λ (z : Out). z.1) f in
          record { many = ok_same (sym er ∙ ap (λ (z : Out). z.0) f); holds = h; long = ap length h ∙ length-sets o 10 u; room = ltb-false (length o) (10 + (length u + padding)) et }

  pub tag_put : {n : ℕ} → Frames n → {o₂ o₃ : List ℕ} → o₂ ≡ sets o₁ (10 + n) (zeros padding) → o₃ ≡ sets o₂ 0 (header_bytes v m (n + padding))
      → ◌≡◌ {A = Out} (Ok (10 + (n + padding)), o₃) (placed_of tag 0 o)
  tag_put {n} f {o₂} {o₃} e₂ e₃ =
      let h = header_bytes v m (length u + padding) in
      let j : 10 ≡ 0 + length h = omega (arith, header_length v m (length u + padding)) in
      let all : sets (sets o 10 (u ++ zeros padding)) 0 h ≡ sets o 0 tag =
      ap (λ (k : ℕ). sets (sets o k (u ++ zeros padding)) 0 h) j ∙ sets_before o 0 h (u ++ zeros padding) ∙ ap (sets o 0) (sym (tag_is v m padding frames)) in
      let last : o₃ ≡ sets o 0 tag = e₃ ∙ rw (e₂, f.holds, f.many, ← sets_append o 10 u (zeros padding)) all in
      rw (placed, le-ltb (length o) (10 + (length u + padding)) f.room, last, f.many)

-- ---- finishing

module _ (w : Writer) (padding : ℕ) (buffer output : List ℕ) where
  abbrev there : List ℕ
  there = take w.used buffer

  abbrev whole_tag : List ℕ
  whole_tag = tag_of w.version w.mode padding there

  pub finish_long : leb (2 ^ 28) (length (region_bytes w.version w.mode padding there)) ≡ true
      → ◌≡◌ {A = Finishing} ((Err (refusal 24), w), output) (finish_of w padding buffer output)
  unfolding finish_of
  finish_long e = rw e

  module _ (short : leb (2 ^ 28) (length (region_bytes w.version w.mode padding there)) ≡ false) where
    pub finish_missing : length buffer < w.used → ◌≡◌ {A = Finishing} ((Err (refusal 20), w), output) (finish_of w padding buffer output)
    unfolding finish_of
    finish_missing h = rw (short, lt-ltb (length buffer) w.used h)

    -- the tag is put, or refused for want of room
    pub finish_put : w.used ≤ length buffer → {r : Result ℕ Refusal} {left : List ℕ} → ◌≡◌ {A = Out} (r, left) (placed_of whole_tag 0 output)
        → ◌≡◌ {A = Finishing} ((r, w), left) (finish_of w padding buffer output)
    unfolding finish_of
    finish_put all e =
        let n : 0 + length whole_tag ≡ length whole_tag = omega arith in
        ap {B = Finishing} (λ (o : Out). ((o.0, w), o.1)) e
        ∙ rw (short, le-ltb (length buffer) w.used all, n) (on_room (ltb (length output) (length whole_tag)))
      where
        on_room : (t : Bool)
            → ◌≡◌ {A = Finishing}
            (let o : Out = pick t (Err (refusal 20), output) (Ok (length whole_tag), sets output 0 whole_tag) in ((o.0, w), o.1))
            (pick t ((Err (refusal 20), w), output) ((Ok (length whole_tag), w), sets output 0 whole_tag))
        on_room true = refl
        on_room false = refl
