-- What a glance tells is so: laws of headers and bodies that are plain. Assumes nothing.
use Rattle.std.proofs.Common.{◌≡◌, ℕ, ◌+◌, ◌-◌, ◌*◌, ◌/◌, ◌%◌, ◌^◌, ◌<◌, ◌≤◌, min, Bool, true, false, Ok, None, ltb, List, [], ◌∷◌, length, get_or, take, sym, refl, ap, ◌∙◌, mod-eq_of_lt, arith, get_or-drop, get_or-take, le-ltb, lt-ltb, ne_eqb}
use lib.Seq.{slice}
use lib.Bits.{bit_and, and_high, and_block, or_zero_l}
use lib.Dec.{eqb-suc-zero}
use borrow.Author.Tests.{lt-leb}
use denote.Enum.Bare.{sameb}
use Rattle.format.specs.contracts.Version.{the_type}
use Rattle.laws.proofs.Bools.{false_not_true}
use Rattle.laws.proofs.Parts.{each_drop, each_take}
use Rattle.laws.proofs.Cuts.{length_cut, take_drop}
use Rattle.laws.proofs.Slices.{slice_drop, take_drop_take}
use Rattle.format.specs.Bytes.{first, pick}
use Rattle.format.specs.Numbers.{digits, number}
use Rattle.format.specs.Unsynch.{resync, resynchronised}
use Rattle.format.specs.Ids.{id_len, utf8_from, is_utf8, kind_of}
use Rattle.format.specs.Text.{text_refusal}
use Rattle.format.specs.Frame.{head, head_len, frame_size, frame_flags, is_encrypted, is_grouped, is_compressed, is_flagged, has_length, head_of}
use Rattle.format.specs.declared.Version.{Version}
use Rattle.format.specs.declared.Version.TheVariants.{Id3v22, Id3v23, Id3v24}
use Rattle.format.specs.declared.Kind.{Kind}
use Rattle.format.proofs.Numbers.{Digits}
use Rattle.loads.proofs.Words.{three, four, number_three, number_four, first_three, synchsafe_four}
use Rattle.frame.specs.Headers.{Begun}
use Rattle.frame.proofs.Headers.{ends_short, ends_padded, found}
use Rattle.meter.specs.declared.glance.Glance.{Glance}
use Rattle.meter.specs.Glances.{ten_of, size_by, Passes, Sorted, with_flag, Whole, body_in, Says}

-- ---- sizes

-- below 128 a synchsafe number is the plain one
pub size_small : (t : Bool) (n : ℕ) → n < 128 → n ≡ size_by t n
unfolding digits
size_small true n h =
    let highest : n / 256 ^ 3 % 256 ≡ 0 = omega arith in
    let upper : n / 256 ^ 2 % 256 ≡ 0 = omega arith in
    let lower : n / 256 ^ 1 % 256 ≡ 0 = omega arith in
    let lowest : n / 256 ^ 0 % 256 ≡ n = omega arith in
    rw (highest, upper, lower, lowest) (sym (or_zero_l n))
size_small false n h = refl

-- ---- ASCII

high_clear : (x : ℕ) → x < 256 → bit_and x 0x80 ≡ 0 → x < 128
high_clear x h e =
    let two : x / 128 < 2 = omega arith in
    let bit : x / 128 % 2 ≡ x / 128 = mod-eq_of_lt two in
    let none : x / 128 % 2 * 128 ≡ 0 = sym (and_high x 1 7) ∙ e in
    omega arith

-- the lowest byte apart
clear_apart : (n m x : ℕ) → x < 256 → bit_and (n * 256 + x) (m * 256 + 0x80) ≡ 0 → (bit_and n m ≡ 0) × (x < 128)
clear_apart n m x h e =
    let apart = and_block 8 n m x 0x80 h (omega arith) in
    (omega (arith, apart), high_clear x h (omega (arith, apart)))

ascii : (b : ℕ) (s : List ℕ) → b < 0x80 → is_utf8 (b ∷ s) ≡ is_utf8 s
unfolding utf8_from
ascii b s h = rw (lt-ltb b 0x80 h)

no_bytes : is_utf8 [] ≡ true
unfolding utf8_from
no_bytes = refl

module _ (l : List ℕ) (bytes : Digits 256 l) where
  pub utf8_three : 3 ≤ length l → bit_and (number (take 3 l)) 0x80_8080 ≡ 0 → is_utf8 (take 3 l) ≡ true
  utf8_three h e =
      let e' = rw (← number_three 0 l h _ _ _ refl refl refl) at e in
      let p = clear_apart (get_or l 0 0 * 256 + get_or l 1 0) 0x8080 (get_or l 2 0) (bytes 2) e' in
      let q = clear_apart (get_or l 0 0) 0x80 (get_or l 1 0) (bytes 1) p.0 in
      let r = high_clear (get_or l 0 0) (bytes 0) q.0 in
      ap is_utf8 (three 0 l h) ∙ ascii _ _ r ∙ ascii _ _ q.1 ∙ ascii _ _ p.1 ∙ no_bytes

  pub utf8_four : 4 ≤ length l → bit_and (number (take 4 l)) 0x8080_8080 ≡ 0 → is_utf8 (take 4 l) ≡ true
  utf8_four h e =
      let e' = rw (← number_four 0 l h) at e in
      let p = clear_apart ((get_or l 0 0 * 256 + get_or l 1 0) * 256 + get_or l 2 0) 0x80_8080 (get_or l 3 0) (bytes 3) e' in
      let q = clear_apart (get_or l 0 0 * 256 + get_or l 1 0) 0x8080 (get_or l 2 0) (bytes 2) p.0 in
      let r = clear_apart (get_or l 0 0) 0x80 (get_or l 1 0) (bytes 1) q.0 in
      let z = high_clear (get_or l 0 0) (bytes 0) r.0 in
      ap is_utf8 (four 0 l h) ∙ ascii _ _ z ∙ ascii _ _ r.1 ∙ ascii _ _ q.1 ∙ ascii _ _ p.1 ∙ no_bytes

  -- ---- the first byte of an id

  pub first_zero_four : 4 ≤ length l → number (take 4 l) < 0x100_0000 → get_or l 0 0 ≡ 0
  first_zero_four h k = omega (arith, number_four 0 l h)

  pub first_some_four : 4 ≤ length l → 0x100_0000 ≤ number (take 4 l) → get_or l 0 0 ≡ 0 → ⊥
  first_some_four h k e = omega (arith, number_four 0 l h, bytes 1, bytes 2, bytes 3)

  pub first_zero_three : 3 ≤ length l → number (take 3 l) < 0x1_0000 → get_or l 0 0 ≡ 0
  first_zero_three h k = omega (arith, number_three 0 l h _ _ _ refl refl refl)

  pub first_some_three : 3 ≤ length l → 0x1_0000 ≤ number (take 3 l) → get_or l 0 0 ≡ 0 → ⊥
  first_some_three h k e = omega (arith, number_three 0 l h _ _ _ refl refl refl, bytes 1, bytes 2)

  -- a plain size of three bytes is what is left of four without the first
  pub size_three : 6 ≤ length l → number (slice 2 6 l) % 0x100_0000 ≡ number (slice 3 6 l)
  size_three h =
      rw (← number_four 2 l h, ← number_three 3 l h _ _ _ refl refl refl)
      (omega (arith, bytes 3, bytes 4, bytes 5))

-- ---- a whole frame

-- no flag that counts but that for unsynchronised bytes
pub record Quiet (v : Version) (flagged : Bool) (s : List ℕ) : Type 0 where
  pub encrypted : is_encrypted v s ≡ false
  pub grouped : is_grouped v s ≡ false
  pub compressed : is_compressed v s ≡ false
  pub unsynchronised : flagged ≡ is_flagged v s
  pub no_length : has_length v s ≡ false

pub no_flags : (v : Version) (s : List ℕ) → frame_flags s ≡ 0 → Quiet v false s
no_flags Id3v22 s e = record { encrypted = refl; grouped = refl; compressed = refl; unsynchronised = refl; no_length = refl }
no_flags Id3v23 s e = record { encrypted = rw e; grouped = rw e; compressed = rw e; unsynchronised = refl; no_length = rw e }
no_flags Id3v24 s e = record { encrypted = rw e; grouped = rw e; compressed = rw e; unsynchronised = rw e; no_length = rw e }

pub one_flag : (s : List ℕ) → frame_flags s ≡ 2 → Quiet Id3v24 true s
one_flag s e = record { encrypted = rw e; grouped = rw e; compressed = rw e; unsynchronised = rw e; no_length = rw e }

pub no_flags_22 : (s : List ℕ) → Quiet Id3v22 false s
no_flags_22 s = record { encrypted = refl; grouped = refl; compressed = refl; unsynchronised = refl; no_length = refl }

module _ (v : Version) (flagged : Bool) (s : List ℕ) (n : ℕ) (there : head_len v + n ≤ length s) (some : get_or s 0 0 ≡ 0 → ⊥)
    (utf8 : is_utf8 (take (id_len v) s) ≡ true) (quiet : Quiet v flagged s) (is-size : n ≡ frame_size v s) where
  begun : Begun v s
  begun = record { long = omega arith; some = some; utf8 = utf8; plain = quiet.encrypted; alone = quiet.grouped }

  pub whole : Whole v flagged n s
  whole =
      let behind : head_len v + 0 ≡ head_len v = omega arith in
      let fits : ltb (length s - (head_len v + 0)) n ≡ false = le-ltb (length s - (head_len v + 0)) n (omega arith) in
      let all : min n (length s - (head_len v + 0)) ≡ n = omega arith in
      let is_length : ◌≡◌ {A = ℕ} 0 (pick (has_length v s) 4 0) = rw quiet.no_length in
      record {
        id = number (take (id_len v) s);
        is_id_lem = refl;
        head = sym
            (found v s begun 1 (omega arith) 0 is_length (omega arith) n is-size n (omega arith) (λ w. (omega arith, omega arith)) (number (take (id_len v) s)) refl
            false flagged (sym quiet.compressed) quiet.unsynchronised (head (number (take (id_len v) s)) false flagged false (head_len v) n)
            (rw (fits, all, behind)));
      }

pub padded : (v : Version) (s : List ℕ) → head_len v ≤ length s → get_or s 0 0 ≡ 0 → head_of v 1 s ≡ Ok None
padded v s long e = sym (ends_padded v 1 s long e)

-- ---- bodies

pub text_passes : (b : List ℕ) → (length b ≡ 0 → ⊥) → get_or b 0 0 ≤ 3 → text_refusal b ≡ 0
unfolding first
text_passes b some small = rw (ne_eqb (length b) 0 some, lt-leb 4 (get_or b 0 0) (omega arith))

-- a text's refusal goes by its first byte, which resynchronising keeps
text_resynced : (b : List ℕ) → text_refusal b ≡ text_refusal (resynchronised b)
unfolding resync first
text_resynced [] = refl
text_resynced (x ∷ s) = rw (eqb-suc-zero (length s), eqb-suc-zero (length (resync _ s)))

passes_resynced : (kind : Kind) (b : List ℕ) → Passes kind b → Passes kind (resynchronised b)
passes_resynced Kind.Text b p = sym (text_resynced b) ∙ p
passes_resynced Kind.Popularimeter b p = p
passes_resynced Kind.Table b p = p
passes_resynced Kind.Chapter b p = p
passes_resynced Kind.Contents b p = p
passes_resynced Kind.Raw b p = p

module _ (v : Version) (n : ℕ) (s : List ℕ) where
  pub says : (w : Whole v false n s) (g : Glance) → Sorted (kind_of v w.id) n (body_in v n s) g → Says v s g
  says w Glance.Unclear p = p
  says w Glance.End p = absurd p
  says w (Glance.Plain m) p = rw p.0 (w, p.1)
  says w (Glance.Flagged m) p = absurd p
  says w (Glance.Meter m) p = rw p.0 (w, p.1)

  pub says_flagged : (w : Whole v true n s) (g : Glance) → Sorted (kind_of v w.id) n (body_in v n s) g → Says v s (with_flag g)
  says_flagged w Glance.Unclear p = p
  says_flagged w Glance.End p = absurd p
  says_flagged w (Glance.Plain m) p = rw p.0 (w, passes_resynced (kind_of v w.id) (body_in v n s) p.1)
  says_flagged w (Glance.Flagged m) p = absurd p
  says_flagged w (Glance.Meter m) p = tt {0}

-- ---- the bytes from a place on

module _ (at end : ℕ) (s : List ℕ) where
  pub within : (k n : ℕ) → at + k + n ≤ end → slice k (k + n) (slice at end s) ≡ slice (at + k) (at + k + n) s
  within k n h =
      sym (take_drop n k (slice at end s)) ∙ ap (take n) (sym (slice_drop at k end s)) ∙ take_drop_take n (at + k) end s h ∙ take_drop n (at + k) s

  pub byte_within : (k : ℕ) → at + k < end → get_or (slice at end s) k 0 ≡ get_or s (at + k) 0
  byte_within k h = rw (get_or-drop, get_or-take)

  pub bytes_within : Digits 256 s → Digits 256 (slice at end s)
  bytes_within bytes =
      let byte : ℕ → Type 0 = λ x. x < 256 in
      each_drop byte 0 at (take end s) (each_take byte 0 (omega arith) end s bytes)

  pub first_within : at < end → get_or (slice at end s) 0 0 ≡ get_or s at 0
  first_within h = let none : at + 0 ≡ at = omega arith in byte_within 0 (omega arith) ∙ ap (λ (i : ℕ). get_or s i 0) none

pub text_at : (at n : ℕ) (s : List ℕ) → at + n ≤ length s → (n ≡ 0 → ⊥) → get_or s at 0 ≤ 3 → text_refusal (slice at (at + n) s) ≡ 0
text_at at n s fits some small =
    text_passes (slice at (at + n) s) (λ e. some (omega (arith, length_cut at (at + n) s)))
    (omega (arith, first_within at (at + n) s (lt_of_some n some)))
  where
    lt_of_some : (k : ℕ) → (k ≡ 0 → ⊥) → at < at + k
    lt_of_some k ne = omega arith

-- ---- a frame at a place

id_short : (v : Version) → id_len v ≤ head_len v
id_short Id3v22 = omega arith
id_short Id3v23 = omega arith
id_short Id3v24 = omega arith

module _ (v : Version) (at left : ℕ) (s : List ℕ) (fits : at + head_len v + left ≤ length s) where
  abbrev here : List ℕ
  here = slice at (at + head_len v + left) s

  long : length here ≡ head_len v + left
  long = length_cut at (at + head_len v + left) s ∙ omega arith

  front : (n : ℕ) → n ≤ head_len v → take n here ≡ slice at (at + n) s
  front n h = take_drop_take n at (at + head_len v + left) s (omega arith) ∙ take_drop n at s

  id_in : number (take (id_len v) here) ≡ number (slice at (at + id_len v) s)
  id_in = ap number (front (id_len v) (id_short v))

  body_in_lem : (n : ℕ) → n ≤ left → body_in v n here ≡ slice (at + head_len v) (at + head_len v + n) s
  body_in_lem n h = take_drop n (head_len v) here ∙ within at (at + head_len v + left) s (head_len v) n (omega arith)

  whole_at : (flagged : Bool) (n : ℕ) → n ≤ left → (get_or here 0 0 ≡ 0 → ⊥) → is_utf8 (take (id_len v) here) ≡ true → Quiet v flagged here
      → n ≡ frame_size v here → Whole v flagged n here
  whole_at flagged n h some utf8 quiet is-size = whole v flagged here n (omega (arith, long)) some utf8 quiet is-size

  -- what is told of the body by a kind that the id has
  module _ (flagged : Bool) (n : ℕ) (h : n ≤ left) (w : Whole v flagged n here) where
    sorted_in : (kind : Kind) (id : ℕ) (g : Glance) → id ≡ number (slice at (at + id_len v) s) → kind ≡ kind_of v id
        → Sorted kind n (slice (at + head_len v) (at + head_len v + n) s) g → Sorted (kind_of v w.id) n (body_in v n here) g
    sorted_in kind id g is_id_lem is_kind p =
        let kinds : kind_of v w.id ≡ kind = ap (kind_of v) (w.is_id_lem ∙ id_in ∙ sym is_id_lem) ∙ sym is_kind in
        rw (kinds, body_in_lem n h) p

-- of ten bytes

kind_ten : (t : Bool) (id : ℕ) → kind_of Id3v24 id ≡ kind_of (ten_of t) id
unfolding kind_of
kind_ten true id = refl
kind_ten false id = refl

size_ten : (t : Bool) (l : List ℕ) → 8 ≤ length l → Digits 256 l → size_by t (number (slice 4 8 l)) ≡ frame_size (ten_of t) l
size_ten true l h bytes = synchsafe_four 4 l h bytes
size_ten false l h bytes = refl

module _ (v : Version) (at left : ℕ) (s : List ℕ) (fits : at + head_len v + left ≤ length s) (bytes : Digits 256 s) (ten : head_len v ≡ 10) (letters : id_len v ≡ 4)
    (id : ℕ) (is_id_lem : id ≡ number (slice at (at + 4) s)) where
  in_four : number (take 4 (here v at left s fits)) ≡ id
  in_four = ap number (front v at left s fits 4 (omega arith)) ∙ sym is_id_lem

  bytes_here : Digits 256 (here v at left s fits)
  bytes_here = bytes_within at (at + head_len v + left) s bytes

  enough : 4 ≤ length (here v at left s fits)
  enough = omega (arith, long v at left s fits)

  end_four : id < 0x100_0000 → head_of v 1 (here v at left s fits) ≡ Ok None
  end_four h =
      padded v (here v at left s fits) (omega (arith, long v at left s fits))
      (first_zero_four (here v at left s fits) bytes_here enough (omega (arith, in_four)))

  module _ (some : 0x100_0000 ≤ id) (ascii-id : bit_and id 0x8080_8080 ≡ 0) (flagged : Bool) (n : ℕ) (h : n ≤ left) (quiet : Quiet v flagged (here v at left s fits))
      (is-size : n ≡ frame_size v (here v at left s fits)) where
    whole_four : Whole v flagged n (here v at left s fits)
    whole_four =
        let utf8 : is_utf8 (take 4 (here v at left s fits)) ≡ true = utf8_four (here v at left s fits) bytes_here enough (ap (λ (k : ℕ). bit_and k 0x8080_8080) in_four ∙ ascii-id) in
        whole_at v at left s fits flagged n h (first_some_four (here v at left s fits) bytes_here enough (omega (arith, in_four))) (rw letters utf8) quiet is-size

    sorted_four : (kind : Kind) (g : Glance) → kind ≡ kind_of v id → Sorted kind n (slice (at + head_len v) (at + head_len v + n) s) g
        → Sorted (kind_of v whole_four.id) n (body_in v n (here v at left s fits)) g
    sorted_four kind g is_kind p = sorted_in v at left s fits flagged n h whole_four kind id g (rw letters is_id_lem) is_kind p

module _ (t : Bool) (at left : ℕ) (s : List ℕ) (bytes : Digits 256 s) (fits : at + 10 + left ≤ length s) where
  abbrev ten_bytes : List ℕ
  ten_bytes = slice at (at + 10 + left) s

  ten_long : length ten_bytes ≡ 10 + left
  ten_long = length_cut at (at + 10 + left) s ∙ omega arith

  pub ten_size : (n : ℕ) → n ≡ size_by t (number (slice (at + 4) (at + 4 + 4) s)) → n ≡ frame_size (ten_of t) ten_bytes
  ten_size n e =
      e
      ∙ ap (λ (l : List ℕ). size_by t (number l)) (sym (within at (at + 10 + left) s 4 4 (omega arith)))
      ∙ size_ten t ten_bytes (omega (arith, ten_long)) (bytes_within at (at + 10 + left) s bytes)

  pub ten_flags : (k : ℕ) → get_or s (at + 9) 0 ≡ k → frame_flags ten_bytes ≡ k
  ten_flags k e = byte_within at (at + 10 + left) s 9 (omega arith) ∙ e

-- a header of ten bytes is told truly
module _ (at left : ℕ) (s : List ℕ) (bytes : Digits 256 s) (fits : at + 10 + left ≤ length s) (id : ℕ) (is_id_lem : id ≡ number (slice at (at + 4) s)) where
  pub ten_end : (t : Bool) → id < 0x100_0000 → head_of (ten_of t) 1 (slice at (at + 10 + left) s) ≡ Ok None
  ten_end true h = end_four Id3v24 at left s fits bytes refl refl id is_id_lem h
  ten_end false h = end_four Id3v23 at left s fits bytes refl refl id is_id_lem h

  module _ (some : 0x100_0000 ≤ id) (ascii-id : bit_and id 0x8080_8080 ≡ 0) (n : ℕ) (h : n ≤ left) (kind : Kind) (is_kind : kind ≡ kind_of Id3v24 id)
      (g : Glance) (p : Sorted kind n (slice (at + 10) (at + 10 + n) s) g) where
    pub ten_says : (t : Bool) → n ≡ size_by t (number (slice (at + 4) (at + 4 + 4) s)) → get_or s (at + 9) 0 ≡ 0 → Says (ten_of t) (slice at (at + 10 + left) s) g
    ten_says true e f =
        let quiet = no_flags Id3v24 _ (ten_flags true at left s bytes fits 0 f) in
        let size = ten_size true at left s bytes fits n e in
        says Id3v24 n _ (whole_four Id3v24 at left s fits bytes refl refl id is_id_lem some ascii-id false n h quiet size) g
        (sorted_four Id3v24 at left s fits bytes refl refl id is_id_lem some ascii-id false n h quiet size kind g is_kind p)
    ten_says false e f =
        let quiet = no_flags Id3v23 _ (ten_flags false at left s bytes fits 0 f) in
        let size = ten_size false at left s bytes fits n e in
        says Id3v23 n _ (whole_four Id3v23 at left s fits bytes refl refl id is_id_lem some ascii-id false n h quiet size) g
        (sorted_four Id3v23 at left s fits bytes refl refl id is_id_lem some ascii-id false n h quiet size kind g (is_kind ∙ kind_ten false id) p)

    pub ten_says_flagged : (t : Bool) → t ≡ true → n ≡ size_by t (number (slice (at + 4) (at + 4 + 4) s)) → get_or s (at + 9) 0 ≡ 2
        → {g' : Glance} → g' ≡ with_flag g → Says (ten_of t) (slice at (at + 10 + left) s) g'
    ten_says_flagged true is-24 e f is =
        let quiet = one_flag _ (ten_flags true at left s bytes fits 2 f) in
        let size = ten_size true at left s bytes fits n e in
        rw is (says_flagged Id3v24 n _ (whole_four Id3v24 at left s fits bytes refl refl id is_id_lem some ascii-id true n h quiet size) g
        (sorted_four Id3v24 at left s fits bytes refl refl id is_id_lem some ascii-id true n h quiet size kind g is_kind p))
    ten_says_flagged false is-24 e f is = absurd (false_not_true is-24)

-- a header of six bytes is told truly
module _ (at left : ℕ) (s : List ℕ) (bytes : Digits 256 s) (fits : at + 6 + left ≤ length s) (id : ℕ) (is_id_lem : id ≡ number (slice at (at + 4) s) / 0x100) where
  abbrev six_bytes : List ℕ
  six_bytes = slice at (at + 6 + left) s

  bytes_six : Digits 256 six_bytes
  bytes_six = bytes_within at (at + 6 + left) s bytes

  six_long : length six_bytes ≡ 6 + left
  six_long = length_cut at (at + 6 + left) s ∙ omega arith

  id_three : id ≡ number (slice at (at + 3) s)
  id_three = is_id_lem ∙ first_three at s (omega arith) bytes

  in_three : number (take 3 six_bytes) ≡ id
  in_three = ap number (front Id3v22 at left s fits 3 (omega arith)) ∙ sym id_three

  pub six_end : id < 0x1_0000 → head_of Id3v22 1 six_bytes ≡ Ok None
  six_end h = padded Id3v22 six_bytes (omega (arith, six_long)) (first_zero_three six_bytes bytes_six (omega (arith, six_long)) (omega (arith, in_three)))

  module _ (some : 0x1_0000 ≤ id) (ascii-id : bit_and id 0x80_8080 ≡ 0) (n : ℕ) (h : n ≤ left) (is-size : n ≡ number (slice (at + 2) (at + 2 + 4) s) % 0x100_0000)
      (kind : Kind) (is_kind : kind ≡ kind_of Id3v22 id) (g : Glance) (p : Sorted kind n (slice (at + 6) (at + 6 + n) s) g) where
    six_whole : Whole Id3v22 false n six_bytes
    six_whole =
        let utf8 : is_utf8 (take 3 six_bytes) ≡ true = utf8_three six_bytes bytes_six (omega (arith, six_long)) (ap (λ (k : ℕ). bit_and k 0x80_8080) in_three ∙ ascii-id) in
        let size : n ≡ number (slice 3 6 six_bytes) =
        is-size
        ∙ ap (λ (l : List ℕ). number l % 0x100_0000) (sym (within at (at + 6 + left) s 2 4 (omega arith)))
        ∙ size_three six_bytes bytes_six (omega (arith, six_long)) in
        whole_at Id3v22 at left s fits false n h (first_some_three six_bytes bytes_six (omega (arith, six_long)) (omega (arith, in_three))) utf8 (no_flags_22 six_bytes) size

    pub six_says : Says Id3v22 six_bytes g
    six_says = says Id3v22 n six_bytes six_whole g (sorted_in Id3v22 at left s fits false n h six_whole kind id g id_three is_kind p)

-- ---- any edition

-- an edition that is not 2.2 has headers of ten bytes
pub is_ten : (v : Version) → sameb the_type v Id3v22 ≡ false → ten_of (sameb the_type v Id3v24) ≡ v
is_ten Id3v22 e = absurd (false_not_true (sym e))
is_ten Id3v23 e = refl
is_ten Id3v24 e = refl

some_head : (v : Version) → 0 < head_len v
some_head Id3v22 = omega arith
some_head Id3v23 = omega arith
some_head Id3v24 = omega arith

-- no bytes are the end
pub says_none : (v : Version) (at last : ℕ) (s : List ℕ) → last ≤ at → head_of v 1 (slice at last s) ≡ Ok None
says_none v at last s h =
    let none : length (slice at last s) ≡ 0 = length_cut at last s ∙ omega arith in
    sym (ends_short v 1 (slice at last s) (omega (arith, some_head v)))

-- the same bytes, with the bytes after a header counted from its place
pub says_from : (v : Version) (at n left last : ℕ) (s : List ℕ) (g : Glance) → at + n + left ≡ last → Says v (slice at (at + n + left) s) g → Says v (slice at last s) g
says_from v at n left last s g e p = rw e at p
