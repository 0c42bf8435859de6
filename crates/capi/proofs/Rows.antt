-- Adding answers a record's words by the rows of document 01's refusals, the numbers taken as they are: that the words are loaded
-- into types of 8 and 32 bits changes no answer. 21 is also for numbers of which no row speaks and which their types cannot hold.
-- Assumes nothing.
use mathlib.Core.Path.{◌≡◌, refl, sym, ap, ◌∙◌}
use Prim.Native.Nat.{ℕ, ◌-◌, ◌%◌, ◌^◌, ◌≤◌, ◌<◌, min}
use native.Mathlib.Omega.{arith}
use native.Mathlib.Nat.{min-eq_left, min-eq_right}
use mathlib.Core.Bool.{Bool, true, false, ◌&&◌, ◌||◌}
use mathlib.Core.List.{List, []}
use lib.ListN.{length}
use lib.Dec.{ltb, leb, eqb}
use borrow.Author.Tests.{le-ltb, ltb-true, le-leb, lt-leb, leb-true, leb-false, ne_eqb}
use Rattle.laws.proofs.Bools.{and_true, and_false}
use Rattle.format.proofs.Checks.{none_refused, none_else, none_of, first_stops}
use Rattle.format.specs.Bytes.{pick, first}
use Rattle.format.specs.Text.{text_end}
use Rattle.format.specs.Table.{is_width, fit}
use Rattle.format.specs.Record.{Content, text, table, Rec, content_of, rec_of}
use Rattle.format.specs.Encode.{id_check, record_checks, is_lost, size_checks, refusal_of}
use Rattle.format.specs.declared.Version.{Version}
use Rattle.format.specs.declared.Version.TheVariants.{Id3v22, Id3v23, Id3v24}
use Rattle.format.specs.declared.Fields.{Fields}
use Rattle.format.specs.declared.Heading.{Heading}
use Rattle.frame.specs.References.{unpack_of}
use Rattle.writer.specs.Writer.{add_of, Added}
use Rattle.writer.specs.declared.Writer.{Writer}
use Rattle.capi.specs.Words.{word, is_flag, cap8, cap32, text_if, popularimeter_if, table_if, chapter_if, contents_if, fields_of, is_mark, heading_with, heading_of, writer_of}
use Rattle.capi.specs.Calls.{counted, after_add, sv_add, after_unpack, references_of, sv_references}
use Rattle.std.specs.Prelude.{Result, Some, None}
use Rattle.format.specs.declared.refusals.Refusal.{Refusal}

-- ---- a record's words as they are

-- the fields that a kind and five numbers say, without a limit
abbrev pub plain_fields : ℕ → ℕ → ℕ → ℕ → ℕ → ℕ → Fields
plain_fields kind a b c d e =
    pick (eqb kind 0) (Fields.Text a)
    (pick (eqb kind 1) (Fields.Popularimeter a b)
    (pick (eqb kind 2) (Fields.Table a b c d e)
    (pick (eqb kind 3) (Fields.Chapter a b c d)
    (pick (eqb kind 4) (Fields.Contents (eqb a 1) (eqb b 1))
    Fields.Raw))))

-- the kind is one of six, and its numbers of which no row speaks fit: rating, frame step, times and offsets, flags of the contents
abbrev pub is_fields : ℕ → ℕ → ℕ → ℕ → ℕ → Bool
is_fields kind a b c d =
    pick (eqb kind 0) true
    (pick (eqb kind 1) (ltb a (2 ^ 8))
    (pick (eqb kind 2) (ltb a (2 ^ 16))
    (pick (eqb kind 3) (ltb a (2 ^ 32) && (ltb b (2 ^ 32) && (ltb c (2 ^ 32) && ltb d (2 ^ 32))))
    (pick (eqb kind 4) (is_flag a && is_flag b)
    (eqb kind 5)))))

abbrev pub plain_heading : List ℕ → Heading
plain_heading words = record {
  id = word 1 words;
  short = is_mark (word 2 words);
  compressed = is_mark (word 3 words);
  fields = plain_fields (word 0 words) (word 4 words) (word 5 words) (word 6 words) (word 7 words) (word 8 words);
}

abbrev pub is_record : List ℕ → Bool
is_record words = ltb (word 1 words) (2 ^ 32) && is_fields (word 0 words) (word 4 words) (word 5 words) (word 6 words) (word 7 words)

-- ---- a number beyond its type counts as the largest of it

capped_by : {A : Type 0} (small : Bool) (f : ℕ → A) (c n : ℕ) → leb n c ≡ small → ((m : ℕ) → c ≤ m → f m ≡ f c) → f n ≡ f (min n c)
capped_by true f c n e h = let k : n ≤ c = leb-true n c e in ap f (sym (min-eq_left k))
capped_by false f c n e h =
    let k : c < n = leb-false n c e in
    let l : c ≤ n = omega arith in
    h n l ∙ ap f (sym (min-eq_right l))

-- what is the same for every number from the largest on
capped : {A : Type 0} (f : ℕ → A) (c n : ℕ) → ((m : ℕ) → c ≤ m → f m ≡ f c) → f n ≡ f (min n c)
capped f c n h = capped_by (leb n c) f c n refl h

-- ---- no check of a record changes by that; where a width is beyond, those after 30 may, which is given before them

end_over : (v : Version) (n : ℕ) (s : List ℕ) → 255 ≤ n → text_end v n s ≡ text_end v 255 s
end_over Id3v22 n s h = rw (ne_eqb n 1 (λ e. omega arith), ne_eqb n 2 (λ e. omega arith))
end_over Id3v23 n s h = rw (ne_eqb n 1 (λ e. omega arith), ne_eqb n 2 (λ e. omega arith))
end_over Id3v24 n s h = rw (ne_eqb n 1 (λ e. omega arith), ne_eqb n 2 (λ e. omega arith))

wide : (n : ℕ) → 2 ^ 8 - 1 ≤ n → is_width n ≡ false
wide n h =
    let k : 1 ≤ n = omega arith in
    let l : 32 < n = omega arith in
    rw (le-leb 1 n k, lt-leb n 32 l)

or_true : (a : Bool) → (a || true) ≡ true
or_true true = refl
or_true false = refl

abbrev rec_with : ℕ → Bool → Bool → Content → Rec
rec_with id is_short is_compressed content = record { id = id; short = is_short; compressed = is_compressed; content = content }

module _ (v : Version) (id : ℕ) (is_short is_compressed : Bool) where
  abbrev checks : Content → List ℕ
  checks content = record_checks v (rec_with id is_short is_compressed content)

  -- 12: the encoding
  encoding_over : (s : List ℕ) (n : ℕ) → 2 ^ 8 - 1 ≤ n → checks (text n s) ≡ checks (text (2 ^ 8 - 1) s)
  encoding_over s n h = let k : 4 ≤ n = omega arith in rw (end_over v n s h, le-leb 4 n k)

  encoding_refused : (s : List ℕ) (n : ℕ) → 2 ^ 8 - 1 ≤ n → first (checks (text n s)) ≡ 0 → ⊥
  encoding_refused s n h z = let k : n < 4 = leb-false 4 n (none_refused (leb 4 n) 11 (none_of (checks (text n s)) z 2)) in omega arith

  pub encoding_capped : (n : ℕ) (s : List ℕ) → checks (text n s) ≡ checks (text (cap8 n) s)
  encoding_capped n s = capped (λ n. checks (text n s)) (2 ^ 8 - 1) n (encoding_over s)

  module _ (frames : ℕ) (ds : List ℕ) where
    -- 33: the steps
    bytes_over : (millis v w n : ℕ) → 2 ^ 32 - 1 ≤ n → checks (table frames n millis v w ds) ≡ checks (table frames (2 ^ 32 - 1) millis v w ds)
    bytes_over millis v w n h = let k : 2 ^ 24 ≤ n = omega arith in rw (le-ltb n (2 ^ 24) k)

    millis_over : (bytes v w n : ℕ) → 2 ^ 32 - 1 ≤ n → checks (table frames bytes n v w ds) ≡ checks (table frames bytes (2 ^ 32 - 1) v w ds)
    millis_over bytes v w n h = let k : 2 ^ 24 ≤ n = omega arith in rw (le-ltb n (2 ^ 24) k)

    steps_refused : (bytes millis v w : ℕ) → first (checks (table frames bytes millis v w ds)) ≡ 0 → (bytes < 2 ^ 24) × (millis < 2 ^ 24)
    steps_refused bytes millis v w z =
        let t = none_else ((eqb (length ds % 2) 0 && fit v w ds) && (ltb bytes (2 ^ 24) && ltb millis (2 ^ 24))) 32 (none_of (checks (table frames bytes millis v w ds)) z 10) in
        let s = and_true (ltb bytes (2 ^ 24)) (ltb millis (2 ^ 24)) (and_true (eqb (length ds % 2) 0 && fit v w ds) _ t).1 in
        (ltb-true bytes (2 ^ 24) s.0, ltb-true millis (2 ^ 24) s.1)

    pub steps_capped : (bytes millis v w : ℕ) → checks (table frames bytes millis v w ds) ≡ checks (table frames (cap32 bytes) (cap32 millis) v w ds)
    steps_capped bytes millis v w =
        capped (λ n. checks (table frames n millis v w ds)) (2 ^ 32 - 1) bytes (bytes_over millis v w)
        ∙ capped (λ n. checks (table frames (cap32 bytes) n v w ds)) (2 ^ 32 - 1) millis (millis_over (cap32 bytes) v w)

    -- 30: the widths
    first_over : (bytes millis w n : ℕ) → 2 ^ 8 - 1 ≤ n → first (checks (table frames bytes millis n w ds)) ≡ first (checks (table frames bytes millis (2 ^ 8 - 1) w ds))
    unfolding first
    first_over bytes millis w n h = rw (wide n h)

    second_over : (bytes millis v n : ℕ) → 2 ^ 8 - 1 ≤ n → first (checks (table frames bytes millis v n ds)) ≡ first (checks (table frames bytes millis v (2 ^ 8 - 1) ds))
    unfolding first
    second_over bytes millis v n h = rw (wide n h, and_false (is_width v))

    widths_refused : (bytes millis v w : ℕ) → first (checks (table frames bytes millis v w ds)) ≡ 0 → (v ≤ 32) × (w ≤ 32)
    widths_refused bytes millis v w z =
        let t = and_true (is_width v) (is_width w) (none_else (is_width v && is_width w) 29 (none_of (checks (table frames bytes millis v w ds)) z 7)) in
        (leb-true v 32 (and_true (leb 1 v) (leb v 32) t.0).1, leb-true w 32 (and_true (leb 1 w) (leb w 32) t.1).1)

    pub widths_capped : (bytes millis v w : ℕ) → first (checks (table frames bytes millis v w ds)) ≡ first (checks (table frames bytes millis (cap8 v) (cap8 w) ds))
    widths_capped bytes millis v w =
        capped (λ n. first (checks (table frames bytes millis n w ds))) (2 ^ 8 - 1) v (first_over bytes millis w)
        ∙ capped (λ n. first (checks (table frames bytes millis (cap8 v) n ds))) (2 ^ 8 - 1) w (second_over bytes millis (cap8 v))

-- ---- so adding answers the same

-- two records that are refused with the same number
refused_alike : (w : Writer) (r s : Rec) (buffer : List ℕ) → first (record_checks w.version r) ≡ first (record_checks w.version s)
    → (first (record_checks w.version r) ≡ 0 → ⊥) → add_of w r buffer ≡ add_of w s buffer
unfolding add_of refusal_of
refused_alike w r s buffer e ne =
    let v = w.version in
    let k = first (record_checks v r) in
    let a : refusal_of v w.mode w.altered r ≡ k = first_stops (record_checks v r) (pick (is_lost v w.altered r.id) [] (size_checks v w.mode r)) ne in
    let b : refusal_of v w.mode w.altered s ≡ k = first_stops (record_checks v s) (pick (is_lost v w.altered s.id) [] (size_checks v w.mode s)) (λ z. ne (e ∙ z)) ∙ sym e in
    rw (a, b, ne_eqb k 0 ne)

abbrev capped_fields : Fields → Fields
capped_fields (Fields.Text e) = Fields.Text (cap8 e)
capped_fields (Fields.Popularimeter r c) = Fields.Popularimeter r c
capped_fields (Fields.Table f b m v w) = Fields.Table f (cap32 b) (cap32 m) (cap8 v) (cap8 w)
capped_fields (Fields.Chapter a b c d) = Fields.Chapter a b c d
capped_fields (Fields.Contents t o) = Fields.Contents t o
capped_fields Fields.Raw = Fields.Raw

module _ (x : Writer) (id : ℕ) (is_short is_compressed : Bool) (buffer : List ℕ) where
  abbrev added : Content → Added × List ℕ
  added content = add_of x (rec_with id is_short is_compressed content) buffer

  alike : (a b : Content) → first (checks x.version id is_short is_compressed a) ≡ first (checks x.version id is_short is_compressed b)
      → (first (checks x.version id is_short is_compressed a) ≡ 0 → ⊥) → added a ≡ added b
  alike a b e ne = refused_alike x (rec_with id is_short is_compressed a) (rec_with id is_short is_compressed b) buffer e ne

  text_added : (n : ℕ) (s : List ℕ) → added (text n s) ≡ added (text (cap8 n) s)
  text_added n s =
      let y = x.version in
      capped (λ n. added (text n s)) (2 ^ 8 - 1) n
      (λ m h. alike (text m s) (text (2 ^ 8 - 1) s) (ap first (encoding_over y id is_short is_compressed s m h)) (encoding_refused y id is_short is_compressed s m h))

  table_added : (f b m v w : ℕ) (ds : List ℕ) → added (table f b m v w ds) ≡ added (table f (cap32 b) (cap32 m) (cap8 v) (cap8 w) ds)
  table_added f b m v w ds =
      let y = x.version in
      capped (λ n. added (table f n m v w ds)) (2 ^ 32 - 1) b
      (λ n h. alike (table f n m v w ds) (table f (2 ^ 32 - 1) m v w ds) (ap first (bytes_over y id is_short is_compressed f ds m v w n h))
      (λ z. let k = (steps_refused y id is_short is_compressed f ds n m v w z).0 in omega arith))
      ∙ capped (λ n. added (table f (cap32 b) n v w ds)) (2 ^ 32 - 1) m
      (λ n h. alike (table f (cap32 b) n v w ds) (table f (cap32 b) (2 ^ 32 - 1) v w ds) (ap first (millis_over y id is_short is_compressed f ds (cap32 b) v w n h))
      (λ z. let k = (steps_refused y id is_short is_compressed f ds (cap32 b) n v w z).1 in omega arith))
      ∙ capped (λ n. added (table f (cap32 b) (cap32 m) n w ds)) (2 ^ 8 - 1) v
      (λ n h. alike (table f (cap32 b) (cap32 m) n w ds) (table f (cap32 b) (cap32 m) (2 ^ 8 - 1) w ds) (first_over y id is_short is_compressed f ds (cap32 b) (cap32 m) w n h)
      (λ z. let k = (widths_refused y id is_short is_compressed f ds (cap32 b) (cap32 m) n w z).0 in omega arith))
      ∙ capped (λ n. added (table f (cap32 b) (cap32 m) (cap8 v) n ds)) (2 ^ 8 - 1) w
      (λ n h. alike (table f (cap32 b) (cap32 m) (cap8 v) n ds) (table f (cap32 b) (cap32 m) (cap8 v) (2 ^ 8 - 1) ds) (second_over y id is_short is_compressed f ds (cap32 b) (cap32 m) (cap8 v) n h)
      (λ z. let k = (widths_refused y id is_short is_compressed f ds (cap32 b) (cap32 m) (cap8 v) n z).1 in omega arith))

  fields_added : (f : Fields) (name names rest ds : List ℕ) → added (content_of f name names rest ds) ≡ added (content_of (capped_fields f) name names rest ds)
  fields_added (Fields.Text e) name names rest ds = text_added e rest
  fields_added (Fields.Popularimeter r c) name names rest ds = refl
  fields_added (Fields.Table f b m v w) name names rest ds = table_added f b m v w ds
  fields_added (Fields.Chapter a b c d) name names rest ds = refl
  fields_added (Fields.Contents t o) name names rest ds = refl
  fields_added Fields.Raw name names rest ds = refl

-- ---- what the words load as

fields_by : (t0 t1 t2 t3 t4 t5 : Bool) (a b c d e : ℕ)
    → pick t0 (text_if a) (pick t1 (popularimeter_if a b) (pick t2 (table_if a b c d e) (pick t3 (chapter_if a b c d) (pick t4 (contents_if a b) (pick t5 (Some Fields.Raw) None)))))
    ≡ pick (pick t0 true (pick t1 (ltb a (2 ^ 8)) (pick t2 (ltb a (2 ^ 16)) (pick t3 (ltb a (2 ^ 32) && (ltb b (2 ^ 32) && (ltb c (2 ^ 32) && ltb d (2 ^ 32)))) (pick t4 (is_flag a && is_flag b) t5)))))
    (Some (capped_fields (pick t0 (Fields.Text a) (pick t1 (Fields.Popularimeter a b) (pick t2 (Fields.Table a b c d e) (pick t3 (Fields.Chapter a b c d) (pick t4 (Fields.Contents (eqb a 1) (eqb b 1)) Fields.Raw)))))))
    None
fields_by true t1 t2 t3 t4 t5 a b c d e = refl
fields_by false true t2 t3 t4 t5 a b c d e = refl
fields_by false false true t3 t4 t5 a b c d e = refl
fields_by false false false true t4 t5 a b c d e = refl
fields_by false false false false true t5 a b c d e = refl
fields_by false false false false false t5 a b c d e = refl

fields_load : (kind a b c d e : ℕ) → fields_of kind a b c d e ≡ pick (is_fields kind a b c d) (Some (capped_fields (plain_fields kind a b c d e))) None
unfolding fields_of
fields_load kind a b c d e = fields_by (eqb kind 0) (eqb kind 1) (eqb kind 2) (eqb kind 3) (eqb kind 4) (eqb kind 5) a b c d e

abbrev capped_heading : Heading → Heading
capped_heading h = record { id = h.id; short = h.short; compressed = h.compressed; fields = capped_fields h.fields }

heading_by : (fits is : Bool) (id : ℕ) (is_short is_compressed : Bool) (f : Fields)
    → pick fits (heading_with id is_short is_compressed (pick is (Some f) None)) None
    ≡ pick (fits && is) (Some (record { id = id; short = is_short; compressed = is_compressed; fields = f })) None
heading_by true true id is_short is_compressed f = refl
heading_by true false id is_short is_compressed f = refl
heading_by false is id is_short is_compressed f = refl

pub heading_load : (words : List ℕ) → heading_of words ≡ pick (is_record words) (Some (capped_heading (plain_heading words))) None
unfolding heading_of
heading_load words =
    let h = plain_heading words in
    rw (fields_load (word 0 words) (word 4 words) (word 5 words) (word 6 words) (word 7 words) (word 8 words))
    (heading_by (ltb (word 1 words) (2 ^ 32)) (is_fields (word 0 words) (word 4 words) (word 5 words) (word 6 words) (word 7 words)) h.id h.short h.compressed (capped_fields h.fields))

-- ---- adding: 21 where the words are no record; else the answer of the record that they say, every number as it is

abbrev pub plain_rec : List ℕ → List ℕ → List ℕ → List ℕ → List ℕ → Rec
plain_rec words name names rest deviations = rec_of (plain_heading words) name names rest deviations

module _ (words name names rest deviations buffer writer count : List ℕ) (a : 19 ≤ length words) (b : 4 ≤ length writer) (c : 1 ≤ length count) {w : Writer} (f : writer_of writer ≡ Some w) where
  rows_by : (is : Bool) → is_record words ≡ is
      → sv_add words name names rest deviations buffer writer count
      ≡ pick is (after_add (add_of w (plain_rec words name names rest deviations) buffer) writer count) (21, buffer, writer, counted 0 count)
  unfolding sv_add
  rows_by true e =
      let h = plain_heading words in
      rw (le-ltb _ _ a, le-ltb _ _ b, le-ltb _ _ c, f, heading_load words, e)
      (ap (λ (z : Added × List ℕ). after_add z writer count) (sym (fields_added w h.id h.short h.compressed buffer h.fields name names rest deviations)))
  rows_by false e = rw (le-ltb _ _ a, le-ltb _ _ b, le-ltb _ _ c, f, heading_load words, e)

  pub rows : sv_add words name names rest deviations buffer writer count
      ≡ pick (is_record words) (after_add (add_of w (plain_rec words name names rest deviations) buffer) writer count) (21, buffer, writer, counted 0 count)
  rows = rows_by (is_record words) refl

  pub no_record : is_record words ≡ false → sv_add words name names rest deviations buffer writer count ≡ (21, buffer, writer, counted 0 count)
  no_record e = rows_by false e

  module _ (e : is_record words ≡ true) where
    -- the number is that of document 01's checks
    pub row_number : let k = refusal_of w.version w.mode w.altered (plain_rec words name names rest deviations) in
        (k ≡ 0 → ⊥) → sv_add words name names rest deviations buffer writer count ≡ (k, buffer, writer, counted 0 count)
    unfolding add_of
    row_number ne = rows_by true e ∙ rw (ne_eqb _ 0 ne)

    -- any mark, 25 after 21
    pub marked : id_check w.version (plain_rec words name names rest deviations) ≡ 0 → (is_mark (word 2 words) || is_mark (word 3 words)) ≡ true
        → sv_add words name names rest deviations buffer writer count ≡ (25, buffer, writer, counted 0 count)
    unfolding add_of refusal_of first
    marked i m = rows_by true e ∙ rw (i, m, or_true)

-- ---- references: 21 likewise, 30 for a width that is none, whatever it is

unpack_first : (w : ℕ) (rest deviations : List ℕ) (n : ℕ) → 2 ^ 8 - 1 ≤ n → unpack_of n w rest deviations ≡ unpack_of (2 ^ 8 - 1) w rest deviations
unfolding unpack_of
unpack_first w rest deviations n h = rw (wide n h)

unpack_second : (v : ℕ) (rest deviations : List ℕ) (n : ℕ) → 2 ^ 8 - 1 ≤ n → unpack_of v n rest deviations ≡ unpack_of v (2 ^ 8 - 1) rest deviations
unfolding unpack_of
unpack_second v rest deviations n h = rw (wide n h, and_false (is_width v))

references_capped : (f : Fields) (rest deviations : List ℕ) → references_of f rest deviations ≡ references_of (capped_fields f) rest deviations
references_capped (Fields.Text e) rest deviations = refl
references_capped (Fields.Popularimeter r c) rest deviations = refl
references_capped (Fields.Table f b m v w) rest deviations =
    capped (λ n. unpack_of n w rest deviations) (2 ^ 8 - 1) v (λ n h. unpack_first w rest deviations n h)
    ∙ capped (λ n. unpack_of (cap8 v) n rest deviations) (2 ^ 8 - 1) w (λ n h. unpack_second (cap8 v) rest deviations n h)
references_capped (Fields.Chapter a b c d) rest deviations = refl
references_capped (Fields.Contents t o) rest deviations = refl
references_capped Fields.Raw rest deviations = refl

module _ (words rest deviations count : List ℕ) (a : 19 ≤ length words) (c : 1 ≤ length count) where
  references_by : (is : Bool) → is_record words ≡ is
      → sv_references words rest deviations count ≡ pick is (after_unpack (references_of (plain_heading words).fields rest deviations) count) (21, deviations, counted 0 count)
  unfolding sv_references
  references_by true e =
      rw (le-ltb _ _ a, le-ltb _ _ c, heading_load words, e)
      (ap (λ (z : Result ℕ Refusal × List ℕ). after_unpack z count) (sym (references_capped (plain_heading words).fields rest deviations)))
  references_by false e = rw (le-ltb _ _ a, le-ltb _ _ c, heading_load words, e)

  pub references_rows : sv_references words rest deviations count
      ≡ pick (is_record words) (after_unpack (references_of (plain_heading words).fields rest deviations) count) (21, deviations, counted 0 count)
  references_rows = references_by (is_record words) refl
