-- What is known of a record that passed its checks. Assumes nothing.
use mathlib.Core.Path.{◌≡◌, refl, sym, ap, ◌∙◌}
use Prim.Native.Nat.{ℕ, zero, suc, ◌+◌, ◌%◌, ◌^◌, ◌<◌}
use native.Mathlib.Omega.{arith}
use mathlib.Core.Bool.{Bool, true, false, not, ◌&&◌, ◌||◌}
use mathlib.Core.List.{List, [], ◌∷◌, ◌++◌}
use lib.ListN.{length}
use lib.Dec.{ltb, leb, eqb}
use borrow.Author.Tests.{eqb-true, leb-true, leb-false, ltb-true, not-false}
use Rattle.laws.proofs.Bools.{and_true, or_false, false_not_true}
use Rattle.format.specs.Bytes.{first, zero_at, zeros_in}
use Rattle.format.specs.Ids.{is_id, kind_of, kind_number}
use Rattle.format.specs.Text.{text_end}
use Rattle.format.specs.Table.{width_checks, fit}
use Rattle.format.specs.Record.{Content, text, popularimeter, table, chapter, contents, raw, Rec, Fits}
use Rattle.format.specs.Walk.{walk_bytes, walked}
use Rattle.format.specs.Encode.{last_or, kind_in, is_raw, same_kind, id_check, raw_check, encoding_check, text_check, zero_check, name_check, children_check, run_refusal, run_check, deviation_checks, table_checks, record_checks, size_checks, refusal_of}
use Rattle.format.specs.declared.Version.{Version}
use Rattle.format.specs.declared.Mode.{Mode}
use Rattle.format.specs.declared.Kind.{Kind}
use Rattle.format.proofs.Checks.{none_refused, none_else, first_none, first_append}
use Rattle.format.proofs.ReadBack.{run_in, ReadBack}
use Rattle.format.proofs.Text.{text_back}
use Rattle.format.proofs.Popularimeter.{popularimeter_back}
use Rattle.format.proofs.Table.{table_back}
use Rattle.format.proofs.Chapter.{chapter_back}
use Rattle.format.proofs.Contents.{contents_back}
use Rattle.format.proofs.Raw.{raw_back}

-- ---- kinds by their numbers

kind_from : ℕ → Kind
kind_from zero = Kind.Text
kind_from (suc zero) = Kind.Popularimeter
kind_from (suc (suc zero)) = Kind.Table
kind_from (suc (suc (suc zero))) = Kind.Chapter
kind_from (suc (suc (suc (suc zero)))) = Kind.Contents
kind_from (suc (suc (suc (suc (suc n))))) = Kind.Raw

kind_from_lem : (k : Kind) → kind_from (kind_number k) ≡ k
unfolding kind_from
kind_from_lem Kind.Text = refl
kind_from_lem Kind.Popularimeter = refl
kind_from_lem Kind.Table = refl
kind_from_lem Kind.Chapter = refl
kind_from_lem Kind.Contents = refl
kind_from_lem Kind.Raw = refl

same_kind_lem : (k j : Kind) → same_kind k j ≡ true → k ≡ j
same_kind_lem k j e = sym (kind_from_lem k) ∙ ap kind_from (eqb-true (kind_number k) (kind_number j) e) ∙ kind_from_lem j

-- the id is of the record's kind, by 21 where it has one and by 25 where it is raw
kind_of_lem : (k j : Kind) → (is_raw j || same_kind k j) ≡ true → (is_raw j && not (is_raw k)) ≡ false → k ≡ j
kind_of_lem k Kind.Text e f = same_kind_lem k Kind.Text e
kind_of_lem k Kind.Popularimeter e f = same_kind_lem k Kind.Popularimeter e
kind_of_lem k Kind.Table e f = same_kind_lem k Kind.Table e
kind_of_lem k Kind.Chapter e f = same_kind_lem k Kind.Chapter e
kind_of_lem k Kind.Contents e f = same_kind_lem k Kind.Contents e
kind_of_lem k Kind.Raw e f = same_kind_lem k Kind.Raw (not-false (is_raw k) f)

-- ---- contents

unzeroed : (name : List ℕ) → zero_check name ≡ 0 → zero_at name ≡ length name
unzeroed name e = eqb-true _ _ (none_else _ 26 e)

-- what the checks of the content say, kind by kind
pub content_back : (v : Version) (c : Content) → Fits c → encoding_check c ≡ 0 → text_check v c ≡ 0 → name_check c ≡ 0 → children_check c ≡ 0 → first (table_checks c) ≡ 0
    → ReadBack v c
content_back v (text e s) f h12 h26 h27 h28 t =
    text_back v e s (leb-false 4 e (none_refused (leb 4 e) 11 h12)) (eqb-true (text_end v e s) (length s) (none_else _ 25 h26))
content_back v (popularimeter user r c) f h12 h26 h27 h28 t = popularimeter_back v user r c (unzeroed user h27) f
content_back v (table fr b m x y ds) f h12 h26 h27 h28 t =
    let both = first_append (width_checks x y) (deviation_checks b m x y ds) t in
    let h33 = first_none _ _ both.1 in
    let good = and_true (eqb (length ds % 2) 0 && fit x y ds) (ltb b (2 ^ 24) && ltb m (2 ^ 24)) (none_else _ 32 h33.0) in
    let pairs = and_true (eqb (length ds % 2) 0) (fit x y ds) good.0 in
    let steps = and_true (ltb b (2 ^ 24)) (ltb m (2 ^ 24)) good.1 in
    let h34 = first_none _ _ h33.1 in
    table_back v fr b m x y ds f (ltb-true _ _ steps.0) (ltb-true _ _ steps.1) both.0 (eqb-true _ _ pairs.0) pairs.1
    (none_refused (eqb (x + y) 4 && eqb (length ds % 4) 2) 33 h34.0)
content_back v (chapter element a b c d run) f h12 h26 h27 h28 t =
    chapter_back v element a b c d run (unzeroed element h27) f.0 f.1 f.2 f.3
content_back v (contents element top ordered children run) f h12 h26 h27 h28 t =
    let both = and_true (leb (zeros_in children) 255) (eqb (last_or 0 children) 0) (none_else _ 27 h28) in
    contents_back v element top ordered children run (unzeroed element h27) (leb-true _ _ both.0) (eqb-true _ _ both.1)
content_back v (raw body) f h12 h26 h27 h28 t = raw_back v body

-- the run of subframes is one that the strict walk accepts
run_accepted : (v : Version) (c : Content) → run_check v c ≡ 0 → (walked true v 2 (run_in c) []).0 ≡ 0
unfolding walked walk_bytes
run_accepted v (text e s) h = refl
run_accepted v (popularimeter user r c) h = refl
run_accepted v (table f b m x y ds) h = refl
run_accepted v (chapter element a b c d run) h = eqb-true _ _ (none_else _ 28 h)
run_accepted v (contents element t o children run) h = eqb-true _ _ (none_else _ 28 h)
run_accepted v (raw body) h = refl

-- ---- records

pub record Sound (v : Version) (m : Mode) (r : Rec) : Type 0 where
  pub is_id_lem : is_id v r.id ≡ true
  pub whole : r.short ≡ false
  pub plain : r.compressed ≡ false
  pub kind : kind_of v r.id ≡ kind_in r.content
  pub back : ReadBack v r.content
  pub run : (walked true v 2 (run_in r.content) []).0 ≡ 0
  pub sizes : first (size_checks v m r) ≡ 0

-- A record that a writer with its altered mark off does not refuse.
pub accepted : (v : Version) (m : Mode) (r : Rec) → refusal_of v m false r ≡ 0 → Fits r.content → Sound v m r
unfolding refusal_of
accepted v m r e f =
    let both = first_append (record_checks v r) (size_checks v m r) e in
    let h21 = first_none _ _ both.0 in
    let h25 = first_none _ _ h21.1 in
    let h12 = first_none _ _ h25.1 in
    let h26 = first_none _ _ h12.1 in
    let h27 = first_none _ _ h26.1 in
    let h28 = first_none _ _ h27.1 in
    let h29 = first_none _ _ h28.1 in
    let c = r.content in
    let id = and_true (is_id v r.id) (is_raw (kind_in c) || same_kind (kind_of v r.id) (kind_in c)) (none_else _ 20 h21.0) in
    let marks = or_false (is_raw (kind_in c) && not (is_raw (kind_of v r.id))) (r.short || r.compressed) (none_refused _ 24 h25.0) in
    let both_marks = or_false r.short r.compressed marks.1 in
    record {
      is_id_lem = id.0;
      whole = both_marks.0;
      plain = both_marks.1;
      kind = kind_of_lem (kind_of v r.id) (kind_in c) id.1 marks.0;
      back = content_back v c f h12.0 h26.0 h27.0 h28.0 h29.1;
      run = run_accepted v c h29.0;
      sizes = both.1;
    }
