-- A body is its four pieces one after another, and a record that passed its checks can be put. Assumes nothing.
use mathlib.Core.Path.{◌≡◌, refl, sym}
use Prim.Native.Nat.{ℕ, ◌%◌, ◌^◌, ◌≤◌}
use native.Mathlib.Omega.{arith}
use mathlib.Core.Bool.{◌&&◌}
use mathlib.Core.List.{List, [], ◌++◌, append-nil, append_assoc}
use lib.ListN.{length, take}
use lib.Seq.{take-length}
use lib.Dec.{eqb, leb, ltb}
use borrow.Author.Tests.{eqb-true, leb-true}
use Rattle.laws.proofs.Bools.{and_true}
use Rattle.format.specs.Bytes.{first, zeros_in}
use Rattle.format.specs.Popularimeter.{counter_bytes}
use Rattle.format.specs.Table.{fit, is_width, width_checks}
use Rattle.format.specs.Record.{Content, text, popularimeter, table, chapter, contents, raw, Rec, content_of}
use Rattle.format.specs.Encode.{last_or, children_check, table_checks, deviation_checks, record_checks, body_bytes}
use Rattle.format.specs.declared.Version.{Version}
use Rattle.format.specs.declared.Fields.{Fields}
use Rattle.format.proofs.Checks.{none_of, none_else, first_none, first_append}
use Rattle.std.specs.Prelude.{Ok}
use Rattle.format.specs.Refusals.{passed}
use Rattle.checks.proofs.Passed.{Answer, sound}
use Rattle.writer.specs.Layouts.{layout_of, Puttable, used_of, packed_of}
use Rattle.writer.specs.declared.bodies.Used.{Used}

pub layout_body : (c : Content) → body_bytes c ≡ (layout_of c).name ++ ((layout_of c).small ++ ((layout_of c).names ++ (layout_of c).rest))
unfolding body_bytes
layout_body (text e s) = refl
layout_body (popularimeter user r c) = rw (append-nil (counter_bytes c))
layout_body (table f b m v w ds) = simp append_assoc
layout_body (chapter element a b c d run) = simp append_assoc
layout_body (contents element t o children run) = refl
layout_body (raw body) = refl

-- ---- what the checks give

checked : (c : Content) → children_check c ≡ 0 → first (table_checks c) ≡ 0 → Puttable c
checked (text e s) h t = tt
checked (popularimeter user r c) h t = tt
checked (table f b m v w ds) h t =
    let both = first_append (width_checks v w) (deviation_checks b m v w ds) t in
    let widths = and_true (is_width v) (is_width w) (none_else _ 29 (none_of (width_checks v w) both.0 0)) in
    let good = and_true (eqb (length ds % 2) 0 && fit v w ds) (ltb b (2 ^ 24) && ltb m (2 ^ 24)) (none_else _ 32 (first_none _ _ both.1).0) in
    let pairs = and_true (eqb (length ds % 2) 0) (fit v w ds) good.0 in
    record {
      first = leb-true v 32 (and_true (leb 1 v) (leb v 32) widths.0).1;
      second = leb-true w 32 (and_true (leb 1 w) (leb w 32) widths.1).1;
      pairs = eqb-true _ _ pairs.0;
      fits = pairs.1;
    }
checked (chapter element a b c d run) h t = tt
checked (contents element t o children run) h z = leb-true _ _ (and_true (leb (zeros_in children) 255) (eqb (last_or 0 children) 0) (none_else _ 27 h)).0
checked (raw body) h t = tt

-- A record that passed its checks down to 34 can be put.
pub puttable : (v : Version) (r : Rec) → ◌≡◌ {A = Answer} (Ok tt) (passed (first (record_checks v r))) → Puttable r.content
puttable v r good =
    let h = sound _ good in
    let h28 = none_of (record_checks v r) h 5 in
    let h21 = first_none _ _ h in
    let h25 = first_none _ _ h21.1 in
    let h12 = first_none _ _ h25.1 in
    let h26 = first_none _ _ h12.1 in
    let h27 = first_none _ _ h26.1 in
    let rest = first_none _ _ h27.1 in
    checked r.content h28 (first_none _ _ rest.1).1

-- ---- the pieces of the slices that are given

-- they lie in the slices
pub record Lies (u : Used) (name names rest : ℕ) : Type 0 where
  pub name_fits : u.name ≤ name
  pub names_fit : u.names ≤ names
  pub rest_fits : u.rest ≤ rest

pub used_lies : (fields : Fields) (name names rest : ℕ) → Lies (used_of fields name names rest) name names rest
used_lies (Fields.Text e) name names rest = omega arith
used_lies (Fields.Popularimeter r c) name names rest = omega arith
used_lies (Fields.Table f b m v w) name names rest = omega arith
used_lies (Fields.Chapter a b c d) name names rest = omega arith
used_lies (Fields.Contents t o) name names rest = omega arith
used_lies Fields.Raw name names rest = omega arith

-- and are the pieces of the body
pub record Parts (fields : Fields) (name names rest ds : List ℕ) (u : Used) : Type 0 where
  pub name_is : take u.name name ≡ (layout_of (content_of fields name names rest ds)).name
  pub names_are : take u.names names ≡ (layout_of (content_of fields name names rest ds)).names
  pub rest_is : take u.rest rest ++ packed_of fields ds ≡ (layout_of (content_of fields name names rest ds)).rest

pub used_parts : (fields : Fields) (name names rest ds : List ℕ) → Parts fields name names rest ds (used_of fields (length name) (length names) (length rest))
used_parts (Fields.Text e) name names rest ds = record { name_is = refl; names_are = refl; rest_is = rw (take-length, append-nil) }
used_parts (Fields.Popularimeter r c) name names rest ds = record { name_is = take-length name; names_are = refl; rest_is = refl }
used_parts (Fields.Table f b m v w) name names rest ds = record { name_is = refl; names_are = refl; rest_is = refl }
used_parts (Fields.Chapter a b c d) name names rest ds = record { name_is = take-length name; names_are = refl; rest_is = rw (take-length, append-nil) }
used_parts (Fields.Contents t o) name names rest ds = record {
  name_is = take-length name;
  names_are = take-length names;
  rest_is = rw (take-length, append-nil);
}
used_parts Fields.Raw name names rest ds = record { name_is = refl; names_are = refl; rest_is = rw (take-length, append-nil) }

-- the bytes made of the numbers stand after the name
pub parts_body : {fields : Fields} {name names rest ds : List ℕ} {u : Used} (small : List ℕ) → Parts fields name names rest ds u
    → small ≡ (layout_of (content_of fields name names rest ds)).small
    → body_bytes (content_of fields name names rest ds) ≡ (take u.name name ++ (small ++ (take u.names names ++ take u.rest rest))) ++ packed_of fields ds
parts_body {fields} {name} {names} {rest} {ds} {u} small p e =
    rw (layout_body, ← p.name_is, ← e, ← p.names_are, ← p.rest_is) (sym (simp append_assoc))

-- the names that a kind has are few, and its references can be put
module _ (name names rest ds : List ℕ) where
  pub few_names : (fields : Fields) → Puttable (content_of fields name names rest ds) → (any : List ℕ) → zeros_in (layout_of (content_of fields name names rest any)).names ≤ 255
  unfolding zeros_in
  few_names (Fields.Text e) p any = omega arith
  few_names (Fields.Popularimeter r c) p any = omega arith
  few_names (Fields.Table f b m v w) p any = omega arith
  few_names (Fields.Chapter a b c d) p any = omega arith
  few_names (Fields.Contents t o) p any = p
  few_names Fields.Raw p any = omega arith

  pub references_puttable : (fields : Fields) → Puttable (content_of fields name names rest ds) → Puttable (content_of fields [] [] [] ds)
  unfolding zeros_in
  references_puttable (Fields.Text e) p = tt
  references_puttable (Fields.Popularimeter r c) p = tt
  references_puttable (Fields.Table f b m v w) p = p
  references_puttable (Fields.Chapter a b c d) p = tt
  references_puttable (Fields.Contents t o) p = omega arith
  references_puttable Fields.Raw p = tt

-- no other kind than a table has references
pub no_references : (fields : Fields) (ds : List ℕ) → ((f b m v w : ℕ) → fields ≡ Fields.Table f b m v w → ⊥) → packed_of fields ds ≡ []
no_references (Fields.Text e) ds other = refl
no_references (Fields.Popularimeter r c) ds other = refl
no_references (Fields.Table f b m v w) ds other = absurd (other f b m v w refl)
no_references (Fields.Chapter a b c d) ds other = refl
no_references (Fields.Contents t o) ds other = refl
no_references Fields.Raw ds other = refl
