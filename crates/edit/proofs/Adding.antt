-- The numbers that adding refuses with: 12, and those from 21 to 34. Assumes nothing.
use mathlib.Core.Path.{◌≡◌, refl}
use mathlib.Core.Logic.{◌⊎◌, inl, inr}
use Prim.Native.Nat.{ℕ, ◌+◌, ◌%◌, ◌^◌, ◌≤◌, ◌<◌}
use native.Mathlib.Omega.{arith}
use mathlib.Core.Bool.{Bool, true, false, not, ◌&&◌, ◌||◌}
use mathlib.Core.List.{List, [], ◌∷◌, ◌++◌}
use lib.ListN.{length}
use lib.Dec.{ltb, leb, eqb}
use Rattle.format.specs.Bytes.{pick, first, zero_at, zeros_in}
use Rattle.format.specs.Ids.{is_id, kind_of}
use Rattle.format.specs.Text.{text_end}
use Rattle.format.specs.Table.{is_width, fit}
use Rattle.format.specs.Record.{Content, text, popularimeter, table, chapter, contents, raw, Rec}
use Rattle.format.specs.Walk.{walked}
use Rattle.format.specs.Encode.{kind_in, is_raw, same_kind, last_or, body_bytes, stored_of, encoding_check, text_check, name_check, children_check, run_check, table_checks, size_checks, refusal_of}
use Rattle.format.specs.declared.Version.{Version}
use Rattle.format.specs.declared.Version.TheVariants.{Id3v22, Id3v23, Id3v24}
use Rattle.format.specs.declared.Mode.{Mode}
use Rattle.raise.specs.Raise.{tag_version}
use Rattle.edit.specs.Promises.{Change, replacing, removing, appending, adding_of}

-- 0, or one of them
abbrev pub Adds : ℕ → Type 0
Adds k = (k ≡ 0) ⊎ ((k ≡ 12) ⊎ ((21 ≤ k) × (k < 35)))

data AllAdd : List ℕ → Type 0 where
  none : AllAdd []
  also : {k : ℕ} {l : List ℕ} → Adds k → AllAdd l → AllAdd (k ∷ l)

and_all : {a b : List ℕ} → AllAdd a → AllAdd b → AllAdd (a ++ b)
and_all AllAdd.none q = q
and_all (AllAdd.also k p) q = AllAdd.also k (and_all p q)

first_adds : {l : List ℕ} → AllAdd l → Adds (first l)
unfolding first
first_adds AllAdd.none = inl refl
first_adds (AllAdd.also {k} {l} h hs) = by (eqb k 0) (first_adds hs)
  where
    by : (t : Bool) → Adds (first l) → Adds (pick t (first l) k)
    by true on = on
    by false on = h

-- a check that gives its number where a test holds, or where it fails, and then others
gives : (t : Bool) (k : ℕ) {l : List ℕ} → 21 ≤ k → k < 35 → AllAdd l → AllAdd (pick t k 0 ∷ l)
gives true k a b h = AllAdd.also (inr (inr (a, b))) h
gives false k a b h = AllAdd.also (inl refl) h

else_gives : (t : Bool) (k : ℕ) {l : List ℕ} → 21 ≤ k → k < 35 → AllAdd l → AllAdd (pick t 0 k ∷ l)
else_gives true k a b h = AllAdd.also (inl refl) h
else_gives false k a b h = AllAdd.also (inr (inr (a, b))) h

-- a check that passes, and then others
passes : {l : List ℕ} → AllAdd l → AllAdd (0 ∷ l)
passes h = AllAdd.also (inl refl) h

encoding_adds : (t : Bool) → Adds (pick t 12 0)
encoding_adds true = inr (inl refl)
encoding_adds false = inl refl

content_adds : (v : Version) (c : Content)
    → AllAdd (encoding_check c ∷ text_check v c ∷ name_check c ∷ children_check c ∷ run_check v c ∷ table_checks c)
content_adds v (text e s) =
    AllAdd.also (encoding_adds (leb 4 e)) (else_gives (eqb (text_end v e s) (length s)) 26 (omega arith) (omega arith) (passes (passes (passes AllAdd.none))))
content_adds v (popularimeter user r c) =
    passes (passes (else_gives (eqb (zero_at user) (length user)) 27 (omega arith) (omega arith) (passes (passes AllAdd.none))))
content_adds v (table f b m x y ds) =
    passes (passes (passes (passes (passes
    (else_gives (is_width x && is_width y) 30 (omega arith) (omega arith)
    (else_gives (eqb ((x + y) % 4) 0) 31 (omega arith) (omega arith)
    (else_gives (leb (x + y) 64) 32 (omega arith) (omega arith)
    (else_gives ((eqb (length ds % 2) 0 && fit x y ds) && (ltb b (2 ^ 24) && ltb m (2 ^ 24))) 33 (omega arith) (omega arith)
    (gives (eqb (x + y) 4 && eqb (length ds % 4) 2) 34 (omega arith) (omega arith) AllAdd.none)))))))))
content_adds v (chapter element a b c d run) =
    passes (passes
    (else_gives (eqb (zero_at element) (length element)) 27 (omega arith) (omega arith)
    (passes (else_gives (eqb (walked true v 2 run []).0 0) 29 (omega arith) (omega arith) AllAdd.none))))
content_adds v (contents element t o children run) =
    passes (passes
    (else_gives (eqb (zero_at element) (length element)) 27 (omega arith) (omega arith)
    (else_gives (leb (zeros_in children) 255 && eqb (last_or 0 children) 0) 28 (omega arith) (omega arith)
    (else_gives (eqb (walked true v 2 run []).0 0) 29 (omega arith) (omega arith) AllAdd.none))))
content_adds v (raw body) = passes (passes (passes (passes (passes AllAdd.none))))

size_adds : (v : Version) (m : Mode) (r : Rec) → AllAdd (size_checks v m r)
size_adds Id3v22 m r =
    gives (eqb (length (body_bytes r.content)) 0) 22 (omega arith) (omega arith)
    (gives (leb (2 ^ 24) (length (body_bytes r.content))) 23 (omega arith) (omega arith) AllAdd.none)
size_adds Id3v23 m r = gives (leb (2 ^ 28) (length (stored_of Id3v23 m (body_bytes r.content)))) 24 (omega arith) (omega arith) AllAdd.none
size_adds Id3v24 m r = gives (leb (2 ^ 28) (length (stored_of Id3v24 m (body_bytes r.content)))) 24 (omega arith) (omega arith) AllAdd.none

refusal_adds : (v : Version) (m : Mode) (r : Rec) → Adds (refusal_of v m false r)
unfolding refusal_of
refusal_adds v m r =
    let k = kind_in r.content in
    first_adds (and_all
    (else_gives (is_id v r.id && (is_raw k || same_kind (kind_of v r.id) k)) 21 (omega arith) (omega arith)
    (gives ((is_raw k && not (is_raw (kind_of v r.id))) || (r.short || r.compressed)) 25 (omega arith) (omega arith) (content_adds v r.content)))
    (size_adds v m r))

pub adding_numbers : (tag : List ℕ) (c : Change) → Adds (adding_of tag c)
adding_numbers tag (replacing i r) = refusal_adds (tag_version tag) Mode.Off r
adding_numbers tag (removing i) = inl refl
adding_numbers tag (appending r) = refusal_adds (tag_version tag) Mode.Off r
