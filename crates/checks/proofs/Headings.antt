-- Laws of a record's heading: the characters of its id, and its checks 21 and 25. Assumes nothing.
use mathlib.Core.Path.{◌≡◌, refl, sym, ap, ◌∙◌}
use Prim.Native.Nat.{ℕ, ◌/◌, ◌%◌, ◌^◌, ◌<◌}
use native.Mathlib.Nat.{div-one}
use native.Mathlib.Omega.{arith}
use mathlib.Core.Bool.{Bool, true, false, not, ◌&&◌, ◌||◌, and-true}
use mathlib.Core.List.{List, [], ◌∷◌}
use lib.Dec.{eqb, ltb}
use borrow.Author.Tests.{eq-eqb, ne_eqb, lt-ltb}
use mathlib.Core.Logic.{inl, inr}
use Rattle.std.specs.List.{list_any}
use Rattle.std.proofs.lemmas.Bool.Decides.{eqb_tells}
use Rattle.format.specs.Bytes.{pick, first, among}
use Rattle.format.specs.Numbers.{digits, bytes_of}
use Rattle.format.specs.Ids.{is_id_byte, all_id_bytes, is_id, kind_of}
use Rattle.format.specs.Record.{content_of, rec_of}
use Rattle.format.specs.Encode.{kind_in, is_raw, same_kind, id_check, raw_check}
use Rattle.format.specs.declared.Version.{Version}
use Rattle.format.specs.declared.Kind.{Kind}
use Rattle.format.specs.declared.Heading.{Heading}
use Rattle.std.specs.Prelude.{Ok, Err}
use Rattle.format.specs.declared.refusals.Refusal.{Refusal}
use Rattle.format.specs.Refusals.{refusal, passed}
use Rattle.checks.proofs.Firsts.{only}
use Rattle.checks.proofs.Firsts.{passed as first_passed}
use Rattle.checks.proofs.Passed.{Answer, stop, next}

-- ---- characters

pub three_bytes : (id : ℕ) → all_id_bytes (bytes_of 3 id) ≡ (is_id_byte (id / 0x10000 % 256) && (is_id_byte (id / 256 % 256) && is_id_byte (id % 256)))
unfolding digits all_id_bytes
three_bytes id = simp (and-true, div-one)

pub four_bytes : (id : ℕ) → id < 2 ^ 32 → (ltb id (256 ^ 4) && all_id_bytes (bytes_of 4 id)) ≡ (is_id_byte (id / 0x1000000) && all_id_bytes (bytes_of 3 id))
unfolding digits all_id_bytes
four_bytes id h =
    let high : id / 0x1000000 % 256 ≡ id / 0x1000000 = omega arith in
    rw (lt-ltb id (256 ^ 4) h, high)

-- ---- one of several ids

-- what `contains` answers
pub among_any : (n : ℕ) (l : List ℕ) → among n l ≡ list_any (λ x. eqb x n) l
unfolding among
among_any n [] = refl
among_any n (x ∷ l) =
    elim (eqb_tells x n) [
      | inl e ↦ rw (e.0, eq-eqb n x (sym e.1))
      | inr e ↦ rw (e.0, ne_eqb n x (λ h. e.1 (sym h)), among_any n l)
    ]

-- ---- 21 and 25

-- by flags: the id, a raw record, an id of no kind, the same kind, a mark
in_turn : (id own said same marked : Bool)
    → first (pick (id && (own || same)) 0 21 ∷ pick ((own && not said) || marked) 25 0 ∷ [])
    ≡ first (pick id 0 21 ∷ pick own (pick said 0 25) (pick same 0 21) ∷ pick marked 25 0 ∷ [])
unfolding first
in_turn false own said same marked = refl
in_turn true true false same marked = refl
in_turn true true true same marked = refl
in_turn true false said false marked = refl
in_turn true false said true true = refl
in_turn true false said true false = refl

module _ (v : Version) (h : Heading) (name names rest deviations : List ℕ) where
  -- the two checks
  abbrev number : ℕ
  number = first (id_check v (rec_of h name names rest deviations) ∷ raw_check v (rec_of h name names rest deviations) ∷ [])

  -- the kind of the record under that of the id
  abbrev under : Kind → Kind → ℕ
  under own said = pick (is_raw own) (pick (is_raw said) 0 25) (pick (same_kind said own) 0 21)

  abbrev marks : ℕ
  marks = pick (h.short || h.compressed) 25 0

  checks : number ≡ first (pick (is_id v h.id) 0 21 ∷ under (kind_in (content_of h.fields name names rest deviations)) (kind_of v h.id) ∷ marks ∷ [])
  checks = in_turn (is_id v h.id) _ _ _ (h.short || h.compressed)

  pub no_id : is_id v h.id ≡ false → ◌≡◌ {A = Answer} (Err (refusal 21)) (passed number)
  unfolding first
  no_id e = rw (checks, e)

  -- an id, then the kinds
  module _ (is : is_id v h.id ≡ true) (own said : Kind) (eo : own ≡ kind_in (content_of h.fields name names rest deviations)) (es : said ≡ kind_of v h.id) where
    behind : first (under own said ∷ marks ∷ []) ≡ number
    behind = let z : pick (is_id v h.id) 0 21 ≡ 0 = rw is in rw (eo, es) (sym (checks ∙ first_passed _ _ z))

    pub wrong_kind : {r : Refusal} → ◌≡◌ {A = Answer} (Err r) (passed (under own said)) → ◌≡◌ {A = Answer} (Err r) (passed number)
    wrong_kind e = stop _ _ e ∙ ap passed behind

    -- and the marks
    pub then_marks : ◌≡◌ {A = Answer} (Ok tt) (passed (under own said)) → (t : Bool) → t ≡ (h.short || h.compressed) → ◌≡◌ {A = Answer} (passed (pick t 25 0)) (passed number)
    then_marks e t is = rw is (ap passed (sym (only marks)) ∙ next _ _ e ∙ ap passed behind)
