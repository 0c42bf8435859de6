-- The search is one among the records that reading gives; a user with a zero in it is in no tag. Assumes nothing.
use mathlib.Core.Path.{◌≡◌, refl, sym, ap, ◌∙◌}
use Prim.Native.Nat.{ℕ, suc, ◌<◌}
use native.Mathlib.Omega.{arith}
use mathlib.Core.Bool.{Bool, true, false}
use mathlib.Core.List.{List, [], ◌∷◌}
use lib.ListN.{length, take, drop}
use lib.Dec.{eqb}
use Rattle.format.specs.Bytes.{pick, zero_at}
use Rattle.format.specs.declared.Version.{Version}
use Rattle.promises.specs.Reading.{Reading}
use Rattle.blocks.proofs.Plain.{plain_reads}
use Rattle.raise.specs.Raise.{is_mine, user_of, places_from, raised_of}
use Rattle.raise.specs.Promises.{records_from, SearchReads, ZeroAbsent}
use Rattle.raise.proofs.Plainness.{PlainBlock, AllPlain, tag_plain}
use Rattle.raise.proofs.Stored.{mine_user}
use Rattle.raise.proofs.Records.{places_records}

pub search_reads : SearchReads
search_reads tag user work e =
    let p = tag_plain tag e in
    places_records user 0 p.blocks ∙ ap (λ (o : Reading). records_from user 0 o.0) (sym (plain_reads p.is work))

-- what stands before the first zero has none
pub no_zero : (b : List ℕ) → zero_at (user_of b) ≡ length (user_of b)
unfolding zero_at
no_zero [] = refl
no_zero (x ∷ b) = by (eqb x 0) refl (no_zero b)
  where
    by : (t : Bool) → eqb x 0 ≡ t → zero_at (user_of b) ≡ length (user_of b)
        → zero_at (take (pick t 0 (suc (zero_at b))) (x ∷ b)) ≡ length (take (pick t 0 (suc (zero_at b))) (x ∷ b))
    by true e h = refl
    by false e h = rw e (ap suc h)

none_mine : {v : Version} {b : List ℕ} (p : PlainBlock v b) (user : List ℕ) → zero_at user < length user → is_mine v user b ≡ false
none_mine {v} {b} p user lt = by (is_mine v user b) refl
  where
    by : (t : Bool) → is_mine v user b ≡ t → t ≡ false
    by true e =
        let u = mine_user p.block user e in
        let z : zero_at user ≡ length user = ap zero_at (sym u) ∙ no_zero (drop p.block.start b) ∙ ap length u in
        absurd (omega arith)
    by false e = refl

none_places : {v : Version} {bs : List (List ℕ)} (user : List ℕ) (k : ℕ) → zero_at user < length user → AllPlain v bs → places_from v user k bs ≡ []
unfolding places_from
none_places user k lt AllPlain.none = refl
none_places user k lt (AllPlain.also p ps) = rw (none_mine p user lt, none_places user (suc k) lt ps)

pub zero_absent : ZeroAbsent
unfolding raised_of
zero_absent tag user amount e lt = rw (e, none_places user 0 lt (tag_plain tag e).blocks)
