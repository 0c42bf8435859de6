-- An accepted raise: the tag reads as before with that one counter, and no other byte changes. A refused one leaves all as it was. Assumes nothing.
use mathlib.Core.Path.{◌≡◌, refl, sym, ap, ◌∙◌, subst}
use Prim.Native.Nat.{ℕ, zero, suc, ◌+◌, ◌<◌}
use native.Mathlib.Omega.{arith}
use mathlib.Core.Bool.{Bool, true, false}
use mathlib.Core.List.{List, [], ◌∷◌}
use lib.ListN.{length, get_or, set}
use Rattle.laws.proofs.Stores.{take_sets, drop_behind}
use Rattle.format.specs.Popularimeter.{counter_of}
use Rattle.format.specs.Record.{Rec}
use Rattle.promises.specs.Reading.{Reading, read_all}
use Rattle.blocks.proofs.Bodies.{reads_length}
use Rattle.blocks.proofs.Plain.{plain_reads}
use Rattle.raise.specs.Raise.{field_in, field_of, block_at, place_of, counted_tag, same_bytes, tag_version, tag_blocks, raised_of}
use Rattle.raise.specs.Promises.{is_users, theirs_in, Raising, RaiseReads, RefusedSame, OthersRead}
use Rattle.raise.proofs.Accepting.{sum_at, tag_after, Accepted, accepted, refused_same}
use Rattle.raise.proofs.Stored.{same_true}
use Rattle.raise.proofs.Records.{places_records}
use Rattle.raise.proofs.After.{was_plain, lt, at_block, long, records_before, rating, record_was, after_plain, length_same, after_begin_lem, inside_tag}
use Rattle.std.specs.Prelude.{Result, Ok, Err}
use Rattle.format.specs.declared.refusals.Refusal.{Refusal}

module _ {tag user : List ℕ} {amount : ℕ} (a : Accepted tag user amount) where
  raising : Raising tag user amount (sum_at tag a.i amount) (tag_after tag a.i amount)
  unfolding counted_tag
  raising =
      let v = tag_version tag in
      let bs = tag_blocks tag in
      let field = field_in v (block_at bs a.i) in
      let x = field_of field (sum_at tag a.i amount) in
      record {
        records = records_before a;
        before = plain_reads (was_plain a).is;
        i = a.i;
        id = (at_block a).block.id;
        rating = rating a;
        counter = counter_of field;
        only = sym (places_records user 0 (was_plain a).blocks) ∙ a.only;
        inside = omega (arith, lt a, reads_length (was_plain a).is.reads);
        was = record_was a;
        sum = refl;
        after = plain_reads (after_plain a);
        at = place_of v bs a.i;
        count = length field;
        behind_header = omega arith;
        in_tag = inside_tag a;
        same_front = take_sets (place_of v bs a.i) tag (place_of v bs a.i) x (omega arith);
        same_back = drop_behind (place_of v bs a.i + length field) tag (place_of v bs a.i) x (omega (arith, long a));
        same_length = length_same a;
        same_places = after_begin_lem a;
      }

pub raise_reads : RaiseReads
raise_reads tag user amount n tag' e =
    let g = accepted tag user amount e in
    subst (λ (m : ℕ). Raising tag user amount m tag') (sym g.sum)
    (subst (λ (t : List ℕ). Raising tag user amount (sum_at tag g.was.i amount) t) (sym g.tag_is) (raising g.was))

-- ---- another user's records

-- no record is two users'
pub not_theirs : (user other : List ℕ) → (user ≡ other → ⊥) → same_bytes user other ≡ false
not_theirs user other apart = by (same_bytes user other) refl
  where
    by : (t : Bool) → same_bytes user other ≡ t → t ≡ false
    by true e = absurd (apart (same_true user other e))
    by false e = refl

-- a record that is not theirs in the place of another
pub theirs_set : (other : List ℕ) (rs : List Rec) (i : ℕ) (d r q : Rec) → i < length rs → get_or rs i d ≡ q → is_users other q.content ≡ false
    → is_users other r.content ≡ false → theirs_in other (set rs i r) ≡ theirs_in other rs
unfolding theirs_in
theirs_set other [] i d r q lt e a b = refl
theirs_set other (x ∷ rs) zero d r q lt e a b =
    let c : is_users other x.content ≡ false = ap (λ (y : Rec). is_users other y.content) e ∙ a in
    rw (b, c)
theirs_set other (x ∷ rs) (suc i) d r q lt e a b = rw (theirs_set other rs i d r q (omega arith) e a b)

pub refused_kept : RefusedSame
refused_kept tag user amount k tag' e = refused_same tag user amount e

pub others_read : OthersRead
others_read tag user other amount work apart = by (raised_of tag user amount).0 (raised_of tag user amount).1 refl
  where
    by : (r : Result ℕ Refusal) (t : List ℕ) → raised_of tag user amount ≡ (r, t) → theirs_in other (read_all t work).0 ≡ theirs_in other (read_all tag work).0
    by (Ok n) t e =
        let g = raise_reads tag user amount n t e in
        let no = not_theirs user other apart in
        ap (λ (o : Reading). theirs_in other o.0) (g.after work)
        ∙ theirs_set other g.records g.i _ _ _ g.inside g.was no no
        ∙ sym (ap (λ (o : Reading). theirs_in other o.0) (g.before work))
    by (Err k) t e = ap (λ (s : List ℕ). theirs_in other (read_all s work).0) (refused_same tag user amount e)
