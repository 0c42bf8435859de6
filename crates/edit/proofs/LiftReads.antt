-- An accepted lift: the tag reads as before with that one counter; another user's records are read the same after any lift. Assumes nothing.
use mathlib.Core.Path.{◌≡◌, refl, sym, ap, ◌∙◌, subst}
use Prim.Native.Nat.{ℕ}
use native.Mathlib.Omega.{arith}
use mathlib.Core.List.{List, []}
use lib.Seq.{get_or-set_other}
use Rattle.format.specs.Popularimeter.{counter_of}
use Rattle.promises.specs.Reading.{Reading, read_all}
use Rattle.blocks.proofs.Bodies.{reads_length}
use Rattle.blocks.proofs.Plain.{plain_reads}
use Rattle.raise.specs.Raise.{field_in, block_at, tag_version, tag_blocks}
use Rattle.raise.specs.Promises.{theirs_in}
use Rattle.raise.proofs.Accepting.{sum_at}
use Rattle.raise.proofs.Records.{places_records}
use Rattle.raise.proofs.Promises.{not_theirs, theirs_set}
use Rattle.edit.specs.Lift.{meter_id, lifted_of}
use Rattle.edit.specs.LiftPromises.{Lifting, LiftReads, LiftRefusedSame, LiftOthersRead}
use Rattle.edit.proofs.LiftAccepting.{lift_block, tag_lifted, Lifted}
use Rattle.edit.proofs.LiftCame.{lift_accepted, lift_refused}
use Rattle.edit.proofs.LiftAfter.{was_plain, lt, rating, records_before, record_was, after_plain, front_same, length_same, back_same, after_blocks, after_looks}
use Rattle.std.specs.Prelude.{Result, Ok, Err}
use Rattle.format.specs.declared.refusals.Refusal.{Refusal}

module _ {tag user : List ℕ} {amount : ℕ} (a : Lifted tag user amount) where
  lifting : Lifting tag user amount (sum_at tag a.i amount) (tag_lifted tag a.i amount)
  lifting = record {
    records = records_before a;
    before = plain_reads (was_plain a).is;
    i = a.i;
    id = meter_id (tag_version tag);
    rating = rating a;
    counter = counter_of (field_in (tag_version tag) (block_at (tag_blocks tag) a.i));
    only = sym (places_records user 0 (was_plain a).blocks) ∙ a.only;
    inside = omega (arith, lt a, reads_length (was_plain a).is.reads);
    was = record_was a;
    sum = refl;
    after = plain_reads (after_plain a);
    same_header = front_same a;
    same_behind = back_same a;
    same_length = length_same a;
    same_frames = λ j ne. ap (λ (l : List (List ℕ)). block_at l j) (after_blocks a)
        ∙ get_or-set_other (tag_blocks tag) a.i j (lift_block (tag_version tag) (block_at (tag_blocks tag) a.i) (sum_at tag a.i amount)) [] ne;
    plain = after_looks a;
  }

pub lift_reads : LiftReads
lift_reads tag user amount n tag' e =
    let g = lift_accepted tag user amount e in
    subst (λ (m : ℕ). Lifting tag user amount m tag') (sym g.sum)
    (subst (λ (t : List ℕ). Lifting tag user amount (sum_at tag g.was.i amount) t) (sym g.tag_is) (lifting g.was))

-- ---- a refused lift

pub lift_refused_same : LiftRefusedSame
lift_refused_same tag user amount k tag' e = (lift_refused tag user amount e).0

-- ---- another user's records

pub lift_others_read : LiftOthersRead
lift_others_read tag user other amount work apart = by (lifted_of tag user amount).0 (lifted_of tag user amount).1 refl
  where
    by : (r : Result ℕ Refusal) (t : List ℕ) → lifted_of tag user amount ≡ (r, t) → theirs_in other (read_all t work).0 ≡ theirs_in other (read_all tag work).0
    by (Ok n) t e =
        let g = lift_reads tag user amount n t e in
        let no = not_theirs user other apart in
        ap (λ (o : Reading). theirs_in other o.0) (g.after work)
        ∙ theirs_set other g.records g.i _ _ _ g.inside g.was no no
        ∙ sym (ap (λ (o : Reading). theirs_in other o.0) (g.before work))
    by (Err k) t e = ap (λ (s : List ℕ). theirs_in other (read_all s work).0) (lift_refused_same tag user amount k.number t e)
