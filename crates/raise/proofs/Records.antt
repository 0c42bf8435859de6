-- The search among blocks is the search among the records that they read as. Assumes nothing.
use mathlib.Core.Path.{◌≡◌, refl, sym, ap, ◌∙◌}
use Prim.Native.Nat.{ℕ, suc}
use native.Mathlib.Omega.{arith}
use mathlib.Core.Bool.{Bool, false, ◌&&◌}
use mathlib.Core.List.{List, []}
use lib.ListN.{drop}
use Rattle.format.specs.Record.{Rec}
use Rattle.format.specs.Walk.{is_resynced, shown_kind, shown_body}
use Rattle.format.specs.declared.Version.{Version}
use Rattle.format.specs.declared.Kind.{Kind}
use Rattle.blocks.specs.Blocks.{shows, Reads}
use Rattle.blocks.proofs.Seen.{content_in}
use Rattle.format.specs.Looks.{look_at}
use Rattle.raise.specs.Raise.{is_popularimeter, same_bytes, user_of, is_mine, places_from}
use Rattle.raise.specs.Promises.{is_users, records_from}
use Rattle.format.proofs.Looking.{frame_plain}
use Rattle.raise.proofs.Plainness.{PlainBlock, AllPlain, record_in, records_of}
use Rattle.raise.proofs.Stored.{mine_is}

users_kind : (v : Version) (user body : List ℕ) (k : Kind) → (is_popularimeter k && same_bytes (user_of body) user) ≡ is_users user (content_in v body k)
users_kind v user body Kind.Text = refl
users_kind v user body Kind.Popularimeter = refl
users_kind v user body Kind.Table = refl
users_kind v user body Kind.Chapter = refl
users_kind v user body Kind.Contents = refl
users_kind v user body Kind.Raw = refl

-- a plain block is a user's where its record is
pub mine_record : {v : Version} {b : List ℕ} (p : PlainBlock v b) (user : List ℕ) → is_mine v user b ≡ is_users user (record_in p.block).content
mine_record {v} {b} p user =
    let w = p.block in
    let body = drop w.start b in
    let kind = shown_kind v w.id w.compressed in
    let t = frame_plain v (look_at v 2) w.id w.compressed w.flagged false body p.looks in
    mine_is w user ∙ users_kind v user body kind
    ∙ ap (λ (f : Bool). is_users user (content_in v (shown_body (is_resynced w.compressed f) body) kind)) (sym t.no_flagged)

pub places_records : {v : Version} {bs : List (List ℕ)} (user : List ℕ) (k : ℕ) (ps : AllPlain v bs) → places_from v user k bs ≡ records_from user k (records_of ps)
unfolding places_from records_from
places_records user k AllPlain.none = refl
places_records {v} user k (AllPlain.also {b} {bs} p ps) = rw (mine_record p user, places_records user (suc k) ps)

-- blocks read as one list of records only
pub reads_one : {v : Version} {bs : List (List ℕ)} {rs ss : List Rec} → Reads v 0 bs rs → Reads v 0 bs ss → rs ≡ ss
reads_one Reads.none Reads.none = refl
reads_one (Reads.also {r = r} w s h) (Reads.also {r = q} w' s' h') =
    let e : shows r ≡ shows q = sym (s [] (omega arith)).0 ∙ (s' [] (omega arith)).0 in
    let f = reads_one h h' in
    cc
