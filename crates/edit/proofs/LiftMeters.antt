-- Popularimeters as blocks: a block that was found by its user, one with another counter in its bytes, and one that was encoded. Assumes nothing.
use mathlib.Core.Path.{◌≡◌, refl, sym, ap, ◌∙◌, subst}
use Prim.Native.Nat.{ℕ, suc, ◌+◌, ◌/◌, ◌^◌, ◌<◌}
use native.Mathlib.Omega.{arith}
use mathlib.Core.Bool.{Bool, true, false, ◌&&◌, not}
use mathlib.Core.List.{List, [], ◌∷◌}
use lib.ListN.{length, drop, length-append}
use lib.Seq.{sets, length-sets}
use lib.Dec.{leb, eqb, eqb-suc-zero}
use borrow.Author.Tests.{eqb-true, eq-eqb, ne_eqb}
use Rattle.laws.proofs.Stores.{take_sets}
use Rattle.format.specs.Bytes.{pick, first, zero_at, named}
use Rattle.format.specs.Numbers.{digits}
use Rattle.format.specs.Ids.{all_id_bytes, kind3, kind4, kind_of}
use Rattle.format.specs.Frame.{head_len, head_of}
use Rattle.format.specs.Popularimeter.{rating_in, counter_of, counter_bytes, popularimeter_body}
use Rattle.format.specs.Record.{Rec, popularimeter}
use Rattle.format.specs.Walk.{is_resynced, shown_kind, shown_body}
use Rattle.format.specs.Encode.{body_bytes, encode, refusal_of}
use Rattle.format.specs.Looks.{look_for, look_at}
use Rattle.format.specs.declared.Version.{Version}
use Rattle.format.specs.declared.Version.TheVariants.{Id3v22, Id3v23, Id3v24}
use Rattle.format.specs.declared.Mode.TheVariants.{Off}
use Rattle.format.specs.declared.Kind.{Kind}
use Rattle.format.specs.declared.Head.{Head}
use Rattle.format.proofs.Heads.{stands, lies}
use Rattle.format.proofs.Zeros.{zero_at_lem, take_name, drop_name, get_d_name}
use Rattle.format.proofs.Encoded.{off_flagged, encode_length}
use Rattle.format.proofs.Accepted.{Sound, accepted}
use Rattle.format.proofs.Frames.{plain_stored}
use Rattle.format.proofs.Looking.{Plainly, frame_plain}
use Rattle.format.proofs.Popularimeter.{counter_back}
use Rattle.blocks.specs.Blocks.{Block, Shows}
use Rattle.blocks.proofs.Bodies.{head_by}
use Rattle.blocks.proofs.Counters.{counted}
use Rattle.blocks.proofs.Seen.{content_in}
use Rattle.raise.specs.Raise.{head_start, is_popularimeter, same_bytes, user_of, body_in, is_mine, field_in, field_at, field_of}
use Rattle.raise.specs.Promises as promised
use Rattle.raise.proofs.Plainness.{PlainBlock, record_in, plain_shows}
use Rattle.raise.proofs.OffFrames.{off_block, off_body, off_look}
use Rattle.raise.proofs.Fields.{field_length, field_counter}
use Rattle.raise.proofs.Stored.{drop_sets, same_refl, body_is, mine_is, field_is, at_is, mine_kind, mine_user, kind_taken, long_is, new_plain, new_mine, new_at, new_field}
use Rattle.edit.specs.Lift.{meter_id, recounted}
use Rattle.edit.specs.LiftPromises.{too_long}
use Rattle.std.specs.Prelude.{Result, Option, Ok}
use Rattle.format.specs.declared.refusals.Refusal.{Refusal}

-- ---- a popularimeter's block

pub record Meter (v : Version) (b user : List ℕ) (rating counter : ℕ) : Type 0 where
  pub plain : PlainBlock v b
  pub kind : shown_kind v plain.block.id plain.block.compressed ≡ Kind.Popularimeter
  pub name : user_of (body_in v b) ≡ user
  pub rated : rating_in (body_in v b) ≡ rating
  pub counts : counter_of (field_in v b) ≡ counter

-- its record
abbrev pub meter_of : Version → List ℕ → ℕ → ℕ → Rec
meter_of v user rating counter = promised.counted (meter_id v) user rating counter

-- a plain block that is a user's
unfoldable pub found_meter : {v : Version} {b user : List ℕ} (p : PlainBlock v b) → is_mine v user b ≡ true → Meter v b user (rating_in (body_in v b)) (counter_of (field_in v b))
found_meter {v} {b} {user} p e = record {
  plain = p;
  kind = mine_kind p.block user e;
  name = ap user_of (body_is p.block) ∙ mine_user p.block user e;
  rated = refl;
  counts = refl;
}

-- ---- its id: there is one in each edition

-- the second of three choices
second_of : (t p : Bool) (x : Kind) → pick t Kind.Text (pick p Kind.Popularimeter x) ≡ Kind.Popularimeter → (x ≡ Kind.Popularimeter → ⊥) → p ≡ true
second_of true p x e h = absurd (let z : ◌≡◌ {A = ℕ} 0 1 = cc in omega arith)
second_of false true x e h = refl
second_of false false x e h = absurd (h e)

other_3 : (q : Bool) → pick q Kind.Table Kind.Raw ≡ Kind.Popularimeter → ⊥
other_3 true e = let z : ◌≡◌ {A = ℕ} 0 1 = cc in omega arith
other_3 false e = let z : ◌≡◌ {A = ℕ} 0 1 = cc in omega arith

other_4 : (q r s : Bool) → pick q Kind.Table (pick r Kind.Chapter (pick s Kind.Contents Kind.Raw)) ≡ Kind.Popularimeter → ⊥
other_4 true r s e = let z : ◌≡◌ {A = ℕ} 0 1 = cc in omega arith
other_4 false true s e = let z : ◌≡◌ {A = ℕ} 0 1 = cc in omega arith
other_4 false false true e = let z : ◌≡◌ {A = ℕ} 0 1 = cc in omega arith
other_4 false false false e = let z : ◌≡◌ {A = ℕ} 0 1 = cc in omega arith

id_3 : (id : ℕ) → kind3 id ≡ Kind.Popularimeter → id ≡ named "POP"
id_3 id e =
    eqb-true id (named "POP")
    (second_of (eqb (id / 256 ^ 2) (named "T") && not (eqb id (named "TXX"))) (eqb id (named "POP")) _ e (other_3 (eqb id (named "MLL"))))

id_4 : (id : ℕ) → kind4 id ≡ Kind.Popularimeter → id ≡ named "POPM"
id_4 id e =
    eqb-true id (named "POPM")
    (second_of (eqb (id / 256 ^ 3) (named "T") && not (eqb id (named "TXXX"))) (eqb id (named "POPM")) _ e
    (other_4 (eqb id (named "MLLT")) (eqb id (named "CHAP")) (eqb id (named "CTOC"))))

kind_id : (v : Version) (id : ℕ) → kind_of v id ≡ Kind.Popularimeter → id ≡ meter_id v
unfolding kind_of
kind_id Id3v22 id e = id_3 id e
kind_id Id3v23 id e = id_4 id e
kind_id Id3v24 id e = id_4 id e

module _ {v : Version} {b user : List ℕ} {rating counter : ℕ} (m : Meter v b user rating counter) where
  abbrev w : Block v b
  w = m.plain.block

  abbrev body : List ℕ
  body = drop w.start b

  known : Plainly v (look_at v 2) w.id w.compressed w.flagged false body
  known = frame_plain v (look_at v 2) w.id w.compressed w.flagged false body m.plain.looks

  meter_id_lem : m.plain.block.id ≡ meter_id v
  meter_id_lem = kind_id v w.id (ap (shown_kind v w.id) (sym known.no_compressed) ∙ m.kind)

  -- what it reads as
  content_is : content_in v (shown_body (is_resynced w.compressed w.flagged) body) (shown_kind v w.id w.compressed) ≡ popularimeter user rating counter
  content_is =
      ap (λ (t : Bool). content_in v (shown_body (is_resynced w.compressed t) body) (shown_kind v w.id w.compressed)) known.no_flagged
      ∙ ap (content_in v body) m.kind
      ∙ ap (λ (f : List ℕ). popularimeter (user_of body) (rating_in body) (counter_of f)) (sym (field_is w))
      ∙ ap (λ (n : ℕ). popularimeter (user_of body) (rating_in body) n) m.counts
      ∙ ap (λ (s : List ℕ). popularimeter (user_of s) (rating_in s) counter) (sym (body_is w))
      ∙ (λ j. popularimeter (m.name j) (m.rated j) counter)

  pub meter_reads : record_in m.plain.block ≡ meter_of v user rating counter
  meter_reads = (λ j. record { id = meter_id_lem j; short = false; compressed = known.no_compressed j; content = content_is j })

  pub meter_shows : Shows v 0 b (meter_of v user rating counter)
  meter_shows = subst (Shows v 0 b) meter_reads (plain_shows m.plain)

  -- whose it is
  pub meter_mine : (other : List ℕ) → is_mine v other b ≡ same_bytes user other
  meter_mine other =
      mine_is w other
      ∙ ap (λ (k : Kind). is_popularimeter k && same_bytes (user_of body) other) m.kind
      ∙ ap (λ (s : List ℕ). same_bytes s other) (ap user_of (sym (body_is w)) ∙ m.name)

  -- the popularimeter with another counter
  pub meter_again : (value : ℕ) → recounted v b value ≡ meter_of v user rating value
  meter_again value = (λ j. meter_of v (m.name j) (m.rated j) value)

-- ---- another counter in its bytes

abbrev pub counted_block : Version → List ℕ → ℕ → List ℕ
counted_block v b value = sets b (field_at v b) (field_of (field_in v b) value)

module _ {v : Version} {b user : List ℕ} {rating counter : ℕ} (m : Meter v b user rating counter) (value : ℕ) (small : value < 2 ^ 64)
    (fits : value < 256 ^ length (field_in v b)) where
  abbrev p : PlainBlock v b
  p = m.plain

  abbrev x : List ℕ
  x = field_of (field_in v b) value

  abbrev at_body : List ℕ
  at_body = drop p.block.start b

  long : length x ≡ length (field_in v b)
  long = field_length (field_in v b) value

  is_value : counter_of x ≡ value
  is_value = field_counter (field_in v b) value fits

  low : counter_of x < 2 ^ 64
  low = subst (λ (n : ℕ). n < 2 ^ 64) (sym is_value) small

  same_head : head_of v 1 (counted_block v b value) ≡ head_of v 1 b
  same_head =
      let o = p.block in
      let l = lies (stands v 1 b o.id o.compressed o.flagged false o.start o.len o.head) in
      head_by v 1 (counted_block v b value) b (take_sets (head_len v) b (field_at v b) x (omega (arith, l.head, at_is o))) (length-sets b (field_at v b) x)

  same_body : body_in v (counted_block v b value) ≡ sets at_body (zero_at at_body + 2) x
  unfolding body_in
  same_body =
      let o = p.block in
      ap (λ (h : Result (Option Head) Refusal). drop (head_start h) (counted_block v b value)) (same_head ∙ o.head)
      ∙ ap (λ (i : ℕ). drop o.start (sets b i x)) (at_is o)
      ∙ drop_sets o.start b (zero_at at_body + 2) x

  pub counted_field : field_in v (counted_block v b value) ≡ field_of (field_in v b) value
  counted_field = new_field p m.kind x long low

  pub counted_at : field_at v (counted_block v b value) ≡ field_at v b
  counted_at = new_at p m.kind x long low

  pub counted_meter : Meter v (counted_block v b value) user rating value
  counted_meter =
      let mine : is_mine v user (counted_block v b value) ≡ true = new_mine p m.kind x long low user ∙ meter_mine m user ∙ same_refl user in
      let e = counted v at_body x (kind_taken p m.kind) (long_is p m.kind x long low) in
      let rates : rating_in (sets at_body (zero_at at_body + 2) x) ≡ rating_in at_body = cc in
      let n = found_meter (new_plain p m.kind x long low) mine in
      record {
        plain = n.plain;
        kind = n.kind;
        name = n.name;
        rated = ap rating_in same_body ∙ rates ∙ ap rating_in (sym (body_is p.block)) ∙ m.rated;
        counts = ap counter_of counted_field ∙ is_value;
      }

-- ---- one that was encoded

none_look : (v : Version) → look_at v 2 [] ≡ Ok true
unfolding look_at look_for
none_look v = refl

-- how long a popularimeter's body is
abbrev pub meter_len : List ℕ → ℕ → ℕ
meter_len user value = length user + (2 + length (counter_bytes value))

module _ (v : Version) (user : List ℕ) (rating value : ℕ) where
  pub body_long : length (popularimeter_body user rating value) ≡ length user + (2 + length (counter_bytes value))
  body_long = omega (arith, length-append user (0 ∷ rating ∷ counter_bytes value))

  -- how long its frame is
  pub frame_long : length (encode v Off (meter_of v user rating value)) ≡ head_len v + meter_len user value
  unfolding body_bytes
  frame_long =
      encode_length v Off (meter_of v user rating value)
      ∙ ap (λ (s : List ℕ). head_len v + length s) (plain_stored v Off (popularimeter_body user rating value) (off_flagged v))
      ∙ ap (λ (n : ℕ). head_len v + n) body_long

  module _ (none : zero_at user ≡ length user) (small : value < 2 ^ 64) (taken : refusal_of v Off false (meter_of v user rating value) ≡ 0) where
    abbrev r : Rec
    r = meter_of v user rating value

    abbrev s : List ℕ
    s = popularimeter_body user rating value

    sound : Sound v Off r
    sound = accepted v Off r taken small

    in_body : drop (head_len v) (encode v Off r) ≡ s
    unfolding body_bytes
    in_body = off_body v r sound

    encoded_body : body_in v (encode v Off (meter_of v user rating value)) ≡ popularimeter_body user rating value
    unfolding off_block
    encoded_body = body_is (off_block v r sound) ∙ in_body

    is_kind : shown_kind v r.id false ≡ Kind.Popularimeter
    is_kind = sound.kind

    pub encoded_field : field_in v (encode v Off (meter_of v user rating value)) ≡ counter_bytes value
    unfolding field_in
    encoded_field = ap (λ (l : List ℕ). drop (zero_at l + 2) l) encoded_body ∙ drop_name user (rating ∷ counter_bytes value) none 1

    pub encoded_at : field_at v (encode v Off (meter_of v user rating value)) ≡ head_len v + (length user + 2)
    unfolding off_block
    encoded_at =
        at_is (off_block v r sound)
        ∙ ap (λ (l : List ℕ). head_len v + (zero_at l + 2)) in_body
        ∙ ap (λ (n : ℕ). head_len v + (n + 2)) (zero_at_lem user (rating ∷ counter_bytes value) none)

    pub encoded_meter : Meter v (encode v Off (meter_of v user rating value)) user rating value
    unfolding off_block
    encoded_meter = record {
      plain = record { block = off_block v r sound; looks = off_look v r sound ∙ none_look v };
      kind = is_kind;
      name = ap user_of encoded_body ∙ take_name user (rating ∷ counter_bytes value) none;
      rated = ap rating_in encoded_body ∙ get_d_name user (rating ∷ counter_bytes value) none 0;
      counts = ap counter_of encoded_field ∙ counter_back value small;
    }

-- ---- adding refuses it for nothing but its size

checked : (t : Bool) (k : ℕ) → first (pick t (suc k) 0 ∷ []) ≡ pick t (suc k) 0
unfolding first
checked true k = rw (eqb-suc-zero k)
checked false k = refl

pub adding_meter : (v : Version) (user : List ℕ) (rating value : ℕ) → zero_at user ≡ length user
    → refusal_of v Off false (meter_of v user rating value) ≡ too_long v (length user + (2 + length (counter_bytes value)))
unfolding refusal_of first body_bytes kind_of all_id_bytes digits
adding_meter Id3v22 user rating value none =
    rw (eq-eqb (zero_at user) (length user) none, body_long Id3v22 user rating value, ne_eqb (meter_len user value) 0 (λ (e : meter_len user value ≡ 0). omega arith))
    (checked (leb (2 ^ 24) (meter_len user value)) 22)
adding_meter Id3v23 user rating value none =
    rw (eq-eqb (zero_at user) (length user) none, body_long Id3v23 user rating value) (checked (leb (2 ^ 28) (meter_len user value)) 23)
adding_meter Id3v24 user rating value none =
    rw (eq-eqb (zero_at user) (length user) none, plain_stored Id3v24 Off (popularimeter_body user rating value) refl, body_long Id3v24 user rating value)
    (checked (leb (2 ^ 28) (meter_len user value)) 23)
