-- In a tag that was written with mode off, every edit that its padding holds is done. Assumes nothing.
use mathlib.Core.Path.{◌≡◌, refl, sym, ap, ◌∙◌, subst}
use Prim.Native.Nat.{ℕ, suc, ◌+◌, ◌<◌}
use native.Mathlib.Omega.{arith}
use mathlib.Core.List.{List, [], ◌∷◌, append-nil}
use lib.ListN.{length, get_or}
use Rattle.format.specs.Header.{size_of, version_of}
use Rattle.format.specs.Record.{Rec}
use Rattle.format.specs.Encode.{encode}
use Rattle.format.specs.Looks.{tag_look}
use Rattle.format.specs.declared.Version.{Version}
use Rattle.format.specs.declared.Mode.TheVariants.{Off}
use Rattle.promises.specs.Written.{Written}
use Rattle.blocks.specs.Blocks.{joined, blocks_in, region_in}
use Rattle.blocks.proofs.Encoded.{encoded}
use Rattle.blocks.proofs.Bodies.{reads_length}
use Rattle.blocks.proofs.Plain.{plain_size, plain_blocks}
use Rattle.blocks.proofs.Writes.{written_plain}
use Rattle.raise.specs.Raise.{tag_version, tag_blocks}
use Rattle.raise.proofs.Written.{encoded_at, written_looks}
use Rattle.edit.specs.Promises.{Change, replacing, removing, appending, edited_of, HasRoom, WrittenEdits, WrittenFreed}
use Rattle.edit.proofs.Rooms.{no_room, splice_long, one_long, removal_fits}
use Rattle.edit.proofs.Pairs.{freed_serves}
use Rattle.std.specs.Prelude.{Ok}
use mathlib.Core.Bool.{true}

-- ---- its frames

-- the frames of a written tag, and its size
pub record Framed (padding : ℕ) (records : List Rec) (tag : List ℕ) : Type 0 where
  pub blocks : tag_blocks tag ≡ encoded (tag_version tag) Off records
  pub count : length (tag_blocks tag) ≡ length records
  pub size : size_of tag ≡ length (joined (tag_blocks tag)) + padding

pub framed : (version padding : ℕ) (records : List Rec) (tag : List ℕ) → Written version 0 padding records tag → (tag_version tag ≡ version_of version) × Framed padding records tag
framed version padding records tag w =
    let p = written_plain version padding records tag w in
    let blocks : tag_blocks tag ≡ encoded (version_of version) Off records = ap (λ (u : Version). blocks_in u (region_in tag)) p.version ∙ plain_blocks p in (
      p.version,
      record {
        blocks = blocks ∙ ap (λ (u : Version). encoded u Off records) (sym p.version);
        count = ap length blocks ∙ reads_length p.reads;
        size = plain_size p ∙ ap (λ (l : List (List ℕ)). length (joined l) + padding) (sym blocks);
      },
    )

-- ---- edits

module _ (padding : ℕ) (records : List Rec) (tag : List ℕ) (f : Framed padding records tag) where
  -- the i-th frame is the i-th record's
  old_long : (i : ℕ) (r : Rec) → i < length records → length (get_or (tag_blocks tag) i []) ≡ length (encode (tag_version tag) Off (get_or records i r))
  old_long i r lt = ap (λ (l : List (List ℕ)). length (get_or l i [])) f.blocks ∙ ap length (encoded_at (tag_version tag) records i r lt)

  has_room_lem : tag_look tag ≡ Ok true → (c : Change) → HasRoom (tag_version tag) padding records c → (edited_of tag c).0 ≡ Ok tt
  has_room_lem looks (replacing i r) h =
      let bs = tag_blocks tag in
      let v = tag_version tag in
      let lt : i < length bs = omega (arith, h.0, f.count) in
      let sum = splice_long i (suc i) (encode v Off r ∷ []) bs (omega arith) in
      let new : length (joined (encode v Off r ∷ [])) ≡ length (encode v Off r) = ap length (append-nil (encode v Off r)) in
      (no_room (replacing i r) tag looks (λ le. omega arith) h.1).1.1 (omega (arith, one_long i bs lt, old_long i r h.0, h.2, f.size))
  has_room_lem looks (removing i) h = (no_room (removing i) tag looks (λ le. omega (arith, f.count)) refl).1.1 (removal_fits tag i looks)
  has_room_lem looks (appending r) h =
      let bs = tag_blocks tag in
      let v = tag_version tag in
      let n = length bs in
      let sum = splice_long n n (encode v Off r ∷ []) bs (omega arith) in
      let new : length (joined (encode v Off r ∷ [])) ≡ length (encode v Off r) = ap length (append-nil (encode v Off r)) in
      (no_room (appending r) tag looks (λ z. z) h.0).1.1 (omega (arith, h.1, f.size))

pub written_edits : WrittenEdits
written_edits version padding records tag c w runs h =
    let f = framed version padding records tag w in
    has_room_lem padding records tag f.1 (written_looks version padding records tag w runs) c
    (subst (λ (u : Version). HasRoom u padding records c) (sym f.0) h)

pub written_freed : WrittenFreed
written_freed version padding records tag t i r w runs e h =
    let f = framed version padding records tag w in
    let k = subst (λ (u : Version). HasRoom u padding records (replacing i r)) (sym f.0) h in
    let old = old_long padding records tag f.1 i r k.0 in
    freed_serves tag t i r e k.1 (omega (arith, k.2, f.1.size))
