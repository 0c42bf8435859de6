-- Tags that were written with mode off are plain, and raising in them is accepted whenever the sum fits. Assumes nothing.
use mathlib.Core.Path.{◌≡◌, refl, sym, ap, ◌∙◌, subst}
use Prim.Native.Nat.{ℕ, zero, suc, ◌+◌, ◌^◌, ◌<◌}
use native.Mathlib.Omega.{arith}
use mathlib.Core.Bool.{false, true}
use mathlib.Core.List.{List, [], ◌∷◌, ◌++◌}
use lib.ListN.{length, take, drop, get_or}
use lib.Seq.{length-take-le, drop-append-add, take-length}
use Rattle.format.specs.Bytes.{has, zero_at}
use Rattle.format.specs.Numbers.{digits}
use Rattle.format.specs.Header.{flags_of, version_of}
use Rattle.format.specs.Popularimeter.{popularimeter_refusal, counter_of, counter_bytes}
use Rattle.format.specs.Record.{Rec, Content, popularimeter, body_refusal}
use Rattle.format.specs.Encode.{kind_in, body_bytes, encode, tag_of}
use Rattle.format.specs.declared.Version.{Version}
use Rattle.format.specs.declared.Mode.TheVariants.{Off}
use Rattle.format.specs.declared.Kind.{Kind}
use Rattle.format.proofs.Accepted.{Sound}
use Rattle.format.proofs.ReadBack.{ReadBack}
use Rattle.promises.specs.Promises.{frames_of}
use Rattle.promises.specs.Written.{Written}
use Rattle.promises.proofs.Adding.{told_written}
use Rattle.promises.proofs.Sounds.{Sounds}
use Rattle.blocks.specs.Blocks.{blocks_in, region_in}
use Rattle.blocks.proofs.Encoded.{encoded}
use Rattle.blocks.proofs.Bodies.{reads_length}
use Rattle.blocks.proofs.Plain.{plain_blocks}
use Rattle.blocks.proofs.Writes.{written_plain}
use Rattle.format.proofs.Popularimeter.{taken_counted}
use Rattle.blocks.proofs.Seen.{content_in, seen_is}
use Rattle.format.specs.Looks.{tag_look}
use Rattle.raise.specs.Raise.{field_in, places_from, block_at, Answer, tag_version, tag_blocks}
use Rattle.raise.specs.Promises.{counted, records_from, PlainRuns, WrittenRaises}
use Rattle.raise.proofs.Plainness.{AllPlain, records_of, plain_read, plain_tag}
use Rattle.raise.proofs.Stored.{field_is}
use Rattle.raise.proofs.OffFrames.{off_block, off_body, off_plain}
use Rattle.raise.proofs.Search.{found}
use Rattle.raise.proofs.Records.{places_records, reads_one}
use Rattle.raise.proofs.Accepting.{sum_at, Accepted, accept}
use Rattle.std.specs.Prelude.{Ok}

-- what the parts of a body show is what the body holds
view_is : (v : Version) (b : List ℕ) (c : Content) → ReadBack v c → body_bytes c ≡ b → content_in v b (kind_in c) ≡ c
view_is v b c back e =
    let there : take (length (body_bytes c)) (drop 0 (body_bytes c)) ≡ body_bytes c = take-length (body_bytes c) in
    ap (λ (l : List ℕ). content_in v l (kind_in c)) (sym e) ∙ sym (seen_is v (body_bytes c) (kind_in c) 0 (body_bytes c) there) ∙ back.view 0 (body_bytes c) there

-- ---- the counter's bytes of a popularimeter that was written

off_field : (v : Version) (id : ℕ) (user : List ℕ) (rating counter : ℕ) → Sound v Off (counted id user rating counter)
    → (field_in v (encode v Off (counted id user rating counter)) ≡ counter_bytes counter) × (counter_of (counter_bytes counter) ≡ counter)
unfolding off_block body_bytes body_refusal
off_field v id user rating counter sound =
    let r = counted id user rating counter in
    let b = user ++ (0 ∷ rating ∷ counter_bytes counter) in
    let taken : popularimeter_refusal b ≡ 0 = sound.back.taken in
    let rated = (taken_counted b taken).rated in
    let view : content_in v b Kind.Popularimeter ≡ popularimeter user rating counter = view_is v b (popularimeter user rating counter) sound.back refl in
    let name : take (zero_at b) b ≡ user = cc in
    let count : counter_of (drop (zero_at b + 2) b) ≡ counter = cc in
    let zero_is : zero_at b ≡ length user = sym (length-take-le (zero_at b) b (omega arith)) ∙ ap length name in
    let rest : drop (zero_at b + 2) b ≡ counter_bytes counter = ap (λ (n : ℕ). drop (n + 2) b) zero_is ∙ drop-append-add user (0 ∷ rating ∷ counter_bytes counter) 2 in
    (field_is (off_block v r sound) ∙ ap (λ (l : List ℕ). drop (zero_at l + 2) l) (off_body v r sound) ∙ rest, ap counter_of (sym rest) ∙ count)

-- ---- lists

off_blocks : (v : Version) {rs : List Rec} → Sounds v Off rs → PlainRuns v rs → AllPlain v (encoded v Off rs)
off_blocks v Sounds.nothing PlainRuns.none = AllPlain.none
off_blocks v (Sounds.also {r} s ss) (PlainRuns.also p ps) = AllPlain.also (off_plain v r s p) (off_blocks v ss ps)

pub encoded_at : (v : Version) (rs : List Rec) (i : ℕ) (d : Rec) → i < length rs → block_at (encoded v Off rs) i ≡ encode v Off (get_or rs i d)
encoded_at v [] i d lt = absurd (omega arith)
encoded_at v (r ∷ rs) zero d lt = refl
encoded_at v (r ∷ rs) (suc i) d lt = encoded_at v rs i d (omega arith)

sound_at : (v : Version) {rs : List Rec} → Sounds v Off rs → (i : ℕ) (d : Rec) → i < length rs → Sound v Off (get_or rs i d)
sound_at v Sounds.nothing i d lt = absurd (omega arith)
sound_at v (Sounds.also s ss) zero d lt = s
sound_at v (Sounds.also s ss) (suc i) d lt = sound_at v ss i d (omega arith)

off_flags : (v : Version) (p : ℕ) (f : List ℕ) → has 0x80 (flags_of (tag_of v Off p f)) ≡ false
unfolding tag_of digits
off_flags v p f = refl

-- ---- the tag

pub written_looks : (version padding : ℕ) (records : List Rec) (tag : List ℕ) → Written version 0 padding records tag → PlainRuns (version_of version) records
    → tag_look tag ≡ Ok true
written_looks version padding records tag w runs =
    let v = version_of version in
    let t = told_written version 0 padding records tag w in
    plain_tag (written_plain version padding records tag w) (off_blocks v t.sounds runs)
    (ap (λ (l : List ℕ). has 0x80 (flags_of l)) t.is_tag_lem ∙ off_flags v padding (frames_of v Off records))

pub written_raises : WrittenRaises
written_raises version padding records tag user i id rating counter amount w runs only is small fits =
    let v = version_of version in
    let r = counted id user rating counter in
    let t = told_written version 0 padding records tag w in
    let p = written_plain version padding records tag w in
    let ps = off_blocks v t.sounds runs in
    let blocks : tag_blocks tag ≡ encoded v Off records = ap (λ (u : Version). blocks_in u (region_in tag)) p.version ∙ plain_blocks p in
    let same : records_of ps ≡ records = reads_one (plain_read ps) p.reads in
    let places : places_from v user 0 (encoded v Off records) ≡ i ∷ [] = places_records user 0 ps ∙ ap (records_from user 0) same ∙ only in
    let found_there = found v user (encoded v Off records) i [] places in
    let inside : i < length records = omega (arith, found_there.0, reads_length p.reads) in
    let sound : Sound v Off r = subst (Sound v Off) is (sound_at v t.sounds i r inside) in
    let block : block_at (tag_blocks tag) i ≡ encode v Off r = ap (λ (l : List (List ℕ)). block_at l i) blocks ∙ encoded_at v records i r inside ∙ ap (encode v Off) is in
    let f = off_field v id user rating counter sound in
    let field : field_in (tag_version tag) (block_at (tag_blocks tag) i) ≡ counter_bytes counter =
    ap (λ (u : Version). field_in u (block_at (tag_blocks tag) i)) p.version ∙ ap (field_in v) block ∙ f.0 in
    let sum : sum_at tag i amount ≡ counter + amount = ap (λ (l : List ℕ). counter_of l + amount) field ∙ ap (λ (n : ℕ). n + amount) f.1 in
    let a : Accepted tag user amount = record {
      looks = written_looks version padding records tag w runs;
      i = i;
      only = ap (λ (u : Version). places_from u user 0 (tag_blocks tag)) p.version ∙ ap (places_from v user 0) blocks ∙ places;
      small = subst (λ (n : ℕ). n < 2 ^ 64) (sym sum) small;
      fits = subst (λ (n : ℕ). n < 256 ^ length (field_in (tag_version tag) (block_at (tag_blocks tag) i))) (sym sum)
          (subst (λ (l : List ℕ). counter + amount < 256 ^ length l) (sym field) fits);
    } in
    ap (λ (o : Answer). o.0) (accept a) ∙ ap Ok sum
