-- The header of a finished tag, as it is read. Assumes nothing.
use mathlib.Core.Path.{◌≡◌, refl, ap}
use Prim.Native.Nat.{ℕ, ◌-◌, ◌^◌, ◌<◌}
use native.Mathlib.Omega.{arith}
use mathlib.Core.List.{List}
use lib.ListN.{length}
use Rattle.format.specs.Numbers.{digits}
use Rattle.format.specs.Header.{flags_of, size_of, version_of, ext_of}
use Rattle.format.specs.Numbered.{mode_of}
use Rattle.format.specs.Encode.{flags_byte, region_bytes, tag_of}
use Rattle.format.specs.declared.Version.{Version}
use Rattle.format.specs.declared.Mode.{Mode}
use Rattle.format.specs.declared.Mode.TheVariants.{Off, Crate, Standard}
use Rattle.format.proofs.Numbers.{synchsafe_back}
use Rattle.format.proofs.Tags.{tag_headed}
use Rattle.reader.specs.Reader.{header_of, fields_of}
use Rattle.promises.specs.Promises.{frames_of, WrittenHeader}
use Rattle.promises.proofs.Adding.{told_written}
use Rattle.std.specs.Prelude.{Ok}

pub size_there : (v : Version) (m : Mode) (p : ℕ) (f : List ℕ) → length (region_bytes v m p f) < 2 ^ 28 → size_of (tag_of v m p f) ≡ length (region_bytes v m p f)
unfolding tag_of digits
size_there v m p f small = synchsafe_back (length (region_bytes v m p f)) small

flags_there : (v : Version) (m : Mode) (p : ℕ) (f : List ℕ) → flags_of (tag_of v m p f) ≡ flags_byte m
unfolding tag_of
flags_there v m p f = refl

not_extended : (v : Version) (m : Mode) (p : ℕ) (f : List ℕ) → ext_of (tag_of v m p f) ≡ 0
unfolding tag_of ext_of
not_extended v Off p f = refl
not_extended v Crate p f = refl
not_extended v Standard p f = refl

-- The header that is read is the one that was written.
header_there : (v : Version) (m : Mode) (p : ℕ) (f : List ℕ) → length (region_bytes v m p f) < 2 ^ 28
    → header_of (tag_of v m p f) ≡ Ok (record { version = v; flags = flags_byte m; size = length (tag_of v m p f) - 10; ext = 0 })
unfolding header_of
header_there v m p f small =
    let h = tag_headed v m p f small in
    let tag = tag_of v m p f in
    let size : size_of tag ≡ length tag - 10 = omega (arith, size_there v m p f small, h.long) in
    let fields : fields_of tag ≡ record { version = v; flags = flags_byte m; size = length tag - 10; ext = 0 } =
    λ i. record { version = h.version i; flags = flags_there v m p f i; size = size i; ext = not_extended v m p f i } in
    rw h.taken (ap Ok fields)

pub written_header : WrittenHeader
written_header version mode padding records tag w =
    let t = told_written version mode padding records tag w in
    let e = header_there (version_of version) (mode_of mode) padding (frames_of (version_of version) (mode_of mode) records) t.small in
    rw (t.is_tag_lem, e) (refl, refl)
