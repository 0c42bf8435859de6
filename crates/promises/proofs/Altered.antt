-- Writers with their altered mark on or off: what they keep is read back, and what was begun stays. Assumes nothing.
use mathlib.Core.Path.{refl, sym, ap, ◌∙◌, subst}
use Prim.Native.Nat.{◌+◌, ◌≤◌}
use native.Mathlib.Omega.{arith}
use mathlib.Core.Bool.{not}
use lib.ListN.{length, length-replicate}
use lib.Dec.{ltb, eqb}
use Rattle.format.specs.Bytes.{zeros}
use Rattle.format.specs.Unsynch.{NoSync}
use Rattle.format.specs.Header.{version_of}
use Rattle.format.specs.Numbered.{mode_of}
use Rattle.format.specs.Encode.{encode, is_lost, refusal_of}
use Rattle.format.proofs.Checks.{of_picked}
use Rattle.writer.specs.Writer.{Adding, add_of}
use Rattle.writer.specs.Answers.{added_writer}
use Rattle.writer.specs.declared.Writer.{Writer}
use Rattle.promises.specs.Reading.{Reading}
use Rattle.promises.specs.Written.{kept_of}
use Rattle.promises.specs.Altered.{KeptBack, OneKept, KeptStandard, KeptTag, SameBegun, AddKeeps, AsBegun}
use Rattle.promises.proofs.Adding.{last_version, last_mode, last_altered, told_as}
use Rattle.promises.proofs.RoundTrip.{none_short, tag_back}
use Rattle.promises.proofs.NoSync.{standard_tag}

pub kept_back : KeptBack
kept_back version mode padding altered records tag work w room =
    let t = told_as version mode altered padding records tag w in
    let v = version_of version in
    let m = mode_of mode in
    let kept = kept_of v altered records in (
      rw t.is_tag_lem (tag_back v m padding kept work t.sounds t.small (rw t.is_tag_lem at room)),
      none_short v m t.sounds,
    )

pub one_kept : OneKept
one_kept version mode padding altered altered' records records' tag w w' =
    let work = zeros (length tag) in
    let room : length tag ≤ length work = simp length-replicate (omega arith) in
    let a = (kept_back version mode padding altered records tag work w room).0 in
    let b = (kept_back version mode padding altered' records' tag work w' room).0 in
    ap (λ (x : Reading). x.0) (sym a ∙ b)

pub kept_standard : KeptStandard
kept_standard version padding altered records tag w =
    let t = told_as version 2 altered padding records tag w in
    subst NoSync (sym t.is_tag_lem) (standard_tag (version_of version) padding (kept_of (version_of version) altered records) t.sounds)

pub kept_tag : KeptTag
kept_tag version mode padding altered records tag w =
    let t = told_as version mode altered padding records tag w in
    (t.is_tag_lem, t.is_count)

-- ---- version, mode and mark

abbrev SameBy : Writer → Adding → Type 0
SameBy w o = SameBegun w (added_writer o.0)

pub add_keeps : AddKeeps
unfolding add_of
add_keeps w r b =
    of_picked (SameBy w) (not (eqb (refusal_of w.version w.mode w.altered r) 0)) (λ t. record { version = refl; mode = refl; altered = refl })
    (λ t. of_picked (SameBy w) (is_lost w.version w.altered r.id) (λ l. record { version = refl; mode = refl; altered = refl })
    (λ l. of_picked (SameBy w) (ltb (length b) (w.used + length (encode w.version w.mode r)))
    (λ s. record { version = refl; mode = refl; altered = refl }) (λ s. record { version = refl; mode = refl; altered = refl })))

pub as_begun : AsBegun
as_begun version mode padding altered records tag w = record {
  version = last_version version mode altered padding records tag w;
  mode = last_mode version mode altered padding records tag w;
  altered = last_altered version mode altered padding records tag w;
}
