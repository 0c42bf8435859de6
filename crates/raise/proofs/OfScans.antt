-- A scan by the place of the frames, and what it found is what is sought of a user. Assumes nothing.
use mathlib.Core.Path.{◌≡◌, refl, sym, ap, ◌∙◌}
use Prim.Native.Nat.{ℕ, ◌+◌, ◌≤◌}
use mathlib.Core.List.{List}
use lib.ListN.{length}
use lib.Seq.{slice}
use Rattle.format.specs.Header.{size_of}
use Rattle.format.specs.Looks.{tag_look, Look}
use Rattle.format.specs.declared.Version.{Version}
use Rattle.blocks.specs.Blocks.{joined, blocks_in}
use Rattle.raise.specs.declared.users.Found.{Found}
use Rattle.raise.specs.declared.scanning.Aim.{Aim}
use Rattle.raise.specs.declared.seeking.Sought.{Sought}
use Rattle.raise.specs.Frames.{framed_of, looked_as}
use Rattle.raise.specs.declared.frames.Framed.{Framed}
use Rattle.raise.proofs.Turns.{framed_as, framed_refused, framed_looked, framed_fits}
use Rattle.raise.specs.Raise.{tag_version, tag_blocks}
use Rattle.raise.specs.Seeks.{found_on, sought_by, sought_on, sought_of}
use Rattle.raise.specs.Scans.{scanned_with, aimed_on, scanned_on, scanned_in, scanned_of}
use mathlib.Core.Bool.{true, false}
use Rattle.std.specs.Prelude.{Result, Ok, Err}
use Rattle.format.specs.declared.refusals.Refusal.{Refusal}
use Rattle.raise.specs.declared.scanning.Scanned.{Scanned}

-- ---- any answer that is made of what a scan finds

-- what is made of it: a refusal stays one
abbrev pub of_scan : {A : Type 0} → (Scanned → Result A Refusal) → Result Scanned Refusal → Result A Refusal
of_scan made (Err k) = Err k
of_scan made (Ok f) = made f

-- of a tag: by the look, and then of its blocks
pub of_scanned : {A : Type 0} (made : Scanned → Result A Refusal) (tag user : List ℕ) (number : ℕ)
    → let v = tag_version tag in
    let bs = tag_blocks tag in
    of_scan made (scanned_of tag user number)
    ≡ looked_as (tag_look tag)
    (made (scanned_with v (found_on v user Found.None 10 bs) (aimed_on (Aim.Before number) 10 bs) (10 + length (joined bs)) (10 + size_of tag)))
unfolding scanned_of scanned_on
of_scanned made tag user number = by (tag_look tag)
  where
    by : (x : Look) → let v = tag_version tag in
        let bs = tag_blocks tag in
        of_scan made (looked_as x (scanned_on v user number 10 (10 + size_of tag) bs))
        ≡ looked_as x
        (made (scanned_with v (found_on v user Found.None 10 bs) (aimed_on (Aim.Before number) 10 bs) (10 + length (joined bs)) (10 + size_of tag)))
    by (Err k) = refl
    by (Ok false) = refl
    by (Ok true) = refl

-- ---- the one of a user

abbrev pub sought_in : Result Scanned Refusal → Result Sought Refusal
sought_in o = of_scan (λ (s : Scanned). sought_by s.found s.last) o

sought_scanned : (tag user : List ℕ) (number : ℕ) → sought_in (scanned_of tag user number) ≡ sought_of tag user
unfolding sought_of sought_on
sought_scanned tag user number = of_scanned (λ (s : Scanned). sought_by s.found s.last) tag user number

module _ (tag user : List ℕ) (number : ℕ) where
  pub seek_refused : {k : Refusal} → scanned_of tag user number ≡ Err k → Err k ≡ sought_of tag user
  seek_refused e = ap sought_in (sym e) ∙ sought_scanned tag user number

  pub seek_found : {s : Scanned} → scanned_of tag user number ≡ Ok s → sought_by s.found s.last ≡ sought_of tag user
  seek_found e = ap sought_in (sym e) ∙ sought_scanned tag user number

-- ---- the scan itself

module _ (tag user : List ℕ) (number : ℕ) where
  pub scan_refused : {k : Refusal} → framed_of tag ≡ Err k → Err k ≡ scanned_of tag user number
  unfolding scanned_of
  scan_refused e = framed_refused tag _ (framed_as tag (sym e))

  pub scan_found : {f : Framed} → framed_of tag ≡ Ok f
      → scanned_in f.version user number f.begin f.end (slice f.begin f.end tag) f.odd ≡ scanned_of tag user number
  unfolding scanned_of scanned_in
  scan_found e =
      framed_looked tag (λ (v : Version) (begin end : ℕ) (s : List ℕ). scanned_on v user number begin end (blocks_in v s)) (framed_as tag (sym e))

pub scan_fits : (tag : List ℕ) {f : Framed} → framed_of tag ≡ Ok f → f.end ≤ length tag
scan_fits tag e = framed_fits (framed_as tag (sym e))
