-- What was found in a tag, and the edit that follows from it. Assumes nothing.
use mathlib.Core.Path.{◌≡◌, refl, sym, ap, ◌∙◌}
use Prim.Native.Nat.{ℕ, zero, suc, ◌+◌, ◌≤◌, ◌<◌}
use native.Mathlib.Omega.{arith}
use mathlib.Core.Bool.{Bool, true, false}
use mathlib.Core.List.{List, [], ◌∷◌, ◌++◌, append-nil}
use lib.ListN.{length, take, length-append}
use lib.Seq.{take-length}
use lib.Dec.{ltb}
use borrow.Author.Tests.{ltb-true, ltb-false}
use Rattle.format.specs.Header.{size_of}
use Rattle.format.specs.Record.{Rec}
use Rattle.format.specs.Looks.{tag_look, Look}
use Rattle.format.specs.declared.Version.{Version}
use Rattle.moves.specs.Moves.{shifted}
use Rattle.writer.specs.declared.between.Gap.{Gap}
use Rattle.writer.specs.Between.{placed_of}
use Rattle.blocks.specs.Blocks.{joined}
use Rattle.raise.specs.Raise.{tag_version, tag_blocks}
use Rattle.raise.specs.Frames.{looked_as}
use Rattle.raise.proofs.Plainness.{tag_plain}
use Rattle.raise.specs.declared.scanning.Aim.{Aim}
use Rattle.edit.specs.declared.locating.Located.{Located}
use Rattle.laws.proofs.Results.{ok_same, err_same, ok_not_err, err_not_ok}
use Rattle.raise.specs.Scans.{aimed_on, scanned_of}
use Rattle.raise.proofs.OfScans.{of_scan, of_scanned}
use Rattle.edit.specs.Edit.{Edit, numbered, on_plain, replaced_of, removed_of, appended_of}
use Rattle.edit.specs.Locating.{located_on, located_of, located_with}
use Rattle.edit.proofs.Places.{gap_at, placed_put, shifted_away}
use Rattle.std.specs.Prelude.{Result, Ok, Err}
use Rattle.format.specs.declared.refusals.Refusal.{Refusal}
use Rattle.format.specs.Refusals.{refusal}
use Rattle.raise.specs.declared.scanning.Scanned.{Scanned}

-- ---- what a scan found

abbrev located_at : Scanned → Result Located Refusal
located_at s = Ok (located_with s.version s.aim s.last s.end)

located_scanned : (tag user : List ℕ) (number : ℕ) → of_scan located_at (scanned_of tag user number) ≡ located_of tag number
unfolding located_of located_on
located_scanned tag user number = of_scanned located_at tag user number

module _ (tag user : List ℕ) (number : ℕ) where
  pub locate_refused : {k : Refusal} → scanned_of tag user number ≡ Err k → Err k ≡ located_of tag number
  locate_refused e = ap (of_scan located_at) (sym e) ∙ located_scanned tag user number

  pub locate_found : {s : Scanned} → scanned_of tag user number ≡ Ok s → Ok (located_with s.version s.aim s.last s.end) ≡ located_of tag number
  locate_found e = ap (of_scan located_at) (sym e) ∙ located_scanned tag user number

-- ---- the frame with a number, among blocks

found_stays : (from to at : ℕ) (bs : List (List ℕ)) → aimed_on (Aim.Frame from to) at bs ≡ Aim.Frame from to
unfolding aimed_on
found_stays from to at [] = refl
found_stays from to at (b ∷ bs) = found_stays from to (at + length b) bs

-- so many blocks and more: where it lies
pub aim_lies : (n at : ℕ) (bs : List (List ℕ)) → n < length bs
    → aimed_on (Aim.Before n) at bs ≡ Aim.Frame (at + length (joined (take n bs))) (at + length (joined (take (suc n) bs)))
unfolding aimed_on
aim_lies n at [] lt = absurd (omega arith)
aim_lies zero at (b ∷ bs) lt =
    let from : at ≡ at + 0 = omega arith in
    let to : at + length b ≡ at + length (b ++ []) = ap (λ (l : List ℕ). at + length l) (sym (append-nil b)) in
    found_stays at (at + length b) (at + length b) bs ∙ ap (λ (k : ℕ). Aim.Frame k (at + length b)) from ∙ ap (Aim.Frame (at + 0)) to
aim_lies (suc n) at (b ∷ bs) lt =
    let from : at + length b + length (joined (take n bs)) ≡ at + length (b ++ joined (take n bs)) = omega (arith, length-append b (joined (take n bs))) in
    let to : at + length b + length (joined (take (suc n) bs)) ≡ at + length (b ++ joined (take (suc n) bs)) = omega (arith, length-append b (joined (take (suc n) bs))) in
    aim_lies n (at + length b) bs (omega arith) ∙ ap (λ (k : ℕ). Aim.Frame k (at + length b + length (joined (take (suc n) bs)))) from ∙ ap (Aim.Frame (at + length (b ++ joined (take n bs)))) to

-- too few: none
pub aim_beyond : (n at : ℕ) (bs : List (List ℕ)) → length bs ≤ n → (k : ℕ) × (aimed_on (Aim.Before n) at bs ≡ Aim.Before k)
unfolding aimed_on
aim_beyond n at [] le = (n, refl)
aim_beyond zero at (b ∷ bs) le = absurd (omega arith)
aim_beyond (suc n) at (b ∷ bs) le = aim_beyond n (at + length b) bs (omega arith)

before_not : {A : Type 0} {k from to : ℕ} → Aim.Before k ≡ Aim.Frame from to → A
before_not e = absurd (let z : ◌≡◌ {A = ℕ} 0 1 = cc in omega arith)

same_frame : {a b c d : ℕ} → Aim.Frame a b ≡ Aim.Frame c d → (a ≡ c) × (b ≡ d)
same_frame e = ((cc), (cc))

-- ---- in a tag

module _ (tag : List ℕ) (n : ℕ) where
  abbrev bs : List (List ℕ)
  bs = tag_blocks tag

  -- what a refusal says
  located_refused : {k : Refusal} → Err k ≡ located_of tag n → (on : Edit) → ◌≡◌ {A = Edit} (Err k, tag) (on_plain tag on (tag_look tag))
  unfolding located_of located_on
  located_refused {k} e on = by (tag_look tag) e
    where
      by : (x : Look) → Err k ≡ looked_as x (located_on (tag_version tag) n 10 (10 + size_of tag) bs) → ◌≡◌ {A = Edit} (Err k, tag) (on_plain tag on x)
      by (Err j) h = ap {B = Edit} (λ (r : Refusal). (Err r, tag)) (err_same h)
      by (Ok false) h = ap {B = Edit} (λ (r : Refusal). (Err r, tag)) (err_same h)
      by (Ok true) h = err_not_ok h

  -- what is known where frames were found
  record Known (l : Located) : Type 0 where
    pub looks : tag_look tag ≡ Ok true
    pub version : l.version ≡ tag_version tag
    pub aims : l.aim ≡ aimed_on (Aim.Before n) 10 (tag_blocks tag)
    pub lasts : l.last ≡ 10 + length (joined (tag_blocks tag))
    pub ends : l.end ≡ 10 + size_of tag

  known : {l : Located} → Ok l ≡ located_of tag n → Known l
  unfolding located_of located_on
  known {l} e = by (tag_look tag) refl e
    where
      by : (x : Look) → tag_look tag ≡ x → Ok l ≡ looked_as x (located_on (tag_version tag) n 10 (10 + size_of tag) bs) → Known l
      by (Err j) p h = ok_not_err h
      by (Ok false) p h = ok_not_err h
      by (Ok true) p h =
          let same = ok_same h in
          record {
            looks = p;
            version = ap (λ (x : Located). x.version) same;
            aims = ap (λ (x : Located). x.aim) same;
            lasts = ap (λ (x : Located). x.last) same;
            ends = ap (λ (x : Located). x.end) same;
          }

  -- ---- by its number

  number_beyond : {k : ℕ} → aimed_on (Aim.Before n) 10 bs ≡ Aim.Before k → ltb n (length bs) ≡ false
  number_beyond e = by (ltb n (length bs)) refl
    where
      by : (t : Bool) → ltb n (length bs) ≡ t → t ≡ false
      by true h = before_not (sym e ∙ aim_lies n 10 bs (ltb-true n (length bs) h))
      by false h = refl

  number_there : {from to : ℕ} → aimed_on (Aim.Before n) 10 bs ≡ Aim.Frame from to → ltb n (length bs) ≡ true
  number_there e = by (ltb n (length bs)) refl
    where
      by : (t : Bool) → ltb n (length bs) ≡ t → t ≡ true
      by true h = refl
      by false h = let b = aim_beyond n 10 bs (ltb-false n (length bs) h) in before_not (sym b.1 ∙ e)

  -- 46
  no_number : {l : Located} {k : ℕ} → Known l → l.aim ≡ Aim.Before k → (on : Edit)
      → ◌≡◌ {A = Edit} (Err (refusal 46), tag) (on_plain tag (numbered n tag on) (tag_look tag))
  no_number k e on = rw (k.looks, number_beyond (sym k.aims ∙ e))

  module _ {l : Located} {from to : ℕ} (k : Known l) (e : l.aim ≡ Aim.Frame from to) where
    there : ltb n (length bs) ≡ true
    there = number_there (sym k.aims ∙ e)

    lies : Aim.Frame from to ≡ Aim.Frame (gap_at n (suc n) tag).from (gap_at n (suc n) tag).to
    lies = sym e ∙ k.aims ∙ aim_lies n 10 bs (ltb-true n (length bs) there)

    gap_is : record { from = from; to = to; last = l.last; end = l.end } ≡ gap_at n (suc n) tag
    gap_is = rw ((same_frame lies).0, (same_frame lies).1, k.lasts, k.ends)

    replaced_found : (r : Rec) → placed_of l.version (record { from = from; to = to; last = l.last; end = l.end }) r tag ≡ replaced_of tag n r
    unfolding replaced_of
    replaced_found r =
        ap (λ (g : Gap). placed_of l.version g r tag) gap_is
        ∙ ap (λ (w : Version). placed_of w (gap_at n (suc n) tag) r tag) k.version
        ∙ placed_put (tag_plain tag k.looks) n (suc n) (omega arith) r
        ∙ rw (k.looks, there)

    removed_found : ◌≡◌ {A = Edit} (Ok tt, shifted to l.last from tag) (removed_of tag n)
    unfolding removed_of
    removed_found =
        ap {B = Edit} (λ (g : Gap). (Ok tt, shifted g.to g.last g.from tag)) gap_is
        ∙ shifted_away (tag_plain tag k.looks) n (suc n) (omega arith)
        ∙ rw (k.looks, there)

  -- ---- what the code comes to

  module _ (r : Rec) where
    pub replace_refused : {k : Refusal} → located_of tag n ≡ Err k → ◌≡◌ {A = Edit} (Err k, tag) (replaced_of tag n r)
    unfolding replaced_of
    replace_refused e = located_refused (sym e) _

    pub replace_missing : {l : Located} {k : ℕ} → located_of tag n ≡ Ok l → l.aim ≡ Aim.Before k → ◌≡◌ {A = Edit} (Err (refusal 46), tag) (replaced_of tag n r)
    unfolding replaced_of
    replace_missing e aim = no_number (known (sym e)) aim _

    pub replace_found : {l : Located} {from to : ℕ} → located_of tag n ≡ Ok l → l.aim ≡ Aim.Frame from to
        → placed_of l.version (record { from = from; to = to; last = l.last; end = l.end }) r tag ≡ replaced_of tag n r
    replace_found e aim = replaced_found (known (sym e)) aim r

  pub remove_refused : {k : Refusal} → located_of tag n ≡ Err k → ◌≡◌ {A = Edit} (Err k, tag) (removed_of tag n)
  unfolding removed_of
  remove_refused e = located_refused (sym e) _

  pub remove_missing : {l : Located} {k : ℕ} → located_of tag n ≡ Ok l → l.aim ≡ Aim.Before k → ◌≡◌ {A = Edit} (Err (refusal 46), tag) (removed_of tag n)
  unfolding removed_of
  remove_missing e aim = no_number (known (sym e)) aim _

  pub remove_found : {l : Located} {from to : ℕ} → located_of tag n ≡ Ok l → l.aim ≡ Aim.Frame from to
      → ◌≡◌ {A = Edit} (Ok tt, shifted to l.last from tag) (removed_of tag n)
  remove_found e aim = removed_found (known (sym e)) aim

-- after the last, whatever was sought
appended_found : (tag : List ℕ) {l : Located} {n : ℕ} → Known tag n l → (r : Rec)
    → placed_of l.version (record { from = l.last; to = l.last; last = l.last; end = l.end }) r tag ≡ appended_of tag r
unfolding appended_of
appended_found tag {l} k r =
    let m = length (tag_blocks tag) in
    let all : l.last ≡ 10 + length (joined (take m (tag_blocks tag))) = k.lasts ∙ ap (λ (b : List (List ℕ)). 10 + length (joined b)) (sym (take-length (tag_blocks tag))) in
    let gap : record { from = l.last; to = l.last; last = l.last; end = l.end } ≡ gap_at m m tag =
    ap (λ (i : ℕ). record { from = i; to = i; last = l.last; end = l.end }) all ∙ rw (k.lasts, k.ends) in
    ap (λ (g : Gap). placed_of l.version g r tag) gap
    ∙ ap (λ (w : Version). placed_of w (gap_at m m tag) r tag) k.version
    ∙ placed_put (tag_plain tag k.looks) m m (omega arith) r
    ∙ rw k.looks

module _ (tag : List ℕ) (n : ℕ) (r : Rec) where
  pub append_refused : {k : Refusal} → located_of tag n ≡ Err k → ◌≡◌ {A = Edit} (Err k, tag) (appended_of tag r)
  unfolding appended_of
  append_refused e = located_refused tag n (sym e) _

  pub append_found : {l : Located} → located_of tag n ≡ Ok l
      → placed_of l.version (record { from = l.last; to = l.last; last = l.last; end = l.end }) r tag ≡ appended_of tag r
  append_found e = appended_found tag (known tag n (sym e)) r
