-- The walk in an area, and bodies that are put at the front of a room. Assumes nothing.
use mathlib.Core.Path.{◌≡◌, refl, sym, ap, ◌∙◌}
use Prim.Native.Nat.{ℕ, ◌-◌, ◌≤◌}
use native.Mathlib.Omega.{arith}
use mathlib.Core.Bool.{Bool, true, false}
use mathlib.Core.List.{List, ◌++◌, append-nil}
use lib.ListN.{length, take, drop, length-drop, take-append-drop, drop_of_length-le}
use lib.Seq.{slice, take-take, take_at, drop_at, length-take-le, take_all}
use lib.Dec.{ltb}
use borrow.Rule.Slice.PartMut.{mid_of, put_mid}
use borrow.Author.Tests.{ltb-false, eq-eqb, ne_eqb, le-ltb}
use Rattle.laws.proofs.Slices.{front_length}
use Rattle.format.specs.Bytes.{pick, put_front}
use Rattle.format.specs.Unsynch.{resynchronised}
use Rattle.format.specs.Walk.{Out, and_then, behind, inside_of, resynced_of, body_of, walked}
use Rattle.format.specs.declared.Version.{Version}
use Rattle.format.specs.declared.Kind.{Kind}
use Rattle.unsynch.specs.Puts.{into_of, in_area_of}
use Rattle.walk.specs.Areas.{inside_in}
use Rattle.std.specs.Prelude.{Result, Ok, Err}
use Rattle.format.specs.declared.refusals.Refusal.{Refusal}
use Rattle.format.specs.Refusals.{refusal, passed_with}
use Rattle.walk.proofs.Answers.{passed_ok, passed_err}
use Rattle.laws.proofs.Results.{ok_same, err_same, ok_not_err, err_not_ok}

-- ---- one after the other

pub then_on : (o : Out) (k : List ℕ → Out) {left : List ℕ} → ◌≡◌ {A = Result Unit Refusal × List ℕ} (Ok tt, left) (passed_with o) → k left ≡ and_then o k
then_on o k e = rw (passed_ok o e)

pub then_halt : (o : Out) (k : List ℕ → Out) {r : Refusal} {left : List ℕ} → ◌≡◌ {A = Result Unit Refusal × List ℕ} (Err r, left) (passed_with o) → ◌≡◌ {A = Result Unit Refusal × List ℕ} (Err r, left) (passed_with (and_then o k))
then_halt o k e =
    let q = passed_err o e in
    let n = ap (λ (p : Out). p.0) q.0 in
    e ∙ ap passed_with (sym (rw (ne_eqb o.0 0 (λ z. q.1 (sym n ∙ z)))))

-- what was done in the part of a room after u
pub behind_passed : (u : List ℕ) (o : Out) {r : Result Unit Refusal} {left : List ℕ} → ◌≡◌ {A = Result Unit Refusal × List ℕ} (r, left) (passed_with o) → ◌≡◌ {A = Result Unit Refusal × List ℕ} (r, u ++ left) (passed_with (behind u o))
behind_passed u o e = ap {B = Result Unit Refusal × List ℕ} (λ (p : Result Unit Refusal × List ℕ). (p.0, u ++ p.1)) e

-- ---- the walk in an area

-- the walk of what lies from at up to end, with the room from mid on
abbrev pub ran : Bool → Version → ℕ → ℕ → ℕ → ℕ → List ℕ → Out
ran strict v depth at end mid a = behind (take mid a) (walked strict v depth (slice at end a) (drop mid a))

-- an outcome that leaves the room alone
pub still : (mid : ℕ) (a : List ℕ) {r : Result Unit Refusal} (o : Out) → ◌≡◌ {A = Result Unit Refusal × List ℕ} (r, drop mid a) (passed_with o) → ◌≡◌ {A = Result Unit Refusal × List ℕ} (r, a) (passed_with (behind (take mid a) o))
still mid a {r} o e = ap {B = Result Unit Refusal × List ℕ} (λ (z : List ℕ). (r, z)) (sym (take-append-drop mid a)) ∙ behind_passed (take mid a) o e

-- after a frame's body: a' is the area then, o what the body says of the room
module _ (strict : Bool) (v : Version) (depth at end mid stop : ℕ) (a a' : List ℕ) (o : Out) (hm : mid ≤ length a) (he : end ≤ mid)
    (f : walked strict v depth (slice at end a) (drop mid a) ≡ and_then o (walked strict v depth (slice stop end a))) where
  pub halt : {k : Refusal} → ◌≡◌ {A = Result Unit Refusal × List ℕ} (Err k, a') (passed_with (behind (take mid a) o)) → ◌≡◌ {A = Result Unit Refusal × List ℕ} (Err k, a') (passed_with (ran strict v depth at end mid a))
  halt e =
      let q = passed_err (behind (take mid a) o) e in
      let n = ap (λ (p : Out). p.0) q.0 in
      e ∙ ap (λ (x : Out). passed_with (behind (take mid a) x)) (sym (f ∙ rw (ne_eqb o.0 0 (λ z. q.1 (sym n ∙ z)))))

  pub go_on_lem : ◌≡◌ {A = Result Unit Refusal × List ℕ} (Ok tt, a') (passed_with (behind (take mid a) o)) → ran strict v depth stop end mid a' ≡ ran strict v depth at end mid a
  go_on_lem e =
      let q = passed_ok (behind (take mid a) o) e in
      let n = ap (λ (p : Out). p.0) q in
      let ea : a' ≡ take mid a ++ o.1 = sym (ap (λ (p : Out). p.1) q) in
      let lm : length (take mid a) ≡ mid = length-take-le mid a hm in
      let tm : take mid a' ≡ take mid a = ap (take mid) ea ∙ take_at (take mid a) o.1 mid lm in
      let dm : drop mid a' ≡ o.1 = ap (drop mid) ea ∙ drop_at (take mid a) o.1 mid lm in
      let te : take end a' ≡ take end a = sym (take-take end mid a' he) ∙ ap (take end) tm ∙ take-take end mid a he in
      rw (tm, dm, te) (sym (ap (behind (take mid a)) (f ∙ rw (eq-eqb o.0 0 n))))

-- ---- a body at the front of a room

-- u was put there
pub record Fitted (u room room' : List ℕ) (n : ℕ) : Type 0 where
  pub many : n ≡ length u
  pub fits : length u ≤ length room
  pub put : room' ≡ put_front u room

module _ (u room : List ℕ) where
  pub put_bytes : {n : ℕ} {left : List ℕ} → ◌≡◌ {A = Result ℕ Refusal × List ℕ} (Ok n, left) (into_of u room) → Fitted u room left n
  put_bytes {n} {left} e = by_room (ltb (length room) (length u)) refl e
    where
      by_room : (t : Bool) → ltb (length room) (length u) ≡ t → ◌≡◌ {A = Result ℕ Refusal × List ℕ} (Ok n, left) (pick t (Err (refusal 14), room) (Ok (length u), put_front u room)) → Fitted u room left n
      by_room true f h = ok_not_err (ap (λ (p : Result ℕ Refusal × List ℕ). p.0) h)
      by_room false f h = record {
        many = ok_same (ap (λ (p : Result ℕ Refusal × List ℕ). p.0) h);
        fits = ltb-false _ _ f;
        put = ap (λ (p : Result ℕ Refusal × List ℕ). p.1) h;
      }

  module _ (go : List ℕ → List ℕ → Out) (kind : Kind) where
    -- the refusal is 14
    pub put_refused : {k : Refusal} {left : List ℕ} → ◌≡◌ {A = Result ℕ Refusal × List ℕ} (Err k, left) (into_of u room) → ◌≡◌ {A = Result Unit Refusal × List ℕ} (Err k, left) (passed_with (resynced_of go kind u room))
    unfolding resynced_of
    put_refused {k} {left} e = by_room (ltb (length room) (length u)) e
      where
        by_room : (t : Bool) → ◌≡◌ {A = Result ℕ Refusal × List ℕ} (Err k, left) (pick t (Err (refusal 14), room) (Ok (length u), put_front u room))
            → ◌≡◌ {A = Result Unit Refusal × List ℕ} (Err k, left) (passed_with (pick {A = Out} t (14, room) (behind u (inside_of go kind u (drop (length u) room)))))
        by_room true h =
            ap {B = Result Unit Refusal × List ℕ} (λ (j : Refusal). (Err j, left)) (err_same (ap (λ (p : Result ℕ Refusal × List ℕ). p.0) h))
            ∙ ap {B = Result Unit Refusal × List ℕ} (λ (z : List ℕ). (Err (refusal 14), z)) (ap (λ (p : Result ℕ Refusal × List ℕ). p.1) h)
        by_room false h = err_not_ok (ap (λ (p : Result ℕ Refusal × List ℕ). p.0) h)

    -- what goes on inside it has the part after
    pub put_inside : (n : ℕ) (p : List ℕ) → Fitted u room p n → inside_in go kind (slice 0 n p) n p ≡ resynced_of go kind u room
    unfolding resynced_of
    put_inside n p f =
        let tu : take n p ≡ u = ap (take n) f.put ∙ take_at u (drop (length u) room) n (sym f.many) in
        let du : drop n p ≡ drop (length u) room = ap (drop n) f.put ∙ drop_at u (drop (length u) room) n (sym f.many) in
        rw (tu, du, le-ltb (length room) (length u) f.fits)

-- the part from split on of an area, lent and back
pub part_back : (a₁ a u p' : List ℕ) (split : ℕ) → split ≤ length a → a₁ ≡ take split a ++ u
    → (mid_of split (length a₁ - split) a₁ ≡ u) × (put_mid split (length a₁ - split) a₁ p' ≡ take split a ++ p')
part_back a₁ a u p' split hs e =
    let lm : length (take split a) ≡ split = length-take-le split a hs in
    let tm : take split a₁ ≡ take split a = ap (take split) e ∙ take_at (take split a) u split lm in
    let dm : drop split a₁ ≡ u = ap (drop split) e ∙ drop_at (take split a) u split lm in
    let lu : length a₁ - split ≡ length u = sym (length-drop split a₁) ∙ ap length dm in (
      rw dm (take_all (length a₁ - split) u (omega arith)),
      rw (tm, dm, drop_of_length-le u {i = length a₁ - split} (omega arith), append-nil),
    )

-- a body that lies before split
pub before_split : (from to split : ℕ) (a : List ℕ) → to ≤ split → slice from to (take split a) ≡ slice from to a
before_split from to split a h = ap (drop from) (take-take to split a h)

-- a body of an area that was put after split, or was to be
pub in_area_lem : (from to split : ℕ) (a : List ℕ) → to ≤ split → {p : Result ℕ Refusal} {a₁ : List ℕ} → ◌≡◌ {A = Result ℕ Refusal × List ℕ} (p, a₁) (in_area_of from to split a)
    → let o = into_of (resynchronised (slice from to a)) (drop split a) in
    ◌≡◌ {A = Result ℕ Refusal × List ℕ} (p, o.1) o × (a₁ ≡ take split a ++ o.1)
in_area_lem from to split a h e =
    let o = into_of (resynchronised (slice from to a)) (drop split a) in
    let cut = before_split from to split a h in (
      ap {B = Result ℕ Refusal × List ℕ} (λ (x : Result ℕ Refusal). (x, o.1))
          (ap (λ (x : Result ℕ Refusal × List ℕ). x.0) e ∙ ap (λ (b : List ℕ). (into_of (resynchronised b) (drop split a)).0) cut),
      ap (λ (x : Result ℕ Refusal × List ℕ). x.1) e ∙ ap (λ (b : List ℕ). take split a ++ (into_of (resynchronised b) (drop split a)).1) cut,
    )

-- what was put lies in the room, at its front
pub fitted_front : {u room p : List ℕ} {n : ℕ} → Fitted u room p n → slice 0 n p ≡ u
fitted_front {u} {room} {p} {n} f = ap (take n) f.put ∙ take_at u (drop (length u) room) n (sym f.many)

pub fitted_room : {u room p : List ℕ} {n : ℕ} → Fitted u room p n → n ≤ length p
fitted_room {u} {room} f = omega (arith, f.many, f.fits, ap length f.put, front_length u room f.fits)

-- ---- a body as it is stored

module _ (t : Bool) (go : List ℕ → List ℕ → Out) (kind : Kind) (b room : List ℕ) where
  pub as_resynced : t ≡ true → resynced_of go kind (resynchronised b) room ≡ body_of t go kind b room
  as_resynced e = rw e

  pub as_stored : t ≡ false → inside_of go kind b room ≡ body_of t go kind b room
  as_stored e = rw e
