-- Laws of putting bytes at a pen and of measuring them. Assumes nothing.
use mathlib.Core.Path.{◌≡◌, refl, sym, ap, ◌∙◌, subst}
use mathlib.Core.Logic.{inl, inr, ⊎_elim}
use Prim.Native.Nat.{ℕ, suc, ◌+◌, ◌-◌, ◌*◌, ◌^◌, ◌≤◌}
use native.Mathlib.Omega.{arith}
use mathlib.Core.Bool.{Bool, true, false, ◌&&◌}
use mathlib.Core.List.{List, [], ◌∷◌, ◌++◌}
use lib.ListN.{length, get_or, length-append}
use lib.Seq.{slice, sets, length-sets, take-length}
use lib.Dec.{eqb}
use Rattle.laws.proofs.Stores.{sets_append}
use Rattle.format.specs.Bytes.{pick, only_if}
use Rattle.format.specs.Unsynch.{guards, unsync, ends_ff}
use Rattle.format.specs.declared.Mode.{Mode}
use Rattle.format.specs.declared.Mode.TheVariants.{Off}
use Rattle.format.proofs.Unsynch.{unsync_append, unsync_off, doubled}
use Rattle.writer.specs.Pens.{pen_after, Putting, put_of, Near, Sized, Paced}
use Rattle.writer.specs.declared.pens.Pen.{Pen}

-- ---- one piece after another

pub ends_append : (prev : Bool) (a b : List ℕ) → ends_ff prev (a ++ b) ≡ ends_ff (ends_ff prev a) b
unfolding ends_ff
ends_append prev [] b = refl
ends_append prev (x ∷ a) b = ends_append (eqb x 255) a b

pen_is : {n n' : ℕ} {p p' : Bool} → n ≡ n' → p ≡ p' → ◌≡◌ {A = Pen} (record { at = n; prev = p }) (record { at = n'; prev = p' })
pen_is e f = λ i. record { at = e i; prev = f i }

module _ (m : Mode) (pen : Pen) (a b : List ℕ) where
  abbrev ua : List ℕ
  ua = unsync (guards m) pen.prev a

  abbrev ub : List ℕ
  ub = unsync (guards m) (ends_ff pen.prev a) b

  pub pen_append : pen_after m pen (a ++ b) ≡ pen_after m (pen_after m pen a) b
  pen_append =
      let n : length (ua ++ ub) ≡ length ua + length ub = length-append ua ub in
      let u : length (unsync (guards m) pen.prev (a ++ b)) ≡ length (ua ++ ub) = ap length (unsync_append (guards m) pen.prev a b) in
      pen_is (omega arith) (ends_append pen.prev a b)

  pub put_append : (o : List ℕ) → put_of m pen (a ++ b) o ≡ put_of m (pen_after m pen a) b (sets o pen.at (unsync (guards m) pen.prev a))
  put_append o =
      let s : sets o pen.at (unsync (guards m) pen.prev (a ++ b)) ≡ sets (sets o pen.at ua) (pen.at + length ua) ub =
      ap (sets o pen.at) (unsync_append (guards m) pen.prev a b) ∙ sets_append o pen.at ua ub in
      λ i. (pen_append i, s i)

  -- two calls that measure a piece each, the second by a pen or by its place alone
  then_near : {A : Type 0} (size : A → ℕ) (f : Pen → A) → ((z : Pen) → size (f z) ≡ z.at) → {r : Pen} {x : A}
      → Paced (pen_after m pen a) r → Near size (f (pen_after m r b)) x → Near size (f (pen_after m pen (a ++ b))) x
  then_near size f is {r} {x} p q =
      ⊎_elim
      (λ e. subst (λ (z : Pen). Near size (f z) x) (ap (λ (z : Pen). pen_after m z b) e ∙ sym pen_append) q)
      (λ l.
      let e : (pen_after m pen (a ++ b)).at ≡ pen.at + length ua + length ub = ap (λ (z : Pen). z.at) pen_append in
      let h : 2 ^ 28 ≤ size (f (pen_after m pen (a ++ b))) = omega (arith, is (pen_after m pen (a ++ b))) in
      inr (h, ⊎_elim (λ g. omega (arith, ap size g, is (pen_after m r b))) (λ k. k.1) q))
      p

  pub then_paced : {r x : Pen} → Paced (pen_after m pen a) r → Paced (pen_after m r b) x → Paced (pen_after m pen (a ++ b)) x
  then_paced p q = then_near (λ z. z.at) (λ z. z) (λ z. refl) p q

  pub then_sized : {r : Pen} {n : ℕ} → Paced (pen_after m pen a) r → Sized (pen_after m r b).at n → Sized (pen_after m pen (a ++ b)).at n
  then_sized p q = then_near (λ n. n) (λ z. z.at) (λ z. refl) p q

-- ---- nothing goes in where the mode is off

pub off_bytes : {m : Mode} → m ≡ Off → (prev : Bool) (s : List ℕ) → unsync (guards m) prev s ≡ s
off_bytes e prev s = rw e (unsync_off prev s)

-- ---- bytes that were put

-- by the place after them and the buffer, and whether the last of them is FF
pub pen_put : (m : Mode) (pen : Pen) (s o : List ℕ) {n : ℕ} {p : Bool} {o' : List ℕ}
    → ◌≡◌ {A = ℕ × List ℕ} (n, o') (pen.at + length (unsync (guards m) pen.prev s), sets o pen.at (unsync (guards m) pen.prev s))
    → p ≡ ends_ff pen.prev s → ◌≡◌ {A = Putting} (record { at = n; prev = p }, o') (put_of m pen s o)
pen_put m pen s o e f = λ i. (record { at = (e i).0; prev = f i }, (e i).1)

-- one byte: f says that a 00 goes in before it
module _ (m : Mode) (pen : Pen) (x : ℕ) (f : Bool) (is : f ≡ (pen.prev && guards m x)) where
  pub byte_bytes : unsync (guards m) pen.prev (x ∷ []) ≡ pick f (0 ∷ x ∷ []) (x ∷ [])
  unfolding unsync
  byte_bytes = rw (← is) (cases f)
    where
      cases : (t : Bool) → only_if t 0 (x ∷ []) ≡ pick t (0 ∷ x ∷ []) (x ∷ [])
      cases true = refl
      cases false = refl

  pub byte_pen : pen_after m pen (x ∷ []) ≡ record { at = pen.at + pick f 2 1; prev = eqb x 255 }
  unfolding ends_ff
  byte_pen = pen_is (rw byte_bytes (cases f)) refl
    where
      cases : (t : Bool) → pen.at + length (pick t (0 ∷ x ∷ []) (x ∷ [])) ≡ pen.at + pick t 2 1
      cases true = refl
      cases false = refl

-- many bytes, measured by the crate `unsynch`
pub count_all : (m : Mode) (prev : Bool) (s : List ℕ) {n : ℕ} → n ≡ length (unsync (guards m) prev (slice 0 (length s) s))
    → (n ≡ length (unsync (guards m) prev s)) × (n ≤ 2 * length s)
count_all m prev s {n} e =
    let f : n ≡ length (unsync (guards m) prev s) = e ∙ rw (take-length s) in
    (f, omega (arith, doubled (guards m) prev s))

-- ---- many bytes, in a loop

pub pen_nil : (m : Mode) (pen : Pen) → pen_after m pen [] ≡ pen
unfolding unsync ends_ff
pen_nil m pen = pen_is (omega arith) refl

-- o₀ was to take l₀ at pen₀; o has still to take l at pen
pub record Writing (m : Mode) (pen₀ : Pen) (l₀ o₀ : List ℕ) (pen : Pen) (l o : List ℕ) : Type 0 where
  pub same : put_of m pen l o ≡ put_of m pen₀ l₀ o₀
  pub long : length o ≡ length o₀
  pub room : (pen_after m pen₀ l₀).at ≤ length o₀

pub begin : (m : Mode) (pen : Pen) (l o : List ℕ) → (pen_after m pen l).at ≤ length o → Writing m pen l o pen l o
begin m pen l o h = record { same = refl; long = refl; room = h }

module _ {m : Mode} {pen₀ : Pen} {l₀ o₀ : List ℕ} {pen : Pen} {o : List ℕ} where
  -- the same list in other words
  pub same_list : {l l' : List ℕ} → l ≡ l' → Writing m pen₀ l₀ o₀ pen l o → Writing m pen₀ l₀ o₀ pen l' o
  same_list e w = subst (λ (z : List ℕ). Writing m pen₀ l₀ o₀ pen z o) e w

  -- a piece has its place, and is put
  pub piece_lies : (a b : List ℕ) → Writing m pen₀ l₀ o₀ pen (a ++ b) o → (pen_after m pen a).at ≤ length o
  piece_lies a b w =
      omega (arith, ap (λ (z : Putting). z.0.at) w.same, ap (λ (z : Pen). z.at) (pen_append m pen a b), w.long, w.room)

  pub piece_put : {pen' : Pen} {o' : List ℕ} (a b : List ℕ) → Writing m pen₀ l₀ o₀ pen (a ++ b) o → ◌≡◌ {A = Putting} (pen', o') (put_of m pen a o)
      → Writing m pen₀ l₀ o₀ pen' b o'
  piece_put a b w e = record {
    same = ap {B = Putting} (λ (z : Putting). put_of m z.0 b z.1) e ∙ sym (put_append m pen a b o) ∙ w.same;
    long = ap (λ (z : Putting). length z.1) e ∙ length-sets o pen.at (unsync (guards m) pen.prev a) ∙ w.long;
    room = w.room;
  }

  -- a byte
  pub lies : {x : ℕ} {l : List ℕ} → Writing m pen₀ l₀ o₀ pen (x ∷ l) o → (pen_after m pen (x ∷ [])).at ≤ length o
  lies {x} {l} w = piece_lies (x ∷ []) l w

  pub put : {x : ℕ} {l : List ℕ} {pen' : Pen} {o' : List ℕ} → Writing m pen₀ l₀ o₀ pen (x ∷ l) o → ◌≡◌ {A = Putting} (pen', o') (put_of m pen (x ∷ []) o)
      → Writing m pen₀ l₀ o₀ pen' l o'
  put {x} {l} w e = piece_put (x ∷ []) l w e

  -- all that is left has its place, and is put
  pub rest_lies : {l : List ℕ} → Writing m pen₀ l₀ o₀ pen l o → (pen_after m pen l).at ≤ length o
  rest_lies w = omega (arith, ap (λ (z : Putting). z.0.at) w.same, w.long, w.room)

  pub rest_put : {l : List ℕ} {pen' : Pen} {o' : List ℕ} → Writing m pen₀ l₀ o₀ pen l o → ◌≡◌ {A = Putting} (pen', o') (put_of m pen l o)
      → ◌≡◌ {A = Putting} (pen', o') (put_of m pen₀ l₀ o₀)
  rest_put w e = e ∙ w.same

  -- nothing is left
  pub done : Writing m pen₀ l₀ o₀ pen [] o → ◌≡◌ {A = Putting} (pen, o) (put_of m pen₀ l₀ o₀)
  unfolding unsync
  done w = ap {B = Putting} (λ (z : Pen). (z, o)) (sym (pen_nil m pen)) ∙ w.same

-- what measures l at pen measures l₀ at pen₀
abbrev pub Measuring : Mode → Pen → List ℕ → Pen → List ℕ → Type 0
Measuring m pen₀ l₀ pen l = (r : Pen) → Paced (pen_after m pen l) r → Paced (pen_after m pen₀ l₀) r

pub measured : (m : Mode) (pen₀ : Pen) (l₀ : List ℕ) (pen : Pen) {r : Pen} (x : ℕ) (l : List ℕ) → Measuring m pen₀ l₀ pen (x ∷ l) → Paced (pen_after m pen (x ∷ [])) r
    → Measuring m pen₀ l₀ r l
measured m pen₀ l₀ pen x l go p r q = go r (then_paced m pen (x ∷ []) l p q)

pub measured_all : (m : Mode) (pen₀ : Pen) (l₀ : List ℕ) (pen : Pen) → Measuring m pen₀ l₀ pen [] → Paced (pen_after m pen₀ l₀) pen
measured_all m pen₀ l₀ pen go = go pen (inl (sym (pen_nil m pen)))

-- ---- what the code counts and looks up

pub ends_none : (prev : Bool) (s : List ℕ) → length s ≡ 0 → prev ≡ ends_ff prev s
unfolding ends_ff
ends_none prev [] h = refl
ends_none prev (x ∷ s) h = absurd (omega arith)

pub ends_last : (prev : Bool) (s : List ℕ) → (length s ≡ 0 → ⊥) → eqb (get_or s (length s - 1) 0) 255 ≡ ends_ff prev s
unfolding ends_ff
ends_last prev [] h = absurd (h refl)
ends_last prev (x ∷ []) h = refl
ends_last prev (x ∷ y ∷ s) h =
    let e : suc (suc (length s)) - 1 ≡ suc (suc (length s) - 1) = omega arith in
    rw e (ends_last (eqb x 255) (y ∷ s) (λ z. absurd (omega arith)))
