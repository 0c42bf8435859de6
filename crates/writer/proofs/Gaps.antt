-- A frame in a gap, in the steps that the code makes: each of its answers. Assumes nothing.
use mathlib.Core.Path.{◌≡◌, sym, ap, ◌∙◌}
use Prim.Native.Nat.{ℕ, ◌+◌, ◌-◌, ◌≤◌, ◌<◌}
use native.Mathlib.Omega.{arith}
use mathlib.Core.Bool.{true, false}
use mathlib.Core.List.{List, ◌++◌}
use lib.ListN.{length}
use lib.Seq.{slice, sets, length-sets}
use lib.Dec.{leb}
use borrow.Author.Tests.{ne_eqb, leb-true, le-leb, lt-leb}
use Rattle.laws.proofs.Bools.{and_true}
use Rattle.laws.proofs.Stores.{sets_append, sets_comm}
use Rattle.format.specs.Bytes.{first, zeros}
use Rattle.format.specs.Frame.{head_len}
use Rattle.format.specs.Record.{Rec}
use Rattle.format.specs.Encode.{record_checks, size_checks, refusal_of, body_bytes, stored_of, encode}
use Rattle.format.specs.declared.Version.{Version}
use Rattle.format.specs.declared.Mode.{Mode}
use Rattle.format.proofs.Encoded.{encode_length}
use Rattle.moves.specs.Moves.{shifted}
use Rattle.writer.specs.declared.between.Gap.{Gap}
use Rattle.writer.specs.Between.{is_ordered, has_room, refitted, refit_of, placed_of}
use Rattle.checks.proofs.Firsts.{only}
use Rattle.checks.proofs.Firsts.{passed as first_passed}
use Rattle.checks.proofs.Passed.{Answer, sound, unsound, stop}
use Rattle.checks.proofs.Order.{with_size}
use Rattle.std.specs.Prelude.{Result, Ok, Err}
use Rattle.format.specs.declared.refusals.Refusal.{Refusal}
use Rattle.format.specs.Refusals.{refusal, passed}

abbrev Edit : Type 0
Edit = Result Unit Refusal × List ℕ

-- ---- the checks of adding

module _ (v : Version) (g : Gap) (r : Rec) (s : List ℕ) where
  declined : {e : Refusal} → ◌≡◌ {A = Answer} (Err e) (passed (refusal_of v Mode.Off false r)) → ◌≡◌ {A = Edit} (Err e, s) (placed_of v g r s)
  unfolding placed_of
  declined is = let u = unsound _ is in rw (u.1, ne_eqb _ 0 u.0)

  -- one down to 34
  pub gap_refused : {e : Refusal} → ◌≡◌ {A = Answer} (Err e) (passed (first (record_checks v r))) → ◌≡◌ {A = Edit} (Err e, s) (placed_of v g r s)
  gap_refused is = declined (stop _ _ is ∙ ap passed (sym (with_size v Mode.Off false r)))

  -- none down to 34
  module _ (good : ◌≡◌ {A = Answer} (Ok tt) (passed (first (record_checks v r)))) where
    behind_them : refusal_of v Mode.Off false r ≡ first (size_checks v Mode.Off r)
    behind_them = with_size v Mode.Off false r ∙ first_passed _ _ (sound _ good) ∙ only _

    pub gap_too_long : {e : Refusal} → ◌≡◌ {A = Answer} (Err e) (passed (first (size_checks v Mode.Off r))) → ◌≡◌ {A = Edit} (Err e, s) (placed_of v g r s)
    gap_too_long is = declined (is ∙ ap passed (sym behind_them))

    pub gap_refit : ◌≡◌ {A = Answer} (Ok tt) (passed (first (size_checks v Mode.Off r))) → refit_of g (encode v Mode.Off r) s ≡ placed_of v g r s
    unfolding placed_of
    gap_refit is = rw (behind_them, sound _ is)

-- ---- the places

-- what is known of places in order
record Ordered (g : Gap) (n : ℕ) : Type 0 where
  pub low : g.from ≤ g.to
  pub middle : g.to ≤ g.last
  pub high : g.last ≤ g.end
  pub inside : g.end ≤ n

ordered : (g : Gap) (n : ℕ) → is_ordered g n ≡ true → Ordered g n
ordered g n e =
    let p = and_true (leb g.from g.to) _ e in
    let q = and_true (leb g.to g.last) _ p.1 in
    let r = and_true (leb g.last g.end) (leb g.end n) q.1 in
    record {
      low = leb-true g.from g.to p.0;
      middle = leb-true g.to g.last q.0;
      high = leb-true g.last g.end r.0;
      inside = leb-true g.end n r.1;
    }

-- ---- the room

pub disordered : (g : Gap) (frame s : List ℕ) → is_ordered g (length s) ≡ false → ◌≡◌ {A = Edit} (Err (refusal 20), s) (refit_of g frame s)
unfolding refit_of
disordered g frame s e = rw e

-- a header and a stored body of these lengths, between places in order
module _ (v : Version) (g : Gap) (r : Rec) (s : List ℕ) {head size : ℕ} (eh : head ≡ head_len v) (es : size ≡ length (stored_of v Mode.Off (body_bytes r.content)))
    (e : is_ordered g (length s) ≡ true) where
  abbrev frame : List ℕ
  frame = encode v Mode.Off r

  frame_long : head + size ≡ length (encode v Mode.Off r)
  frame_long = rw (eh, es) (sym (encode_length v Mode.Off r))

  pub gap_full : (g.end - g.last) + (g.to - g.from) < head + size → ◌≡◌ {A = Edit} (Err (refusal 20), s) (refit_of g (encode v Mode.Off r) s)
  unfolding refit_of
  gap_full lt =
      let o = ordered g (length s) e in
      let past : g.end < g.from + (length frame + (g.last - g.to)) = omega (arith, frame_long, o.low, o.middle, o.high, lt) in
      let full : has_room g (length frame) ≡ false = lt-leb _ _ past in
      rw (e, full)

  -- moved, and the frame put
  module _ (room : head + size ≤ (g.end - g.last) + (g.to - g.from)) where
    movable : shifted g.to g.last (g.from + (head + size)) s
        ≡ sets s (g.from + (head + size)) (slice g.to g.last s ++ zeros (g.to - (g.from + (head + size))))
    unfolding shifted
    movable =
        let o = ordered g (length s) e in
        let there : g.last ≤ length s = omega (arith, o.high, o.inside) in
        let up : g.from + (head + size) + (g.last - g.to) ≤ length s = omega (arith, o.low, o.middle, o.high, o.inside, room) in
        rw (le-leb g.to g.last o.middle, le-leb g.last (length s) there, le-leb _ _ up)

    -- the frame has its place then
    pub gap_fits : {moved : List ℕ} → moved ≡ shifted g.to g.last (g.from + (head + size)) s → g.from + length (encode v Mode.Off r) ≤ length moved
    gap_fits is =
        let o = ordered g (length s) e in
        let behind : List ℕ = slice g.to g.last s ++ zeros (g.to - (g.from + (head + size))) in
        omega (arith, frame_long, o.low, o.middle, o.high, o.inside, room, ap length (is ∙ movable), length-sets s (g.from + (head + size)) behind)

    pub gap_done : {moved left : List ℕ} → moved ≡ shifted g.to g.last (g.from + (head + size)) s → left ≡ sets moved g.from (encode v Mode.Off r)
        → ◌≡◌ {A = Edit} (Ok tt, left) (refit_of g (encode v Mode.Off r) s)
    unfolding refit_of refitted
    gap_done {moved} {left} is put =
        let o = ordered g (length s) e in
        let behind : ℕ → List ℕ = λ (n : ℕ). slice g.to g.last s ++ zeros (g.to - (g.from + n)) in
        let up : g.from + (length frame + (g.last - g.to)) ≤ g.end = omega (arith, frame_long, o.low, o.middle, o.high, room) in
        let fits : has_room g (length frame) ≡ true = le-leb _ _ up in
        let left_is : left ≡ sets s g.from (frame ++ behind (length frame)) =
        put
        ∙ ap (λ (l : List ℕ). sets l g.from frame) (is ∙ movable)
        ∙ ap (λ (n : ℕ). sets (sets s (g.from + n) (behind n)) g.from frame) frame_long
        ∙ sets_comm s g.from (g.from + length frame) frame (behind (length frame)) (omega arith)
        ∙ sym (sets_append s g.from frame (behind (length frame))) in
        rw (e, fits, left_is)
