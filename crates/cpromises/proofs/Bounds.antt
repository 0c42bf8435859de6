-- Any bytes, by the exported functions: few frames, and every reading ends. Assumes nothing.
use mathlib.Core.Path.{◌≡◌, refl, sym, ap, ◌∙◌, subst}
use Prim.Native.Nat.{ℕ, zero, suc, ◌+◌, ◌*◌, ◌≤◌}
use native.Mathlib.Omega.{arith}
use mathlib.Core.Bool.{Bool, true, false, ◌||◌}
use mathlib.Core.List.{List, [], ◌∷◌}
use lib.ListN.{length}
use borrow.Author.Tests.{ltb-true}
use Rattle.format.specs.Record.{Rec}
use Rattle.reader.specs.Reader.{open_of, step_of, Step}
use Rattle.reader.specs.Answers.{step_reader}
use Rattle.reader.specs.declared.Reader.{Reader}
use Rattle.reader.proofs.Numbered.{OfStep, step_number_lem, OfOpened, open_stopped}
use Rattle.promises.proofs.Bounds.{ahead, step_ahead, open_within}
use Rattle.capi.specs.Words.{reader_words, reader_of}
use Rattle.capi.specs.Calls.{Left2, Left3, short, sv_open, after_step, sv_step}
use Rattle.capi.proofs.Left.{enough, enough2, open_short, open_then, step_short, step_then}
use Rattle.capi.proofs.Follows.{loaded_stopped, open_next, step_next}
use Rattle.cpromises.specs.Reading.{buffer_in, unpacked, shown_in, SvReading, and_shown, on_step, sv_read_from, on_open, sv_read_for}
use Rattle.cpromises.specs.Bounds.{SvFewFrames, SvFinishes}
use Rattle.cpromises.proofs.Reading.{of_positive}
use Rattle.std.specs.Prelude.{Result, Ok, Err, Some, None}
use Rattle.format.specs.declared.refusals.Refusal.{Refusal}

-- ---- any number of steps

-- what n steps found in so many bytes, some of them spare
record Bounded (n spare : ℕ) (o : SvReading) (bytes : ℕ) : Type 0 where
  frames_bound : 6 * length o.0 ≤ bytes
  steps_bound : o.1 ≡ 0 → 6 * n + spare ≤ bytes

-- a call that answers a number other than 0
stops_bounded : (n spare bytes k : ℕ) → Bounded n spare ([], suc k) bytes
stops_bounded n spare bytes k = record { frames_bound = omega arith; steps_bound = λ z. absurd (omega arith) }

-- the words are a record, and what follows it; or they are none, or its references are refused
shown_bounded : (n bytes fewer k : ℕ) (l : List Rec) (o : SvReading) → fewer + 6 ≤ bytes → Bounded n 0 o fewer → Bounded (suc n) 0 (and_shown k l o) bytes
shown_bounded n bytes fewer zero [] o h b = stops_bounded (suc n) 0 bytes 20
shown_bounded n bytes fewer zero (r ∷ l) o h b = record { frames_bound = omega (arith, b.frames_bound); steps_bound = λ z. omega (arith, b.steps_bound z) }
shown_bounded n bytes fewer (suc k) l o h b = stops_bounded (suc n) 0 bytes k

module _ (tag : List ℕ) where
  abbrev Bounds : ℕ → Type 0
  Bounds n = (r : Reader) (work reader words numbers count : List ℕ) → reader_of reader ≡ Some r
      → Bounded n 0 (sv_read_from n tag work reader words numbers count) (ahead r tag work)

  module _ (n : ℕ) (go : Bounds n) (r : Reader) (work reader words numbers count : List ℕ) (f : reader_of reader ≡ Some r) where
    abbrev left : List ℕ
    left = (step_of r tag work).1

    abbrev Next : Left3 → Type 0
    Next o = Bounded (suc n) 0 (on_step tag (sv_read_from n tag) numbers count o) (ahead r tag work)

    module _ (e : (short 7 reader || short 19 words) ≡ false) where
      both : (7 ≤ length reader) × (19 ≤ length words)
      both = enough2 7 19 reader words e

      taken : (x : Step) → (step_of r tag work).0 ≡ x → sv_step tag work reader words ≡ after_step (x, left) reader words
      taken x s = step_then tag work reader words e {s = x} {left = left} f refl s

      next_reader : (x : Step) → (step_of r tag work).0 ≡ x → reader_of (sv_step tag work reader words).2 ≡ Some (step_reader x)
      next_reader x s = step_next tag work reader both.0 words both.1 f ∙ ap (λ (y : Step). Some (step_reader y)) s

      step_bounded : (x : Step) → (step_of r tag work).0 ≡ x → OfStep x → Next (sv_step tag work reader words)
      step_bounded (Ok (Some rec), r') s p =
          let t = taken (Ok (Some rec), r') s in
          let g : reader_of (reader_words r' reader) ≡ Some r' = sym (ap (λ (o : Left3). reader_of o.2) t) ∙ next_reader (Ok (Some rec), r') s in
          let o = after_step ((Ok (Some rec), r'), left) reader words in
          let given = o.3 in
          let buffer = buffer_in given tag left in
          let u = unpacked given buffer numbers count in
          let fewer = step_ahead r tag work rec r' s in
          subst Next (sym t)
          (shown_bounded n (ahead r tag work) (ahead r' tag left) u.0 (shown_in given buffer u) (sv_read_from n tag left o.2 given u.1 u.2) (omega arith)
          (go r' left o.2 given u.1 u.2 g))
      step_bounded (Ok None, r') s p = subst Next (sym (taken (Ok None, r') s)) (stops_bounded (suc n) 0 (ahead r tag work) 255)
      step_bounded (Err k, r') s p =
          subst Next (sym (taken (Err k, r') s))
          (of_positive (λ j. Next (j, left, reader_words r' reader, words)) (λ j. stops_bounded (suc n) 0 (ahead r tag work) j) k.number p.0.0)

    any_bounded : (t : Bool) → (short 7 reader || short 19 words) ≡ t → Next (sv_step tag work reader words)
    any_bounded true e = subst Next (sym (step_short tag work reader words e)) (stops_bounded (suc n) 0 (ahead r tag work) 19)
    any_bounded false e = step_bounded e (step_of r tag work).0 refl (step_number_lem r tag work (loaded_stopped reader r f))

  from_bounded : (n : ℕ) → Bounds n
  unfolding sv_read_from
  from_bounded zero r work reader words numbers count f = record { frames_bound = omega arith; steps_bound = λ e. omega arith }
  from_bounded (suc n) r work reader words numbers count f =
      any_bounded n (from_bounded n) r work reader words numbers count f (short 7 reader || short 19 words) refl

-- ---- opening

module _ (n : ℕ) (tag work reader words numbers count : List ℕ) where
  abbrev Opens : Left2 → Type 0
  Opens o = Bounded n 10 (on_open n tag words numbers count o) (length tag)

  module _ (h : 7 ≤ length reader) where
    abbrev after : List ℕ
    after = (open_of tag work).1

    open_bounded : (x : Result Reader Refusal) → open_of tag work ≡ (x, after) → OfOpened (x, after) → Opens (sv_open tag work reader)
    open_bounded (Ok r) e p =
        let t = open_then tag work reader {o = Ok r} {left = after} h (sym e) refl in
        let g : reader_of (reader_words r reader) ≡ Some r = sym (ap (λ (o : Left2). reader_of o.2) t) ∙ open_next tag work reader h e in
        let b = from_bounded tag n r after (reader_words r reader) words numbers count g in
        let w = open_within tag work r (ap (λ (o : Result Reader Refusal × List ℕ). o.0) e) in
        subst Opens (sym t) (record { frames_bound = omega (arith, b.frames_bound, w); steps_bound = λ z. omega (arith, b.steps_bound z, w) })
    open_bounded (Err k) e p =
        subst Opens (sym (open_then tag work reader {o = Err k} {left = after} h (sym e) refl))
        (of_positive (λ j. Opens (j, after, reader)) (λ j. stops_bounded n 10 (length tag) j) k.number p.0)

  any_open : (t : Bool) → short 7 reader ≡ t → Opens (sv_open tag work reader)
  any_open true e = subst Opens (sym (open_short tag work reader (ltb-true _ _ e))) (stops_bounded n 10 (length tag) 19)
  any_open false e = open_bounded (enough 7 reader e) (open_of tag work).0 refl (open_stopped tag work)

  all_bounded : Bounded n 10 (sv_read_for n tag work reader words numbers count) (length tag)
  unfolding sv_read_for
  all_bounded = any_open (short 7 reader) refl

pub sv_few_frames : SvFewFrames
sv_few_frames n tag work reader words numbers count =
    let b = all_bounded n tag work reader words numbers count in
    omega (arith, b.frames_bound)

pub sv_finishes : SvFinishes
sv_finishes tag work reader words numbers count e =
    let b = all_bounded (length tag) tag work reader words numbers count in
    omega (arith, b.steps_bound e)
