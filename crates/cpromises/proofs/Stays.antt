-- A reader that stopped stays stopped, of sv_step. Assumes nothing.
use mathlib.Core.Path.{◌≡◌, refl, sym, ap, ◌∙◌, subst}
use Prim.Native.Nat.{ℕ, suc, ◌≤◌}
use native.Mathlib.Omega.{arith}
use mathlib.Core.Bool.{false, ◌||◌}
use mathlib.Core.List.{List, ◌++◌}
use lib.ListN.{length, drop}
use lib.Seq.{sets-eq}
use borrow.Author.Tests.{le-ltb}
use Rattle.reader.specs.Reader.{step_of, Step}
use Rattle.reader.specs.Answers.{step_reader}
use Rattle.reader.specs.declared.Reader.{Reader}
use Rattle.promises.proofs.Bounds.{refused_again, ended_again}
use Rattle.capi.specs.Words.{reader_list, reader_words, reader_of}
use Rattle.capi.specs.Calls.{Left3, short, after_step, sv_step}
use Rattle.capi.proofs.Left.{step_bad, step_then}
use Rattle.capi.proofs.Backs.{reader_behind}
use Rattle.capi.proofs.Follows.{step_next}
use Rattle.cpromises.specs.Bounds.{SvStays}
use Rattle.cpromises.proofs.Reading.{reader_length}
use Rattle.std.specs.Prelude.{Option, Ok, Err, Some, None}

-- its words put again change nothing
words_again : (r : Reader) (reader : List ℕ) → 7 ≤ length reader → reader_words r (reader_words r reader) ≡ reader_words r reader
unfolding reader_words
words_again r reader h =
    let l = reader_list r in
    let there : reader_words r reader ≡ l ++ drop 7 reader = sets-eq l reader 0 h in
    let long : 7 ≤ length (reader_words r reader) = rw (reader_length r reader) h in
    sets-eq l (reader_words r reader) 0 long ∙ ap (λ (s : List ℕ). l ++ s) (reader_behind r reader) ∙ sym there

module _ (tag work reader words tag' work' words' : List ℕ) (k : ℕ) (h : 7 ≤ length reader) (h19 : 19 ≤ length words) (h19' : 19 ≤ length words') where
  enough : (short 7 reader || short 19 words) ≡ false
  enough = rw (le-ltb _ _ h, le-ltb _ _ h19)

  abbrev Again : Left3 → Type 0
  Again o = o.0 ≡ suc k → sv_step tag' work' o.2 words' ≡ (suc k, work', o.2, words')

  enough_for : (l : List ℕ) → 7 ≤ length l → (short 7 l || short 19 words') ≡ false
  enough_for l g = rw (le-ltb _ _ g, le-ltb _ _ h19')

  module _ (r : Reader) (f : reader_of reader ≡ Some r) where
    abbrev left : List ℕ
    left = (step_of r tag work).1

    taken : (x : Step) → (step_of r tag work).0 ≡ x → sv_step tag work reader words ≡ after_step (x, left) reader words
    taken x s = step_then tag work reader words enough {s = x} {left = left} f refl s

    -- the reader that a step without a record left
    next : (x : Step) (r' : Reader) → (step_of r tag work).0 ≡ x → step_reader x ≡ r' → (after_step (x, left) reader words).2 ≡ reader_words r' reader
        → reader_of (reader_words r' reader) ≡ Some r'
    next x r' s q w =
        ap reader_of (sym (ap (λ (o : Left3). o.2) (taken x s) ∙ w))
        ∙ step_next tag work reader h words h19 f
        ∙ ap (λ (y : Step). Some (step_reader y)) s
        ∙ ap Some q

    again : (x : Step) → (step_of r tag work).0 ≡ x → Again (sv_step tag work reader words)
    again (Ok (Some rec), r') s = subst Again (sym (taken (Ok (Some rec), r') s)) (λ z. absurd (omega arith))
    again (Ok None, r') s =
        let g = next (Ok None, r') r' s refl refl in
        let long : 7 ≤ length (reader_words r' reader) = rw (reader_length r' reader) h in
        subst Again (sym (taken (Ok None, r') s))
        (λ z. step_then tag' work' (reader_words r' reader) words' (enough_for (reader_words r' reader) long) {s = (Ok None, r')} {left = work'} g (sym (ended_again r r' tag work tag' work' s)) refl
        ∙ rw (words_again r' reader h, z))
    again (Err j, r') s =
        let g = next (Err j, r') r' s refl refl in
        let long : 7 ≤ length (reader_words r' reader) = rw (reader_length r' reader) h in
        subst Again (sym (taken (Err j, r') s))
        (λ z. step_then tag' work' (reader_words r' reader) words' (enough_for (reader_words r' reader) long) {s = (Err j, r')} {left = work'} g (sym (refused_again r r' tag work tag' work' j s)) refl
        ∙ rw (words_again r' reader h, z))

  again_on_given : (g : Option Reader) → reader_of reader ≡ g → Again (sv_step tag work reader words)
  again_on_given None f =
      subst Again (sym (step_bad tag work reader words enough f)) (λ z. step_bad tag' work' reader words' (enough_for reader h) f ∙ rw z)
  again_on_given (Some r) f = again r f (step_of r tag work).0 refl

pub sv_stays : SvStays
sv_stays tag work reader words tag' work' words' k h h19 h19' = again_on_given tag work reader words tag' work' words' k h h19 h19' (reader_of reader) refl
