-- What is put, with a 00 before it or without. Assumes nothing.
use mathlib.Core.Path.{◌≡◌, sym, ap, ◌∙◌}
use Prim.Native.Nat.{ℕ}
use mathlib.Core.Bool.{Bool, false}
use mathlib.Core.List.{List, ◌∷◌}
use lib.Seq.{slice}
use Rattle.format.specs.Bytes.{pick}
use Rattle.format.specs.Unsynch.{guards, unsync}
use Rattle.format.specs.declared.Mode.{Mode}
use Rattle.unsynch.specs.declared.loops.How.{How}
use Rattle.unsynch.specs.Puts.{placed_of}
use Rattle.unsynch.specs.Edits.{unsync_by, edited}
use Rattle.unsynch.proofs.Edits.{unsyncs, known_unsync}
use Rattle.unsynch.proofs.unsync_into.Goals as goal

-- with the 00 or without it, as led says, that is what unsynchronising makes
made : (how : How) (mode : Mode) (prev led t : Bool) (l : List ℕ) → how ≡ unsync_by mode → led ≡ t
    → edited how prev l ≡ pick led (0 ∷ edited how false l) (edited how false l)
    → pick t (0 ∷ edited how false l) (edited how false l) ≡ unsync (guards mode) prev l
made how mode prev led t l h e is =
    sym (is ∙ ap (λ (t : Bool). pick t (0 ∷ edited how false l) (edited how false l)) e)
    ∙ ap (λ (how : How). edited how prev l) h
    ∙ unsyncs mode prev l

pub is_led-requires : goal.is_led-requires
is_led-requires c = ap (λ (how : How). how.insert) c.unsync_by-how.ensures

pub put_led-requires : goal.put_led-requires
put_led-requires c = known_unsync _ c.args.mode c.unsync_by-how.ensures

pub returns-then-is_led : goal.returns-then-is_led
returns-then-is_led c =
    let a = c.args in
    let is = made c.unsync_by-how.result a.mode a.prev _ _ (slice a.from a.to a.s.now) c.unsync_by-how.ensures c.if-is_led.true c.is_led.ensures in
    c.put_led.ensures ∙ ap (λ (w : List ℕ). placed_of w a.at a.out.now) is

pub put_part-requires : goal.put_part-requires
put_part-requires c = known_unsync _ c.args.mode c.unsync_by-how.ensures

pub returns : goal.returns
returns c =
    let a = c.args in
    let is = made c.unsync_by-how.result a.mode a.prev _ _ (slice a.from a.to a.s.now) c.unsync_by-how.ensures c.if-is_led.false c.is_led.ensures in
    c.put_part.ensures ∙ ap (λ (w : List ℕ). placed_of w a.at a.out.now) is
