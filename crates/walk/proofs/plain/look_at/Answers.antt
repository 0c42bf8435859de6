-- A frame of the top level by the look into its body. Assumes nothing.
use mathlib.Core.Path.{◌≡◌, sym, ap, ◌∙◌}
use mathlib.Core.Bool.{Bool, not, ◌||◌}
use native.Mathlib.Omega.{arith}
use lib.Seq.{slice}
use borrow.Author.Rules.{rules}
use denote.Enum.Bare.{same_true}
use Rattle.std.proofs.lemmas.Result.{err_from_is_err_and}
use Rattle.laws.proofs.Slices.{slice_cut}
use Rattle.format.specs.contracts.Kind.{the_type}
use Rattle.format.specs.declared.Kind.{Kind}
use Rattle.format.specs.declared.Parts.{Parts}
use Rattle.format.specs.declared.refusals.Refusal.{Refusal}
use Rattle.format.specs.Looks.{Look, both, plain_if, look_at}
use Rattle.std.specs.Prelude.{Result, Option, Ok, Some}
use Rattle.walk.specs.declared.plain.Seen.{Seen}
use Rattle.walk.specs.Plain.{seen_as, seen_of, inside_look, counted_as}
use Rattle.walk.proofs.Passes.{same_meter}
use Rattle.walk.proofs.Looks.{goes, seen_stopped, seen_ended, seen_body, passed_seen, counted_seen}
use Rattle.walk.proofs.plain.look_at.Goals as goal

pub returns-in_err-kind : goal.returns-in_err-kind
returns-in_err-kind c =
    let a = c.args in
    let same = slice_cut a.at a.end c.min.result a.s.now c.min.ensures in
    let p = err_from_is_err_and c.from_residual.result c.from_residual.ensures.1 in
    rw (p.1, p.2) (seen_stopped a.version a.at _ c.in_err-kind.ensures ∙ ap (seen_of a.version a.at) same)

pub returns-in_default : goal.returns-in_default
returns-in_default c =
    let a = c.args in
    let same = slice_cut a.at a.end c.min.result a.s.now c.min.ensures in
    seen_ended a.version a.at _ (rw c.in_default.is at c.in_ok-kind.ensures) ∙ ap (seen_of a.version a.at) same

pub returns-in_err-parse : goal.returns-in_err-parse
returns-in_err-parse c =
    let a = c.args in
    let m = c.in-Some.field-0 in
    let b = slice m.start m.stop a.s.now in
    let same = slice_cut a.at a.end c.min.result a.s.now c.min.ensures in
    let seen = seen_body a.version a.at c.min.result a.s.now (omega (arith, c.min.ensures)) m (rw c.in-Some.is at c.in_ok-kind.ensures) in
    let is : m.kind ≡ Kind.Popularimeter = same_true the_type (search rules) _ _ (sym c.if-eq.ensures) in
    let p = err_from_is_err_and c.from_residual-in_err-parse.result c.from_residual-in_err-parse.ensures.1 in
    rw (p.1, p.2)
    (ap (λ (x : Result Parts Refusal). counted_as x m.stop m.odd) (c.in_err-parse.ensures a.version)
    ∙ counted_seen a.version m.start m.stop b m.odd
    ∙ ap (λ (k : Kind). seen_as (both (inside_look (look_at a.version 2) k b) (plain_if (not m.odd))) k m.start m.stop b) (sym is)
    ∙ sym seen
    ∙ ap (seen_of a.version a.at) same)

pub returns-then-eq : goal.returns-then-eq
returns-then-eq c =
    let a = c.args in
    let m = c.in-Some.field-0 in
    let b = slice m.start m.stop a.s.now in
    let same = slice_cut a.at a.end c.min.result a.s.now c.min.ensures in
    let seen = seen_body a.version a.at c.min.result a.s.now (omega (arith, c.min.ensures)) m (rw c.in-Some.is at c.in_ok-kind.ensures) in
    let is : m.kind ≡ Kind.Popularimeter = same_true the_type (search rules) _ _ (sym c.if-eq.ensures) in
    c.counted.ensures
    ∙ ap (λ (p : Result Parts Refusal). counted_as p m.stop m.odd) (c.in_ok-parse.ensures a.version)
    ∙ counted_seen a.version m.start m.stop b m.odd
    ∙ ap (λ (k : Kind). seen_as (both (inside_look (look_at a.version 2) k b) (plain_if (not m.odd))) k m.start m.stop b) (sym is)
    ∙ sym seen
    ∙ ap (seen_of a.version a.at) same

pub look_body-requires : goal.look_body-requires
look_body-requires c =
    let a = c.args in
    let on = goes a.version 1 a.at c.min.result a.s.now (omega (arith, c.min.ensures)) c.in-Some.field-0 (rw c.in-Some.is at c.in_ok-kind.ensures) in
    (on.ordered, omega (arith, on.within, c.min.ensures), omega arith, omega arith)

pub returns-in_err-plain : goal.returns-in_err-plain
returns-in_err-plain c =
    let a = c.args in
    let m = c.in-Some.field-0 in
    let b = slice m.start m.stop a.s.now in
    let same = slice_cut a.at a.end c.min.result a.s.now c.min.ensures in
    let seen = seen_body a.version a.at c.min.result a.s.now (omega (arith, c.min.ensures)) m (rw c.in-Some.is at c.in_ok-kind.ensures) in
    let p = err_from_is_err_and c.from_residual-in_err-plain.result c.from_residual-in_err-plain.ensures.1 in
    rw (p.1, p.2)
    (ap (λ (x : Look). seen_as (both x (plain_if (not m.odd))) m.kind m.start m.stop b) c.in_err-plain.ensures
    ∙ sym seen
    ∙ ap (seen_of a.version a.at) same)

pub returns-then-odd : goal.returns-then-odd
returns-then-odd c =
    let a = c.args in
    let m = c.in-Some.field-0 in
    let b = slice m.start m.stop a.s.now in
    let same = slice_cut a.at a.end c.min.result a.s.now c.min.ensures in
    let seen = seen_body a.version a.at c.min.result a.s.now (omega (arith, c.min.ensures)) m (rw c.in-Some.is at c.in_ok-kind.ensures) in
    let other = sym (same_meter m.kind) ∙ sym c.if-eq.ensures in
    let odd : m.odd ≡ (m.odd || not c.in_ok-plain.plain) = rw c.if-odd.true in
    ap {B = Result (Option Seen) Refusal} (λ (t : Bool). Ok (Some (Seen.Frame m.stop t))) odd
    ∙ passed_seen m.kind m.start m.stop b c.in_ok-plain.plain m.odd other
    ∙ ap (λ (x : Look). seen_as (both x (plain_if (not m.odd))) m.kind m.start m.stop b) c.in_ok-plain.ensures
    ∙ sym seen
    ∙ ap (seen_of a.version a.at) same

pub returns-else-odd : goal.returns-else-odd
returns-else-odd c =
    let a = c.args in
    let m = c.in-Some.field-0 in
    let b = slice m.start m.stop a.s.now in
    let same = slice_cut a.at a.end c.min.result a.s.now c.min.ensures in
    let seen = seen_body a.version a.at c.min.result a.s.now (omega (arith, c.min.ensures)) m (rw c.in-Some.is at c.in_ok-kind.ensures) in
    let other = sym (same_meter m.kind) ∙ sym c.if-eq.ensures in
    ap {B = Result (Option Seen) Refusal} (λ (t : Bool). Ok (Some (Seen.Frame m.stop (t || not c.in_ok-plain.plain)))) (sym c.if-odd.false)
    ∙ passed_seen m.kind m.start m.stop b c.in_ok-plain.plain m.odd other
    ∙ ap (λ (x : Look). seen_as (both x (plain_if (not m.odd))) m.kind m.start m.stop b) c.in_ok-plain.ensures
    ∙ sym seen
    ∙ ap (seen_of a.version a.at) same
