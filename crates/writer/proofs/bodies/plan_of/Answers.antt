-- The parts of the slices, and the numbers, whatever the deviations. Assumes nothing.
use mathlib.Core.Path.{◌≡◌, sym, ap, ◌∙◌}
use Prim.Native.Nat.{ℕ}
use mathlib.Core.List.{List, []}
use lib.ListN.{length}
use Rattle.format.specs.Bytes.{zeros_in}
use Rattle.format.specs.declared.Fields.{Fields}
use Rattle.writer.specs.Layouts.{used_of}
use Rattle.writer.specs.declared.bodies.Used.{Used}
use Rattle.writer.proofs.Layouts.{Lies, used_lies, Parts, used_parts, parts_body}
use Rattle.writer.proofs.bodies.plan_of.Goals as goal

module _ (fields : Fields) (name names rest : List ℕ) {u : Used} (is : u ≡ used_of fields (length name) (length names) (length rest)) where
  parts : (ds : List ℕ) → Parts fields name names rest ds u
  parts ds = rw is (used_parts fields name names rest ds)

  lies : Lies u (length name) (length names) (length rest)
  lies = rw is (used_lies fields (length name) (length names) (length rest))

pub small_of-small-requires : goal.small_of-small-requires
small_of-small-requires c =
    let a = c.args in
    let p = parts a.fields a.given.now.name.now a.given.now.names.now a.given.now.rest.now c.used_of-used.ensures [] in
    rw (sym (c.zeros_in.ensures ∙ ap zeros_in p.names_are)) at (c.requires [])

pub returns : goal.returns
returns c =
    let a = c.args in
    let p = parts a.fields a.given.now.name.now a.given.now.names.now a.given.now.rest.now c.used_of-used.ensures in
    let l = lies a.fields a.given.now.name.now a.given.now.names.now a.given.now.rest.now c.used_of-used.ensures in
    let small = λ (ds : List ℕ). c.small_of-small.ensures a.given.now.name.now a.given.now.names.now a.given.now.rest.now ds (sym (c.zeros_in.ensures ∙ ap zeros_in (p ds).names_are)) in
    record {
      name_fits = l.name_fits;
      names_fit = l.names_fit;
      rest_fits = l.rest_fits;
      small_fits = (small []).fits;
      body = λ ds. parts_body _ (p ds) (small ds).is;
    }
