-- The pieces that the code puts a body by. Assumes nothing.
use Rattle.std.specs.Prelude.{◌≡◌, ℕ, ◌≤◌, List, ◌++◌, length, take}
use Rattle.format.specs.Record.{content_of}
use Rattle.format.specs.Encode.{body_bytes}
use Rattle.format.specs.declared.Fields.{Fields}
use Rattle.writer.specs.Layouts.{packed_of}
use Rattle.writer.specs.declared.bodies.Plan.{Plan}

-- they lie in the slices and in the array, and with the references they are the body
pub record Planned (fields : Fields) (name names rest : List ℕ) (r : Plan) : Type 0 where
  pub name_fits : r.name ≤ length name
  pub names_fit : r.names ≤ length names
  pub rest_fits : r.rest ≤ length rest
  pub small_fits : r.len ≤ length r.bytes
  pub body : (ds : List ℕ) → body_bytes (content_of fields name names rest ds)
      ≡ (take r.name name ++ (take r.len r.bytes ++ (take r.names names ++ take r.rest rest))) ++ packed_of fields ds
