-- The numbers of a record's fields are of the types that the code has for them. Assumes nothing.
use mathlib.Core.List.{List}
use Prim.Native.Nat.{ℕ}
use mir.Val.{Val}
use denote.Laws.{Is}
use denote.Struct.Declared.{row as Struct-Row}
use denote.Struct.Laws.{owed as struct-owed}
use denote.Enum.Declared.{row}
use denote.Enum.Laws.{owed}
use Rattle.format.specs.Record.{Fits, content_of}
use Rattle.format.specs.declared.Fields.{Fields}
use Rattle.format.specs.declared.Heading.{Heading}
use Rattle.format.specs.contracts.Fields.{the_type}
use Rattle.format.proofs.Fields.TheLaws.{the_laws}
use Rattle.format.specs.contracts.Heading as heading
use Rattle.format.proofs.Heading.TheLaws as heading-laws

module _ (name names rest ds : List ℕ) where
  fields_fit : (f : Fields) (vs : List Val) → Is (row the_type) f vs → Fits (content_of f name names rest ds)
  fields_fit (Fields.Text e) vs p = tt
  fields_fit (Fields.Popularimeter r c) vs p = (owed the_type the_laws (Fields.Popularimeter r c) vs p).1.0.1
  fields_fit (Fields.Table f b m v w) vs p = (owed the_type the_laws (Fields.Table f b m v w) vs p).0.1
  fields_fit (Fields.Chapter a b c d) vs p =
      let q = owed the_type the_laws (Fields.Chapter a b c d) vs p in
      (q.0.1, q.1.0.1, q.1.1.0.1, q.1.1.1.0.1)
  fields_fit (Fields.Contents t o) vs p = tt
  fields_fit Fields.Raw vs p = tt

  pub heading_fits : (h : Heading) (vs : List Val) → Is (Struct-Row heading.the_type) h vs → Fits (content_of h.fields name names rest ds)
  heading_fits h vs p = fields_fit h.fields _ (struct-owed heading.the_type heading-laws.the_laws h vs p).1.1.1.0
