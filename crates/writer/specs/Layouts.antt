-- A body as four pieces, one after another: what putting a frame goes by (document 01, "Five kinds"). Assumes nothing.
use Rattle.std.specs.Prelude.{ℕ, ◌≤◌, List, [], ◌∷◌, ◌++◌}
use Rattle.format.specs.Bytes.{zeros_in}
use Rattle.format.specs.Numbers.{bytes_of}
use Rattle.format.specs.Popularimeter.{counter_bytes}
use Rattle.format.specs.Table.{pack}
use Rattle.format.specs.Chapter.{flag_byte}
use Rattle.format.specs.Record.{Content, text, popularimeter, table, chapter, contents, raw, content_of}
use Rattle.format.specs.declared.Version.{Version}
use Rattle.format.specs.declared.Version.TheVariants.{Id3v22, Id3v23, Id3v24}
use Rattle.format.specs.declared.Mode.{Mode}
use Rattle.format.specs.declared.Mode.TheVariants.{Off}
use Rattle.format.specs.declared.Fields.{Fields}
use Rattle.writer.specs.Packs.{Packable}
use Rattle.writer.specs.declared.bodies.Used.{Used}

-- the user or the element id; the numbers as at most 17 bytes; the children; the text, the references, the run or the raw body
pub record Layout : Type 0 where
  pub name : List ℕ
  pub small : List ℕ
  pub names : List ℕ
  pub rest : List ℕ

abbrev pub layout_of : Content → Layout
layout_of (text e s) = record { name = []; small = e ∷ []; names = []; rest = s }
layout_of (popularimeter user r c) = record { name = user; small = 0 ∷ r ∷ counter_bytes c; names = []; rest = [] }
layout_of (table f b m v w ds) = record {
  name = [];
  small = bytes_of 2 f ++ (bytes_of 3 b ++ (bytes_of 3 m ++ (v ∷ w ∷ [])));
  names = [];
  rest = pack v w ds;
}
layout_of (chapter element a b c d run) = record {
  name = element;
  small = 0 ∷ bytes_of 4 a ++ (bytes_of 4 b ++ (bytes_of 4 c ++ bytes_of 4 d));
  names = [];
  rest = run;
}
layout_of (contents element t o children run) = record {
  name = element;
  small = 0 ∷ flag_byte t o ∷ zeros_in children ∷ [];
  names = children;
  rest = run;
}
layout_of (raw body) = record { name = []; small = []; names = []; rest = body }

-- what the checks of an accepted record say of it and putting it needs
abbrev pub Puttable : Content → Type 0
Puttable (text e s) = Unit {0}
Puttable (popularimeter user r c) = Unit {0}
Puttable (table f b m v w ds) = Packable v w ds
Puttable (chapter element a b c d run) = Unit {0}
Puttable (contents element t o children run) = zeros_in children ≤ 255
Puttable (raw body) = Unit {0}

-- ---- the pieces of the slices that are given

-- how many bytes of each a kind has
abbrev pub used_of : Fields → ℕ → ℕ → ℕ → Used
used_of (Fields.Text e) name names rest = record { name = 0; names = 0; rest = rest }
used_of (Fields.Popularimeter r c) name names rest = record { name = name; names = 0; rest = 0 }
used_of (Fields.Table f b m v w) name names rest = record { name = 0; names = 0; rest = 0 }
used_of (Fields.Chapter a b c d) name names rest = record { name = name; names = 0; rest = rest }
used_of (Fields.Contents t o) name names rest = record { name = name; names = names; rest = rest }
used_of Fields.Raw name names rest = record { name = 0; names = 0; rest = rest }

-- what the deviations alone give: a table's references
abbrev pub packed_of : Fields → List ℕ → List ℕ
packed_of fields ds = (layout_of (content_of fields [] [] [] ds)).rest

-- ---- the mode by which a body is stored: before 2.4 nothing is put in

abbrev pub body_mode : Version → Mode → Mode
body_mode Id3v22 m = Off
body_mode Id3v23 m = Off
body_mode Id3v24 m = m
