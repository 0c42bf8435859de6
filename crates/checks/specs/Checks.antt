-- The checks of a record's content, in the table's order and in that of the code (document 01, "Refusal numbers"). Assumes nothing.
use Rattle.std.specs.Prelude.{ℕ, List, [], ◌∷◌}
use Rattle.format.specs.Record.{Content}
use Rattle.format.specs.Encode.{encoding_check, text_check, name_check, children_check, run_check, table_checks}
use Rattle.format.specs.declared.Version.{Version}

-- 12 to 34: what `record_checks` has of the content
abbrev pub content_checks : Version → Content → List ℕ
content_checks v c = encoding_check c ∷ text_check v c ∷ name_check c ∷ children_check c ∷ run_check v c ∷ table_checks c

-- 12, 27, 28: those that look at a field or a name alone
abbrev pub early_checks : Content → List ℕ
early_checks c = encoding_check c ∷ name_check c ∷ children_check c ∷ []

-- 26, 29, 30 to 34: those that go through a text, a run or a table
abbrev pub late_checks : Version → Content → List ℕ
late_checks v c = text_check v c ∷ run_check v c ∷ table_checks c
