-- Document 01's number and values for every case of each answer: number 0 is no refusal (document 01, "What form each place needs"). Assumes nothing.
use Rattle.std.specs.Prelude.{ℕ, Result, Ok, Err, Some, None, List, [], ◌∷◌}
use Rattle.format.specs.declared.Record.{Record}
use Rattle.format.specs.declared.refusals.Refusal.{Refusal}
use Rattle.reader.specs.declared.Header.{Header}
use Rattle.reader.specs.declared.Reader.{Reader}
use Rattle.reader.specs.Reader.{Step}

-- ---- header: the number, and the fields of none or one header

abbrev pub headed_number : Result Header Refusal → ℕ
headed_number (Ok h) = 0
headed_number (Err k) = k.number

abbrev pub headed_fields : Result Header Refusal → List Header
headed_fields (Ok h) = h ∷ []
headed_fields (Err k) = []

-- ---- opening: the number, and none or one reader

abbrev pub opened_number : Result Reader Refusal → ℕ
opened_number (Ok r) = 0
opened_number (Err k) = k.number

abbrev pub opened_reader : Result Reader Refusal → List Reader
opened_reader (Ok r) = r ∷ []
opened_reader (Err k) = []

-- ---- a step: the number, none or one record, and the moved reader; neither a refusal nor a record is the end

abbrev pub step_number : Step → ℕ
step_number (Ok (Some rec), r) = 0
step_number (Ok None, r) = 0
step_number (Err k, r) = k.number

abbrev pub step_record : Step → List Record
step_record (Ok (Some rec), r) = rec ∷ []
step_record (Ok None, r) = []
step_record (Err k, r) = []

abbrev pub step_reader : Step → Reader
step_reader (Ok (Some rec), r) = r
step_reader (Ok None, r) = r
step_reader (Err k, r) = r
