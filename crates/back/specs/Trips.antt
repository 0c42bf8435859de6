-- One record written to a tag and read back, call by call, and what is promised of it (the mission's demand 3; document 01, "Writing", "Header and walk"). Assumes nothing.
use Rattle.std.specs.Prelude.{◌≡◌, ℕ, ◌≤◌, false, List, [], ◌∷◌, length, take}
use Rattle.format.specs.Record.{Rec, Fits, view_of}
use Rattle.format.specs.declared.Record.{Record}
use Rattle.writer.specs.Writer.{begin_of, add_of, finish_of}
use Rattle.writer.specs.Writer.{Added}
use Rattle.reader.specs.Reader.{open_of, step_of}
use Rattle.reader.specs.Reader.{Step}
use Rattle.back.specs.Answers.{back_number, back_count, back_record}
use Rattle.std.specs.Prelude.{Result, Option, Ok, Err, Some, None}
use Rattle.format.specs.declared.refusals.Refusal.{Refusal}
use Rattle.reader.specs.declared.Reader.{Reader}
use Rattle.writer.specs.declared.Writer.{Writer}

-- ---- writing: begin with the altered mark off, add, finish

-- the answer, the collecting buffer and the output
abbrev pub Writing : Type 0
Writing = Result ℕ Refusal × (List ℕ × List ℕ)

abbrev pub on_added : ℕ → List ℕ → Added → List ℕ → Writing
on_added padding output (Ok n, w) buffer = ((finish_of w padding buffer output).0.0, (buffer, (finish_of w padding buffer output).1))
on_added padding output (Err k, w) buffer = (Err k, (buffer, output))

abbrev pub on_begun : ℕ → Rec → List ℕ → List ℕ → Result Writer Refusal → Writing
on_begun padding r buffer output (Ok w) = on_added padding output (add_of w r buffer).0 (add_of w r buffer).1
on_begun padding r buffer output (Err k) = (Err k, (buffer, output))

unfoldable pub write_of : ℕ → ℕ → ℕ → Rec → List ℕ → List ℕ → Writing
write_of version mode padding r buffer output = on_begun padding r buffer output (begin_of version mode false)

-- how long the tag is that was written
abbrev pub wrote_count : Result ℕ Refusal → ℕ
wrote_count (Ok n) = n
wrote_count (Err k) = 0

-- the numbers of a record that was written are of the types that the code has for them
abbrev pub FitsIn : Result ℕ Refusal → Rec → Type 0
FitsIn (Ok n) r = Fits r.content
FitsIn (Err k) r = Unit {0}

-- ---- reading: open, a step that shows a record, a step that meets the end

-- the answer, and the work buffer
abbrev pub Reading : Type 0
Reading = Option Record × List ℕ

abbrev pub on_second : Record → Step → List ℕ → Reading
on_second rec (Ok (Some other), r) work = (None, work)
on_second rec (Ok None, r) work = (Some rec, work)
on_second rec (Err k, r) work = (None, work)

abbrev pub on_first : List ℕ → Step → List ℕ → Reading
on_first tag (Ok (Some rec), r) work = on_second rec (step_of r tag work).0 (step_of r tag work).1
on_first tag (Ok None, r) work = (None, work)
on_first tag (Err k, r) work = (None, work)

abbrev pub on_opened : List ℕ → Result Reader Refusal → List ℕ → Reading
on_opened tag (Ok r) work = on_first tag (step_of r tag work).0 (step_of r tag work).1
on_opened tag (Err k) work = (None, work)

unfoldable pub read_of : List ℕ → List ℕ → Reading
read_of tag work = on_opened tag (open_of tag work).0 (open_of tag work).1

-- ---- there and back: the part of the output that writing reports is the tag that is read

-- the answer, the collecting buffer, the output and the work buffer
abbrev pub Trip : Type 0
Trip = Result (Option (ℕ × Record)) Refusal × (List ℕ × (List ℕ × List ℕ))

abbrev pub back_as : ℕ → Option Record → Result (Option (ℕ × Record)) Refusal
back_as n (Some rec) = Ok (Some (n, rec))
back_as n None = Ok None

abbrev pub on_wrote : List ℕ → List ℕ → List ℕ → Result ℕ Refusal → Trip
on_wrote buffer output work (Ok n) = (back_as n (read_of (take n output) work).0, (buffer, (output, (read_of (take n output) work).1)))
on_wrote buffer output work (Err k) = (Err k, (buffer, (output, work)))

unfoldable pub back_of : ℕ → ℕ → ℕ → Rec → List ℕ → List ℕ → List ℕ → Trip
back_of version mode padding r buffer output work =
    let w = write_of version mode padding r buffer output in
    on_wrote w.1.0 w.1.1 work w.0

-- ---- what is promised

-- none or one record, seen in the buffers as they stand
abbrev pub views_in : List Record → List ℕ → List ℕ → List Rec
views_in [] tag work = []
views_in (rec ∷ l) tag work = view_of rec tag work ∷ views_in l tag work

-- where nothing is refused the record was read, from the tag that the count reports
abbrev pub Kept : Rec → Result (Option (ℕ × Record)) Refusal → List ℕ → List ℕ → Type 0
Kept r q output work = back_number q ≡ 0 → views_in (back_record q) (take (back_count q) output) work ≡ r ∷ []

-- With a work buffer at least as long as the tag, a record that writing does not refuse comes back as it was given, and nothing else does.
abbrev pub ThereAndBack : Type 0
ThereAndBack = (version mode padding : ℕ) (r : Rec) (buffer output work : List ℕ) → Fits r.content
    → wrote_count (write_of version mode padding r buffer output).0 ≤ length work
    → let t = back_of version mode padding r buffer output work in Kept r t.0 t.1.1.0 t.1.1.1
