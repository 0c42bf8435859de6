-- What a glance at a frame's header tells of it. Assumes nothing.
use Rattle.std.specs.Prelude.{◌≡◌, ℕ, Bool, true, false, Ok, Some, None, List, take, drop}
use Rattle.format.specs.Unsynch.{resynchronised}
use Rattle.format.specs.Numbers.{number, bytes_of, from_synchsafe}
use Rattle.format.specs.Ids.{id_len, kind_of}
use Rattle.format.specs.Frame.{head, head_len, head_of}
use Rattle.format.specs.Text.{text_refusal}
use Rattle.format.specs.declared.Version.{Version}
use Rattle.format.specs.declared.Version.TheVariants.{Id3v23, Id3v24}
use Rattle.format.specs.declared.Kind.{Kind}
use Rattle.meter.specs.declared.glance.Glance.{Glance}

-- the editions whose headers have ten bytes
abbrev pub ten_of : Bool → Version
ten_of true = Id3v24
ten_of false = Id3v23

-- the size that four bytes say as one number
abbrev pub size_by : Bool → ℕ → ℕ
size_by true n = from_synchsafe (bytes_of 4 n)
size_by false n = n

-- a body of a kind that is not looked through, and that is not refused
abbrev pub Passes : Kind → List ℕ → Type 0
Passes Kind.Text b = text_refusal b ≡ 0
Passes Kind.Popularimeter b = ⊥
Passes Kind.Table b = ⊥
Passes Kind.Chapter b = ⊥
Passes Kind.Contents b = ⊥
Passes Kind.Raw b = Unit {0}

-- what is told of a body of a kind, n bytes
abbrev pub Sorted : Kind → ℕ → List ℕ → Glance → Type 0
Sorted kind n b Glance.Unclear = Unit {0}
Sorted kind n b Glance.End = ⊥
Sorted kind n b (Glance.Plain m) = (m ≡ n) × Passes kind b
Sorted kind n b (Glance.Flagged m) = ⊥
Sorted kind n b (Glance.Meter m) = (m ≡ n) × (kind ≡ Kind.Popularimeter)

-- the same of a body that is resynchronised: a popularimeter has to be looked at in full then
abbrev pub with_flag : Glance → Glance
with_flag Glance.Unclear = Glance.Unclear
with_flag Glance.End = Glance.Unclear
with_flag (Glance.Plain n) = Glance.Flagged n
with_flag (Glance.Flagged n) = Glance.Unclear
with_flag (Glance.Meter n) = Glance.Unclear

-- a whole frame that is not compressed, with a body of n bytes directly after its header, of the bytes s
pub record Whole (v : Version) (flagged : Bool) (n : ℕ) (s : List ℕ) : Type 0 where
  pub id : ℕ
  pub is_id_lem : id ≡ number (take (id_len v) s)
  pub head : head_of v 1 s ≡ Ok (Some (head id false flagged false (head_len v) n))

abbrev pub body_in : Version → ℕ → List ℕ → List ℕ
body_in v n s = take n (drop (head_len v) s)

-- what is told of the bytes s, where a frame of the top level may begin
abbrev pub Says : Version → List ℕ → Glance → Type 0
Says v s Glance.Unclear = Unit {0}
Says v s Glance.End = head_of v 1 s ≡ Ok None
Says v s (Glance.Plain n) = (w : Whole v false n s) × (Passes (kind_of v w.id) (body_in v n s))
Says v s (Glance.Flagged n) = (w : Whole v true n s) × (Passes (kind_of v w.id) (resynchronised (body_in v n s)))
Says v s (Glance.Meter n) = (w : Whole v false n s) × (kind_of v w.id ≡ Kind.Popularimeter)
