-- A header that needs no more than a glance. Assumes nothing.
use Rattle.std.specs.Prelude.{ℕ, ◌%◌, Bool, ◌==◌, Option, Some, None}
use Rattle.format.specs.Bytes.{pick}
use Rattle.format.specs.declared.Version.{Version}
use Rattle.format.specs.declared.Version.TheVariants.{Id3v22, Id3v23, Id3v24}

abbrev pub front_if : Bool → Version → Option Version
front_if clear v = pick clear (Some v) None

-- no flag counts, by the first four bytes, "ID3" and the edition, as one number; in 2.4 the flag for unsynchronised bytes says nothing
abbrev pub front_of : ℕ → ℕ → Option Version
front_of front flags =
    pick (front == 0x4944_3302) (front_if (flags == 0) Id3v22)
    (pick (front == 0x4944_3303) (front_if (flags == 0) Id3v23)
    (pick (front == 0x4944_3304) (front_if (flags % 0x80 == 0) Id3v24) None))
