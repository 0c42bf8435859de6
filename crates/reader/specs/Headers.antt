-- What the private functions of the header answer. Assumes nothing.
use Rattle.std.specs.Prelude.{ℕ, Bool, false, ◌&&◌, List, length, take, leb, eqb}
use Rattle.format.specs.Bytes.{has, named}
use Rattle.format.specs.Numbers.{number}
use Rattle.format.specs.declared.Version.{Version}
use Rattle.format.specs.declared.Version.TheVariants.{Id3v22, Id3v23, Id3v24}

-- there are ten bytes that begin with "ID3"
abbrev pub is_tag : List ℕ → Bool
is_tag tag = leb 10 (length tag) && eqb (number (take 3 tag)) (named "ID3")

-- all bytes after the headers are unsynchronised (2.2 and 2.3), by edition and flags
abbrev pub is_whole_in : Version → ℕ → Bool
is_whole_in Id3v22 flags = has 0x80 flags
is_whole_in Id3v23 flags = has 0x80 flags
is_whole_in Id3v24 flags = false
