-- Any bytes at all, read by the exported functions and by the definitions. Assumes nothing.
use Rattle.std.specs.Prelude.{◌≡◌, ℕ, ◌+◌, ◌*◌, ◌^◌, ◌≤◌, ◌<◌, List, [], ◌∷◌, ◌++◌, length}
use Rattle.format.specs.Header.{size_of}
use Rattle.promises.specs.Reading.{Ending, ended, refused, unfinished, read_all}
use Rattle.cpromises.specs.Reading.{sv_reading}
use Rattle.cpromises.specs.Promises.{AtMost, Lent}

abbrev pub AllBytes : List ℕ → Type 0
AllBytes [] = Unit {0}
AllBytes (x ∷ s) = (x < 2 ^ 8) × AllBytes s

-- the number that a reading ends with: 256 is the end
abbrev pub end_number : Ending → ℕ
end_number ended = 256
end_number (refused k) = k
end_number unfinished = 0

-- Whatever is read, room for four numbers to each byte of the tag is enough for the deviations.
abbrev pub SvAnyNumbers : Type 0
SvAnyNumbers = (tag work : List ℕ) → AtMost (4 * length tag) (read_all tag work).0

-- The exported functions read of any bytes the records that the definitions read, in their order, and end with the number of the same ending.
abbrev pub SvReads : Type 0
SvReads = (tag work reader words numbers count : List ℕ) → AllBytes tag → Lent (read_all tag work).0 reader words numbers count
    → sv_reading tag work reader words numbers count ≡ ((read_all tag work).0, end_number (read_all tag work).1)

-- A tag that is there whole, whatever it holds, reads with other bytes after it as it does alone, with the same work buffer.
abbrev pub SvAnyFollowed : Type 0
SvAnyFollowed = (tag more work reader words numbers count : List ℕ) → AllBytes (tag ++ more) → 10 + size_of tag ≤ length tag
    → Lent (read_all tag work).0 reader words numbers count
    → sv_reading (tag ++ more) work reader words numbers count ≡ sv_reading tag work reader words numbers count
