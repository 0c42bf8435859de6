-- What the functions answer, and what they leave in the lent buffers. Assumes nothing.
use Rattle.std.specs.Prelude.{ℕ, ◌+◌, ◌^◌, List, [], ◌∷◌, ◌++◌, length, take, drop, ltb, Result, Ok, Err}
use Rattle.std.proofs.Math.Seq.{slice}
use Rattle.std.proofs.lemmas.List.Edits.{sets}
use Rattle.format.specs.Bytes.{pick, put_front}
use Rattle.format.specs.Numbers.{number, synchsafe}
use Rattle.format.specs.Unsynch.{resynchronised}
use Rattle.format.specs.Refusals.{refusal}
use Rattle.format.specs.declared.refusals.Refusal.{Refusal}

-- the four synchsafe bytes as one number, or 24 where n does not fit 28 bits
abbrev pub encoded_of : ℕ → Result ℕ Refusal
encoded_of n = pick (ltb n (2 ^ 28)) (Ok (number (synchsafe n))) (Err (refusal 24))

-- an answer, and what the lent buffer holds then
abbrev pub Out : Type 0
Out = Result ℕ Refusal × List ℕ

-- u at the front of a room, or 14 and the room as it was
abbrev pub into_of : List ℕ → List ℕ → Out
into_of u room = pick (ltb (length room) (length u)) (Err (refusal 14), room) (Ok (length u), put_front u room)

-- the same in an area: the bytes lie before split, and what lies from split on is the room
abbrev pub in_area_of : ℕ → ℕ → ℕ → List ℕ → Out
in_area_of from to split a =
    let o = into_of (resynchronised (slice from to (take split a))) (drop split a) in
    (o.0, take split a ++ o.1)

-- u at a place, or a refusal and the buffer as it was
abbrev pub put_of : ℕ → List ℕ → ℕ → List ℕ → Out
put_of k u at out = pick (ltb (length out) (at + length u)) (Err (refusal k), out) (Ok (length u), sets out at u)

-- the refusal is 20
abbrev pub placed_of : List ℕ → ℕ → List ℕ → Out
placed_of u at out = put_of 20 u at out

-- document 01's number and value for every case of the answers: number 0 is no refusal, and a refusal has no value
abbrev pub encoded_number : Result ℕ Refusal → ℕ
encoded_number (Ok w) = 0
encoded_number (Err k) = k.number

abbrev pub put_number : Result ℕ Refusal → ℕ
put_number (Ok n) = 0
put_number (Err k) = k.number

abbrev pub encoded_word : Result ℕ Refusal → List ℕ
encoded_word (Ok w) = w ∷ []
encoded_word (Err k) = []

-- a refused call has count 0
abbrev pub put_count : Result ℕ Refusal → ℕ
put_count (Ok n) = n
put_count (Err k) = 0
