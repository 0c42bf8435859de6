-- Small moves by computation. Assumes nothing.
use mathlib.Core.Path.{◌≡◌, refl}
use mathlib.Core.List.{List, [], ◌∷◌}
use Prim.Native.Nat.{ℕ}
use Rattle.moves.specs.Moves.{shifted}

-- seven bytes, each with a value of its own
abbrev seven : List ℕ
seven = 10 ∷ 11 ∷ 12 ∷ 13 ∷ 14 ∷ 15 ∷ 16 ∷ []

-- down by two, over their own front: zeros where they ended, and no byte before or behind changes
down : shifted 3 6 1 seven ≡ 10 ∷ 13 ∷ 14 ∷ 15 ∷ 0 ∷ 0 ∷ 16 ∷ []
unfolding shifted
down = refl

-- down past all that they held: what lay between is freed too
down_far : shifted 5 7 0 seven ≡ 15 ∷ 16 ∷ 0 ∷ 0 ∷ 0 ∷ 0 ∷ 0 ∷ []
unfolding shifted
down_far = refl

-- up by two, over their own end: what they leave stays
up : shifted 1 4 3 seven ≡ 10 ∷ 11 ∷ 12 ∷ 11 ∷ 12 ∷ 13 ∷ 16 ∷ []
unfolding shifted
up = refl

-- to the very end
up_far : shifted 0 3 4 seven ≡ 10 ∷ 11 ∷ 12 ∷ 13 ∷ 10 ∷ 11 ∷ 12 ∷ []
unfolding shifted
up_far = refl

-- to where they are
in_place : shifted 2 5 2 seven ≡ seven
unfolding shifted
in_place = refl

-- no bytes: moved down they still free what lay between, moved up they do nothing
none_down : shifted 4 4 2 seven ≡ 10 ∷ 11 ∷ 0 ∷ 0 ∷ 14 ∷ 15 ∷ 16 ∷ []
unfolding shifted
none_down = refl

none_up : shifted 2 2 7 seven ≡ seven
unfolding shifted
none_up = refl

-- places that are none: an end before the start, an end behind the buffer, no room by one byte
backwards : shifted 4 3 0 seven ≡ seven
unfolding shifted
backwards = refl

behind : shifted 5 8 0 seven ≡ seven
unfolding shifted
behind = refl

no_room : shifted 1 4 5 seven ≡ seven
unfolding shifted
no_room = refl

none_behind : shifted 2 2 8 seven ≡ seven
unfolding shifted
none_behind = refl
