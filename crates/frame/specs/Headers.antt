-- A frame's header up to its body: the first checks, and what is known once they passed. Assumes nothing.
use Rattle.std.specs.Prelude.{◌≡◌, ℕ, ◌≤◌, true, false, List, [], ◌∷◌, length, take, get_or}
use Rattle.format.specs.Bytes.{pick, has}
use Rattle.format.specs.Ids.{id_len, is_utf8}
use Rattle.format.specs.Frame.{head_len, frame_flags, is_encrypted, is_grouped}
use Rattle.format.specs.declared.Version.{Version}

-- the checks of an id of four bytes, and of the bits that say encrypted and grouped
abbrev pub id_checks : ℕ → ℕ → List ℕ → List ℕ
id_checks encryption grouping s = pick (is_utf8 (take 4 s)) 0 7 ∷ pick (has encryption (frame_flags s)) 8 0 ∷ pick (has grouping (frame_flags s)) 9 0 ∷ []

-- a frame begins, its id is UTF-8, and it is neither encrypted nor in a group
pub record Begun (v : Version) (s : List ℕ) : Type 0 where
  pub long : head_len v ≤ length s
  pub some : get_or s 0 0 ≡ 0 → ⊥
  pub utf8 : is_utf8 (take (id_len v) s) ≡ true
  pub plain : is_encrypted v s ≡ false
  pub alone : is_grouped v s ≡ false
