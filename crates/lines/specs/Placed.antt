-- What is put into a buffer, and what is answered. Assumes nothing.
use Rattle.std.specs.Prelude.{ℕ, ◌+◌, ◌^◌, ◌<◌, ◌≡◌, Bool, List, ◌++◌, length, leb}
use Rattle.std.proofs.lemmas.List.Edits.{sets}
use Rattle.format.specs.Bytes.{pick, ascii}
use Rattle.format.specs.Listing.{decimal, word_kind, word_short, detail, newline}
use Rattle.format.specs.declared.Fields.{Fields}
use Rattle.std.specs.Prelude.{Option, Some, None}
use Rattle.std.specs.Borrow.{MutBor}

-- a line is put at a place where the buffer has room for all of it, else nothing is
unfoldable pub placed_of : List ℕ → ℕ → List ℕ → Option ℕ × List ℕ
placed_of line at out = pick (leb (at + length line) (length out)) (Some (at + length line), sets out at line) (None, out)

-- the place after bytes l, put at p, has a number of 64 bits
pub record Room (p : ℕ) (l : List ℕ) : Type 0 where
  pub below : p + length l < 2 ^ 64

-- bytes l were put into o from p on, as far as o goes, which gave o'; q is the place after them
pub record Wrote (o : List ℕ) (p : ℕ) (l o' : List ℕ) (q : ℕ) : Type 0 where
  pub next : q ≡ p + length l
  pub bytes : o' ≡ sets o p l

-- how many of n bytes of a user are shown
abbrev pub shown : Fields → ℕ → ℕ
shown (Fields.Text e) n = 0
shown (Fields.Popularimeter r c) n = n
shown (Fields.Table f b m v w) n = 0
shown (Fields.Chapter a b c d) n = 0
shown (Fields.Contents t o) n = 0
shown Fields.Raw n = 0

-- the end of a frame's line, from the bytes of its body on
abbrev pub body_part : ℕ → Bool → Fields → List ℕ → List ℕ
body_part body short fields user = ascii " body " ++ (decimal body ++ (word_kind fields ++ (word_short short ++ (detail fields user ++ newline))))

-- a line of a word and a number
abbrev pub counted : List ℕ → ℕ → List ℕ
counted word n = (word ++ decimal n) ++ newline

-- calls that may be made as pre says, and then leave what post says, put a line at any place with room for it
pub record PutsLine (pre : MutBor (List ℕ) → ℕ → Type 0) (post : MutBor (List ℕ) → ℕ → ℕ → MutBor (List ℕ) → Type 0) (line : List ℕ) : Type 0 where
  pub may : (o : MutBor (List ℕ)) (p : ℕ) → Room p line → pre o p
  pub puts : (o : MutBor (List ℕ)) (p r : ℕ) (o' : MutBor (List ℕ)) → post o p r o' → Wrote o.now p line o'.now r
