-- Chapters and tables of contents (document 01, "Five kinds", CHAP, CTOC; ID3v2 Chapter Frame Addendum). Assumes nothing.
use Rattle.std.specs.Prelude.{ℕ, zero, suc, ◌+◌, ◌*◌, Bool, true, false, ◌&&◌, List, [], ◌∷◌, ◌++◌, length, take, drop, get_or, eqb, leb}
use Rattle.format.specs.Bytes.{pick, has, zero_at, zeros_in}
use Rattle.format.specs.Numbers.{number, bytes_of}

-- ---- a chapter: element id, zero, four numbers of 32 bits, run of subframes

abbrev pub chapter_refusal : List ℕ → ℕ
chapter_refusal b = pick (leb (zero_at b + 17) (length b)) 0 11

-- the i-th of the four numbers, counted from 0
abbrev pub time_in : ℕ → List ℕ → ℕ
time_in i b = number (take 4 (drop (zero_at b + (1 + 4 * i)) b))

abbrev pub chapter_run : List ℕ → ℕ
chapter_run b = zero_at b + 17

abbrev pub chapter_body : List ℕ → ℕ → ℕ → ℕ → ℕ → List ℕ → List ℕ
chapter_body element startTime endTime startOffset endOffset run =
    element ++ (0 ∷ bytes_of 4 startTime ++ (bytes_of 4 endTime ++ (bytes_of 4 startOffset ++ (bytes_of 4 endOffset ++ run))))

-- ---- a table of contents: element id, zero, flags, child count, children each closed by a zero, run of subframes

-- how many bytes k names take with their zeros; all, where there are fewer
unfoldable pub names_len : ℕ → List ℕ → ℕ
names_len zero [] = 0
names_len (suc k) [] = 0
names_len zero (x ∷ s) = 0
names_len (suc k) (x ∷ s) = suc (names_len (pick (eqb x 0) k (suc k)) s)

abbrev pub count_in : List ℕ → ℕ
count_in b = get_or b (zero_at b + 2) 0

-- what follows the child count
abbrev pub after_count : List ℕ → List ℕ
after_count b = drop (zero_at b + 3) b

abbrev pub contents_refusal : List ℕ → ℕ
contents_refusal b = pick (leb (zero_at b + 3) (length b) && leb (count_in b) (zeros_in (after_count b))) 0 11

abbrev pub names_in : List ℕ → ℕ
names_in b = names_len (count_in b) (after_count b)

abbrev pub top_level_in : List ℕ → Bool
top_level_in b = has 2 (get_or b (zero_at b + 1) 0)

abbrev pub ordered_in : List ℕ → Bool
ordered_in b = has 1 (get_or b (zero_at b + 1) 0)

abbrev pub contents_run : List ℕ → ℕ
contents_run b = zero_at b + 3 + names_in b

abbrev pub flag_byte : Bool → Bool → ℕ
flag_byte topLevel ordered = pick topLevel 2 0 + pick ordered 1 0

abbrev pub contents_body : List ℕ → Bool → Bool → List ℕ → List ℕ → List ℕ
contents_body element topLevel ordered names run =
    element ++ (0 ∷ flag_byte topLevel ordered ∷ zeros_in names ∷ names ++ run)
