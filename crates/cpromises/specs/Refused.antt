-- What each exported function leaves with a refusal: all as before, and count 0 (document 01, "Refusal numbers"). Assumes nothing.
use Rattle.std.specs.Prelude.{◌≡◌, ℕ, suc, ◌≤◌, List, length}
use Rattle.capi.specs.Words.{word}
use Rattle.capi.specs.Calls.{sv_header, sv_open, sv_step, sv_begin, sv_add, sv_finish}

-- ---- writing

abbrev pub SvRefusedBegin : Type 0
SvRefusedBegin = (version mode altered : ℕ) (writer : List ℕ) (k : ℕ) →
    let o = sv_begin version mode altered writer in
    o.0 ≡ suc k → o.1 ≡ writer

-- Collecting buffer and writer; and the count's word is 0, where no words are missing.
abbrev pub SvRefusedAdd : Type 0
SvRefusedAdd = (words name names rest deviations buffer writer count : List ℕ) (k : ℕ) →
    let o = sv_add words name names rest deviations buffer writer count in
    o.0 ≡ suc k → (o.1 ≡ buffer) × (o.2 ≡ writer) × (19 ≤ length words → 4 ≤ length writer → 1 ≤ length count → word 0 o.3 ≡ 0)

-- The output; and the count's word is 0, where no words are missing.
abbrev pub SvRefusedFinish : Type 0
SvRefusedFinish = (padding : ℕ) (buffer output writer count : List ℕ) (k : ℕ) →
    let o = sv_finish padding buffer output writer count in
    o.0 ≡ suc k → (o.1 ≡ output) × (4 ≤ length writer → 1 ≤ length count → word 0 o.2 ≡ 0)

-- ---- reading

abbrev pub SvRefusedHeader : Type 0
SvRefusedHeader = (tag header : List ℕ) (k : ℕ) →
    let o = sv_header tag header in
    o.0 ≡ suc k → o.1 ≡ header

-- The work buffer and the reader's words.
abbrev pub SvRefusedOpen : Type 0
SvRefusedOpen = (tag work reader : List ℕ) (k : ℕ) →
    let o = sv_open tag work reader in
    o.0 ≡ suc k → (o.1 ≡ work) × (o.2 ≡ reader)

-- The record's words, at the end too.
abbrev pub SvRefusedStep : Type 0
SvRefusedStep = (tag work reader words : List ℕ) (k : ℕ) →
    let o = sv_step tag work reader words in
    o.0 ≡ suc k → o.3 ≡ words
