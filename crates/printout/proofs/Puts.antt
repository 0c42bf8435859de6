-- Lines put one after the other, step by step. Assumes nothing.
use mathlib.Core.Path.{◌≡◌, refl, sym, ap, ◌∙◌}
use Prim.Native.Nat.{ℕ, suc, ◌+◌, ◌-◌, ◌≤◌, ◌<◌}
use native.Mathlib.Omega.{arith}
use mathlib.Core.List.{List, [], ◌∷◌}
use lib.ListN.{length}
use Rattle.format.specs.Listing.{tag_line, end_line, refused_line}
use Rattle.format.specs.declared.Record.{Record}
use Rattle.format.specs.Numbered.{version_number}
use Rattle.lines.specs.Placed.{placed_of}
use Rattle.reader.specs.Reader.{header_of, open_of, Stepped, step_of}
use Rattle.reader.specs.declared.Header.{Header}
use Rattle.reader.specs.declared.Reader.{Reader}
use Rattle.reader.specs.Reader.{Step}
use Rattle.reader.proofs.Refusals.{accepted}
use Rattle.reader.proofs.Opens.{found}
use Rattle.printout.specs.Lines.{Line, line, record_in, on_step, frame_lines, on_open, opened_lines, on_header, lines_of}
use Rattle.printout.specs.Turns.{Outcome, on_placed, put_lines}
use Rattle.std.specs.Prelude.{Result, Option, Ok, Err, Some, None}
use Rattle.format.specs.declared.refusals.Refusal.{Refusal}

-- what was put: whether it fits, and the buffer
abbrev PutLine : Type 0
PutLine = Option ℕ × List ℕ

-- ---- the frames

-- no line follows
alone : (t w work : List ℕ) (at : ℕ) (out : List ℕ) → put_lines (line t w ∷ []) at work out ≡ ((placed_of t at out).0, (w, (placed_of t at out).1))
unfolding put_lines
alone t w work at out = by_placed (placed_of t at out).0 (placed_of t at out).1
  where
    by_placed : (p : Option ℕ) (o : List ℕ) → on_placed (λ q s. put_lines [] q w s) w p o ≡ (p, (w, o))
    by_placed (Some q) o = refl
    by_placed None o = refl

module _ (f : ℕ) (tag : List ℕ) (r : Reader) (n : ℕ) (work : List ℕ) (at : ℕ) (out : List ℕ) where
  -- a step of the reader was taken
  module _ {x : Result (Option Record) Refusal} {r' : Reader} {w : List ℕ} (stepped : ◌≡◌ {A = Stepped} ((x, r'), w) (step_of r tag work)) where
    here : put_lines (on_step (frame_lines f tag) n tag (x, r') w) at work out ≡ put_lines (frame_lines (suc f) tag r n work) at work out
    unfolding frame_lines
    here = ap {B = Outcome} (λ (s : Stepped). put_lines (on_step (frame_lines f tag) n tag s.0 s.1) at work out) stepped

    -- a frame, and its line
    module _ {rec : Record} (is : x ≡ Ok (Some rec)) {p : Option ℕ} {o : List ℕ} (puts : ◌≡◌ {A = PutLine} (p, o) (placed_of (record_in r'.version n rec tag w) at out)) where
      framed : on_placed (λ q s. put_lines (frame_lines f tag r' (n + 1) w) q w s) w p o ≡ put_lines (frame_lines (suc f) tag r n work) at work out
      unfolding put_lines
      framed =
          ap {B = Outcome} (λ (y : PutLine). on_placed (λ q s. put_lines (frame_lines f tag r' (n + 1) w) q w s) w y.0 y.1) puts
          ∙ rw is at here

      pub goes_on_lem : {q : ℕ} → p ≡ Some q → put_lines (frame_lines f tag r' (n + 1) w) q w o ≡ put_lines (frame_lines (suc f) tag r n work) at work out
      goes_on_lem e = rw e at framed

      pub full : p ≡ None → ◌≡◌ {A = Outcome} (None, (w, o)) (put_lines (frame_lines (suc f) tag r n work) at work out)
      full e = rw e at framed

    -- the last line
    pub at_end : x ≡ Ok None → {p : Option ℕ} {o : List ℕ} → ◌≡◌ {A = PutLine} (p, o) (placed_of (end_line n) at out)
        → ◌≡◌ {A = Outcome} (p, (w, o)) (put_lines (frame_lines (suc f) tag r n work) at work out)
    at_end is puts = ap {B = Outcome} (λ (y : PutLine). (y.0, (w, y.1))) puts ∙ sym (alone (end_line n) w work at out) ∙ rw is at here

    pub at_refusal : {k : Refusal} → x ≡ Err k → {p : Option ℕ} {o : List ℕ} → ◌≡◌ {A = PutLine} (p, o) (placed_of (refused_line k.number) at out)
        → ◌≡◌ {A = Outcome} (p, (w, o)) (put_lines (frame_lines (suc f) tag r n work) at work out)
    at_refusal {k} is puts = ap {B = Outcome} (λ (y : PutLine). (y.0, (w, y.1))) puts ∙ sym (alone (refused_line k.number) w work at out) ∙ rw is at here

  -- the first step says what the work buffer is
  pub any_work : (work' : List ℕ) → put_lines (frame_lines (suc f) tag r n work) at work' out ≡ put_lines (frame_lines (suc f) tag r n work) at work out
  unfolding frame_lines put_lines
  any_work work' = by_answer (step_of r tag work).0 (step_of r tag work).1
    where
      by_answer : (x : Step) (w : List ℕ) → put_lines (on_step (frame_lines f tag) n tag x w) at work' out ≡ put_lines (on_step (frame_lines f tag) n tag x w) at work out
      by_answer (Ok (Some rec), r') w = refl
      by_answer (Ok None, r') w = refl
      by_answer (Err k, r') w = refl

-- frames are listed from r₀ on, and n of them are: r and at say where the listing goes on
pub record Listing (tag work₀ out₀ : List ℕ) (at₀ : ℕ) (r₀ : Reader) (work out : List ℕ) (at : ℕ) (r : Reader) (n : ℕ) : Type 0 where
  pub rest : put_lines (frame_lines (length tag - n) tag r n work) at work out ≡ put_lines (frame_lines (length tag) tag r₀ 0 work₀) at₀ work₀ out₀

module _ {tag work₀ out₀ : List ℕ} {at₀ : ℕ} {r₀ : Reader} {work out : List ℕ} {at : ℕ} {r : Reader} {n : ℕ}
    (l : Listing tag work₀ out₀ at₀ r₀ work out at r n) where
  pub ends : length tag ≤ n → ◌≡◌ {A = Outcome} (Some at, (work, out)) (put_lines (frame_lines (length tag) tag r₀ 0 work₀) at₀ work₀ out₀)
  unfolding put_lines frame_lines
  ends h =
      let none : length tag - n ≡ 0 = omega arith in
      sym (ap (λ (k : ℕ). put_lines (frame_lines k tag r n work) at work out) none) ∙ l.rest

  module _ (more : n < length tag) {x : Result (Option Record) Refusal} {r' : Reader} {w : List ℕ} (stepped : ◌≡◌ {A = Stepped} ((x, r'), w) (step_of r tag work)) where
    steps_left : ℕ
    steps_left = length tag - (n + 1)

    from_here : put_lines (frame_lines (suc steps_left) tag r n work) at work out ≡ put_lines (frame_lines (length tag) tag r₀ 0 work₀) at₀ work₀ out₀
    unfolding steps_left
    from_here =
        let one : suc (length tag - (n + 1)) ≡ length tag - n = omega arith in
        ap (λ (k : ℕ). put_lines (frame_lines k tag r n work) at work out) one ∙ l.rest

    module _ {rec : Record} (is : x ≡ Ok (Some rec)) {p : Option ℕ} {o : List ℕ} (puts : ◌≡◌ {A = PutLine} (p, o) (placed_of (record_in r'.version n rec tag w) at out)) where
      pub again : {q : ℕ} → p ≡ Some q → Listing tag work₀ out₀ at₀ r₀ w o q r' (n + 1)
      unfolding steps_left
      again e = record { rest = goes_on_lem steps_left tag r n work at out stepped is puts e ∙ from_here }

      pub stops : p ≡ None → ◌≡◌ {A = Outcome} (None, (w, o)) (put_lines (frame_lines (length tag) tag r₀ 0 work₀) at₀ work₀ out₀)
      stops e = full steps_left tag r n work at out stepped is puts e ∙ from_here

    pub last : x ≡ Ok None → {p : Option ℕ} {o : List ℕ} → ◌≡◌ {A = PutLine} (p, o) (placed_of (end_line n) at out)
        → ◌≡◌ {A = Outcome} (p, (w, o)) (put_lines (frame_lines (length tag) tag r₀ 0 work₀) at₀ work₀ out₀)
    last is puts = at_end steps_left tag r n work at out stepped is puts ∙ from_here

    pub refuses : {k : Refusal} → x ≡ Err k → {p : Option ℕ} {o : List ℕ} → ◌≡◌ {A = PutLine} (p, o) (placed_of (refused_line k.number) at out)
        → ◌≡◌ {A = Outcome} (p, (w, o)) (put_lines (frame_lines (length tag) tag r₀ 0 work₀) at₀ work₀ out₀)
    refuses is puts = at_refusal steps_left tag r n work at out stepped is puts ∙ from_here

-- ---- a tag

module _ (tag work : List ℕ) (at : ℕ) (out : List ℕ) {x : Result Reader Refusal} {w : List ℕ} (opens : ◌≡◌ {A = Result Reader Refusal × List ℕ} (x, w) (open_of tag work)) where
  opened : opened_lines tag work ≡ on_open tag x w
  unfolding opened_lines
  opened = sym (ap {B = List Line} (λ (o : Result Reader Refusal × List ℕ). on_open tag o.0 o.1) opens)

  pub ready : 0 < length tag → {r : Reader} → x ≡ Ok r → {a : Outcome}
      → a ≡ put_lines (frame_lines (length tag) tag r 0 w) at w out → a ≡ put_lines (opened_lines tag work) at work out
  ready long {r} is e =
      let more : length tag ≡ suc (length tag - 1) = omega arith in
      let same : opened_lines tag work ≡ frame_lines (length tag) tag r 0 w = opened ∙ ap (λ (y : Result Reader Refusal). on_open tag y w) is in
      e
      ∙ ap (λ (k : ℕ). put_lines (frame_lines k tag r 0 w) at w out) more
      ∙ sym (any_work (length tag - 1) tag r 0 w at out work)
      ∙ ap (λ (k : ℕ). put_lines (frame_lines k tag r 0 w) at work out) (sym more)
      ∙ ap (λ (ls : List Line). put_lines ls at work out) (sym same)

  pub not_opened : {k : Refusal} → x ≡ Err k → {p : Option ℕ} {o : List ℕ} → ◌≡◌ {A = PutLine} (p, o) (placed_of (refused_line k.number) at out)
      → ◌≡◌ {A = Outcome} (p, (w, o)) (put_lines (opened_lines tag work) at work out)
  not_opened {k} is e =
      ap {B = Outcome} (λ (q : PutLine). (q.0, (w, q.1))) e
      ∙ sym (alone (refused_line k.number) w work at out)
      ∙ ap (λ (ls : List Line). put_lines ls at work out) (sym (opened ∙ ap (λ (y : Result Reader Refusal). on_open tag y w) is))

-- a header that was found has its ten bytes
pub there : (tag : List ℕ) (h : Header) → header_of tag ≡ Ok h → 0 < length tag
there tag h e = omega (arith, (accepted tag (found tag h e).0).begun)

module _ (tag work out : List ℕ) {h : Result Header Refusal} (heads : h ≡ header_of tag) where
  headed : on_header h tag work ≡ lines_of tag work
  unfolding lines_of
  headed = ap (λ (x : Result Header Refusal). on_header x tag work) heads

  -- the header's line is put, and what follows it
  module _ {g : Header} (is : h ≡ Ok g) {e : ℕ} (says : e ≡ version_number g.version) {p : Option ℕ} {o : List ℕ}
      (puts : ◌≡◌ {A = PutLine} (p, o) (placed_of (tag_line e g.size g.flags g.ext) 0 out)) where
    begun : on_placed (λ q s. put_lines (opened_lines tag work) q work s) work p o ≡ put_lines (lines_of tag work) 0 work out
    unfolding put_lines
    begun =
        ap {B = Outcome} (λ (x : PutLine). on_placed (λ q s. put_lines (opened_lines tag work) q work s) work x.0 x.1) (rw says at puts)
        ∙ ap (λ (x : Result Header Refusal). put_lines (on_header x tag work) 0 work out) (sym is)
        ∙ ap (λ (ls : List Line). put_lines ls 0 work out) headed

    pub tag_put : {q : ℕ} → p ≡ Some q → {a : Outcome} → a ≡ put_lines (opened_lines tag work) q work o → a ≡ put_lines (lines_of tag work) 0 work out
    tag_put e follows = follows ∙ rw e at begun

    pub tag_full : p ≡ None → ◌≡◌ {A = Outcome} (None, (work, o)) (put_lines (lines_of tag work) 0 work out)
    tag_full e = rw e at begun

  pub not_headed : {k : Refusal} → h ≡ Err k → {p : Option ℕ} {o : List ℕ} → ◌≡◌ {A = PutLine} (p, o) (placed_of (refused_line k.number) 0 out)
      → ◌≡◌ {A = Outcome} (p, (work, o)) (put_lines (lines_of tag work) 0 work out)
  not_headed {k} is e =
      ap {B = Outcome} (λ (q : PutLine). (q.0, (work, q.1))) e
      ∙ sym (alone (refused_line k.number) work work 0 out)
      ∙ ap (λ (x : Result Header Refusal). put_lines (on_header x tag work) 0 work out) (sym is)
      ∙ ap (λ (ls : List Line). put_lines ls 0 work out) headed
