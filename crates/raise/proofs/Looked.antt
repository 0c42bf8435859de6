-- What is seen of a frame of the top level says of the look and of the blocks, and one turn of the search. Assumes nothing.
use mathlib.Core.Path.{◌≡◌, refl, sym, ap, ◌∙◌, subst}
use Prim.Native.Nat.{ℕ, ◌+◌, ◌≤◌}
use native.Mathlib.Omega.{arith}
use mathlib.Core.Bool.{Bool, true, false, not, ◌&&◌, ◌||◌}
use mathlib.Core.List.{List, ◌∷◌, ◌++◌}
use lib.ListN.{length, take, drop, length-append}
use lib.Seq.{slice, length-slice, take-take}
use Rattle.laws.proofs.Slices.{slice_drop, take_drop_take}
use Rattle.laws.proofs.Cuts.{take_drop, cut_in_two}
use Rattle.format.specs.Bytes.{span, zero_at}
use Rattle.format.specs.Frame.{head_of, head}
use Rattle.format.specs.Popularimeter.{counter_in, counter_of}
use Rattle.format.specs.Walk.{shown_kind}
use Rattle.format.specs.Looks.{both, plain_if, frame_look, on_look, look_at, Look}
use Rattle.format.specs.declared.Version.{Version}
use Rattle.format.specs.declared.Kind.{Kind}
use Rattle.format.specs.declared.Span.{Span}
use Rattle.format.specs.declared.Head.{Head}
use Rattle.format.proofs.Fronts.{same_head}
use Rattle.format.proofs.Looking.{look_head, frame_plain}
use Rattle.walk.specs.declared.plain.Seen.{Seen}
use Rattle.walk.specs.Plain.{seen_kind, seen_as, on_seen, seen_of}
use Rattle.walk.proofs.Onwards.{Placed, placed}
use Rattle.walk.proofs.Looks.{turned_on}
use Rattle.blocks.specs.Blocks.{Block, joined, blocks_in}
use Rattle.blocks.proofs.Seen.{zero_le}
use Rattle.raise.specs.declared.users.Found.{Found}
use Rattle.raise.specs.Raise.{is_popularimeter, same_bytes, user_of, is_mine, field_in, field_at}
use Rattle.raise.specs.Seeks.{also_of, found_on}
use Rattle.raise.proofs.Stored.{mine_is, field_is, at_is}
use Rattle.raise.proofs.Steps.{blocks_next}
use Rattle.std.specs.Prelude.{Result, Option, Ok, Err, Some, None}
use Rattle.format.specs.declared.refusals.Refusal.{Refusal}

-- ---- what is seen

-- a frame of a kind, which ends at `next`, and whether something of it is odd
pub record Met (v : Version) (at end : ℕ) (s : List ℕ) (next : ℕ) (odd : Bool) (kind : Kind) : Type 0 where
  pub id : ℕ
  pub compressed : Bool
  pub flagged : Bool
  pub short : Bool
  pub first : ℕ
  pub len : ℕ
  pub head : head_of v 1 (slice at end s) ≡ Ok (Some (head id compressed flagged short first len))
  pub kind_is : shown_kind v id compressed ≡ kind
  pub next_is : at + first + len ≡ next
  pub looks : frame_look v (look_at v 2) id compressed flagged short (take len (drop first (slice at end s))) ≡ plain_if (not odd)

-- the body that a frame was found with
abbrev pub body_of : {v : Version} {at end : ℕ} {s : List ℕ} {next : ℕ} {odd : Bool} {kind : Kind} → Met v at end s next odd kind → List ℕ
body_of {v} {at} {end} {s} m = take m.len (drop m.first (slice at end s))

-- of another kind than popularimeters
pub record MetOther (v : Version) (at end : ℕ) (s : List ℕ) (next : ℕ) (odd : Bool) : Type 0 where
  pub kind : Kind
  pub met : Met v at end s next odd kind
  pub other : is_popularimeter kind ≡ false

-- a popularimeter, with its user's place and its counter
pub record MetMeter (v : Version) (at end : ℕ) (s : List ℕ) (next : ℕ) (odd : Bool) (user : Span) (counter : ℕ) : Type 0 where
  pub met : Met v at end s next odd Kind.Popularimeter
  pub user_is : span (at + met.first) (zero_at (body_of met)) ≡ user
  pub counter_is : counter_in (body_of met) ≡ counter

-- what is seen at a place, and what it says
pub data Says (v : Version) (at end : ℕ) (s : List ℕ) : Result (Option Seen) Refusal → Type 0 where
  ends : head_of v 1 (slice at end s) ≡ Ok None → Says v at end s (Ok None)
  stops : {k : Refusal} → look_at v 1 (slice at end s) ≡ Err k → Says v at end s (Err k)
  other : {next : ℕ} {odd : Bool} → MetOther v at end s next odd → Says v at end s (Ok (Some (Seen.Frame next odd)))
  meter : {next : ℕ} {odd : Bool} {user : Span} {rating counter : ℕ} → MetMeter v at end s next odd user counter
      → Says v at end s (Ok (Some (Seen.Popularimeter next odd user rating counter)))

module _ (v : Version) (at end : ℕ) (s : List ℕ) where
  abbrev b : List ℕ
  b = slice at end s

  module _ (id : ℕ) (c f sh : Bool) (first len : ℕ) (e : head_of v 1 b ≡ Ok (Some (head id c f sh first len))) where
    abbrev body : List ℕ
    body = take len (drop first b)

    abbrev look : Look
    look = frame_look v (look_at v 2) id c f sh body

    met_as_lem : (kind : Kind) (odd : Bool) → shown_kind v id c ≡ kind → look ≡ plain_if (not odd) → Met v at end s (at + first + len) odd kind
    met_as_lem kind odd k l = record { id = id; compressed = c; flagged = f; short = sh; first = first; len = len; head = e; kind_is = k; next_is = refl; looks = l }

    by_kind : (kind : Kind) (odd : Bool) → shown_kind v id c ≡ kind → look ≡ plain_if (not odd) → Says v at end s (seen_kind kind (at + first) (at + first + len) body odd)
    unfolding met_as_lem
    by_kind Kind.Text odd k l = Says.other (record { kind = Kind.Text; met = met_as_lem Kind.Text odd k l; other = refl })
    by_kind Kind.Popularimeter odd k l = Says.meter (record { met = met_as_lem Kind.Popularimeter odd k l; user_is = refl; counter_is = refl })
    by_kind Kind.Table odd k l = Says.other (record { kind = Kind.Table; met = met_as_lem Kind.Table odd k l; other = refl })
    by_kind Kind.Chapter odd k l = Says.other (record { kind = Kind.Chapter; met = met_as_lem Kind.Chapter odd k l; other = refl })
    by_kind Kind.Contents odd k l = Says.other (record { kind = Kind.Contents; met = met_as_lem Kind.Contents odd k l; other = refl })
    by_kind Kind.Raw odd k l = Says.other (record { kind = Kind.Raw; met = met_as_lem Kind.Raw odd k l; other = refl })

    by_look : (x : Look) → look ≡ x → Says v at end s (seen_as x (shown_kind v id c) (at + first) (at + first + len) body)
    unfolding on_look
    by_look (Err k) l = let stops : look_at v 1 b ≡ Err k = look_head v 1 b _ e ∙ rw l in Says.stops stops
    by_look (Ok false) l = by_kind (shown_kind v id c) true refl l
    by_look (Ok true) l = by_kind (shown_kind v id c) false refl l

  by_head : (x : Result (Option Head) Refusal) → head_of v 1 b ≡ x → Says v at end s (on_seen v at b x)
  unfolding on_seen on_look
  by_head (Ok None) e = Says.ends e
  by_head (Err k) e = Says.stops (look_head v 1 b _ e)
  by_head (Ok (Some h)) e = by_look h.id h.compressed h.flagged h.short h.start h.len e (look h.id h.compressed h.flagged h.short h.start h.len e) refl

  pub says : {x : Result (Option Seen) Refusal} → x ≡ seen_of v at (slice at end s) → Says v at end s x
  unfolding seen_of
  says h = subst (Says v at end s) (sym h) (by_head (head_of v 1 b) refl)

module _ {v : Version} {at end : ℕ} {s : List ℕ} where
  pub says_end : Says v at end s (Ok None) → head_of v 1 (slice at end s) ≡ Ok None
  says_end (Says.ends e) = e

  pub says_stops : {k : Refusal} → Says v at end s (Err k) → look_at v 1 (slice at end s) ≡ Err k
  says_stops (Says.stops e) = e

  pub says_other : {next : ℕ} {odd : Bool} → Says v at end s (Ok (Some (Seen.Frame next odd))) → MetOther v at end s next odd
  says_other (Says.other m) = m

  pub says_meter : {next : ℕ} {odd : Bool} {user : Span} {rating counter : ℕ} → Says v at end s (Ok (Some (Seen.Popularimeter next odd user rating counter)))
      → MetMeter v at end s next odd user counter
  says_meter (Says.meter m) = m

-- ---- where the frame lies

module _ {v : Version} {at end : ℕ} {s : List ℕ} {next : ℕ} {odd : Bool} {kind : Kind} (le : end ≤ length s) (m : Met v at end s next odd kind) where
  place : Placed v 1 at end s m.first m.len
  place = placed v 1 at end s le m.id m.compressed m.flagged m.short m.first m.len m.head

  pub later : at + 6 + m.len ≤ next
  later = omega (arith, place.six, m.next_is)

  pub within : next ≤ end
  within = omega (arith, place.within, m.next_is)

  pub body_lies : body_of m ≡ slice (at + m.first) next s
  body_lies = place.body ∙ ap (λ (n : ℕ). slice (at + m.first) n s) m.next_is

  rest_lies : drop (m.first + m.len) (slice at end s) ≡ slice next end s
  rest_lies = place.rest ∙ ap (λ (n : ℕ). slice n end s) m.next_is

  next_at : at + (m.first + m.len) ≡ next
  next_at = omega (arith, m.next_is)

  front_lies : take (m.first + m.len) (slice at end s) ≡ slice at next s
  front_lies =
      take_drop_take (m.first + m.len) at end s (omega (arith, place.within)) ∙ take_drop (m.first + m.len) at s ∙ ap (λ (k : ℕ). slice at k s) next_at

  cut : slice at end s ≡ slice at next s ++ slice next end s
  cut =
      cut_in_two at (m.first + m.len) end s (omega (arith, place.within))
      ∙ ap (λ (n : ℕ). slice at n s ++ slice n end s) next_at

  -- the look: at this frame, then on
  pub look_on : look_at v 1 (slice at end s) ≡ both (plain_if (not odd)) (look_at v 1 (slice next end s))
  unfolding on_look
  look_on = look_head v 1 (slice at end s) _ m.head ∙ rw (m.looks, rest_lies)

  -- ---- one that is not odd is a block
  module _ (even : odd ≡ false) where
    whole : m.short ≡ false
    whole =
        let l : frame_look v (look_at v 2) m.id m.compressed m.flagged m.short (body_of m) ≡ Ok true = m.looks ∙ ap (λ (t : Bool). plain_if (not t)) even in
        (frame_plain v (look_at v 2) m.id m.compressed m.flagged m.short (body_of m) l).no_short

    pub block : Block v (slice at next s)
    block =
        let found : head_of v 1 (slice at end s) ≡ Ok (Some (head m.id m.compressed m.flagged false m.first m.len)) =
        m.head ∙ ap (λ (t : Bool). Ok (Some (head m.id m.compressed m.flagged t m.first m.len))) whole in
        let n = m.first + m.len in
        record {
          id = m.id;
          compressed = m.compressed;
          flagged = m.flagged;
          start = m.first;
          len = m.len;
          head = ap (head_of v 1) (sym front_lies) ∙ same_head v 1 (slice at end s) (take n (slice at end s)) found (sym (take-take n n (slice at end s) (omega arith)));
          ends = omega (arith, length-slice at next s (omega (arith, within, le)), m.next_is);
        }

    pub long : at + length (slice at next s) ≡ next
    long = omega (arith, length-slice at next s (omega (arith, within, le)), later)

    -- it is the first, and then come those after it
    pub blocks_on : blocks_in v (slice at end s) ≡ slice at next s ∷ blocks_in v (slice next end s)
    blocks_on = ap (blocks_in v) cut ∙ blocks_next block (slice next end s)

    -- the last of them ends where it ended
    pub last_on : next + length (joined (blocks_in v (slice next end s))) ≡ at + length (joined (blocks_in v (slice at end s)))
    last_on =
        let rest = joined (blocks_in v (slice next end s)) in
        omega (arith, ap (λ (l : List (List ℕ)). length (joined l)) blocks_on, length-append (slice at next s) rest, long)

    pub body_same : drop m.first (slice at next s) ≡ body_of m
    body_same = sym (slice_drop at m.first next s) ∙ sym body_lies

-- the user lies in the body
pub user_fits : {v : Version} {at end : ℕ} {s : List ℕ} {next : ℕ} {odd : Bool} {name : Span} {counter : ℕ} (le : end ≤ length s) (m : MetMeter v at end s next odd name counter)
    → name.start + name.len ≤ next
user_fits {v} {at} {end} {s} {next} {odd} {name} {counter} le m =
    let t = m.met in
    let body = body_of t in
    let from : at + t.first ≡ name.start = ap (λ (x : Span). x.start) m.user_is in
    let size : zero_at body ≡ name.len = ap (λ (x : Span). x.len) m.user_is in
    omega (
      arith,
      from,
      size,
      zero_le body,
      ap length (body_lies le t),
      length-slice (at + t.first) next s (omega (arith, within le t, le)),
      t.next_is,
    )

-- the user's bytes, where they lie
pub user_lies : {v : Version} {at end : ℕ} {s : List ℕ} {next : ℕ} {odd : Bool} {name : Span} {counter : ℕ} (le : end ≤ length s) (m : MetMeter v at end s next odd name counter)
    → user_of (body_of m.met) ≡ slice name.start (name.start + name.len) s
user_lies {v} {at} {end} {s} {next} {odd} {name} {counter} le m =
    let t = m.met in
    let body = body_of t in
    let from : at + t.first ≡ name.start = ap (λ (x : Span). x.start) m.user_is in
    let size : zero_at body ≡ name.len = ap (λ (x : Span). x.len) m.user_is in
    let fits = user_fits le m in
    ap (λ (n : ℕ). take n body) size
    ∙ ap (take name.len) (body_lies le t)
    ∙ take_drop_take name.len (at + t.first) next s (omega (arith, from, fits))
    ∙ take_drop name.len (at + t.first) s
    ∙ ap (λ (n : ℕ). slice n (n + name.len) s) from

-- ---- a turn

-- the look goes on after a frame
pub look_again : {v : Version} {at end : ℕ} {s : List ℕ} {next : ℕ} {odd : Bool} {kind : Kind} (le : end ≤ length s) (m : Met v at end s next odd kind) (before : Bool) {w : Look}
    → both (plain_if (not before)) (look_at v 1 (slice at end s)) ≡ w → both (plain_if (not (before || odd))) (look_at v 1 (slice next end s)) ≡ w
look_again {v} {at} {end} {s} {next} {odd} le m before e =
    sym (turned_on before odd (look_at v 1 (slice next end s))) ∙ ap (both (plain_if (not before))) (sym (look_on le m)) ∙ e

-- a frame of another kind changes nothing that was found
pub other_turn : (v : Version) (user : List ℕ) (f : Found) {at end : ℕ} {s : List ℕ} {next : ℕ} {odd : Bool} (le : end ≤ length s) (m : MetOther v at end s next odd)
    → odd ≡ false → found_on v user f next (blocks_in v (slice next end s)) ≡ found_on v user f at (blocks_in v (slice at end s))
unfolding found_on block
other_turn v user f {at} {end} {s} {next} le m even =
    let w = block le m.met even in
    let not_mine : is_mine v user (slice at next s) ≡ false =
    mine_is w user ∙ ap (λ (k : Kind). is_popularimeter k && same_bytes (user_of (drop w.start (slice at next s))) user) m.met.kind_is
    ∙ ap (λ (t : Bool). t && same_bytes (user_of (drop w.start (slice at next s))) user) m.other in
    let b = slice at next s in
    let rest = blocks_in v (slice next end s) in
    sym (ap (found_on v user f at) (blocks_on le m.met even)
    ∙ ap (λ (t : Bool). found_on v user (also_of f t at (at + field_at v b) (at + length b) (counter_of (field_in v b))) (at + length b) rest) not_mine
    ∙ ap (λ (n : ℕ). found_on v user f n rest) (long le m.met even))

-- a popularimeter is one more of the user, or not
pub meter_turn : (v : Version) (user : List ℕ) (f : Found) {at end : ℕ} {s : List ℕ} {next : ℕ} {odd : Bool} {name : Span} {counter : ℕ} (le : end ≤ length s)
    (m : MetMeter v at end s next odd name counter) (mine : Bool) (start : ℕ) → odd ≡ false
    → mine ≡ same_bytes (slice name.start (name.start + name.len) s) user → start ≡ name.start + name.len + 2
    → found_on v user (also_of f mine at start next counter) next (blocks_in v (slice next end s)) ≡ found_on v user f at (blocks_in v (slice at end s))
unfolding found_on block
meter_turn v user f {at} {end} {s} {next} {odd} {name} {counter} le m mine start even is begins =
    let t = m.met in
    let b = slice at next s in
    let body = body_of t in
    let w = block le t even in
    let same : drop t.first b ≡ body = body_same le t even in
    let from : at + t.first ≡ name.start = ap (λ (x : Span). x.start) m.user_is in
    let size : zero_at body ≡ name.len = ap (λ (x : Span). x.len) m.user_is in
    let who : user_of body ≡ slice name.start (name.start + name.len) s = user_lies le m in
    let mine_eq : is_mine v user b ≡ mine =
    mine_is w user
    ∙ ap (λ (k : Kind). is_popularimeter k && same_bytes (user_of (drop t.first b)) user) t.kind_is
    ∙ ap (λ (l : List ℕ). same_bytes (user_of l) user) same
    ∙ ap (λ (l : List ℕ). same_bytes l user) who
    ∙ sym is in
    let place : field_at v b ≡ t.first + (zero_at body + 2) = at_is w ∙ ap (λ (l : List ℕ). t.first + (zero_at l + 2)) same in
    let field_eq : at + field_at v b ≡ start = omega (arith, place, from, size, begins) in
    let counter_eq : counter_of (field_in v b) ≡ counter =
    ap counter_of (field_is w) ∙ ap (λ (l : List ℕ). counter_of (drop (zero_at l + 2) l)) same ∙ m.counter_is in
    let rest = blocks_in v (slice next end s) in
    sym (ap (found_on v user f at) (blocks_on le t even)
    ∙ ap (λ (x : Bool). found_on v user (also_of f x at (at + field_at v b) (at + length b) (counter_of (field_in v b))) (at + length b) rest) mine_eq
    ∙ ap (λ (n : ℕ). found_on v user (also_of f mine at n (at + length b) (counter_of (field_in v b))) (at + length b) rest) field_eq
    ∙ ap (λ (n : ℕ). found_on v user (also_of f mine at start (at + length b) n) (at + length b) rest) counter_eq
    ∙ ap (λ (n : ℕ). found_on v user (also_of f mine at start n counter) n rest) (long le t even))

-- a frame that was passed, whatever was seen of it: g is what was found then
pub record Turned (v : Version) (user : List ℕ) (f g : Found) (at end : ℕ) (s : List ℕ) (next : ℕ) (odd : Bool) : Type 0 where
  pub kind : Kind
  pub met : Met v at end s next odd kind
  pub goes : odd ≡ false → found_on v user g next (blocks_in v (slice next end s)) ≡ found_on v user f at (blocks_in v (slice at end s))

-- what was seen at the place says which turn it is
module _ (v : Version) (user : List ℕ) (f : Found) (at end : ℕ) (s : List ℕ) (le : end ≤ length s) {x : Seen} (seen : Ok (Some x) ≡ seen_of v at (slice at end s)) where
  pub other_turned : {next : ℕ} {odd : Bool} → x ≡ Seen.Frame next odd → Turned v user f f at end s next odd
  other_turned e =
      let m = says_other (says v at end s (ap (λ (y : Seen). Ok (Some y)) (sym e) ∙ seen)) in
      record { kind = m.kind; met = m.met; goes = other_turn v user f le m }

  module _ {next : ℕ} {odd : Bool} {name : Span} {rating counter : ℕ} (e : x ≡ Seen.Popularimeter next odd name rating counter) where
    met_meter : MetMeter v at end s next odd name counter
    met_meter = says_meter (says v at end s (ap (λ (y : Seen). Ok (Some y)) (sym e) ∙ seen))

    pub user_there : name.start + name.len ≤ end
    user_there = omega (arith, user_fits le met_meter, within le met_meter.met)

    pub meter_turned : {mine : Bool} → mine ≡ same_bytes (slice name.start (name.start + name.len) s) user
        → Turned v user f (also_of f mine at (name.start + name.len + 2) next counter) at end s next odd
    meter_turned {mine} is =
        record { kind = Kind.Popularimeter; met = met_meter.met; goes = λ even. meter_turn v user f le met_meter mine _ even is refl }
