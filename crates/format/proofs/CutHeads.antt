-- The header of a frame of which only a front part is there. Assumes nothing.
use mathlib.Core.Path.{◌≡◌, refl, sym, ap, ◌∙◌}
use mathlib.Core.Logic.{◌⊎◌, inl, inr}
use Prim.Native.Nat.{ℕ, ◌+◌, ◌-◌, ◌≤◌, ◌<◌, min}
use native.Mathlib.Omega.{arith}
use mathlib.Core.Bool.{Bool, true, false, ◌&&◌}
use mathlib.Core.List.{List}
use lib.ListN.{length, take, get_or, length-take}
use lib.Seq.{take-take}
use lib.Dec.{ltb, eqb}
use borrow.Author.Tests.{eqb-false, ltb-false, le-ltb}
use Rattle.laws.proofs.Bools.{or_false}
use Rattle.format.specs.Bytes.{pick, first}
use Rattle.format.specs.Numbers.{number}
use Rattle.format.specs.Ids.{id_len, is_utf8}
use Rattle.format.specs.Frame.{head_len, frame_size, is_encrypted, is_grouped, length_bytes, wants_whole, body_start, body_size, is_short, frame_checks, is_end, head_of}
use Rattle.format.specs.Answers.{head_number}
use Rattle.format.specs.declared.Version.{Version}
use Rattle.format.specs.declared.Version.TheVariants.{Id3v23}
use Rattle.format.specs.declared.Head.{Head}
use Rattle.format.proofs.Checks.{not_first, none_of, none_refused, then_at, of_first}
use Rattle.format.proofs.Heads.{stands, lies}
use Rattle.format.proofs.Fronts.{SameHead, same_front, head_stands, same_head}
use Rattle.std.specs.Prelude.{Ok, Err, Some, None}
use Rattle.std.specs.Prelude.{Result, Option}
use Rattle.format.specs.declared.refusals.Refusal.{Refusal}
use Rattle.format.specs.Refusals.{refusal}
use Rattle.laws.proofs.Results.{found_same, ok_not_err}
use Rattle.format.specs.Frame.{head}

-- ---- a frame that is refused

-- a header is there, and the first of its checks that fails gives the number
pub record Refuses (v : Version) (depth : ℕ) (s : List ℕ) (k : ℕ) : Type 0 where
  pub more : is_end v s ≡ false
  pub fails : k ≡ 0 → ⊥
  pub is : first (frame_checks v depth s) ≡ k

pub head_refuses : (v : Version) (depth : ℕ) (s : List ℕ) {k : ℕ} → head_of v depth s ≡ Err (refusal k) → Refuses v depth s k
unfolding head_of
head_refuses v depth s {k} e =
    let p = not_first _ _ _ _ e ok_not_err in
    let q = not_first _ _ _ _ p.1 ok_not_err in
    let is : first (frame_checks v depth s) ≡ k = ap head_number q.1 in
    record { more = p.0; fails = λ z. eqb-false _ _ q.0 (is ∙ z); is = is }

-- ---- a frame of which a front part is there

module _ (v : Version) (n : ℕ) (s : List ℕ) (more : is_end v (take n s) ≡ false) where
  head_there : head_len v ≤ length (take n s)
  head_there = ltb-false _ _ (or_false (ltb (length (take n s)) (head_len v)) (eqb (get_or (take n s) 0 0) 0) more).0

  -- the header says the same
  same_part : SameHead v (take n s) s
  same_part = same_front v (take n s) s (take-take (head_len v) n s (omega (arith, head_there, length-take n s)))

  more_whole : is_end v s ≡ false
  more_whole =
      let long : ltb (length s) (head_len v) ≡ false = le-ltb (length s) (head_len v) (omega (arith, head_there, length-take n s)) in
      rw (long, ← same_part.begins) (or_false (ltb (length (take n s)) (head_len v)) (eqb (get_or (take n s) 0 0) 0) more).1

-- what is found where only a front part is there
pub record OfWhole (v : Version) (depth : ℕ) (s : List ℕ) (id : ℕ) (compressed flagged : Bool) (start len : ℕ) : Type 0 where
  pub short : Bool
  pub long : ℕ
  pub head : head_of v depth s ≡ Ok (Some (head id compressed flagged short start long))
  pub longer : len ≤ long

whole_too : (t : Bool) (a b : Bool) → (a ≡ false → b ≡ false) → (t && a) ≡ false → (t && b) ≡ (t && a)
whole_too true a b h e = h e ∙ sym e
whole_too false a b h e = refl

-- A frame of which the header is found in a front part is found in the whole, with the same header and at least as many bytes.
pub of_whole : (v : Version) (depth n : ℕ) (s : List ℕ) {id : ℕ} {c f short : Bool} {start len : ℕ}
    → head_of v depth (take n s) ≡ Ok (Some (head id c f short start len)) → OfWhole v depth s id c f start len
of_whole v depth n s {id} {c} {f} {short} {start} {len} found =
    let t = take n s in
    let k = stands v depth t id c f short start len found in
    let l = lies k in
    let h = same_part v n s k.more in
    let less : length t ≤ length s = omega (arith, length-take n s) in
    let ls : length_bytes v s ≡ length_bytes v t = ap (λ (x : Bool). pick x 4 0) (sym h.longer) in
    let at : body_start v s ≡ body_start v t = omega arith in
    let size : body_size v s ≡ body_size v t = omega (arith, h.size) in
    let body_there : ltb (length s) (body_start v s) ≡ ltb (length t) (body_start v t) =
    le-ltb (length s) (body_start v s) (omega (arith, k.is_start, l.within)) ∙ sym (le-ltb (length t) (body_start v t) (omega (arith, k.is_start, l.within))) in
    let short_too : is_short v t ≡ false → is_short v s ≡ false =
    λ e. le-ltb (length s - body_start v s) (body_size v s) (omega (arith, ltb-false (length t - body_start v t) (body_size v t) e)) in
    let last : (wants_whole v && is_short v t) ≡ false = none_refused (wants_whole v && is_short v t) 4 (none_of (frame_checks v depth t) k.passed 6) in
    let whole : (wants_whole v && is_short v s) ≡ (wants_whole v && is_short v t) = whole_too (wants_whole v) (is_short v t) (is_short v s) short_too last in
    let checks : frame_checks v depth s ≡ frame_checks v depth t =
    rw (body_there, whole, ← h.id, ← h.encrypted, ← h.grouped, ← h.size, ← h.longer) in
    let long = min (body_size v s) (length s - body_start v s) in
    record {
      short = is_short v s;
      long = long;
      head =
          head_stands
          record {
            more = more_whole v n s k.more;
            passed = ap first checks ∙ k.passed;
            is_id_lem = k.is_id_lem ∙ ap number h.id;
            is_compressed_lem = k.is_compressed_lem ∙ h.compressed;
            is_flagged_lem = k.is_flagged_lem ∙ h.flagged;
            is_short_lem = refl;
            is_start = k.is_start ∙ sym at;
            is_len = refl;
          };
      longer = omega (arith, k.is_len);
    }

-- ---- a frame that is cut

-- A frame that is there whole, cut before its last byte, is not found whole: where one is found at all, it is marked short.
pub cut_short : (v : Version) (depth : ℕ) (s : List ℕ) {id : ℕ} {c f : Bool} {start len : ℕ} → head_of v depth s ≡ Ok (Some (head id c f false start len))
    → (n : ℕ) → n < start + len → {id' : ℕ} {c' f' short : Bool} {start' len' : ℕ} → head_of v depth (take n s) ≡ Ok (Some (head id' c' f' short start' len'))
    → short ≡ true
cut_short v depth s e n lt {short = true} e' = refl
cut_short v depth s {start = start} {len = len} e n lt {id'} {c'} {f'} {short = false} {start'} {len'} e' =
    let l = lies (stands v depth (take n s) id' c' f' false start' len' e') in
    let inside : start' + len' ≤ n = omega (arith, l.within, length-take n s) in
    let found = sym (same_head v depth (take n s) s e' (take-take (start' + len') n s inside)) ∙ e in
    let same = found_same found in
    let a : start' ≡ start = ap (λ (x : Head). x.start) same in
    let z : len' ≡ len = ap (λ (x : Head). x.len) same in
    absurd (omega arith)

abbrev ByFive : ℕ → Type 0
ByFive k = (k ≡ 0) ⊎ (k ≡ 5)

abbrev Passed : ℕ → Type 0
Passed k = k ≡ 0

five_or_not : (t : Bool) → ByFive (pick t 5 0)
five_or_not t = then_at ByFive t (inl refl) (inr refl)

-- A front part of a frame that is found is refused, if at all, because bytes are missing.
pub cut_refused : (v : Version) (depth n : ℕ) (s : List ℕ) {id : ℕ} {c f short : Bool} {start len k : ℕ}
    → head_of v depth s ≡ Ok (Some (head id c f short start len)) → head_of v depth (take n s) ≡ Err (refusal k) → k ≡ 5
cut_refused v depth n s {id} {c} {f} {short} {start} {len} {k} found refused =
    let t = take n s in
    let w = stands v depth s id c f short start len found in
    let r = head_refuses v depth t refused in
    let h = same_part v n s r.more in
    let passed : (i : ℕ) → Passed (get_or (frame_checks v depth s) i 0) = none_of (frame_checks v depth s) w.passed in
    let utf8 : Passed (pick (is_utf8 (take (id_len v) t)) 0 7) = rw h.id (passed 1) in
    let encrypted : Passed (pick (is_encrypted v t) 8 0) = rw h.encrypted (passed 2) in
    let grouped : Passed (pick (is_grouped v t) 9 0) = rw h.grouped (passed 3) in
    let length_in : Passed (pick (wants_whole v && ltb (frame_size v t) (length_bytes v t)) 10 0) = rw (h.size, h.longer) (passed 5) in
    let by : ByFive (first (frame_checks v depth t)) =
    of_first ByFive (inl refl) (frame_checks v depth t) (
      inl (passed 0),
      (
        inl utf8,
        (
          inl encrypted,
          (
            inl grouped,
            (five_or_not (ltb (length t) (body_start v t)), (inl length_in, (five_or_not (wants_whole v && is_short v t), tt))),
          ),
        ),
      ),
    ) in
    five by r.is r.fails
  where
    five : {j : ℕ} → ByFive j → j ≡ k → (k ≡ 0 → ⊥) → k ≡ 5
    five (inl z) is fails = absurd (fails (sym is ∙ z))
    five (inr z) is fails = sym is ∙ z

-- In 2.3 no frame is found short.
pub never_short : (depth : ℕ) (s : List ℕ) {id : ℕ} {c f short : Bool} {start len : ℕ} → head_of Id3v23 depth s ≡ Ok (Some (head id c f short start len)) → short ≡ false
never_short depth s {id} {c} {f} {short} {start} {len} found =
    let k = stands Id3v23 depth s id c f short start len found in
    k.is_short_lem ∙ none_refused (is_short Id3v23 s) 4 (none_of (frame_checks Id3v23 depth s) k.passed 6)
