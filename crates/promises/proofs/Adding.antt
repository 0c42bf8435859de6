-- What the calls left in the collecting buffer, and the tag that finishing reports. Assumes nothing.
use mathlib.Core.Path.{◌≡◌, refl, sym, ap, ◌∙◌, subst, subst₂}
use Prim.Native.Nat.{ℕ, zero, suc, ◌+◌, ◌^◌, ◌≤◌, ◌<◌}
use native.Mathlib.Nat.{zero-add}
use native.Mathlib.Omega.{arith}
use mathlib.Core.Bool.{Bool, true, false, not, ◌||◌}
use mathlib.Core.List.{List, [], ◌∷◌, ◌++◌, append_assoc, append-nil}
use lib.ListN.{length, take, drop, length-append, length-take}
use lib.Seq.{sets, sets-eq, length-sets, take_at, take-append_seam}
use lib.Dec.{leb, ltb, eqb}
use borrow.Author.Tests.{eqb-true, ltb-false, leb-false, not-false}
use Rattle.laws.proofs.Bools.{or_false, false_not_true}
use Rattle.format.specs.Header.{version_of}
use Rattle.format.specs.Numbered.{mode_of}
use Rattle.format.specs.Record.{Rec, Fits}
use Rattle.format.specs.Encode.{encode, is_lost, refusal_of, region_bytes, tag_of}
use Rattle.format.specs.declared.Version.{Version}
use Rattle.format.specs.declared.Mode.{Mode}
use Rattle.format.proofs.Checks.{of_picked}
use Rattle.format.proofs.Accepted.{accepted as sound}
use Rattle.writer.specs.Writer.{is_known, begin_of, grown, Adding, add_of, Finishing, finish_of}
use Rattle.writer.specs.Answers.{begun_writer, added_number, added_writer, finished_number, finished_count, finished_writer}
use Rattle.writer.specs.declared.Writer.{Writer}
use Rattle.promises.specs.Written.{Adds, none, accepted, declined, finished, WrittenAs, Written, kept_of}
use Rattle.promises.specs.Promises.{frames_of}
use Rattle.promises.specs.Altered.{AllKept, FinishKeeps}
use Rattle.promises.proofs.Sounds.{Sounds, nothing, also}
use Rattle.std.specs.Prelude.{Result, Ok, Err}
use Rattle.format.specs.declared.refusals.Refusal.{Refusal}

-- ---- one call of add

positive : (k : ℕ) → not (eqb k 0) ≡ true → 0 < k
positive zero e = absurd (false_not_true e)
positive (suc k) e = omega arith

-- a refused call has a number, and left writer and buffer as they were
abbrev pub Keeps : Writer → List ℕ → Adding → Type 0
Keeps w b ((Ok n, w'), b') = Unit {0}
Keeps w b ((Err k, w'), b') = (0 < k.number) × ((w' ≡ w) × (b' ≡ b))

pub keeps : (w : Writer) (r : Rec) (b : List ℕ) → Keeps w b (add_of w r b)
unfolding add_of
keeps w r b =
    let k = refusal_of w.version w.mode w.altered r in
    of_picked (Keeps w b) (not (eqb k 0)) (λ t. (positive k t, (refl, refl)))
    (λ t. of_picked (Keeps w b) (is_lost w.version w.altered r.id) (λ l. tt)
    (λ l. of_picked (Keeps w b) (ltb (length b) (w.used + length (encode w.version w.mode r))) (λ s. (omega arith, (refl, refl))) (λ s. tt)))

pub declined_keeps : (w : Writer) (b : List ℕ) (k : ℕ) (o : Adding) → Keeps w b o → added_number o.0 ≡ suc k → (added_writer o.0 ≡ w) × (o.1 ≡ b)
declined_keeps w b k ((Ok n, w'), b') h z = absurd (omega arith)
declined_keeps w b k ((Err j, w'), b') h z = h.1

-- an accepted call passed the checks: it lost the record and left both as they were, or it had the room and put the frame after those there
data Took (w : Writer) (r : Rec) (b : List ℕ) : Writer → List ℕ → Type 0 where
  lost : is_lost w.version w.altered r.id ≡ true → Took w r b w b
  put : is_lost w.version w.altered r.id ≡ false → refusal_of w.version w.mode false r ≡ 0
      → w.used + length (encode w.version w.mode r) ≤ length b
      → Took w r b (grown (length (encode w.version w.mode r)) w) (sets b w.used (encode w.version w.mode r))

-- a record that is not lost meets the same checks with the mark on and off
unlost : (v : Version) (m : Mode) (altered : Bool) (r : Rec) → is_lost v altered r.id ≡ false → refusal_of v m altered r ≡ 0 → refusal_of v m false r ≡ 0
unfolding refusal_of
unlost v m altered r l e = rw l at e

abbrev TookBy : Writer → Rec → List ℕ → Adding → Type 0
TookBy w r b o = added_number o.0 ≡ 0 → Took w r b (added_writer o.0) o.1

took : (w : Writer) (r : Rec) (b : List ℕ) → added_number (add_of w r b).0 ≡ 0 → Took w r b (added_writer (add_of w r b).0) (add_of w r b).1
unfolding add_of
took w r b =
    let k = refusal_of w.version w.mode w.altered r in
    of_picked (TookBy w r b) (not (eqb k 0)) (λ t z. absurd (omega (arith, positive k t)))
    (λ t. of_picked (TookBy w r b) (is_lost w.version w.altered r.id) (λ l z. lost l)
    (λ l. of_picked (TookBy w r b) (ltb (length b) (w.used + length (encode w.version w.mode r))) (λ s z. absurd (omega arith))
    (λ s z. put l (unlost w.version w.mode w.altered r l (eqb-true _ _ (not-false _ t))) (ltb-false _ _ s))))

-- ---- all calls

-- what a writer and its buffer are after the calls
record Collected (w : Writer) (b : List ℕ) (rs : List Rec) (w' : Writer) (b' : List ℕ) : Type 0 where
  version : w'.version ≡ w.version
  mode : w'.mode ≡ w.mode
  altered : w'.altered ≡ w.altered
  within : w'.used ≤ length b'
  bytes : take w'.used b' ≡ take w.used b ++ frames_of w.version w.mode (kept_of w.version w.altered rs)
  sounds : Sounds w.version w.mode (kept_of w.version w.altered rs)

put_there : (n : ℕ) (f b : List ℕ) → n + length f ≤ length b → take (n + length f) (sets b n f) ≡ take n b ++ f
put_there n f b h =
    let len : length (take n b ++ f) ≡ n + length f = simp (length-append, length-take) (omega arith) in
    ap (take (n + length f)) (sets-eq f b n h)
    ∙ take_at (take n b ++ f) (drop (n + length f) b) (n + length f) len

-- the frames still lie in the buffer after an accepted call
still_within : (w : Writer) (r : Rec) (b : List ℕ) {w' : Writer} {b' : List ℕ} → Took w r b w' b' → w.used ≤ length b → w'.used ≤ length b'
still_within w r b (lost l) h = h
still_within w r b (put l p room) h = rw (length-sets b w.used (encode w.version w.mode r)) room

-- an accepted call, and the rest of the calls
next : (w : Writer) (r : Rec) (rs : List Rec) (b : List ℕ) (w'' : Writer) (b'' : List ℕ) {w' : Writer} {b' : List ℕ} → Fits r.content → Took w r b w' b'
    → Collected w' b' rs w'' b'' → Collected w b (r ∷ rs) w'' b''
next w r rs b w'' b'' f (lost l) c = record {
  version = c.version;
  mode = c.mode;
  altered = c.altered;
  within = c.within;
  bytes = rw l c.bytes;
  sounds = rw l c.sounds;
}
next w r rs b w'' b'' f (put l passed room) c =
    let v = w.version in
    let m = w.mode in
    let kept = kept_of v w.altered rs in
    record {
      version = c.version;
      mode = c.mode;
      altered = c.altered;
      within = c.within;
      bytes =
          rw l
          (c.bytes
          ∙ ap (λ (s : List ℕ). s ++ frames_of v m kept) (put_there w.used (encode v m r) b room)
          ∙ append_assoc (take w.used b) (encode v m r) (frames_of v m kept));
      sounds = rw l (also (sound v m r passed f) c.sounds);
    }

abbrev WriterOf : Writer → Finishing → Type 0
WriterOf w o = finished_writer o.0 ≡ w

pub finish_keeps : FinishKeeps
unfolding finish_of
finish_keeps w padding b output =
    let frames = take w.used b in
    let tag = tag_of w.version w.mode padding frames in
    of_picked (WriterOf w) (leb (2 ^ 28) (length (region_bytes w.version w.mode padding frames))) (λ t. refl)
    (λ t. of_picked (WriterOf w) (ltb (length b) w.used || ltb (length output) (length tag)) (λ s. refl) (λ s. refl))

collected : {w w' : Writer} {b b' : List ℕ} {rs : List Rec} → w.used ≤ length b → Adds w b rs w' b' → Collected w b rs w' b'
collected h none = record { version = refl; mode = refl; altered = refl; within = h; bytes = sym (append-nil _); sounds = nothing }
collected {w} {w' = w''} {b} {b' = b''} h (accepted {r = r} {rs = rs} f z a) =
    let t = took w r b z in
    next w r rs b w'' b'' f t (collected (still_within w r b t h) a)
collected {w} {w' = w''} {b} {b' = b''} {rs} h (declined {k = k} r z a) =
    let t = declined_keeps w b k (add_of w r b) (keeps w r b) z in
    subst₂ (λ (v : Writer) (d : List ℕ). Collected v d rs w'' b'') t.0 t.1 (collected (rw (t.0, t.1) h) a)
collected {w} {w' = w''} {b} {b' = b''} {rs} h (finished padding output a) =
    let t = finish_keeps w padding b output in
    subst (λ (v : Writer). Collected v b rs w'' b'') t (collected (rw t h) a)

-- ---- finishing

pub record Finishes (w : Writer) (padding : ℕ) (b : List ℕ) (n : ℕ) (left : List ℕ) : Type 0 where
  pub small : length (region_bytes w.version w.mode padding (take w.used b)) < 2 ^ 28
  pub count : n ≡ length (tag_of w.version w.mode padding (take w.used b))
  pub tag : take n left ≡ tag_of w.version w.mode padding (take w.used b)

-- a refused call has a number
abbrev pub Numbered : Finishing → Type 0
Numbered ((Ok n, w), left) = Unit {0}
Numbered ((Err k, w), left) = 0 < k.number

pub numbered : (w : Writer) (padding : ℕ) (b output : List ℕ) → Numbered (finish_of w padding b output)
unfolding finish_of
numbered w padding b output =
    let frames = take w.used b in
    let tag = tag_of w.version w.mode padding frames in
    of_picked Numbered (leb (2 ^ 28) (length (region_bytes w.version w.mode padding frames))) (λ t. omega arith)
    (λ t. of_picked Numbered (ltb (length b) w.used || ltb (length output) (length tag)) (λ s. omega arith) (λ s. tt))

-- a tag at the front of an output that is long enough
front_there : (tag output : List ℕ) → length tag ≤ length output → take (length tag) (sets output 0 tag) ≡ tag
front_there tag output fits =
    ap (take (length tag)) (sets-eq tag output 0 (omega arith) ∙ ap (λ (k : ℕ). tag ++ drop k output) (zero-add (length tag)))
    ∙ take-append_seam tag (drop (length tag) output)

abbrev FinishesBy : Writer → ℕ → List ℕ → Finishing → Type 0
FinishesBy w padding b o = finished_number o.0 ≡ 0 → Finishes w padding b (finished_count o.0) o.1

pub done_tag : (w : Writer) (padding : ℕ) (b output : List ℕ) → finished_number (finish_of w padding b output).0 ≡ 0
    → Finishes w padding b (finished_count (finish_of w padding b output).0) (finish_of w padding b output).1
unfolding finish_of
done_tag w padding b output =
    let frames = take w.used b in
    let tag = tag_of w.version w.mode padding frames in
    of_picked (FinishesBy w padding b) (leb (2 ^ 28) (length (region_bytes w.version w.mode padding frames))) (λ t z. absurd (omega arith))
    (λ t. of_picked (FinishesBy w padding b) (ltb (length b) w.used || ltb (length output) (length tag)) (λ s z. absurd (omega arith))
    (λ s z. record {
      small = leb-false _ _ t;
      count = refl;
      tag = front_there tag output (ltb-false _ _ (or_false (ltb (length b) w.used) (ltb (length output) (length tag)) s).1);
    }))

-- ---- a written tag

abbrev start_of : ℕ → ℕ → Bool → Writer
start_of version mode altered = record { version = version_of version; mode = mode_of mode; altered = altered; used = 0 }

abbrev IsStart : ℕ → ℕ → Bool → Writer → Result Writer Refusal → Type 0
IsStart version mode altered w o = begun_writer o ≡ w ∷ [] → w ≡ start_of version mode altered

pub begun_is : (version mode : ℕ) (altered : Bool) (w : Writer) → begun_writer (begin_of version mode altered) ≡ w ∷ []
    → w ≡ record { version = version_of version; mode = mode_of mode; altered = altered; used = 0 }
unfolding begin_of
begun_is version mode altered w =
    of_picked (IsStart version mode altered w) (is_known version mode) (λ t e. cc) (λ t e. absurd (let z : ◌≡◌ {A = ℕ} 0 1 = cc in omega arith))

-- the tag, its length and its records
pub record Told (version mode padding : ℕ) (rs : List Rec) (tag : List ℕ) (count : ℕ) : Type 0 where
  pub small : length (region_bytes (version_of version) (mode_of mode) padding (frames_of (version_of version) (mode_of mode) rs)) < 2 ^ 28
  pub is_tag_lem : tag ≡ tag_of (version_of version) (mode_of mode) padding (frames_of (version_of version) (mode_of mode) rs)
  pub is_count : count ≡ length tag
  pub sounds : Sounds (version_of version) (mode_of mode) rs

module _ (version mode : ℕ) (altered : Bool) (padding : ℕ) (rs : List Rec) (tag : List ℕ) (w : WrittenAs version mode altered padding rs tag) where
  begun : w.first ≡ record { version = version_of version; mode = mode_of mode; altered = altered; used = 0 }
  begun = begun_is version mode altered w.first w.begins

  all_collected : Collected w.first w.collecting rs w.last w.collected
  all_collected = collected (rw begun (omega arith)) w.adds

  pub last_version : w.last.version ≡ version_of version
  last_version = all_collected.version ∙ ap (λ (x : Writer). x.version) begun

  pub last_mode : w.last.mode ≡ mode_of mode
  last_mode = all_collected.mode ∙ ap (λ (x : Writer). x.mode) begun

  pub last_altered : w.last.altered ≡ altered
  last_altered = all_collected.altered ∙ ap (λ (x : Writer). x.altered) begun

  pub told_as : Told version mode padding (kept_of (version_of version) altered rs) tag (finished_count (finish_of w.last padding w.collected w.output).0)
  told_as =
      let c = all_collected in
      let kept = kept_of (version_of version) altered rs in
      let f = done_tag w.last padding w.collected w.output w.done in
      let frames : take w.last.used w.collected ≡ frames_of (version_of version) (mode_of mode) kept =
      c.bytes ∙ ap (λ (x : Writer). take x.used w.collecting ++ frames_of x.version x.mode (kept_of x.version x.altered rs)) begun in
      record {
        small = rw (last_version, last_mode, frames) at f.small;
        is_tag_lem = w.reported ∙ f.tag ∙ rw (last_version, last_mode, frames);
        is_count = f.count ∙ sym (ap length (w.reported ∙ f.tag));
        sounds = subst (λ (x : Writer). Sounds x.version x.mode (kept_of x.version x.altered rs)) begun c.sounds;
      }

pub all_kept : AllKept
all_kept v [] = refl
all_kept v (r ∷ rs) = ap (λ (l : List Rec). r ∷ l) (all_kept v rs)

-- with the mark off
pub told_written : (version mode padding : ℕ) (rs : List Rec) (tag : List ℕ) (w : Written version mode padding rs tag)
    → Told version mode padding rs tag (finished_count (finish_of w.last padding w.collected w.output).0)
told_written version mode padding rs tag w =
    subst (λ (l : List Rec). Told version mode padding l tag (finished_count (finish_of w.last padding w.collected w.output).0))
    (all_kept (version_of version) rs) (told_as version mode false padding rs tag w)
