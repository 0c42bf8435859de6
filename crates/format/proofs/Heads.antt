-- What is known of a frame that stands where one may begin. Assumes nothing.
use mathlib.Core.Path.{◌≡◌, refl, sym, ap, ◌∙◌}
use Prim.Native.Nat.{ℕ, zero, suc, ◌+◌, ◌-◌, ◌≤◌, ◌<◌, min}
use native.Mathlib.Omega.{arith}
use mathlib.Core.Bool.{Bool, true, false}
use mathlib.Core.List.{List, [], ◌∷◌}
use lib.ListN.{length, take}
use lib.Dec.{ltb, eqb}
use borrow.Author.Tests.{eqb-true, ltb-false}
use Rattle.laws.proofs.Bools.{or_false}
use Rattle.format.specs.Bytes.{pick, first}
use Rattle.format.specs.Numbers.{number}
use Rattle.format.specs.Ids.{id_len}
use Rattle.format.specs.Frame.{head_len, length_bytes, is_compressed, is_flagged, is_short, body_start, body_size, frame_checks, is_end, head_of}
use Rattle.format.specs.declared.Version.{Version}
use Rattle.format.specs.declared.Version.TheVariants.{Id3v22, Id3v23, Id3v24}
use Rattle.format.specs.declared.Head.{Head}
use Rattle.format.proofs.Checks.{not_first, not_second, none_of, none_refused}
use Rattle.std.specs.Prelude.{Ok, Err, Some, None}
use Rattle.std.specs.Prelude.{Ok, Some}
use Rattle.laws.proofs.Results.{found_same, none_not_found, err_not_ok}
use Rattle.format.specs.declared.refusals.Refusal.{Refusal}
use Rattle.format.specs.Refusals.{refusal}
use Rattle.format.specs.Frame.{head}

pub record Stands (v : Version) (depth : ℕ) (s : List ℕ) (id : ℕ) (compressed flagged short : Bool) (start len : ℕ) : Type 0 where
  pub more : is_end v s ≡ false
  pub passed : first (frame_checks v depth s) ≡ 0
  pub is_id_lem : id ≡ number (take (id_len v) s)
  pub is_compressed_lem : compressed ≡ is_compressed v s
  pub is_flagged_lem : flagged ≡ is_flagged v s
  pub is_short_lem : short ≡ is_short v s
  pub is_start : start ≡ body_start v s
  pub is_len : len ≡ min (body_size v s) (length s - body_start v s)

pub stands : (v : Version) (depth : ℕ) (s : List ℕ) (id : ℕ) (c f h : Bool) (start len : ℕ) → head_of v depth s ≡ Ok (Some (head id c f h start len))
    → Stands v depth s id c f h start len
unfolding head_of
stands v depth s id c f h start len e =
    let p = not_first _ _ _ _ e none_not_found in
    let q = not_second _ _ _ _ p.1 err_not_ok in
    let same = sym (found_same q.1) in
    record {
      more = p.0;
      passed = eqb-true _ _ q.0;
      is_id_lem = ap (λ (x : Head). x.id) same;
      is_compressed_lem = ap (λ (x : Head). x.compressed) same;
      is_flagged_lem = ap (λ (x : Head). x.flagged) same;
      is_short_lem = ap (λ (x : Head). x.short) same;
      is_start = ap (λ (x : Head). x.start) same;
      is_len = ap (λ (x : Head). x.len) same;
    }

-- ---- lengths

head_some : (v : Version) → 6 ≤ head_len v
head_some Id3v22 = omega arith
head_some Id3v23 = omega arith
head_some Id3v24 = omega arith

-- a frame takes at least six bytes, its body begins after its header and lies in what is there
pub record Lies (v : Version) (s : List ℕ) (start len : ℕ) : Type 0 where
  pub six : 6 ≤ start
  pub head : head_len v ≤ start
  pub within : start + len ≤ length s

pub lies : {v : Version} {depth : ℕ} {s : List ℕ} {id : ℕ} {c f h : Bool} {start len : ℕ} → Stands v depth s id c f h start len → Lies v s start len
lies {v} {depth} {s} {start = start} {len = len} t =
    let there : body_start v s ≤ length s = ltb-false _ _ (none_refused (ltb (length s) (body_start v s)) 4 (none_of (frame_checks v depth s) t.passed 4)) in
    record {
      six = omega (arith, t.is_start, head_some v);
      head = omega (arith, t.is_start);
      within = omega (arith, t.is_start, t.is_len);
    }
