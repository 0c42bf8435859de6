-- Whether a header says nothing that makes its tag odd. Assumes nothing.
use mathlib.Core.Path.{◌≡◌, sym, ap, ◌∙◌}
use Prim.Native.Nat.{ℕ, ◌+◌, ◌≤◌, ◌<◌}
use native.Mathlib.Omega.{arith}
use mathlib.Core.Bool.{true, false, not}
use mathlib.Core.List.{List}
use lib.ListN.{length}
use lib.Dec.{leb}
use borrow.Author.Tests.{le-leb, lt-leb}
use Rattle.laws.proofs.Bools.{and_false}
use Rattle.format.specs.Bytes.{has}
use Rattle.format.specs.Header.{size_of, flags_of}
use Rattle.format.specs.Looks.{is_simple}
use Rattle.reader.specs.declared.Header.{Header}
use Rattle.reader.specs.Reader.{header_of}
use Rattle.reader.proofs.Opens.{found}
use Rattle.std.specs.Prelude.{Ok}

module _ (tag : List ℕ) (h : Header) (e : header_of tag ≡ Ok h) where
  size_is : h.size ≡ size_of tag
  size_is = ap (λ (x : Header). x.size) (found tag h e).1

  flags_are : h.flags ≡ flags_of tag
  flags_are = ap (λ (x : Header). x.flags) (found tag h e).1

  pub bytes_missing : length tag < 10 + h.size → false ≡ is_simple tag
  bytes_missing lt =
      let f : leb (10 + size_of tag) (length tag) ≡ false = lt-leb (10 + size_of tag) (length tag) (omega (arith, size_is)) in
      rw f

  pub has_extended : has 0x40 h.flags ≡ true → false ≡ is_simple tag
  has_extended on =
      let f : has 0x40 (flags_of tag) ≡ true = ap (has 0x40) (sym flags_are) ∙ on in
      rw (f, and_false)

  pub says_simple : 10 + h.size ≤ length tag → has 0x40 h.flags ≡ false → not (has 0x80 h.flags) ≡ is_simple tag
  says_simple le off =
      let f : leb (10 + size_of tag) (length tag) ≡ true = le-leb (10 + size_of tag) (length tag) (omega (arith, size_is)) in
      let g : has 0x40 (flags_of tag) ≡ false = ap (has 0x40) (sym flags_are) ∙ off in
      ap (λ (n : ℕ). not (has 0x80 n)) flags_are ∙ rw (f, g)
