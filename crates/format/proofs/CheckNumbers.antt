-- Which numbers the checks of a tag's header, of a frame's header and of a body give. Assumes nothing.
use Prim.Native.Nat.{ℕ, ◌+◌, ◌%◌, ◌^◌}
use mathlib.Core.Bool.{◌&&◌}
use mathlib.Core.List.{List, [], ◌∷◌}
use lib.ListN.{length, take, get_or}
use lib.Dec.{ltb, leb, eqb}
use Rattle.format.specs.Bytes.{first, zero_at, zeros_in, named}
use Rattle.format.specs.Numbers.{number}
use Rattle.format.specs.Ids.{id_len, is_utf8}
use Rattle.format.specs.Header.{edition_of, flags_of, cut_of, is_extended, ext_of, header_checks, header_refusal}
use Rattle.format.specs.Frame.{frame_size, is_encrypted, is_grouped, wants_whole, length_bytes, body_start, is_short, frame_checks}
use Rattle.format.specs.Popularimeter.{counter_in}
use Rattle.format.specs.Table.{byte_bits_in, milli_bits_in, is_width}
use Rattle.format.specs.Chapter.{count_in, after_count}
use Rattle.format.specs.Record.{body_refusal}
use Rattle.format.specs.declared.Version.{Version}
use Rattle.format.specs.declared.Kind.{Kind}
use Rattle.format.proofs.Checks.{then_at, else_at, AllOf, of_first}

-- the numbers, and 0 where nothing is refused
abbrev pub header_numbers : List ℕ
header_numbers = 0 ∷ 1 ∷ 2 ∷ 3 ∷ 4 ∷ 5 ∷ 6 ∷ []

abbrev pub frame_numbers : List ℕ
frame_numbers = 0 ∷ 13 ∷ 7 ∷ 8 ∷ 9 ∷ 5 ∷ 10 ∷ []

abbrev pub body_numbers : List ℕ
body_numbers = 0 ∷ 11 ∷ 12 ∷ 35 ∷ 30 ∷ 31 ∷ 32 ∷ []

module _ (P : ℕ → Type 0) where
  -- What holds of these numbers holds of a tag header's refusal.
  pub of_header : AllOf P header_numbers → (tag : List ℕ) → P (header_refusal tag)
  unfolding header_refusal
  of_header (z, (p1, (p2, (p3, (p4, (p5, (p6, n))))))) tag =
      of_first P z (header_checks tag) (
        else_at P (leb 10 (length tag) && eqb (number (take 3 tag)) (named "ID3")) z p1,
        (
          else_at P (leb 2 (edition_of tag) && leb (edition_of tag) 4) z p2,
          (
            else_at P (eqb (flags_of tag % 16) 0) z p3,
            (
              then_at P (eqb (edition_of tag) 2 && is_extended tag) z p4,
              (then_at P (is_extended tag && ltb (length (cut_of tag)) 16) z p5, (then_at P (is_extended tag && ltb (ext_of tag) 6) z p6, tt)),
            ),
          ),
        ),
      )

  -- of a frame header's
  pub of_frame : AllOf P frame_numbers → (v : Version) (depth : ℕ) (s : List ℕ) → P (first (frame_checks v depth s))
  of_frame (z, (p13, (p7, (p8, (p9, (p5, (p10, n))))))) v depth s =
      of_first P z (frame_checks v depth s) (
        then_at P (ltb 8 depth) z p13,
        (
          else_at P (is_utf8 (take (id_len v) s)) z p7,
          (
            then_at P (is_encrypted v s) z p8,
            (
              then_at P (is_grouped v s) z p9,
              (
                then_at P (ltb (length s) (body_start v s)) z p5,
                (then_at P (wants_whole v && ltb (frame_size v s) (length_bytes v s)) z p10, (then_at P (wants_whole v && is_short v s) z p5, tt)),
              ),
            ),
          ),
        ),
      )

  -- of a body's
  pub of_body : AllOf P body_numbers → (kind : Kind) (b : List ℕ) → P (body_refusal kind b)
  unfolding body_refusal
  of_body (z, (p11, (p12, (p35, (p30, (p31, (p32, n))))))) Kind.Text b =
      of_first P z _ (then_at P (eqb (length b) 0) z p11, (then_at P (leb 4 (get_or b 0 0)) z p12, tt))
  of_body (z, (p11, (p12, (p35, (p30, (p31, (p32, n))))))) Kind.Popularimeter b =
      of_first P z _ (else_at P (ltb (zero_at b + 1) (length b)) z p11, (else_at P (ltb (counter_in b) (2 ^ 64)) z p35, tt))
  of_body (z, (p11, (p12, (p35, (p30, (p31, (p32, n))))))) Kind.Table b =
      let v = byte_bits_in b in
      let w = milli_bits_in b in
      of_first P z _ (
        then_at P (ltb (length b) 10) z p11,
        (else_at P (is_width v && is_width w) z p30, (else_at P (eqb ((v + w) % 4) 0) z p31, (else_at P (leb (v + w) 64) z p32, tt))),
      )
  of_body (z, (p11, (p12, (p35, (p30, (p31, (p32, n))))))) Kind.Chapter b = else_at P (leb (zero_at b + 17) (length b)) z p11
  of_body (z, (p11, (p12, (p35, (p30, (p31, (p32, n))))))) Kind.Contents b =
      else_at P (leb (zero_at b + 3) (length b) && leb (count_in b) (zeros_in (after_count b))) z p11
  of_body (z, (p11, (p12, (p35, (p30, (p31, (p32, n))))))) Kind.Raw b = z
