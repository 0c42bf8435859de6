-- Any run of edits reads as the old list with those that were done, one after the other. Assumes nothing.
use mathlib.Core.Path.{◌≡◌, refl, sym, ap, ◌∙◌}
use Prim.Native.Nat.{ℕ, ◌+◌}
use mathlib.Core.List.{List}
use lib.ListN.{length, take, drop}
use Rattle.format.specs.Header.{size_of}
use Rattle.promises.specs.Reading.{Reading, read_all}
use Rattle.blocks.proofs.Headers.{same_size}
use Rattle.edit.specs.Promises.{Change, given_in, edited, Edits, edited_all, EditsRead}
use Rattle.edit.proofs.After.{edit_reads}
use Rattle.edit.proofs.Refusing.{edit_refused_same}

-- the bytes that no edit changes
record Kept (tag tag' : List ℕ) : Type 0 where
  pub header : take 10 tag' ≡ take 10 tag
  pub long : length tag' ≡ length tag
  pub behind : drop (10 + size_of tag) tag' ≡ drop (10 + size_of tag) tag

kept_on : {tag t tag' : List ℕ} → Kept tag t → Kept t tag' → Kept tag tag'
kept_on {tag} {t} {tag'} a b =
    let size : size_of t ≡ size_of tag = same_size tag t (sym a.header) in
    record {
      header = b.header ∙ a.header;
      long = b.long ∙ a.long;
      behind = ap (λ (n : ℕ). drop (10 + n) tag') (sym size) ∙ b.behind ∙ ap (λ (n : ℕ). drop (10 + n) t) size ∙ a.behind;
    }

edits_kept : {tag tag' : List ℕ} {cs : List Change} → Edits tag cs tag' → Kept tag tag'
edits_kept Edits.none = record { header = refl; long = refl; behind = refl }
edits_kept (Edits.done {tag} {t} {tag'} {c} {cs} f e es) =
    let g = edit_reads c tag t f e in
    kept_on (record { header = g.same_header; long = g.same_length; behind = g.same_behind }) (edits_kept es)
edits_kept (Edits.declined {tag} {t} {tag'} {cs} {k} c e es) = rw (edit_refused_same c tag k t e) at (edits_kept es)

edits_are : {tag tag' : List ℕ} {cs : List Change} (work : List ℕ) → Edits tag cs tag' → read_all tag' work ≡ (edited_all cs (read_all tag work).0, (read_all tag work).1)
edits_are work Edits.none = refl
edits_are work (Edits.done {tag} {t} {tag'} {c} {cs} f e es) =
    let g = edit_reads c tag t f e in
    edits_are work es
    ∙ ap {B = Reading} (λ (o : Reading). (edited_all cs o.0, o.1)) (g.after work)
    ∙ ap {B = Reading} (λ (o : Reading). (edited_all cs (edited c (given_in c) o.0), o.1)) (sym (g.before work))
edits_are work (Edits.declined {tag} {t} {tag'} {cs} {k} c e es) = rw (edit_refused_same c tag k t e) at (edits_are work es)

pub edits_read : EditsRead
edits_read tag tag' cs es =
    let k = edits_kept es in
    ((λ work. edits_are work es), k.header, k.long, k.behind)
