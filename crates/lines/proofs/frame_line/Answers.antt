use Rattle.std.proofs.Common.{arith, rules}
use Rattle.format.specs.Ids.{id_len}
use Rattle.format.specs.Numbers.{bytes_of}
use Rattle.format.specs.Listing.{frame_line}
use Rattle.lines.proofs.Lines.{no_room}
use Rattle.lines.proofs.Parts.{frame_length}
use Rattle.lines.proofs.frame_line.Goals as goal

pub returns-then-out-shown_bytes : goal.returns-then-out-shown_bytes
returns-then-out-shown_bytes c =
    let a = c.args in
    no_room _ _ _ (omega (arith, (frame_length a.number a.version a.id a.place a.body a.short a.fields a.user.now).0, c.shown_bytes.ensures, c.if-out-shown_bytes.true))

pub whole-requires : goal.whole-requires
whole-requires c =
    let a = c.args in
    let long = frame_length a.number a.version a.id a.place a.body a.short a.fields a.user.now in
    (frame_line a.number (bytes_of (id_len a.version) a.id) a.place a.body a.short a.fields a.user.now, omega (arith, long.1), record { may = λ o p h. search rules; puts = λ o p r o' h. search rules })
