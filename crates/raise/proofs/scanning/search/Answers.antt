-- Along the frames, whatever is seen of each, up to the last or to a refusal. Assumes nothing.
use Rattle.std.proofs.Common.{sym, ap, ◌∙◌, Ok, arith}
use Rattle.std.proofs.lemmas.Result.{err_from_is_err_and}
use Rattle.std.proofs.Math.Seq.{slice}
use Rattle.laws.proofs.Bools.{or_false}
use Rattle.raise.specs.Scans.{scanned_on, scanned_in}
use Rattle.raise.proofs.Looked.{says, says_end, says_stops, later, within, look_again, Turned, other_turned, user_there, meter_turned}
use Rattle.raise.proofs.Turns.{look_stops, look_ends}
use Rattle.raise.proofs.Aims.{along_turn, all_scanned}
use Rattle.raise.proofs.scanning.search.Goals as goal
use Rattle.raise.proofs.scanning.search.Goals.{in-Frame, in-Popularimeter}

pub returns-in_err-seen : goal.returns-in_err-seen
unfolding scanned_in
returns-in_err-seen c =
    let a = c.args in
    let L = c.loop-seen in
    let p = err_from_is_err_and c.from_residual.result c.from_residual.ensures.1 in
    let stops = says_stops (says a.framed.version L.at a.framed.end a.tag.now (sym c.in_err-seen.was ∙ c.look_at.ensures)) in
    rw (p.1, p.2) (look_stops a.framed.version (slice a.framed.begin a.framed.end a.tag.now) a.framed.odd (slice L.at a.framed.end a.tag.now) L.odd L.invariant.looks _ stops)

pub overflow_add-start : goal.overflow_add-start
overflow_add-start c =
    let a = c.args in
    let seen = ap Ok (sym c.in-Some.is) ∙ sym c.in_ok-seen.was ∙ c.look_at.ensures in
    let there = user_there a.framed.version a.user.now c.loop-seen.found c.loop-seen.at a.framed.end a.tag.now c.requires seen c.in-Popularimeter.is in
    record { fits = omega (arith, there, c.requires) }

pub overflow_add-start-in-Popularimeter : goal.overflow_add-start-in-Popularimeter
overflow_add-start-in-Popularimeter c =
    let a = c.args in
    let seen = ap Ok (sym c.in-Some.is) ∙ sym c.in_ok-seen.was ∙ c.look_at.ensures in
    let there = user_there a.framed.version a.user.now c.loop-seen.found c.loop-seen.at a.framed.end a.tag.now c.requires seen c.in-Popularimeter.is in
    record { fits = omega (arith, there, c.requires) }

pub is_user-mine-requires : goal.is_user-mine-requires
is_user-mine-requires c =
    let a = c.args in
    let seen = ap Ok (sym c.in-Some.is) ∙ sym c.in_ok-seen.was ∙ c.look_at.ensures in
    let there = user_there a.framed.version a.user.now c.loop-seen.found c.loop-seen.at a.framed.end a.tag.now c.requires seen c.in-Popularimeter.is in
    omega (arith, there, c.requires)

-- the frame that was passed
turned : (c : goal.After-aimed-aim)
    → Turned c.args.framed.version c.args.user.now c.loop-seen.found c.match-seen.found c.loop-seen.at c.args.framed.end c.args.tag.now c.match-seen.next.0 c.match-seen.next.1
turned c =
    let a = c.args in
    let L = c.loop-seen in
    let seen = ap Ok (sym c.in-Some.is) ∙ sym c.in_ok-seen.was ∙ c.look_at.ensures in
    elim c.match-seen.branch [
      | in-Frame w ↦ rw (w.next-is, w.found-is) (other_turned a.framed.version a.user.now L.found L.at a.framed.end a.tag.now c.requires seen w.in-Frame.is)
      | in-Popularimeter w ↦
          rw (w.next-is, w.found-is, w.also-found.ensures)
          (meter_turned a.framed.version a.user.now L.found L.at a.framed.end a.tag.now c.requires seen w.in-Popularimeter.is w.is_user-mine.ensures)
    ]

pub loop-seen-smaller : goal.loop-seen-smaller
loop-seen-smaller c = let m = (turned c).met in omega (arith, later c.requires m, within c.requires m)

pub loop-seen-preserved : goal.loop-seen-preserved
loop-seen-preserved c =
    let L = c.loop-seen in
    let t = turned c in
    record {
      looks = look_again c.requires t.met L.odd L.invariant.looks;
      goes = λ even.
          let p = or_false L.odd c.match-seen.next.1 even in
          rw c.aimed-aim.ensures (along_turn c.requires t L.aim p.1 (L.invariant.goes p.0));
    }

pub returns : goal.returns
unfolding scanned_in scanned_on
returns c =
    let a = c.args in
    let L = c.loop-seen in
    let rest = slice L.at a.framed.end a.tag.now in
    let ends = says_end (says a.framed.version L.at a.framed.end a.tag.now (ap Ok (sym c.in_default.is) ∙ sym c.in_ok-seen.was ∙ c.look_at.ensures)) in
    c.after_last.ensures
    ∙ look_ends a.framed.version (slice a.framed.begin a.framed.end a.tag.now) a.framed.odd rest L.odd L.invariant.looks _ ends _
    (λ even. all_scanned a.user.now L.at rest L.found L.aim ends (L.invariant.goes even))
