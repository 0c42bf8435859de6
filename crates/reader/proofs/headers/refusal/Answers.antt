-- The checks in their order. Assumes nothing.
use Rattle.std.proofs.Common.{ap}
use Rattle.format.specs.Refusals.{passed}
use Rattle.reader.proofs.Refusals.{Begun, cut_end, no_tag, unknown_version, unknown_flags, no_extended, compressed, missing_bytes, small_extended, extended}
use Rattle.reader.proofs.headers.refusal.Goals as goal

pub returns-then-not-begins : goal.returns-then-not-begins
returns-then-not-begins c = ap passed (no_tag c.args.tag.now cc)

pub returns-then-not-is_version : goal.returns-then-not-is_version
returns-then-not-is_version c = ap passed (unknown_version c.args.tag.now (cc) cc)

pub returns-then-flags-ne0 : goal.returns-then-flags-ne0
returns-then-flags-ne0 c = ap passed (unknown_flags c.args.tag.now (cc) (cc) c.if-flags-ne0.true)

pub returns-then-not-has : goal.returns-then-not-has
returns-then-not-has c =
    let b : Begun c.args.tag.now = record { is = cc; known = cc; clear = c.if-flags-ne0.false } in
    ap passed (no_extended b cc)

pub returns-then-edition-eq2 : goal.returns-then-edition-eq2
returns-then-edition-eq2 c =
    let b : Begun c.args.tag.now = record { is = cc; known = cc; clear = c.if-flags-ne0.false } in
    ap passed (compressed b (cc) c.if-edition-eq2.true)

pub returns-then-end_of-lt16 : goal.returns-then-end_of-lt16
returns-then-end_of-lt16 c =
    let b : Begun c.args.tag.now = record { is = cc; known = cc; clear = c.if-flags-ne0.false } in
    let end = cut_end c.args.tag.now c.synchsafe.ensures c.end_of.ensures in
    ap passed (missing_bytes b (cc) c.if-edition-eq2.false (rw end at c.if-end_of-lt16.true))

pub returns-then-synchsafe-lt6 : goal.returns-then-synchsafe-lt6
returns-then-synchsafe-lt6 c =
    let b : Begun c.args.tag.now = record { is = cc; known = cc; clear = c.if-flags-ne0.false } in
    let end = cut_end c.args.tag.now c.synchsafe.ensures c.end_of.ensures in
    ap passed (small_extended b (cc) c.if-edition-eq2.false (rw end at c.if-end_of-lt16.false) (rw c.synchsafe-2.ensures at c.if-synchsafe-lt6.true))

pub returns : goal.returns
returns c =
    let b : Begun c.args.tag.now = record { is = cc; known = cc; clear = c.if-flags-ne0.false } in
    let end = cut_end c.args.tag.now c.synchsafe.ensures c.end_of.ensures in
    ap passed (extended b (cc) c.if-edition-eq2.false (rw end at c.if-end_of-lt16.false) (rw c.synchsafe-2.ensures at c.if-synchsafe-lt6.false))
