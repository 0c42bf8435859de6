-- Each arm by its id. Assumes nothing.
use mathlib.Core.Path.{◌≡◌}
use mathlib.Core.Logic.{◌⊎◌, inl, inr}
use Prim.Native.Nat.{ℕ, ◌/◌}
use native.Mathlib.Omega.{arith}
use borrow.Author.Tests.{eq-eqb, ne_eqb}
use Rattle.format.specs.Bytes.{named}
use Rattle.format.specs.Ids.{kind4, kind_of}
use Rattle.format.specs.declared.Version.{Version}
use Rattle.format.specs.declared.Version.TheVariants.{Id3v23, Id3v24}
use Rattle.frame.proofs.body.kind_of.Goals as goal

-- ids of four letters
four : (v : Version) (id : ℕ) → (v ≡ Id3v23) ⊎ (v ≡ Id3v24) → kind_of v id ≡ kind4 id
unfolding kind_of
four v id (inl e) = rw e
four v id (inr e) = rw e

pub returns-in-5263184 : goal.returns-in-5263184
unfolding kind_of
returns-in-5263184 c = rw (c.in-Id3v22.is, c.in-5263184.is)

pub returns-in-5065804 : goal.returns-in-5065804
unfolding kind_of
returns-in-5065804 c = rw (c.in-Id3v22.is, c.in-5065804.is)

pub returns-in-5527640 : goal.returns-in-5527640
unfolding kind_of
returns-in-5527640 c = rw (c.in-Id3v22.is, c.in-5527640.is)

pub returns-in_default : goal.returns-in_default
unfolding kind_of
returns-in_default c =
    let id = c.args.id in
    rw (c.in-Id3v22.is, eq-eqb (id / 0x1_0000) (named "T") c.if-id-eq-T.true, ne_eqb id (named "TXX") (omega arith))

pub returns-in_default-2 : goal.returns-in_default-2
unfolding kind_of
returns-in_default-2 c =
    let id = c.args.id in
    rw (
      c.in-Id3v22.is,
      ne_eqb (id / 0x1_0000) (named "T") c.if-id-eq-T.false,
      ne_eqb id (named "POP") (omega arith),
      ne_eqb id (named "MLL") (omega arith),
    )

pub returns-in-1347375181 : goal.returns-in-1347375181
returns-in-1347375181 c = rw (four c.args.version c.args.id c.in-Id3v23.is, c.in-1347375181.is)

pub returns-in-1296845908 : goal.returns-in-1296845908
returns-in-1296845908 c = rw (four c.args.version c.args.id c.in-Id3v23.is, c.in-1296845908.is)

pub returns-in-1128808784 : goal.returns-in-1128808784
returns-in-1128808784 c = rw (four c.args.version c.args.id c.in-Id3v23.is, c.in-1128808784.is)

pub returns-in-1129598787 : goal.returns-in-1129598787
returns-in-1129598787 c = rw (four c.args.version c.args.id c.in-Id3v23.is, c.in-1129598787.is)

pub returns-in-1415075928 : goal.returns-in-1415075928
returns-in-1415075928 c = rw (four c.args.version c.args.id c.in-Id3v23.is, c.in-1415075928.is)

pub returns-in_default-id : goal.returns-in_default-id
returns-in_default-id c =
    let id = c.args.id in
    rw (four c.args.version c.args.id c.in-Id3v23.is, eq-eqb (id / 0x100_0000) (named "T") c.if-id-eq-T-2.true, ne_eqb id (named "TXXX") (omega arith))

pub returns-in_default-2-id : goal.returns-in_default-2-id
returns-in_default-2-id c =
    let id = c.args.id in
    rw (
      four c.args.version id c.in-Id3v23.is,
      ne_eqb (id / 0x100_0000) (named "T") c.if-id-eq-T-2.false,
      ne_eqb id (named "POPM") (omega arith),
      ne_eqb id (named "MLLT") (omega arith),
      ne_eqb id (named "CHAP") (omega arith),
      ne_eqb id (named "CTOC") (omega arith),
    )
