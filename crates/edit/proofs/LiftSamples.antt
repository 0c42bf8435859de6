-- The promise of written tags speaks of something: in each edition the sample of all kinds, written with mode off and three bytes of padding, has a counter lifted that outgrows its bytes. Assumes nothing.
use mathlib.Core.Path.{◌≡◌, refl}
use Prim.Native.Nat.{◌+◌, ◌≤◌}
use native.Mathlib.Omega.{arith}
use mathlib.Core.List.{[]}
use lib.ListN.{length}
use Rattle.format.specs.Bytes.{first, zero_at, named}
use Rattle.format.specs.Numbers.{digits}
use Rattle.format.specs.Unsynch.{unsync}
use Rattle.format.specs.Ids.{all_id_bytes, kind_of}
use Rattle.format.specs.Header.{version_of}
use Rattle.format.specs.Popularimeter.{stripped, counter_bytes}
use Rattle.format.specs.Encode.{body_bytes, refusal_of}
use Rattle.promises.specs.Samples.{sample_of}
use Rattle.promises.proofs.Samples.{off_22, off_23, off_24}
use Rattle.raise.specs.Promises.{records_from}
use Rattle.raise.proofs.Samples.{runs_22, runs_23, runs_24}
use Rattle.edit.specs.Lift.{lifted_of}
use Rattle.edit.proofs.LiftWritten.{written_lifts}
use Rattle.std.specs.Prelude.{Ok}

-- the empty user's counter, 65,280, has two bytes, and the padding three: 65,536 has three, and 2^40 - 1 has five
more_one : length (counter_bytes (65280 + 256)) ≤ length (counter_bytes 65280) + 3
unfolding counter_bytes stripped digits
more_one = omega arith

more_all : length (counter_bytes (65280 + 1099511562495)) ≤ length (counter_bytes 65280) + 3
unfolding counter_bytes stripped digits
more_all = omega arith

-- ---- one byte more

pub lifted_22 : (lifted_of off_22.tag [] 256).0 ≡ Ok 65536
unfolding records_from refusal_of first zero_at digits kind_of all_id_bytes body_bytes counter_bytes stripped
lifted_22 = written_lifts 2 3 (sample_of (version_of 2)) off_22.tag [] 5 (named "POP") 255 65280 256 off_22.is_written runs_22 refl refl (omega arith) more_one refl

pub lifted_23 : (lifted_of off_23.tag [] 256).0 ≡ Ok 65536
unfolding records_from refusal_of first zero_at digits kind_of all_id_bytes body_bytes counter_bytes stripped
lifted_23 = written_lifts 3 3 (sample_of (version_of 3)) off_23.tag [] 7 (named "POPM") 255 65280 256 off_23.is_written runs_23 refl refl (omega arith) more_one refl

pub lifted_24 : (lifted_of off_24.tag [] 256).0 ≡ Ok 65536
unfolding records_from refusal_of first zero_at digits kind_of all_id_bytes body_bytes counter_bytes stripped unsync
lifted_24 = written_lifts 4 3 (sample_of (version_of 4)) off_24.tag [] 7 (named "POPM") 255 65280 256 off_24.is_written runs_24 refl refl (omega arith) more_one refl

-- ---- all of the padding

pub filled_22 : (lifted_of off_22.tag [] 1099511562495).0 ≡ Ok 0xFF_FFFF_FFFF
unfolding records_from refusal_of first zero_at digits kind_of all_id_bytes body_bytes counter_bytes stripped
filled_22 = written_lifts 2 3 (sample_of (version_of 2)) off_22.tag [] 5 (named "POP") 255 65280 1099511562495 off_22.is_written runs_22 refl refl (omega arith) more_all refl

pub filled_23 : (lifted_of off_23.tag [] 1099511562495).0 ≡ Ok 0xFF_FFFF_FFFF
unfolding records_from refusal_of first zero_at digits kind_of all_id_bytes body_bytes counter_bytes stripped
filled_23 = written_lifts 3 3 (sample_of (version_of 3)) off_23.tag [] 7 (named "POPM") 255 65280 1099511562495 off_23.is_written runs_23 refl refl (omega arith) more_all refl

pub filled_24 : (lifted_of off_24.tag [] 1099511562495).0 ≡ Ok 0xFF_FFFF_FFFF
unfolding records_from refusal_of first zero_at digits kind_of all_id_bytes body_bytes counter_bytes stripped unsync
filled_24 = written_lifts 4 3 (sample_of (version_of 4)) off_24.tag [] 7 (named "POPM") 255 65280 1099511562495 off_24.is_written runs_24 refl refl (omega arith) more_all refl
