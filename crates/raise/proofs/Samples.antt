-- The promise of written tags speaks of something: in each edition the sample of all kinds, written with mode off, has its counters raised. Assumes nothing.
use mathlib.Core.Path.{◌≡◌, refl}
use Prim.Native.Nat.{◌+◌, ◌^◌, ◌<◌}
use native.Mathlib.Omega.{arith}
use mathlib.Core.List.{[]}
use lib.ListN.{length}
use Rattle.format.specs.Bytes.{first, zero_at, zeros_in, named}
use Rattle.format.specs.Numbers.{digits, onto}
use Rattle.format.specs.Unsynch.{unsync}
use Rattle.format.specs.Ids.{utf8_from, kind_of}
use Rattle.format.specs.Header.{version_of}
use Rattle.format.specs.Frame.{head_of}
use Rattle.format.specs.Popularimeter.{stripped, counter_bytes}
use Rattle.format.specs.Chapter.{names_len}
use Rattle.format.specs.Record.{body_refusal, run_of}
use Rattle.format.specs.Encode.{body_bytes, encode}
use Rattle.promises.specs.Samples.{inner, sample_of}
use Rattle.promises.proofs.Samples.{off_22, off_23, off_24}
use Rattle.format.specs.Looks.{all_zero, frame_look, on_look, look_for, look_at}
use Rattle.raise.specs.Raise.{raised_of}
use Rattle.raise.specs.Promises.{records_from, PlainRuns, none, also}
use Rattle.raise.proofs.Written.{written_raises}
use Rattle.std.specs.Prelude.{Ok}

-- the runs of the sample
pub runs_22 : PlainRuns (version_of 2) (sample_of (version_of 2))
unfolding look_at look_for
runs_22 = also refl (also refl (also refl (also refl (also refl (also refl (also refl none))))))

pub runs_23 : PlainRuns (version_of 3) (sample_of (version_of 3))
unfolding first zero_at zeros_in digits onto unsync utf8_from kind_of head_of names_len body_refusal run_of body_bytes encode inner all_zero frame_look on_look look_at look_for
runs_23 = also refl (also refl (also refl (also refl (also refl (also refl (also refl (also refl (also refl none))))))))

pub runs_24 : PlainRuns (version_of 4) (sample_of (version_of 4))
unfolding first zero_at zeros_in digits onto unsync utf8_from kind_of head_of names_len body_refusal run_of body_bytes encode inner all_zero frame_look on_look look_at look_for
runs_24 = also refl (also refl (also refl (also refl (also refl (also refl (also refl (also refl (also refl none))))))))

-- the empty user's counter, 65,280, has two bytes
two_bytes : 65280 + 255 < 256 ^ length (counter_bytes 65280)
unfolding counter_bytes stripped digits
two_bytes = omega arith

pub raised_22 : (raised_of off_22.tag [] 255).0 ≡ Ok 65535
unfolding records_from
raised_22 = written_raises 2 3 (sample_of (version_of 2)) off_22.tag [] 5 (named "POP") 255 65280 255 off_22.is_written runs_22 refl refl (omega arith) two_bytes

pub raised_23 : (raised_of off_23.tag [] 255).0 ≡ Ok 65535
unfolding records_from
raised_23 = written_raises 3 3 (sample_of (version_of 3)) off_23.tag [] 7 (named "POPM") 255 65280 255 off_23.is_written runs_23 refl refl (omega arith) two_bytes

pub raised_24 : (raised_of off_24.tag [] 255).0 ≡ Ok 65535
unfolding records_from
raised_24 = written_raises 4 3 (sample_of (version_of 4)) off_24.tag [] 7 (named "POPM") 255 65280 255 off_24.is_written runs_24 refl refl (omega arith) two_bytes
