-- What a pass leaves to be answered. Assumes nothing.
use Rattle.std.proofs.Common.{◌≡◌, ◌-◌}
use Rattle.reader.specs.declared.Stop.{Stop}
use Rattle.meter.specs.Meter.{next_of}
use Rattle.meter.proofs.Meter.run.Given as goal

-- the meter runs, and answers from here on what it answers from where it began
abbrev pub invariant-loop-met : goal.invariant-loop-met
invariant-loop-met l = record {
  runs : l.self.reader.stop ≡ Stop.Running;
  same : next_of l.self l.tag l.work ≡ next_of l.fn.self l.tag l.fn.work;
}

abbrev pub decreases-loop-met : goal.decreases-loop-met
decreases-loop-met l = l.self.reader.end - l.self.reader.at
