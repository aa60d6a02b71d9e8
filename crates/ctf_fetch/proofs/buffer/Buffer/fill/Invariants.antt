use Rattle.std.proofs.Common.{◌≤◌, length, ◌-◌}
use Rattle.ctf_fetch.specs.Keeping.{KeepsBytes}
use Rattle.ctf_fetch.proofs.buffer.Buffer.fill.Given as goal

abbrev pub invariant-loop-self : goal.invariant-loop-self
invariant-loop-self g l = record {
  keeps : KeepsBytes g.S.Source l.initial.source l.source l.initial.self l.self;
  bounded : length l.self ≤ l.target;
}

abbrev pub decreases-loop-self : goal.decreases-loop-self
decreases-loop-self g l = l.target - length l.self
