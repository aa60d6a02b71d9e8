use Rattle.std.proofs.Common.{◌≡◌, length}
use Rattle.std.specs.Io.KnownBytes.{Keeps}
use Rattle.ctf_cli.specs.LogWriters.{log_contents}
use Rattle.ctf_cli.proofs.log_writer.LogWriter.pass_on.Given as goal

abbrev pub invariant-loop-self : goal.invariant-loop-self
invariant-loop-self g l = record {
  keeps : Keeps (log_contents g.O.Write.contents l.fn.self) (log_contents g.O.Write.contents l.self);
  failures : l.self.failures ≡ l.fn.self.failures;
}

abbrev pub decreases-loop-self : goal.decreases-loop-self
decreases-loop-self g l = length l.self.held.bytes
