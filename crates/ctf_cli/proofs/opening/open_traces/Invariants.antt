use Rattle.std.proofs.Common.{IsTrue, take}
use Rattle.ctf_run.specs.Traces.{traces_of}
use Rattle.ctf_cli.specs.Files.{given_by}
use Rattle.ctf_cli.specs.Traces.{AreTraces}
use Rattle.ctf_cli.proofs.opening.open_traces.Given as goal

abbrev pub invariant-loop-dir : goal.invariant-loop-dir
invariant-loop-dir g l = IsTrue (g.F.Folders.tells l.folders) → AreTraces (g.F.Folders.holds l.folders) (take l.dir-index l.dirs)
    (traces_of (given_by g.F.Stream.Source.tells g.F.Stream.Source.left g.F.Stream.Source.ending) l.traces.items)
