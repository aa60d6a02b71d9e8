use Rattle.std.proofs.Common.{◌≡◌, take}
use Rattle.ctf_run.specs.Loaded.{HaveClasses}
use Rattle.ctf_run.proofs.loading.load_all.Given as goal

abbrev pub invariant-loop-trace : goal.invariant-loop-trace
invariant-loop-trace g l = record {
  number : l.number ≡ l.trace-index;
  loaded : HaveClasses (take l.trace-index l.traces) l.classes.items;
}
