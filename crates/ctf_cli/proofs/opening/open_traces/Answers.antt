use Rattle.std.proofs.lemmas.Result.{err_from_is_err_and}
use Rattle.ctf_run.specs.Traces.{traces_of}
use Rattle.ctf_cli.specs.Files.{given_by}
use Rattle.ctf_cli.specs.Traces.{IsBlocked}
use Rattle.ctf_cli.proofs.Opened.{stop_as, traces_next, blocked_at}
use Rattle.ctf_cli.proofs.opening.open_traces.Goals as goal

pub returns-in_err-trace : goal.returns-in_err-trace
returns-in_err-trace g c = λ tells.
    let files = g.F.Folders.holds c.args.folders.now in
    let given = given_by g.F.Stream.Source.tells g.F.Stream.Source.left g.F.Stream.Source.ending in
    let failed = err_from_is_err_and c.from_residual.result c.from_residual.ensures.1 in
    rw (failed.1, failed.2) (stop_as {P = IsBlocked files c.dir-item.result}
    (λ path is. blocked_at files c.args.dirs.now c.loop-dir.dir-index c.dir-item.result (traces_of given c.loop-dir.traces.items) path c.loop-dir-test.true c.dir-item.is (c.loop-dir.invariant tells) is)
    c.in_err-trace.field-0.0 (rw c.as_str.ensures at (c.in_err-trace.ensures tells)))

pub loop-dir-preserved : goal.loop-dir-preserved
loop-dir-preserved g c = λ tells.
    let files = g.F.Folders.holds c.args.folders.now in
    let given = given_by g.F.Stream.Source.tells g.F.Stream.Source.left g.F.Stream.Source.ending in
    let trace = rw c.as_str.ensures at (c.in_ok-trace.ensures tells) in
    rw c.in_ok-push.ensures.items
    (traces_next files c.args.dirs.now c.loop-dir.dir-index c.dir-item.result given c.loop-dir.traces.items c.in_ok-trace.trace c.loop-dir-test.true c.dir-item.is (c.loop-dir.invariant tells) trace)
