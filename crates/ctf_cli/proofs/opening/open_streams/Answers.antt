use Rattle.std.proofs.Common.{◌≡◌, List, ℕ, map, string_bytes, Err, sym, ap, ◌∙◌, subst}
use Rattle.std.proofs.lemmas.Result.{err_from_is_err_and}
use Rattle.std.specs.Path.{path_join}
use Rattle.std.specs.declared.alloc.Global.{Global}
use Rattle.ctf_run.specs.Traces.{stream_of}
use Rattle.ctf_cli.specs.Files.{given_by, closed}
use Rattle.ctf_cli.specs.Traces.{streams_in}
use Rattle.ctf_cli.proofs.Opened.{opened_next, opened_all, blocked_next, nothing_in_front, stop_as}
use Rattle.ctf_cli.proofs.opening.open_streams.Goals as goal

pub loop-name-init : goal.loop-name-init
loop-name-init g c = λ tells. rw c.new-streams.ensures.items (nothing_in_front (streams_in (g.F.Folders.holds c.args.folders.now) c.args.dir.now (map (string_bytes {Z = Global}) c.args.names.now)))

pub returns-in_err-stream : goal.returns-in_err-stream
returns-in_err-stream g c = λ tells.
    let files = g.F.Folders.holds c.args.folders.now in
    let failed = err_from_is_err_and c.from_residual.result c.from_residual.ensures.1 in
    let path_is : path_join c.args.dir.now c.as_str-file.result.now ≡ path_join c.args.dir.now (string_bytes c.name-item.result) = ap (path_join c.args.dir.now) c.as_str-file.ensures.value in
    rw (failed.1, failed.2) (stop_as {P = λ path. (path ≡ path_join c.args.dir.now c.as_str-file.result.now) × (files.found path ≡ closed)}
    (λ path is.
    let here = is.0 ∙ path_is in
    blocked_next files c.args.dir.now c.args.names.now c.loop-name.name-index c.name-item.result (map (stream_of (given_by g.F.Stream.Source.tells g.F.Stream.Source.left g.F.Stream.Source.ending)) c.loop-name.streams.items)
    c.loop-name-test.true c.name-item.is (subst (λ (p : List ℕ). files.found p ≡ closed) here is.1) (c.loop-name.invariant tells) ∙ ap (λ p. Err p) (sym here))
    c.in_err-stream.field-0.0 (c.in_err-stream.ensures tells))

pub loop-name-preserved : goal.loop-name-preserved
loop-name-preserved g c = λ tells.
    let given = given_by g.F.Stream.Source.tells g.F.Stream.Source.left g.F.Stream.Source.ending in
    let files = g.F.Folders.holds c.args.folders.now in
    let found = rw c.as_str-file.ensures.value at (c.in_ok-stream.ensures tells) in
    rw (c.in_ok-push_stream.ensures given, c.as_str-file.ensures.value)
    (opened_next files c.args.dir.now c.args.names.now c.loop-name.name-index c.name-item.result (map (stream_of given) c.loop-name.streams.items) given c.in_ok-stream.stream
    c.loop-name-test.true c.name-item.is found (c.loop-name.invariant tells))

pub returns : goal.returns
returns g c = λ tells. c.loop-name.invariant tells ∙ opened_all (g.F.Folders.holds c.args.folders.now) c.args.dir.now c.args.names.now c.loop-name.name-index (map (stream_of (given_by g.F.Stream.Source.tells g.F.Stream.Source.left g.F.Stream.Source.ending)) c.loop-name.streams.items) c.loop-name-test.false
