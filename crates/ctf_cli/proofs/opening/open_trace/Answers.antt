use Rattle.std.proofs.Common.{◌≡◌, List, ℕ, map, string_bytes, None, Err, sym, subst}
use Rattle.std.proofs.lemmas.Result.{err_from_is_err_and}
use Rattle.std.specs.declared.alloc.Global.{Global}
use Rattle.ctf_cli.specs.Traces.{IsBlocked, at_folder, at_metadata, at_stream, names_in, metadata_path, streams_in}
use Rattle.ctf_cli.proofs.Opened.{stop_as}
use Rattle.ctf_cli.proofs.opening.open_trace.Goals as goal

pub returns-in_err-names : goal.returns-in_err-names
returns-in_err-names g c = λ tells.
    let files = g.F.Folders.holds c.args.folders.now in
    let dir = c.args.dir.now in
    let failed = err_from_is_err_and c.from_residual.result c.from_residual.ensures.1 in
    rw (failed.1, failed.2) (stop_as {P = λ path. (path ≡ dir) × (names_in files dir ≡ None)}
    (λ path is. subst (λ (p : List ℕ). IsBlocked files dir p) (sym is.0) (at_folder is.1))
    c.in_err-names.field-0.0 (c.in_err-names.ensures tells))

pub returns-in_err-metadata : goal.returns-in_err-metadata
returns-in_err-metadata g c = λ tells.
    let files = g.F.Folders.holds c.args.folders.now in
    let dir = c.args.dir.now in
    let failed = err_from_is_err_and c.from_residual-in_err-metadata.result c.from_residual-in_err-metadata.ensures.1 in
    let listed = c.in_ok-names.ensures tells in
    rw (failed.1, failed.2) (stop_as {P = λ path. (path ≡ metadata_path dir) × (files.bytes (metadata_path dir) ≡ None)}
    (λ path is. subst (λ (p : List ℕ). IsBlocked files dir p) (sym is.0) (at_metadata listed.0 listed.1 is.1))
    c.in_err-metadata.field-0.0 (c.in_err-metadata.ensures tells))

pub returns-in_err-streams : goal.returns-in_err-streams
returns-in_err-streams g c = λ tells.
    let files = g.F.Folders.holds c.args.folders.now in
    let dir = c.args.dir.now in
    let failed = err_from_is_err_and c.from_residual-in_err-streams.result c.from_residual-in_err-streams.ensures.1 in
    let listed = c.in_ok-names.ensures tells in
    let metadata = c.in_ok-metadata.ensures tells in
    rw (failed.1, failed.2) (stop_as {P = λ path. streams_in files dir (map (string_bytes {Z = Global}) c.deref.result.now) ≡ Err path}
    (λ path is. at_stream listed.0 (map string_bytes c.in_ok-names.names.items) metadata.0 path listed.1 listed.2 metadata.1 (rw c.deref.ensures.value at is))
    c.in_err-streams.field-0.0 (c.in_err-streams.ensures tells))
