use Rattle.std.proofs.Common.{◌≡◌, IsTrue, map, drop, string_bytes}
use Rattle.ctf_run.specs.Traces.{stream_of}
use Rattle.ctf_cli.specs.Files.{given_by}
use Rattle.ctf_cli.specs.Traces.{streams_in}
use Rattle.ctf_cli.proofs.Opened.{after}
use Rattle.ctf_cli.proofs.opening.open_streams.Given as goal

abbrev pub invariant-loop-name : goal.invariant-loop-name
invariant-loop-name g l = IsTrue (g.F.Folders.tells l.folders) → streams_in (g.F.Folders.holds l.folders) l.dir (map string_bytes l.names)
    ≡ after (map (stream_of (given_by g.F.Stream.Source.tells g.F.Stream.Source.left g.F.Stream.Source.ending)) l.streams.items) (streams_in (g.F.Folders.holds l.folders) l.dir (map string_bytes (drop l.name-index l.names)))
