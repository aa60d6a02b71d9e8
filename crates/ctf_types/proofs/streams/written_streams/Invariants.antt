use Rattle.std.proofs.Common.{map}
use Rattle.std.specs.Prelude.{filter_map}
use Rattle.ctf_meaning.specs.Reading.{declaration_of}
use Rattle.ctf_meaning.specs.Streams as meaning
use Rattle.ctf_types.proofs.Found.{IsFound}
use Rattle.ctf_types.proofs.streams.written_streams.Given as goal

abbrev pub invariant-loop-number : goal.invariant-loop-number
invariant-loop-number l = IsFound l.declarations (filter_map meaning.stream_by (meaning.numbered (map declaration_of l.declarations))) l.found l.number
