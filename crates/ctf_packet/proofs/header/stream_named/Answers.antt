use Rattle.std.proofs.Common.{◌∙◌, ap, sym, option_map, map}
use Rattle.ctf_packet.specs.Classes.{stream_form}
use Rattle.ctf_packet.specs.Packets.{stream_named}
use Rattle.ctf_packet.proofs.Streams.{first_stream, only_stream}
use Rattle.ctf_packet.proofs.header.stream_named.Goals as goal

pub returns-in-Some : goal.returns-in-Some
returns-in-Some c = λ shift.
    let streams = c.args.trace.now.streams in
    ap (option_map (stream_form shift)) c.stream.ensures ∙ (first_stream shift c.in-Some.id streams ∙ sym (ap (stream_named (map (stream_form shift) streams)) c.in-Some.is))

pub returns-in-None : goal.returns-in-None
returns-in-None c = λ shift.
    let streams = c.args.trace.now.streams in
    ap (option_map (stream_form shift)) c.only.ensures ∙ (only_stream shift streams ∙ sym (ap (stream_named (map (stream_form shift) streams)) c.in-None.is))
