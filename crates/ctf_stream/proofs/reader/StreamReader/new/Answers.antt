use Rattle.std.proofs.Common.{rules}
use Rattle.ctf_packet.specs.Items.{run_of}
use Rattle.ctf_stream.proofs.reader.StreamReader.new.Goals as goal

pub returns-clause-told : goal.returns-clause-told
unfolding run_of
returns-clause-told g c = search rules
