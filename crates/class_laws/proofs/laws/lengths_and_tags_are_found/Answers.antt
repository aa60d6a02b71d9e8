use Rattle.ctf_packet.specs.Classes.{trace_form}
use Rattle.class_laws.proofs.Denoted.{denoted_leads}
use Rattle.class_laws.proofs.Reading.{trace_finds}
use Rattle.class_laws.proofs.laws.lengths_and_tags_are_found.Goals as goal

pub returns : goal.returns
returns c = λ tree class shift d. trace_finds (trace_form shift class) (denoted_leads tree class shift d)
