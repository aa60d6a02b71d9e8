-- What is in the scope of a packet that comes next.
use Rattle.std.specs.Prelude.{List, ℕ, option_map, option_copied, Result}
use Rattle.ctf_bits.specs.declared.source.Ending.{Ending}
use Rattle.ctf_decode.specs.Known.{Known}
use Rattle.ctf_decode.specs.Views.{form}
use Rattle.ctf_packet.specs.Classes.{Classes}
use Rattle.ctf_packet.specs.Packets.{front}
use Rattle.ctf_packet.specs.Scopes.{Stood, scope_at, fault_in_front}
use Rattle.ctf_packet.specs.Views.{values_of}
use Rattle.ctf_packet.specs.declared.fault.StreamFault.{StreamFault}
use Rattle.ctf_packet_demand.specs.Wants.{Want, asked_at}
use Rattle.ctf_fetch.specs.declared.scope.NextScope.{NextScope}

-- what is there in these bytes, or what it asks for
abbrev pub scope_asked : NextScope → List ℕ → Known → Result Stood (Want Classes)
scope_asked next bytes known =
    asked_at (option_map form (option_copied next.class)) (front bytes (values_of known)) next.end
    known.spent

-- what is there in these bytes, after which the stream ends so
abbrev pub scope_found : Ending → NextScope → List ℕ → Known → Result Stood StreamFault
scope_found ending next bytes known =
    scope_at (fault_in_front ending) (option_map form (option_copied next.class))
    (front bytes (values_of known)) next.end known.spent
