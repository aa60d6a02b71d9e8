-- What calls answer, in terms of the definitions.
use Rattle.std.specs.Prelude.{◌≡◌, ℕ, Result, Ok, Err}
use Rattle.ctf_clock.specs.declared.moment.Shift.{Shift}
use Rattle.ctf_class.specs.declared.route.Scope.{Scope}
use Rattle.ctf_decode.specs.Known.{Known}
use Rattle.ctf_packet.specs.Classes.{Classes, stream_form}
use Rattle.ctf_packet.specs.Scopes.{Values, Stood, put}
use Rattle.ctf_packet.specs.Views.{values_of}
use Rattle.ctf_packet.specs.declared.fault.StreamFault.{StreamFault}
use Rattle.ctf_packet_demand.specs.Wants as wants
use Rattle.ctf_packet_demand.specs.declared.want.Begun.{Begun}
use Rattle.ctf_packet_demand.specs.declared.want.Want.{Want}
use Rattle.ctf_packet_demand.specs.declared.want.Want.TheVariants.{Whole, Rest}

-- a begun packet with the values of its header and context
abbrev pub begun_of : Shift → Values → Begun → wants.Begun Classes
begun_of shift values b = record {
  stream = stream_form shift b.stream.now;
  values = values;
  first = b.first;
}

-- what is asked for, with each time shifted
abbrev pub want_of : Shift → Values → Want → wants.Want Classes
want_of shift values (Whole begun sizes) = wants.whole (begun_of shift values begun) sizes
want_of shift values (Rest begun) = wants.rest (begun_of shift values begun)

-- it is asked for; or it is refused with the fault that is there
abbrev pub Judged : Shift → Values → Result Want StreamFault → wants.Want Classes → Type 0
Judged shift values (Ok want) w = w ≡ want_of shift values want
Judged shift values (Err fault) w = w ≡ wants.faulty fault

-- the context of what was begun ends at bit n
abbrev pub EndsAt : ℕ → Want → Type 0
EndsAt n (Whole begun sizes) = begun.first ≡ n
EndsAt n (Rest begun) = begun.first ≡ n

-- the value that is there, which ends at this bit, was put in its scope
abbrev pub PutsAsked : Scope → Values → Result Stood (wants.Want Classes) → ℕ → Known → Type 0
PutsAsked scope before asked end after =
    (s : Stood) × (asked ≡ Ok s) × (end ≡ s.end) × (after.spent ≡ s.spent)
    × (values_of after ≡ put scope s.value before)
