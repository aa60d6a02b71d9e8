-- A packet whose header was found, while the bytes of its context come.
use Rattle.std.proofs.Common.{◌≡◌, ℕ, ◌*◌, ◌≤◌, List, [], ◌++◌, length, take, drop, append-nil, Option, Ok, sym, subst}
use Rattle.std.specs.Prelude.{codes}
use Rattle.ctf_class.specs.declared.trace.TraceClass.{TraceClass}
use Rattle.ctf_clock.specs.declared.moment.Shift.{Shift}
use Rattle.ctf_decode.specs.Known.{Known}
use Rattle.ctf_packet.specs.Classes.{Classes, StreamForm, TraceForm, stream_form, trace_form}
use Rattle.ctf_packet.specs.Packets.{stream_checked}
use Rattle.ctf_packet.specs.Roles.{role, number_in}
use Rattle.ctf_packet.specs.Views.{values_of}
use Rattle.ctf_packet.specs.declared.reached.Reached.{Reached}
use Rattle.ctf_packet_demand.specs.Wants.{wanted, sized}
use Rattle.ctf_packet_demand.proofs.Beginning as beginning
use Rattle.ctf_fetch.specs.Demand.{FrontTakes}
use Rattle.ctf_fetch.specs.Headers.{FindsHeader}
use Rattle.ctf_fetch.specs.declared.known_header.FoundHeader.{FoundHeader}
use Rattle.ctf_fetch.proofs.Fronts.{front_ends}
use Rattle.ctf_fetch.proofs.Parts.{grown_more}

module _ {shift : Shift} {trace : TraceClass} {reached : Option Reached} {before have : List ℕ} {known : Known} {h : FoundHeader}
    (found : FindsHeader shift trace reached before have known h) (later : List ℕ) (first : take (length have) later ≡ have) where
  abbrev form : TraceForm Classes
  form = trace_form shift trace

  abbrev stream : StreamForm Classes
  stream = stream_form shift h.stream.now

  -- its header is there, whatever follows the bytes that came
  pub header_in : (left : List ℕ) → beginning.Header form reached (later ++ left) h.end known
  header_in left = subst (λ b. beginning.Header form reached b h.end known) (sym (grown_more have later left first)) (found.headed (drop (length have) later ++ left)).header

  header_there : beginning.Header form reached later h.end known
  header_there = subst (λ b. beginning.Header form reached b h.end known) (append-nil later) (header_in [])

  pub checked : stream_checked form reached (values_of known).packet_header ≡ Ok stream
  checked = (found.headed []).stream

  module _ (end : ℕ) (after : Known) (puts : beginning.Context form reached (later ++ []) stream h.end known end after) where
    context_there : beginning.Context form reached later stream h.end known end after
    context_there = subst (λ b. beginning.Context form reached b stream h.end known end after) (append-nil later) puts

    -- its context is there too, and so it asks for what its sizes say
    pub asks : wanted form reached later
        ≡ sized (record { stream = stream; values = values_of after; first = end }) (number_in (role (codes "packet_size") stream.packet_context (values_of after).packet_context)) (number_in (role (codes "content_size") stream.packet_context (values_of after).packet_context))
    asks = beginning.to_sized form reached later h.end end known after header_there stream checked context_there

    -- and no bytes were taken beyond it
    pub ends : (bytes : ℕ) → FrontTakes trace bytes → 8 * bytes ≤ end
    ends bytes takes = front_ends trace shift reached bytes later h.end end known after stream takes header_there checked context_there
