-- A packet begun step by step.
use Rattle.std.proofs.Common.{◌≡◌, ℕ, List, Option, Ok, Err, sym, ap, ◌∙◌, codes}
use Rattle.ctf_class.specs.declared.route.Scope.TheVariants.{PacketHeader, PacketContext}
use Rattle.ctf_decode.specs.Known.{Known}
use Rattle.ctf_packet.specs.Classes.{Classes, StreamForm, TraceForm}
use Rattle.ctf_packet.specs.Scopes.{Values, no_values, put}
use Rattle.ctf_packet.specs.Roles.{role, number_in}
use Rattle.ctf_packet.specs.Packets.{front, stream_checked}
use Rattle.ctf_packet.specs.Views.{values_of}
use Rattle.ctf_packet.specs.declared.fault.StreamFault.{StreamFault}
use Rattle.ctf_packet.specs.declared.reached.Reached.{Reached}
use Rattle.ctf_packet_demand.specs.Wants.{faulty, asked_at, or_faulty, sized, wanted}
use Rattle.ctf_packet_demand.specs.Gives.{PutsAsked}
use Rattle.ctf_packet_demand.proofs.Following.{follow, after_context, after_stream, after_header, wants}

module _ (trace : TraceForm Classes) (reached : Option Reached) (have : List ℕ) where
  -- the header, as the code puts it
  abbrev pub Header : ℕ → Known → Type 0
  Header end known = PutsAsked PacketHeader no_values (asked_at trace.packet_header (front have no_values) 0 0) end known

  pub to_checked : (end : ℕ) (known : Known) (h : Header end known)
      → wanted trace reached have ≡ follow (or_faulty (stream_checked trace reached (values_of known).packet_header)) (after_stream trace reached have h.0)
  to_checked end known h =
      let same : (h.0).value ≡ (values_of known).packet_header = sym (ap (λ (v : Values). v.packet_header) h.4) in
      wants trace reached have
      ∙ (ap (λ r. follow r (after_header trace reached have)) h.1
      ∙ ap (λ v. follow (or_faulty (stream_checked trace reached v)) (after_stream trace reached have h.0)) same)

  pub no_stream : (fault : StreamFault) (end : ℕ) (known : Known) → Header end known → stream_checked trace reached (values_of known).packet_header ≡ Err fault → wanted trace reached have ≡ faulty fault
  no_stream fault end known h e =
      to_checked end known h ∙ ap (λ r. follow (or_faulty r) (after_stream trace reached have h.0)) e

  -- the context, as the code puts it
  abbrev pub Context : StreamForm Classes → ℕ → Known → ℕ → Known → Type 0
  Context stream place known end after =
      PutsAsked PacketContext (values_of known) (asked_at stream.packet_context (front have (values_of known)) place known.spent) end after

  -- the context is where the definition looks for it
  pub to_context : (end : ℕ) (known : Known) (h : Header end known) (stream : StreamForm Classes) → stream_checked trace reached (values_of known).packet_header ≡ Ok stream
      → wanted trace reached have ≡ follow (asked_at stream.packet_context (front have (values_of known)) end known.spent) (after_context trace reached have stream (put PacketHeader (h.0).value no_values))
  to_context end known h stream e =
      to_checked end known h
      ∙ (ap (λ r. follow (or_faulty r) (after_stream trace reached have h.0)) e
      ∙ (λ i. follow (asked_at stream.packet_context (front have (sym h.4 i)) (sym h.2 i) (sym h.3 i)) (after_context trace reached have stream (put PacketHeader (h.0).value no_values))))

  -- the rest, from what the code holds
  pub to_sized : (end first : ℕ) (known after : Known) (h : Header end known) (stream : StreamForm Classes) → stream_checked trace reached (values_of known).packet_header ≡ Ok stream → Context stream end known first after
      → wanted trace reached have
      ≡ sized (record { stream = stream; values = values_of after; first = first }) (number_in (role (codes "packet_size") stream.packet_context (values_of after).packet_context)) (number_in (role (codes "content_size") stream.packet_context (values_of after).packet_context))
  to_sized end first known after h stream e g =
      let context = g.0 in
      let header = put PacketHeader (h.0).value no_values in
      let value : context.value ≡ (values_of after).packet_context = sym (ap (λ (v : Values). v.packet_context) g.4) in
      let all : put PacketContext context.value header ≡ values_of after = (λ i. put PacketContext context.value (sym h.4 i)) ∙ sym g.4 in
      to_context end known h stream e
      ∙ (ap (λ r. follow r (after_context trace reached have stream header)) g.1
      ∙ (λ i. sized (record { stream = stream; values = all i; first = sym g.2 i }) (number_in (role (codes "packet_size") stream.packet_context (value i))) (number_in (role (codes "content_size") stream.packet_context (value i)))))
