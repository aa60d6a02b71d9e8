-- Headers that are known.
use Rattle.std.proofs.Common.{◌≡◌, ◌==◌, ℕ, List, [], ◌++◌, length, take, drop, take-append-drop, append_assoc, Bool, true, false, Option, Some, None, is_some, Ok, if◌then◌else◌, refl, sym, ap, subst, ◌∙◌}
use Rattle.std.proofs.lemmas.Bool.{eq-eqb}
use Rattle.std.specs.Option.{option_and_then}
use Rattle.std.specs.Prelude.{codes, IfSome}
use Rattle.ctf_class.specs.declared.trace.TraceClass.{TraceClass}
use Rattle.ctf_clock.specs.declared.moment.Shift.{Shift}
use Rattle.ctf_decode.specs.Known.{Known, nothing_known, with_spent}
use Rattle.ctf_decode.specs.Values.{Val}
use Rattle.ctf_packet.specs.Classes.{Classes, StreamForm, TraceForm, stream_form, trace_form}
use Rattle.ctf_packet.specs.Packets.{front, unless, or_fault, same_stream, stream_named, stream_checked}
use Rattle.ctf_packet.specs.Roles.{role, number_in, is_magic, uuid_field, is_of_trace}
use Rattle.ctf_packet.specs.Scopes.{◌>>=◌, no_values}
use Rattle.ctf_packet.specs.Views.{values_of}
use Rattle.ctf_packet.specs.declared.fault.StreamFault.TheVariants as faults
use Rattle.ctf_packet.specs.declared.reached.Reached.{Reached}
use Rattle.ctf_packet_demand.specs.Wants.{asked_at}
use Rattle.ctf_fetch.specs.Headers.{IsHeader, IsHeaded, stood_of}
use Rattle.ctf_fetch.specs.declared.known_header.FoundHeader.{FoundHeader}
use Rattle.ctf_fetch.specs.declared.known_header.KnownHeader.{KnownHeader}

-- a stream class that is found without a packet before is found after one of its packets
by_checks : (magic uuid : Bool) (o : Option (StreamForm Classes)) (r : Reached) (s : StreamForm Classes) → r.stream ≡ s.id
    → (unless faults.WrongMagic magic >>= (λ _. unless faults.OtherTrace uuid >>= (λ _. or_fault faults.UnknownStream (option_and_then (same_stream None) o)))) ≡ Ok s
    → (unless faults.WrongMagic magic >>= (λ _. unless faults.OtherTrace uuid >>= (λ _. or_fault faults.UnknownStream (option_and_then (same_stream (Some r)) o)))) ≡ Ok s
by_checks true true (Some t) r s same e =
    let is : t ≡ s = cc in
    by_id (t.id == r.stream) (eq-eqb t.id r.stream (ap (λ (x : StreamForm Classes). x.id) is ∙ sym same))
  where
    by_id : (b : Bool) → b ≡ true → or_fault faults.UnknownStream (if b then Some t else None) ≡ Ok s
    by_id true is = e
    by_id false is = absurd (cc)
by_checks true true None r s same e = absurd (cc)
by_checks true false o r s same e = absurd (cc)
by_checks false uuid o r s same e = absurd (cc)

module _ (trace : TraceForm Classes) where
  pub checked_also : (header : Option Val) (r : Reached) (s : StreamForm Classes) → r.stream ≡ s.id → stream_checked trace None header ≡ Ok s → stream_checked trace (Some r) header ≡ Ok s
  unfolding stream_checked
  checked_also header r s same checked =
      let named = stream_named trace.streams (number_in (role (codes "stream_id") trace.packet_header header)) in
      by_checks (is_magic (role (codes "magic") trace.packet_header header)) (is_of_trace trace.uuid (uuid_field trace.packet_header header)) named r s same checked

-- no packet was before
pub no_packet : (reached : Option Reached) → is_some reached ≡ false → reached ≡ None
no_packet None is = refl
no_packet (Some r) is = absurd (cc)

-- the header that was decoded of these bytes
module _ (trace : TraceClass) (reached : Option Reached) (bytes : List ℕ) (found : FoundHeader) (known : Known) where
  abbrev pub Decoded : Type 0
  Decoded = (shift : Shift) (more : List ℕ) → IsHeaded shift trace reached (bytes ++ more) found known

  stood : (shift : Shift) (more : List ℕ) → IsHeaded shift trace reached (bytes ++ more) found known
      → asked_at {C = Classes} (trace_form shift trace).packet_header (front (bytes ++ more) no_values) 0 0 ≡ Ok (record { value = (values_of known).packet_header; end = found.end; spent = known.spent })
  stood shift more is =
      let h = is.header in
      h.1 ∙ (λ i. Ok (record { value = (sym h.4 i).packet_header; end = sym h.2 i; spent = sym h.3 i }))

  -- it is known from then on, if no packet was before
  pub learnt : Decoded → (o : Option KnownHeader) → reached ≡ None → IfSome o (λ k. k.bytes.items ≡ bytes) → IfSome o (λ k. k.found ≡ found) → IfSome o (λ k. k.spent ≡ known.spent)
      → IfSome o (λ k. IsHeader trace k (values_of known).packet_header)
  learnt decoded None first bytes_are found_is spent_is = tt
  learnt decoded (Some k) first bytes_are found_is spent_is = record {
    stood = λ shift more.
        ap (λ b. asked_at {C = Classes} (trace_form shift trace).packet_header (front (b ++ more) no_values) 0 0) bytes_are
        ∙ stood shift more (decoded shift more)
        ∙ (λ i. Ok (record { value = (values_of known).packet_header; end = (sym found_is i).end; spent = sym spent_is i }));
    stream = λ shift r same.
        let none = subst (λ o. stream_checked (trace_form shift trace) o (values_of known).packet_header ≡ Ok (stream_form shift found.stream.now)) first ((decoded shift []).stream) in
        checked_also (trace_form shift trace) (values_of known).packet_header r (stream_form shift k.found.stream.now) same
        (none ∙ (λ i. Ok (stream_form shift (sym found_is i).stream.now)));
  }

-- a packet that begins with the bytes of a known header has it
pub headed_by : (trace : TraceClass) (k : KnownHeader) (shift : Shift) (r : Reached) (bytes more : List ℕ) (known after : Known) → IsHeader trace k (values_of known).packet_header
    → r.stream ≡ (stream_form shift k.found.stream.now).id → take (length k.bytes.items) bytes ≡ k.bytes.items
    → after ≡ with_spent (record nothing_known { packet_header = known.packet_header }) k.spent
    → IsHeaded shift trace (Some r) (bytes ++ more) k.found after
headed_by trace k shift r bytes more known after is same begins after_is =
    let n = length k.bytes.items in
    let v = (values_of known).packet_header in
    let all : bytes ++ more ≡ k.bytes.items ++ (drop n bytes ++ more) =
    ap (λ b. b ++ more) (sym (take-append-drop n bytes) ∙ ap (λ b. b ++ drop n bytes) begins) ∙ append_assoc k.bytes.items (drop n bytes) more in
    let header = ap (λ (x : Known). (values_of x).packet_header) after_is in
    record {
      header = (stood_of k v, ap (λ b. asked_at {C = Classes} (trace_form shift trace).packet_header (front b no_values) 0 0) all ∙ is.stood shift (drop n bytes ++ more), refl, ap (λ (x : Known). x.spent) after_is, ap values_of after_is);
      stream = ap (stream_checked (trace_form shift trace) (Some r)) header ∙ is.stream shift r same;
    }
