-- An event record whose text was written.
use Rattle.std.proofs.Common.{◌≡◌, ◌==◌, ℕ, ◌<◌, false, true, not, List, Option, Result, Ok, Err, ◌⊎◌, inl, inr, refl, sym, ap, ◌∙◌, arith, option_map}
use Rattle.std.proofs.lemmas.Bool.Decides.{nat_tests}
use Rattle.ctf_class.specs.declared.route.Scope.TheVariants.{EventHeader}
use Rattle.ctf_clock.specs.declared.moment.Moment.{Moment}
use Rattle.ctf_clock.specs.declared.moment.Shift.{Shift}
use Rattle.ctf_decode.specs.Known.{Known}
use Rattle.ctf_decode.specs.Views.{form}
use Rattle.ctf_record_text.specs.Headers.{TellsHead}
use Rattle.ctf_record_text.specs.Making.{PutsBody, MakesValues}
use Rattle.ctf_record_text.specs.Texts.{values_text}
use Rattle.ctf_record_text.specs.declared.header.ToldHead.{ToldHead}
use Rattle.ctf_packet.specs.Classes.{Classes, stream_form, event_form}
use Rattle.ctf_packet.specs.Packets.{unless}
use Rattle.ctf_packet.specs.Records.{Headed, Body, Recorded, headed, bodied, record_at}
use Rattle.ctf_packet.specs.Scopes.{◌>>=◌, Values, put, value_in}
use Rattle.ctf_packet.specs.Views.{values_of, packet_values, opened_of, recorded_of, PutsHead}
use Rattle.ctf_packet.specs.declared.fault.StreamFault.{StreamFault}
use Rattle.ctf_packet.specs.declared.fault.StreamFault.TheVariants as faults
use Rattle.ctf_packet.specs.declared.packet.OpenPacket.{OpenPacket}
use Rattle.ctf_packet.specs.declared.record.EventRecord.{EventRecord}
use Rattle.ctf_packet.specs.declared.record.Head.{Head}
use Rattle.ctf_format.specs.Found.{SharesPacket}

module _ (shift : Shift) (o : OpenPacket) (old : Values) (bytes : List ℕ) (clock : Option Moment) (place : ℕ) where
  abbrev stands : Result (Recorded Classes) StreamFault
  stands = record_at (opened_of shift (packet_values old) o) bytes clock place

  abbrev after_body : Headed Classes → Body → Result (Recorded Classes) StreamFault
  after_body h body = unless faults.EmptyEvent (not (body.end == place)) >>= (λ some_bits. Ok (record { event = h.event; clock = h.clock; values = body.values; end = body.end }))

  abbrev body_of : Headed Classes → Result Body StreamFault
  body_of h = bodied (option_map form o.stream.now.event_context) h.event.context h.event.fields bytes o.content (put EventHeader h.header.value (packet_values old)) h.header.end h.header.spent

  opens : stands ≡ (headed (stream_form shift o.stream.now) bytes o.content (packet_values old) clock place >>= (λ h. body_of h >>= after_body h))
  unfolding record_at
  opens = refl

  abbrev goes : Headed Classes → Result (Recorded Classes) StreamFault
  goes h = body_of h >>= after_body h

  -- a fault of the header
  pub no_head : (known : Known) (f : StreamFault) → PutsHead o.stream.now (packet_values old) (headed (stream_form shift o.stream.now) bytes o.content (packet_values old) clock place) (Err f) known → (stands ≡ Err f) ⊎ (f ≡ faults.NoMemory)
  no_head known f (inl e) = inl (opens ∙ ap (λ h. h >>= goes) e)
  no_head known f (inr e) = inr e

-- where a header is the one of its values, and so many were begun for it
module _ (shift : Shift) (o : OpenPacket) (old : Values) (bytes part : List ℕ) (clock : Option Moment) (place : ℕ) (head : Head) (known : Values) (spent : ℕ) where
  abbrev there : Result (Recorded Classes) StreamFault
  there = stands shift o old bytes clock place

  abbrev body_after : Headed Classes → Body → Result (Recorded Classes) StreamFault
  body_after = after_body shift o old bytes clock place

  abbrev Has_head : Type 0
  Has_head =
      (h : Headed Classes) × (headed (stream_form shift o.stream.now) bytes o.content (packet_values old) clock place ≡ Ok h) × (event_form o.stream.now head.event.now ≡ h.event) × (head.clock ≡ h.clock) × (head.end ≡ h.header.end) × (spent ≡ h.header.spent)
      × (known ≡ put EventHeader h.header.value (packet_values old))

  -- the scopes after the header, as the code reads them
  abbrev read : Result Body StreamFault
  read = bodied (option_map form o.stream.now.event_context) (option_map form head.event.now.context) (form head.event.now.fields) bytes o.content known head.end spent

  to_body : (g : Has_head) (r : Result Body StreamFault) → read ≡ r → there ≡ (r >>= body_after g.0)
  to_body g r is =
      let reads : body_of shift o old bytes clock place g.0 ≡ read = (λ i. bodied (option_map form o.stream.now.event_context) ((sym g.2 i).context) ((sym g.2 i).fields) bytes o.content (sym g.6 i) (sym g.4 i) (sym g.5 i)) in
      opens shift o old bytes clock place ∙ ap (λ h. h >>= goes shift o old bytes clock place) g.1 ∙ ap (λ b. b >>= body_after g.0) (reads ∙ is)

  all : (g : Has_head) (b : Body) (r : EventRecord) → read ≡ Ok b → place < b.end → r ≡ record { event = head.event; clock = head.clock; end = b.end } → there ≡ Ok (recorded_of o.stream.now b.values r)
  all g b r is further same =
      let some : not (b.end == place) ≡ true = grind (arith, nat_tests) in
      let ends : body_after g.0 b ≡ Ok (record { event = g.0.event; clock = g.0.clock; values = b.values; end = b.end }) =
      ap (λ t. unless faults.EmptyEvent t >>= (λ some_bits. Ok (record { event = g.0.event; clock = g.0.clock; values = b.values; end = b.end }))) some
      in
      let shown : Ok (record { event = g.0.event; clock = g.0.clock; values = b.values; end = b.end }) ≡ Ok (recorded_of o.stream.now b.values (record { event = head.event; clock = head.clock; end = b.end })) =
      (λ i. Ok (record { event = sym g.2 i; clock = sym g.3 i; values = b.values; end = b.end }))
      in
      to_body g (Ok b) is ∙ ends ∙ shown ∙ ap (λ (x : EventRecord). Ok (recorded_of o.stream.now b.values x)) (sym same)

  pub text_made : (near : Known) (text : List ℕ) (end : ℕ) (r : EventRecord) → SharesPacket near (value_in known) → Has_head → PutsBody near o.stream.now head.event.now part bytes o.content head.end spent end text → place < end → r ≡ record { event = head.event; clock = head.clock; end = end }
      → (values : Values) × (there ≡ Ok (recorded_of o.stream.now values r)) × (packet_values values ≡ packet_values known) × (text ≡ values_text part o.stream.now r.event.now values)
  text_made near text end r shares g body further same =
      let b = body known shares in
      let ending : r ≡ record { event = head.event; clock = head.clock; end = b.0.end } = same ∙ (λ i. record { event = head.event; clock = head.clock; end = b.2 i }) in
      let later : place < b.0.end = omega (arith, further, b.2) in
      (b.0.values, all g b.0 r b.1 later ending, b.3, b.4 ∙ ap (λ (x : EventRecord). values_text part o.stream.now x.event.now b.0.values) (sym same))

  pub value_made : (after : Known) (r : EventRecord) → Has_head → MakesValues o.stream.now head read place after (Ok r) → there ≡ Ok (recorded_of o.stream.now (values_of after) r)
  value_made after r g made = all g (record { values = values_of after; end = r.end }) r made.0 made.2 made.1

  pub fault_made : (after : Known) (f : StreamFault) → Has_head → MakesValues o.stream.now head read place after (Err f) → (there ≡ Err f) ⊎ (f ≡ faults.NoMemory)
  fault_made after f g (inl e) = inl (to_body g (Err f) e)
  fault_made after f g (inr (inl b)) =
      let none : not (b.0.end == place) ≡ false = grind (arith, nat_tests) in
      let ends = ap (λ t. unless faults.EmptyEvent t >>= (λ some_bits. Ok (record { event = g.0.event; clock = g.0.clock; values = b.0.values; end = b.0.end }))) none in
      inl (to_body g (Ok b.0) b.1 ∙ ends ∙ ap Err (sym b.3))
  fault_made after f g (inr (inr e)) = inr e

-- the same where the header was decoded without its value
pub text_told : (shift : Shift) (o : OpenPacket) (near : Known) (bytes part : List ℕ) (clock : Option Moment) (place : ℕ) (told : ToldHead) (text : List ℕ) (end : ℕ) (r : EventRecord)
    → TellsHead o.stream.now (stream_form shift o.stream.now) bytes o.content clock place told → PutsBody near o.stream.now told.head.event.now part bytes o.content told.head.end told.spent end text → place < end → r ≡ record { event = told.head.event; clock = told.head.clock; end = end }
    → (values : Values) × (stands shift o (values_of near) bytes clock place ≡ Ok (recorded_of o.stream.now values r)) × (packet_values values ≡ packet_values (values_of near)) × (text ≡ values_text part o.stream.now r.event.now values)
text_told shift o near bytes part clock place told text end r tells body further same =
    let old = values_of near in
    let t = tells (packet_values old) in
    let values = put EventHeader t.0.header.value (packet_values old) in
    text_made shift o old bytes part clock place told.head values told.spent near text end r (refl, refl) (t.0, t.1, t.2, t.3, t.4, t.5, refl) body further same
