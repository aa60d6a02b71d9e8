-- What a reader hands in for a scope is of the classes of the scopes before it.
use Rattle.std.proofs.Common.{◌≡◌, ◌==◌, ℕ, ℤ, pos, ◌^◌, ◌*◌, Bool, true, false, cond, nat_lt, List, [], ◌∷◌, length, Option, Some, None, Result, Ok, Err, codes, sym, ap, ◌∙◌, subst}
use Rattle.std.specs.List.{last_or}
use Rattle.std.proofs.lemmas.Option.{none-some, same_Some}
use lib.IntN.{negsuc}
use Rattle.ctf_bits.specs.declared.source.Ending.{Ending}
use Rattle.ctf_class.specs.Items.{first_of_id, only_item}
use Rattle.ctf_class.specs.declared.route.Scope.TheVariants.{PacketHeader, PacketContext, EventHeader, StreamEventContext, EventContext, EventFields}
use Rattle.ctf_clock.specs.declared.moment.Moment.{Moment}
use Rattle.ctf_decode.specs.Breaks.{Fault}
use Rattle.ctf_decode.specs.Forms.{Form}
use Rattle.ctf_decode.specs.Input.{Input}
use Rattle.ctf_decode.specs.Laws.{Is}
use Rattle.ctf_decode.specs.Values.{Val}
use Rattle.ctf_decode.specs.Walk.{Step, walk}
use Rattle.ctf_decode.proofs.Sound.{walk_is}
use Rattle.ctf_meaning.proofs.Lists.{Each}
use Rattle.ctf_packet.specs.Classes.{EventForm, StreamForm, TraceForm}
use Rattle.ctf_packet.specs.Scopes.{Values, no_values, value_in, input_of, put, Stood, stood, scope_at, fault_in_front, fault_in_record}
use Rattle.ctf_packet.specs.Roles.{role, number_in, is_magic, uuid_field, is_of_trace}
use Rattle.ctf_packet.specs.Packets.{Opened, unless, or_fault, front, stream_named, same_stream, stream_of, stream_checked, sizes_checked, clock_before, clock_after, moves, placed, open_at}
use Rattle.ctf_packet.specs.Records.{Headed, headed, event_numbered, event_named, ids_in}
use Rattle.ctf_packet.specs.declared.fault.StreamFault.{StreamFault}
use Rattle.ctf_packet.specs.declared.fault.StreamFault.TheVariants as faults
use Rattle.ctf_packet.specs.declared.reached.Reached.{Reached}
use Rattle.ctf_packet.specs.declared.sizes.Sizes.{Sizes}
use Rattle.ctf_packet.proofs.Conforming.{stands_conform}
use Rattle.ctf_packet.proofs.Going.{first}
use Rattle.ctf_packet.proofs.Opening as opening
use Rattle.class_laws.specs.Finding.{FindsIn}
use Rattle.class_laws.specs.Reading.{FindsInBody, FindsInTrace}
use Rattle.class_laws.proofs.Leading.{After, FitsIn, FitAfter, IsNumber, read_number, finds_all, bound}
use Rattle.class_laws.proofs.Resolving.{find_each}
use Rattle.class_laws.proofs.Denoted.{after_of, LeadsIn, EventLeads, StreamLeads, TraceLeads}

-- what is in a scope is of its class
stood_fits : (told : Fault → StreamFault) (k : Form) (c : Input) (p s : ℕ) (r : Step Val) (w : Stood) → Is k c [] p s r → stood told r ≡ Ok w → FitsIn (Some k) w.value
stood_fits told k c p s (Ok x) w h e =
    let g : record { value = Some x.0; end = x.1; spent = x.2 } ≡ w = cc in
    (x.0, ap (λ (z : Stood). z.value) (sym g), stands_conform IsNumber (λ d i b. read_number d i b) k c [] p x.0 x.1 h.0)
stood_fits told k c p s (Err f) w h e = cc

scope_fits : (told : Fault → StreamFault) (k : Option Form) (c : Input) (p s : ℕ) (w : Stood) → scope_at told k c p s ≡ Ok w → FitsIn k w.value
scope_fits told None c p s w e = tt
scope_fits told (Some k) c p s w e = stood_fits told k c p s (walk k c [] p s) w (walk_is k c [] p s) e

-- the values of scopes of these classes
fit : (header context event shared own : Option Form) (values : Values) → FitsIn header values.packet_header → FitsIn context values.packet_context → FitsIn event values.event_header
    → FitsIn shared values.stream_event_context → FitsIn own values.event_context → FitAfter (after_of header context event shared own) (value_in values)
fit header context event shared own values a b d e f PacketHeader = a
fit header context event shared own values a b d e f PacketContext = b
fit header context event shared own values a b d e f EventHeader = d
fit header context event shared own values a b d e f StreamEventContext = e
fit header context event shared own values a b d e f EventContext = f
fit header context event shared own values a b d e f EventFields = tt

finds_in : (k : Option Form) (after : After) (c : Input) → LeadsIn k after → FitAfter after c.earlier → FindsIn k c
finds_in None after c l f = tt
finds_in (Some k) after c l f = finds_all after c f k [] [] tt l

there : {A : Type 0} (f : StreamFault) (o : Option A) (x : A) → or_fault f o ≡ Ok x → o ≡ Some x
there f None x h = cc
there f (Some y) x h = cc

only_each : {A : Type 0} (P : A → Type 0) (xs : List A) → Each P xs → (x : A) → only_item xs ≡ Some x → P x
only_each P [] h x e = absurd (none-some x e)
only_each P (y ∷ []) h x e = subst P (same_Some y x e) h.0
only_each P (y ∷ z ∷ zs) h x e = absurd (none-some x e)

module _ {C : Type 0} where
  -- a stream that is named is one of the streams
  stream_each : (P : StreamForm C → Type 0) (streams : List (StreamForm C)) (id : Option ℕ) → Each P streams → (s : StreamForm C) → stream_named streams id ≡ Some s → P s
  stream_each P streams (Some id) h s e = find_each P (λ stream. stream.id == id) streams h s e
  stream_each P streams None h s e = only_each P streams h s e

  same_there : (P : StreamForm C → Type 0) (reached : Option Reached) (s t : StreamForm C) → P s → same_stream reached s ≡ Some t → P t
  same_there P None s t h e = subst P (same_Some s t e) h
  same_there P (Some r) s t h e = by_case (s.id == r.stream) e
    where
      by_case : (b : Bool) → cond b (Some s) None ≡ Some t → P t
      by_case true g = subst P (same_Some s t g) h
      by_case false g = absurd (none-some t g)

  checked_each : (P : StreamForm C → Type 0) (trace : TraceForm C) (reached : Option Reached) (header : Option Val) (s : StreamForm C) → Each P trace.streams → stream_checked trace reached header ≡ Ok s → P s
  unfolding stream_checked
  checked_each P trace reached header s h e =
      let a = first (unless faults.WrongMagic (is_magic (role (codes "magic") trace.packet_header header))) _ s e in
      let b = first (unless faults.OtherTrace (is_of_trace trace.uuid (uuid_field trace.packet_header header))) _ s a.2 in
      let id = number_in (role (codes "stream_id") trace.packet_header header) in
      let t = bound (same_stream reached) (stream_named trace.streams id) s (there faults.UnknownStream (stream_of trace reached header) s b.2) in
      same_there P reached t.0 s (stream_each P trace.streams id h t.0 t.1) t.2

  -- an event that is named is one of the events
  numbered_each : (P : EventForm C → Type 0) (events : List (EventForm C)) (id : ℤ) → Each P events → (e : EventForm C) → event_numbered events id ≡ Some e → P e
  numbered_each P events (pos id) h x e = by_case (nat_lt id (2 ^ 64)) e
    where
      by_case : (b : Bool) → cond b (first_of_id (λ (event : EventForm C). event.id) id events) None ≡ Some x → P x
      by_case true g = find_each P (λ event. event.id == id) events h x g
      by_case false g = absurd (none-some x g)
  numbered_each P events (negsuc n) h x e = absurd (none-some x e)

  event_each : (P : EventForm C → Type 0) (events : List (EventForm C)) (id : Option ℤ) → Each P events → (e : EventForm C) → event_named events id ≡ Some e → P e
  event_each P events (Some id) h x e = numbered_each P events id h x e
  event_each P events None h x e = only_each P events h x e

  -- a packet that was opened, with what is in its scopes
  abbrev IsOpened : TraceForm C → Opened C → Type 0
  IsOpened trace p = StreamLeads trace.packet_header p.stream × FitsIn trace.packet_header p.values.packet_header × FitsIn p.stream.packet_context p.values.packet_context

  placed_keeps : (stream : StreamForm C) (reached : Option Reached) (start : ℕ) (values : Values) (place : ℕ) (sizes : Sizes) (p : Opened C) → placed stream reached start values place sizes ≡ Ok p
      → (stream ≡ p.stream) × (values ≡ p.values)
  unfolding placed
  placed_keeps stream reached start values place sizes p e =
      let a = first (clock_before stream.line reached) _ p e in
      let b = first (clock_after stream.line a.0 (moves stream.packet_context values.packet_context)) _ p a.2 in
      let stream_in : Result (Opened C) StreamFault → StreamForm C = λ r. elim r as (λ _. StreamForm C) [ Ok x ↦ x.stream | Err _ ↦ stream ] in
      let values_in : Result (Opened C) StreamFault → Values = λ r. elim r as (λ _. Values) [ Ok x ↦ x.values | Err _ ↦ values ] in
      (ap stream_in b.2, ap values_in b.2)

  module _ (trace : TraceForm C) (leads : TraceLeads trace) where
    opened : (ending : Ending) (reached : Option Reached) (start : ℕ) (left : List ℕ) (p : Opened C) → open_at trace ending reached start left ≡ Ok p → IsOpened trace p
    opened ending reached start left p e =
        let a = first (scope_at (fault_in_front ending) trace.packet_header (front left no_values) 0 0) (opening.after_header trace ending reached start left) p (sym (opening.opens trace ending reached start left) ∙ e) in
        let b = first (stream_checked trace reached (a.0).value) (opening.after_stream trace ending reached start left a.0) p a.2 in
        let known = put PacketHeader (a.0).value no_values in
        let d = first (scope_at (fault_in_front ending) (b.0).packet_context (front left known) (a.0).end (a.0).spent) (opening.after_context trace ending reached start left b.0 known) p b.2 in
        let values = put PacketContext (d.0).value known in
        let size = λ (name : List ℕ). number_in (role name (b.0).packet_context (d.0).value) in
        let s = first (sizes_checked (size (codes "packet_size")) (size (codes "content_size")) ending (8 * length left) (d.0).end) (placed b.0 reached start values (d.0).end) p d.2 in
        let g = placed_keeps b.0 reached start values (d.0).end s.0 p s.2 in
        let led = checked_each (StreamLeads trace.packet_header) trace reached (a.0).value b.0 leads.streams b.1 in
        let header : FitsIn trace.packet_header values.packet_header = scope_fits (fault_in_front ending) trace.packet_header (front left no_values) 0 0 a.0 a.1 in
        let context : FitsIn (b.0).packet_context values.packet_context = scope_fits (fault_in_front ending) (b.0).packet_context (front left known) (a.0).end (a.0).spent d.0 d.1 in
        let here : StreamLeads trace.packet_header b.0 × FitsIn trace.packet_header values.packet_header × FitsIn (b.0).packet_context values.packet_context = (led, header, context) in
        subst (λ (v : Values). StreamLeads trace.packet_header p.stream × FitsIn trace.packet_header v.packet_header × FitsIn p.stream.packet_context v.packet_context) g.1
        (subst (λ (x : StreamForm C). StreamLeads trace.packet_header x × FitsIn trace.packet_header values.packet_header × FitsIn x.packet_context values.packet_context) g.0 here)

    -- the header of an event record, with what is in it
    abbrev IsHeaded : StreamForm C → Headed C → Type 0
    IsHeaded stream head = EventLeads trace.packet_header stream.packet_context stream.event_header stream.event_context head.event × FitsIn stream.event_header head.header.value

    headed_is : (stream : StreamForm C) (bytes : List ℕ) (content : ℕ) (values : Values) (clock : Option Moment) (place : ℕ) (head : Headed C) → StreamLeads trace.packet_header stream
        → headed stream bytes content values clock place ≡ Ok head → IsHeaded stream head
    unfolding headed
    headed_is stream bytes content values clock place head l e =
        let a = first (scope_at fault_in_record stream.event_header (input_of bytes content values) place 0) _ head e in
        let b = first (clock_after stream.line clock (moves stream.event_header (a.0).value)) _ head a.2 in
        let id = last_or None (ids_in stream.event_header (a.0).value) in
        let d = first (or_fault faults.UnknownEvent (event_named stream.events id)) _ head b.2 in
        let g : ◌≡◌ {A = Headed C} (record { event = d.0; clock = b.0; header = a.0 }) head = cc (d.2) in
        let led = event_each (EventLeads trace.packet_header stream.packet_context stream.event_header stream.event_context) stream.events id l.events d.0 (there faults.UnknownEvent (event_named stream.events id) d.0 d.1) in
        subst (IsHeaded stream) g (led, scope_fits fault_in_record stream.event_header (input_of bytes content values) place 0 a.0 a.1)

    body_finds : (stream : StreamForm C) (head : Headed C) (bytes : List ℕ) (content : ℕ) (before : Values) → StreamLeads trace.packet_header stream → IsHeaded stream head
        → FitsIn trace.packet_header before.packet_header → FitsIn stream.packet_context before.packet_context
        → FindsInBody stream.event_context head.event.context (Some head.event.fields) bytes content (put EventHeader head.header.value before)
    body_finds stream head bytes content before l h a b =
        let th = trace.packet_header in
        let tc = stream.packet_context in
        let te = stream.event_header in
        let ts = stream.event_context in
        let values = put EventHeader head.header.value before in
        record {
          stream_event_context = finds_in ts (after_of th tc te None None) (input_of bytes content values) l.shared (fit th tc te None None values a b h.1 tt tt);
          event_context = λ place spent shared e.
              finds_in head.event.context (after_of th tc te ts None) (input_of bytes content (put StreamEventContext shared.value values)) (h.0).own
              (fit th tc te ts None (put StreamEventContext shared.value values) a b h.1 (scope_fits fault_in_record ts (input_of bytes content values) place spent shared e) tt);
          event_fields = λ place spent next more shared own e f.
              finds_in (Some head.event.fields) (after_of th tc te ts head.event.context) (input_of bytes content (put EventContext own.value (put StreamEventContext shared.value values))) (h.0).fields
              (fit th tc te ts head.event.context (put EventContext own.value (put StreamEventContext shared.value values)) a b h.1
              (scope_fits fault_in_record ts (input_of bytes content values) place spent shared e)
              (scope_fits fault_in_record head.event.context (input_of bytes content (put StreamEventContext shared.value values)) next more own f));
        }

    pub trace_finds : FindsInTrace trace
    trace_finds = record {
      packet_header = λ left. finds_in trace.packet_header (after_of None None None None None) (front left no_values) leads.header (fit None None None None None no_values tt tt tt tt tt);
      packet_context = λ ending reached left header stream e f.
          finds_in stream.packet_context (after_of trace.packet_header None None None None) (front left (put PacketHeader header.value no_values))
          (checked_each (StreamLeads trace.packet_header) trace reached header.value stream leads.streams f).context
          (fit trace.packet_header None None None None (put PacketHeader header.value no_values) (scope_fits (fault_in_front ending) trace.packet_header (front left no_values) 0 0 header e) tt tt tt tt);
      event_header = λ ending reached start left bytes packet e.
          let o = opened ending reached start left packet e in
          finds_in packet.stream.event_header (after_of trace.packet_header packet.stream.packet_context None None None) (input_of bytes packet.content packet.values) (o.0).event
          (fit trace.packet_header packet.stream.packet_context None None None packet.values o.1 o.2 tt tt tt);
      event_body = λ ending reached start left bytes packet clock place head e f.
          let o = opened ending reached start left packet e in
          body_finds packet.stream head bytes packet.content packet.values o.0 (headed_is packet.stream bytes packet.content packet.values clock place head o.0 f) o.1 o.2;
    }
