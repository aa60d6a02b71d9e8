-- Each route of the classes of a trace leads to a length or a tag.
use Rattle.std.proofs.Common.{◌≡◌, ℕ, suc, Bool, true, false, cond, nat_eq, List, [], ◌∷◌, ◌++◌, map, take, Option, Some, None, option_map, refl, sym, ap, ◌∙◌, subst, arith}
use Rattle.std.specs.Prelude.{slice_get, option_and_then, find, filter_map, flat_map, reverse, codes}
use Rattle.std.specs.Option.{option_map_or}
use Rattle.std.proofs.lemmas.Option.{none-some, same_Some}
use Rattle.tsdl_tree.specs.declared.tree.BlockKind.TheVariants.{Trace, Stream as StreamKind, Event}
use Rattle.tsdl_tree.specs.declared.tree.Tree.{Tree}
use Rattle.ctf_bits.specs.declared.number.Order.{Order}
use Rattle.ctf_class.specs.Streams.{StreamClass}
use Rattle.ctf_class.specs.declared.class.Class.{Class}
use Rattle.ctf_class.specs.declared.route.Scope.{Scope}
use Rattle.ctf_class.specs.declared.route.Scope.TheVariants.{PacketHeader, PacketContext, EventHeader, StreamEventContext, EventContext, EventFields}
use Rattle.ctf_class.specs.declared.trace.EventClass.{EventClass}
use Rattle.ctf_class.specs.declared.trace.TraceClass.{TraceClass}
use Rattle.ctf_clock.specs.declared.moment.Shift.{Shift}
use Rattle.ctf_decode.specs.Forms.{Form}
use Rattle.ctf_decode.specs.Views.{form}
use Rattle.ctf_meaning.specs.Written.{BlockEntry, Declaration, Block, Table, Names}
use Rattle.ctf_meaning.specs.Reading.{written}
use Rattle.ctf_meaning.specs.There.{all_there, if_there, first, only}
use Rattle.ctf_meaning.specs.Settings.{trace_order_of, count_of, text_of}
use Rattle.ctf_meaning.specs.Shapes.{Shape, integer, float, string, enum, struct, variant, array, sequence}
use Rattle.ctf_meaning.specs.Paths.{Frame, rank, scopes}
use Rattle.ctf_meaning.specs.Links.{class_at}
use Rattle.ctf_meaning.specs.Blocks.{value_at, id_of, clocks_of}
use Rattle.ctf_meaning.specs.Scopes.{Home, frame_by, scope_of, frames_before, spot_of}
use Rattle.ctf_meaning.specs.Streams.{Stream, numbered, trace_of, streams, stream_of, is_in_stream, home_of_event, home_of_stream}
use Rattle.ctf_meaning.specs.Faults.{own_faults, link_faults, whole_faults, faults}
use Rattle.ctf_meaning.specs.Denotes.{trace_entries, scope_class, event_class, event_in, stream_class, trace_class, Denotes}
use Rattle.ctf_meaning.specs.Laws.{HasNoOwnFault}
use Rattle.ctf_meaning.proofs.Lists.{Each, each_front, each_map, each_mapped, each_unmapped, filtered_each}
use Rattle.ctf_meaning.proofs.Clean.{IsNone, first_none}
use Rattle.ctf_packet.specs.Classes.{EventForm, StreamForm, TraceForm, event_form, stream_form, trace_form}
use Rattle.ctf_types.proofs.Distinct.{Distinct, streams_distinct, alone}
use Rattle.class_laws.proofs.Leading.{After, Leads, bound}
use Rattle.class_laws.proofs.Resolving.{find_each, GoodScope, class_seen, class_leads, seen_fields}

-- the classes of the scopes before event fields
abbrev pub after_of : Option Form → Option Form → Option Form → Option Form → Option Form → After
after_of header context event shared own PacketHeader = header
after_of header context event shared own PacketContext = context
after_of header context event shared own EventHeader = event
after_of header context event shared own StreamEventContext = shared
after_of header context event shared own EventContext = own
after_of header context event shared own EventFields = None

-- a scope, which may have no class
abbrev pub LeadsIn : Option Form → After → Type 0
LeadsIn None after = Unit {0}
LeadsIn (Some k) after = Leads k after []

pub record EventLeads {C : Type 0} (header context event shared : Option Form) (e : EventForm C) : Type 0 where
  pub own : LeadsIn e.context (after_of header context event shared None)
  pub fields : LeadsIn (Some e.fields) (after_of header context event shared e.context)

pub record StreamLeads {C : Type 0} (header : Option Form) (s : StreamForm C) : Type 0 where
  pub context : LeadsIn s.packet_context (after_of header None None None None)
  pub event : LeadsIn s.event_header (after_of header s.packet_context None None None)
  pub shared : LeadsIn s.event_context (after_of header s.packet_context s.event_header None None)
  pub events : Each (EventLeads header s.packet_context s.event_header s.event_context) s.events

pub record TraceLeads {C : Type 0} (t : TraceForm C) : Type 0 where
  pub header : LeadsIn t.packet_header (after_of None None None None None)
  pub streams : Each (StreamLeads t.packet_header) t.streams

pub mapped : {X Y : Type 0} (f : X → Y) (o : Option X) (y : Y) → option_map f o ≡ Some y → (x : X) × (o ≡ Some x) × (f x ≡ y)
mapped f None y e = absurd (none-some y e)
mapped f (Some x) y e = (x, refl, same_Some (f x) y e)

-- each of the values that are all there
pub there_each : {Y : Type 0} (P : Y → Type 0) (os : List (Option Y)) (ys : List Y) → Each (λ o. (y : Y) → o ≡ Some y → P y) os → all_there os ≡ Some ys → Each P ys
there_each P [] ys h e = subst (Each P) (same_Some [] ys e) tt
there_each P (None ∷ os) ys h e = absurd (none-some ys e)
there_each P (Some y ∷ os) ys h e =
    let rest = mapped (λ others. y ∷ others) (all_there os) ys e in
    subst (Each P) rest.2 (h.0 y refl, there_each P os rest.0 h.1 rest.1)

pub each_all : {X : Type 0} (P : X → Type 0) → ((x : X) → P x) → (xs : List X) → Each P xs
each_all P h [] = tt
each_all P h (x ∷ xs) = (h x, each_all P h xs)

flat_none : {X Y : Type 0} (f : X → List Y) (xs : List X) → Each (λ x. f x ≡ []) xs → flat_map f xs ≡ []
flat_none f [] h = refl
flat_none f (x ∷ xs) h = (λ j. h.0 j ++ flat_map f xs) ∙ flat_none f xs h.1

no_own : (text : List Declaration) → faults text ≡ [] → HasNoOwnFault text
no_own text h =
    let groups : Each IsNone (map (own_faults text) (numbered text) ++ map (link_faults text) (numbered text) ++ whole_faults text ∷ []) = first_none _ h in
    let declarations : Each IsNone (map (own_faults text) (numbered text) ++ map (link_faults text) (numbered text)) = each_front IsNone _ (whole_faults text ∷ []) groups in
    flat_none (own_faults text) (numbered text)
    (each_unmapped IsNone (own_faults text) (numbered text) (each_front IsNone (map (own_faults text) (numbered text)) (map (link_faults text) (numbered text)) declarations))

-- one of a list
abbrev pub IsIn : {X : Type 0} → List X → X → Type 0
IsIn xs x = (i : ℕ) × (slice_get xs i ≡ Some x)

each_in : {X : Type 0} (xs : List X) → Each (IsIn xs) xs
each_in [] = tt
each_in (x ∷ xs) = ((0, refl), each_map (IsIn xs) (IsIn (x ∷ xs)) (λ y h. (suc h.0, h.1)) xs (each_in xs))

-- a stream is the one of its id
alone_in : (ss : List Stream) (t s : Stream) → Distinct ss → IsIn ss t → IsIn ss s → nat_eq t.id s.id ≡ true → t ≡ s
alone_in ss t s d h g e =
    let same : nat_eq h.0 g.0 ≡ true = sym (alone ss h.0 g.0 t s d h.1 g.1) ∙ e in
    let place : h.0 ≡ g.0 = grind (arith, same) in
    same_Some t s (sym h.1 ∙ ap (slice_get ss) place ∙ g.1)

module _ (text : List Declaration) (order : Order) where
  -- a scope whose class is known
  abbrev Knows : Home → After → Scope → Type 0
  Knows home after s = (c : Option Class) × (scope_class text order home s ≡ Some c) × (after s ≡ option_map form c)

  frame_good : (home : Home) (after : After) (s : Scope) → Knows home after s → (f : Frame) → option_and_then (frame_by s) (scope_of text home s) ≡ Some f → GoodScope after f
  frame_good home after s known f e = by_case (scope_of text home s) known.1 e
    where
      by_case : (o : Option Shape) → if_there (class_at order (clocks_of text) (spot_of text home s)) o ≡ Some known.0 → option_and_then (frame_by s) o ≡ Some f → GoodScope after f
      by_case (Some (struct align members)) h g =
          let k = mapped (λ b. Some b) (class_at order (clocks_of text) (spot_of text home s) (struct align members)) known.0 h in
          let seen = class_seen order (clocks_of text) (spot_of text home s) (struct align members) k.0 k.1 in
          subst (GoodScope after) (same_Some _ f g)
          (seen.0, seen.1, known.2 ∙ ap (option_map form) (sym k.2) ∙ ap Some seen.2, seen_fields members seen.1 seen.3)
      by_case None h g = absurd (none-some f g)
      by_case (Some (integer i)) h g = absurd (none-some f g)
      by_case (Some float) h g = absurd (none-some f g)
      by_case (Some string) h g = absurd (none-some f g)
      by_case (Some (enum i labels)) h g = absurd (none-some f g)
      by_case (Some (variant tag options)) h g = absurd (none-some f g)
      by_case (Some (array count element)) h g = absurd (none-some f g)
      by_case (Some (sequence path element)) h g = absurd (none-some f g)

  frames_good : (home : Home) (after : After) (scope : Scope) → Each (Knows home after) (reverse (take (rank scope) scopes)) → Each (GoodScope after) (frames_before text home scope)
  frames_good home after scope known =
      filtered_each (GoodScope after) (λ s. option_and_then (frame_by s) (scope_of text home s)) (reverse (take (rank scope) scopes))
      (each_map (Knows home after) (λ s. (f : Frame) → option_and_then (frame_by s) (scope_of text home s) ≡ Some f → GoodScope after f)
      (λ s a f e. frame_good home after s a f e) (reverse (take (rank scope) scopes)) known)

  scope_leads : (home : Home) (after : After) (scope : Scope) (c : Option Class) → Each (Knows home after) (reverse (take (rank scope) scopes)) → scope_class text order home scope ≡ Some c
      → LeadsIn (option_map form c) after
  scope_leads home after scope c known e = by_case (scope_of text home scope) e
    where
      by_case : (o : Option Shape) → if_there (class_at order (clocks_of text) (spot_of text home scope)) o ≡ Some c → LeadsIn (option_map form c) after
      by_case None h = subst (λ x. LeadsIn (option_map form x) after) (same_Some None c h) tt
      by_case (Some s) h =
          let k = mapped (λ b. Some b) (class_at order (clocks_of text) (spot_of text home scope) s) c h in
          subst (λ x. LeadsIn (option_map form x) after) k.2
          (class_leads order (clocks_of text) after (spot_of text home scope) s k.0 [] tt (frames_good home after scope known) k.1)

  -- the stream of an event is one of the streams
  stream_said : (entries : List BlockEntry) (s : Stream) → stream_of text entries ≡ Some s → IsIn (streams text) s
  stream_said entries s e = by_case (option_and_then count_of (value_at entries (codes "stream_id"))) e
    where
      only_in : (ss : List Stream) → only ss ≡ Some s → IsIn ss s
      only_in [] h = absurd (none-some s h)
      only_in (t ∷ []) h = (0, h)
      only_in (t ∷ u ∷ us) h = absurd (none-some s h)

      by_case : (o : Option ℕ) → option_map_or (λ id. find (λ t. nat_eq t.id id) (streams text)) o (only (streams text)) ≡ Some s → IsIn (streams text) s
      by_case None h = only_in (streams text) h
      by_case (Some id) h = find_each (IsIn (streams text)) (λ t. nat_eq t.id id) (streams text) (each_in (streams text)) s h

  abbrev block_in : Option Stream → Option ℕ
  block_in o = option_and_then (λ (s : Stream). s.block) o

  module _ (clean : HasNoOwnFault text) (stream : Stream) (known : IsIn (streams text) stream) where
    -- an event of a stream's id has the scopes of that stream's block
    block_of_event : (entries : List BlockEntry) → is_in_stream text stream.id entries ≡ true → block_in (stream_of text entries) ≡ stream.block
    block_of_event entries e = by_case (stream_of text entries) refl e
      where
        by_case : (o : Option Stream) → stream_of text entries ≡ o → option_map_or (λ s. nat_eq s.id stream.id) o false ≡ true → block_in o ≡ stream.block
        by_case None f g = absurd (grind (arith, g))
        by_case (Some s) f g = ap (λ (x : Stream). x.block) (alone_in (streams text) s stream (streams_distinct text clean) (stream_said entries s f) known g)

    -- the classes of the stream's scopes
    module _ (header context event shared : Option Class) (header_is : scope_class text order (home_of_stream text None) PacketHeader ≡ Some header) (context_is : scope_class text order (home_of_stream text stream.block) PacketContext ≡ Some context) (event_is : scope_class text order (home_of_stream text stream.block) EventHeader ≡ Some event) (shared_is : scope_class text order (home_of_stream text stream.block) StreamEventContext ≡ Some shared) where
      abbrev home_at : Option ℕ → ℕ → Home
      home_at b k = record { trace = trace_of text; stream = b; event = Some k }

      abbrev after_own : Option Class → After
      after_own own = after_of (option_map form header) (option_map form context) (option_map form event) (option_map form shared) (option_map form own)

      abbrev IsLed : EventClass → Type 0
      IsLed c = LeadsIn (option_map form c.context) (after_own None) × LeadsIn (Some (form c.fields)) (after_own c.context)

      event_led : (k : ℕ) (entries : List BlockEntry) (c : EventClass) → block_in (stream_of text entries) ≡ stream.block → event_class text order k entries ≡ Some c → IsLed c
      event_led k entries c at e =
          let id = bound _ (id_of entries) c e in
          let name = bound _ (option_and_then text_of (value_at entries (codes "name"))) c id.2 in
          let own = bound _ (scope_class text order (home_of_event text k entries) EventContext) c name.2 in
          let fields = bound _ (option_and_then (λ (f : Option Class). f) (scope_class text order (home_of_event text k entries) EventFields)) c own.2 in
          let whole = bound (λ (f : Option Class). f) (scope_class text order (home_of_event text k entries) EventFields) fields.0 fields.1 in
          let own_is : scope_class text order (home_at stream.block k) EventContext ≡ Some own.0 =
          subst (λ b. scope_class text order (home_at b k) EventContext ≡ Some own.0) at own.1 in
          let fields_is : scope_class text order (home_at stream.block k) EventFields ≡ Some (Some fields.0) =
          subst (λ b. scope_class text order (home_at b k) EventFields ≡ Some (Some fields.0)) at (whole.1 ∙ ap (λ f. Some f) whole.2) in
          subst IsLed (same_Some _ c fields.2) (
            scope_leads (home_at stream.block k) (after_own None) EventContext own.0
                ((shared, shared_is, refl), ((event, event_is, refl), ((context, context_is, refl), ((header, header_is, refl), tt)))) own_is,
            scope_leads (home_at stream.block k) (after_own own.0) EventFields (Some fields.0)
                ((own.0, own_is, refl), ((shared, shared_is, refl), ((event, event_is, refl), ((context, context_is, refl), ((header, header_is, refl), tt))))) fields_is,
          )

      abbrev IsLedIn : Option EventClass → Type 0
      IsLedIn o = (y : EventClass) → o ≡ Some y → IsLed y

      declared_led : (q : ℕ × Declaration) (o : Option EventClass) → event_in text order stream.id q ≡ Some o → IsLedIn o
      declared_led (k, Block Event entries) o e y f = by_case (is_in_stream text stream.id entries) refl e
        where
          by_case : (b : Bool) → is_in_stream text stream.id entries ≡ b → cond b (Some (event_class text order k entries)) None ≡ Some o → IsLed y
          by_case true s g = event_led k entries y (block_of_event entries s) (same_Some (event_class text order k entries) o g ∙ f)
          by_case false s g = absurd (none-some o g)
      declared_led (k, Block Trace entries) o e y f = absurd (none-some o e)
      declared_led (k, Block StreamKind entries) o e y f = absurd (none-some o e)
      declared_led (k, Table kind settings) o e y f = absurd (none-some o e)
      declared_led (k, Names item) o e y f = absurd (none-some o e)

      events_led : (es : List EventClass) → all_there (filter_map (event_in text order stream.id) (numbered text)) ≡ Some es → Each IsLed es
      events_led es e =
          there_each IsLed (filter_map (event_in text order stream.id) (numbered text)) es
          (filtered_each IsLedIn (event_in text order stream.id) (numbered text)
          (each_all (λ q. (o : Option EventClass) → event_in text order stream.id q ≡ Some o → IsLedIn o) (λ q. declared_led q) (numbered text))) e

    stream_led : (shift : Shift) (header : Option Class) → scope_class text order (home_of_stream text None) PacketHeader ≡ Some header → (c : StreamClass) → stream_class text order stream ≡ Some c
        → StreamLeads (option_map form header) (stream_form shift c)
    stream_led shift header header_is c e =
        let home = home_of_stream text stream.block in
        let context = bound _ (scope_class text order home PacketContext) c e in
        let event = bound _ (scope_class text order home EventHeader) c context.2 in
        let shared = bound _ (scope_class text order home StreamEventContext) c event.2 in
        let events = bound _ (all_there (filter_map (event_in text order stream.id) (numbered text))) c shared.2 in
        let hf = option_map form header in
        let cf = option_map form context.0 in
        let ef = option_map form event.0 in
        let sf = option_map form shared.0 in
        let each = events_led header context.0 event.0 shared.0 header_is context.1 event.1 shared.1 events.0 events.1 in
        subst (λ (x : StreamClass). StreamLeads hf (stream_form shift x)) (same_Some _ c events.2)
        (record {
          context = scope_leads home (after_of hf None None None None) PacketContext context.0 ((header, header_is, refl), tt) context.1;
          event = scope_leads home (after_of hf cf None None None) EventHeader event.0 ((context.0, context.1, refl), ((header, header_is, refl), tt)) event.1;
          shared = scope_leads home (after_of hf cf ef None None) StreamEventContext shared.0 ((event.0, event.1, refl), ((context.0, context.1, refl), ((header, header_is, refl), tt))) shared.1;
          events = each_mapped (EventLeads hf cf ef sf) (event_form _) events.0
              (each_map (IsLed header context.0 event.0 shared.0 header_is context.1 event.1 shared.1) (λ y. EventLeads hf cf ef sf (event_form _ y)) (λ y l. record { own = l.0; fields = l.1 }) events.0 each);
        })

-- the classes of a trace
pub denoted_leads : (tree : Tree) (t : TraceClass) (shift : Shift) → Denotes tree t → TraceLeads (trace_form shift t)
denoted_leads tree t shift d =
    let text = written tree in
    let clean = no_own text d.0 in
    let entries = bound (trace_class text) (first (filter_map trace_entries text)) t d.1 in
    let order = bound _ (option_and_then trace_order_of (value_at entries.0 (codes "byte_order"))) t entries.2 in
    let header = bound _ (scope_class text order.0 (home_of_stream text None) PacketHeader) t order.2 in
    let streams_are = bound _ (all_there (map (stream_class text order.0) (streams text))) t header.2 in
    let hf = option_map form header.0 in
    let each : Each (λ c. StreamLeads hf (stream_form shift c)) streams_are.0 =
    there_each (λ c. StreamLeads hf (stream_form shift c)) (map (stream_class text order.0) (streams text)) streams_are.0
    (each_mapped (λ o. (c : StreamClass) → o ≡ Some c → StreamLeads hf (stream_form shift c)) (stream_class text order.0) (streams text)
    (each_map (IsIn (streams text)) (λ s. (c : StreamClass) → stream_class text order.0 s ≡ Some c → StreamLeads hf (stream_form shift c))
    (λ s i c f. stream_led text order.0 clean s i shift header.0 header.1 c f) (streams text) (each_in (streams text)))) streams_are.1 in
    subst (λ (x : TraceClass). TraceLeads (trace_form shift x)) (same_Some _ t streams_are.2)
    (record {
      header = scope_leads text order.0 (home_of_stream text None) (after_of None None None None None) PacketHeader header.0 tt header.1;
      streams = each_mapped (StreamLeads hf) (stream_form shift) streams_are.0 each;
    })
