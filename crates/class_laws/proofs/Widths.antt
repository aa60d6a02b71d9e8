-- Each integer of a denoted class has 1 to 64 bits.
use Rattle.std.proofs.Common.{◌≡◌, ◌++◌, ℕ, Bool, true, false, cond, List, [], ◌∷◌, map, Option, Some, None, option_map, refl, sym, ap, ◌∙◌, subst}
use Rattle.std.specs.Prelude.{option_and_then, filter_map, codes}
use Rattle.std.specs.List.{All}
use Rattle.std.proofs.lemmas.List.Elements.{All-nil, All-cons}
use Rattle.std.proofs.lemmas.Option.{none-some, same_Some}
use Rattle.tsdl_tree.specs.declared.tree.BlockKind.TheVariants.{Trace, Stream as StreamKind, Event}
use Rattle.tsdl_tree.specs.declared.tree.Tree.{Tree}
use Rattle.ctf_bits.specs.declared.number.Order.{Order}
use Rattle.ctf_class.specs.Streams.{StreamClass}
use Rattle.ctf_class.specs.declared.class.Class.{Class}
use Rattle.ctf_class.specs.declared.class.Kind.TheVariants as kind
use Rattle.ctf_class.specs.declared.class.Member.{Member}
use Rattle.ctf_class.specs.declared.route.Length.{Length}
use Rattle.ctf_class.specs.declared.route.Length.TheVariants as lengths
use Rattle.ctf_class.specs.declared.route.Scope.{Scope}
use Rattle.ctf_class.specs.declared.route.Scope.TheVariants.{PacketHeader, PacketContext, EventHeader, StreamEventContext, EventContext, EventFields}
use Rattle.ctf_class.specs.declared.trace.Clock.{Clock}
use Rattle.ctf_class.specs.declared.trace.EventClass.{EventClass}
use Rattle.ctf_class.specs.declared.trace.TraceClass.{TraceClass}
use Rattle.ctf_clock.specs.declared.moment.Shift.{Shift}
use Rattle.ctf_decode.specs.Forms as forms
use Rattle.ctf_decode.specs.Forms.{parts_of}
use Rattle.ctf_decode.specs.Views.{form, member_part}
use Rattle.ctf_decode.proofs.Views.{shape-Integer, shape-Enumeration, shape-String, shape-Structure, shape-Variant, shape-Array, shape-Text}
use Rattle.ctf_meaning.specs.Written.{BlockEntry, Declaration, Block, Table, Names}
use Rattle.ctf_meaning.specs.Reading.{written}
use Rattle.ctf_meaning.specs.There.{all_there, if_there, first}
use Rattle.ctf_meaning.specs.Settings.{trace_order_of, text_of}
use Rattle.ctf_meaning.specs.Shapes.{Shape, Field, Members, integer, float, string, enum, struct, variant, array, sequence, no_member, member, fields_in}
use Rattle.ctf_meaning.specs.Paths.{Spot, at_member, below, length_at, tag_at}
use Rattle.ctf_meaning.specs.Links.{is_character, choices_of, class_by, named_by, placed, class_at, members_at, options_at}
use Rattle.ctf_meaning.specs.Blocks.{value_at, id_of, clocks_of}
use Rattle.ctf_meaning.specs.Scopes.{Home, scope_of, spot_of}
use Rattle.ctf_meaning.specs.Streams.{Stream, numbered, streams, is_in_stream, home_of_event, home_of_stream}
use Rattle.ctf_meaning.specs.Denotes.{trace_entries, scope_class, event_class, event_in, stream_class, trace_class, Denotes}
use Rattle.ctf_meaning.proofs.Lists.{Each, each_map, each_mapped, filtered_each}
use Rattle.ctf_packet.specs.Classes.{event_form, stream_form, trace_form}
use Rattle.ctf_packet.specs.Held.{HasWidths, HaveWidths}
use Rattle.class_laws.specs.Sizes.{IsSized, EventSized, StreamSized, TraceSized}
use Rattle.class_laws.proofs.Leading.{bound}
use Rattle.class_laws.proofs.Resolving.{form_by, member_made}
use Rattle.class_laws.proofs.Denoted.{mapped, there_each, each_all}
use Rattle.class_laws.proofs.Sized.{HasSizes, HaveSizes, scope_of_sized}

module _ (order : Order) (clocks : List Clock) where
  array_widths : (s : Shape) (b : Bool) (many : Length) (element c : Class) → Some (class_by s (cond b (kind.Text many) (kind.Array many element))) ≡ Some c → HasWidths (form element) → HasWidths (form c)
  array_widths s true many element c e h = subst HasWidths (sym (form_by s (kind.Text many) c _ e (shape-Text many _))) tt
  array_widths s false many element c e h = subst HasWidths (sym (form_by s (kind.Array many element) c _ e (shape-Array many element _))) h

  mutual
    -- a class has the sizes of its shape
    pub class_widths : (spot : Spot) (s : Shape) (c : Class) → HasSizes s → class_at order clocks spot s ≡ Some c → HasWidths (form c)
    class_widths spot (integer i) c h e = subst HasWidths (sym (form_by (integer i) (kind.Integer (placed order _ i)) c _ e (shape-Integer _ _))) h
    class_widths spot string c h e = subst HasWidths (sym (form_by string kind.String c _ e (shape-String _))) tt
    class_widths spot (enum i labels) c h e = subst HasWidths (sym (form_by (enum i labels) (kind.Enumeration (placed order false i) labels) c _ e (shape-Enumeration _ _ _))) h
    class_widths spot float c h e = absurd (none-some c e)
    class_widths spot (struct align members) c h e =
        let ms = bound _ (members_at order clocks spot [] members) c e in
        subst HasWidths (sym (form_by (struct align members) (kind.Structure ms.0) c _ ms.2 (shape-Structure _ _))) (members_widths spot [] members ms.0 h ms.1)
    class_widths spot (variant tag options) c h e =
        let found = bound _ (tag_at spot tag) c e in
        let os = bound _ (options_at order clocks (below spot) options) c found.2 in
        subst HasWidths (sym (form_by (variant tag options) (kind.Variant (found.0).0 (choices_of (fields_in options) (found.0).1) os.0) c _ os.2 (shape-Variant _ _ _ _)))
        (options_widths (below spot) options os.0 h os.1)
    class_widths spot (array count element) c h e =
        let k = bound _ (class_at order clocks (below spot) element) c e in
        array_widths (array count element) (is_character element) (lengths.Fixed count) k.0 c k.2 (class_widths (below spot) element k.0 h k.1)
    class_widths spot (sequence path element) c h e =
        let route = bound _ (length_at spot path) c e in
        let k = bound _ (class_at order clocks (below spot) element) c route.2 in
        array_widths (sequence path element) (is_character element) (lengths.Field route.0) k.0 c k.2 (class_widths (below spot) element k.0 h k.1)

    members_widths : (spot : Spot) (earlier : List Field) (members : Members) (ms : List Member) → HaveSizes members → members_at order clocks spot earlier members ≡ Some ms → HaveWidths (parts_of (map member_part ms))
    members_widths spot earlier no_member ms h e = subst (λ xs. HaveWidths (parts_of (map member_part xs))) (same_Some [] ms e) tt
    members_widths spot earlier (member word s more) ms h e =
        let c = bound _ (class_at order clocks (at_member spot earlier word) s) ms e in
        let now = earlier ++ record { name = word; shape = s } ∷ [] in
        let rest = bound _ (members_at order clocks spot now more) ms c.2 in
        let others = parts_of (map member_part rest.0) in
        subst (λ xs. HaveWidths (parts_of (map member_part xs))) (same_Some (named_by word c.0 ∷ rest.0) ms rest.2)
        (subst (λ (p : forms.Part). HaveWidths (forms.part p.0 p.1 others)) (sym (member_made word c.0))
        (class_widths (at_member spot earlier word) s c.0 h.0 c.1, members_widths spot now more rest.0 h.1 rest.1))

    options_widths : (spot : Spot) (options : Members) (os : List Member) → HaveSizes options → options_at order clocks spot options ≡ Some os → HaveWidths (parts_of (map member_part os))
    options_widths spot no_member os h e = subst (λ xs. HaveWidths (parts_of (map member_part xs))) (same_Some [] os e) tt
    options_widths spot (member word s more) os h e =
        let c = bound _ (class_at order clocks spot s) os e in
        let rest = bound _ (options_at order clocks spot more) os c.2 in
        let others = parts_of (map member_part rest.0) in
        subst (λ xs. HaveWidths (parts_of (map member_part xs))) (same_Some (named_by word c.0 ∷ rest.0) os rest.2)
        (subst (λ (p : forms.Part). HaveWidths (forms.part p.0 p.1 others)) (sym (member_made word c.0))
        (class_widths spot s c.0 h.0 c.1, options_widths spot more rest.0 h.1 rest.1))

all_of : {X : Type 0} (P : X → Type 0) (xs : List X) → Each P xs → All P xs
all_of P [] h = All-nil P
all_of P (x ∷ xs) h = All-cons P x xs h.0 (all_of P xs h.1)

module _ (text : List Declaration) (order : Order) where
  scope_widths : (home : Home) (scope : Scope) (c : Option Class) → scope_class text order home scope ≡ Some c → IsSized (option_map form c)
  scope_widths home scope c e = by_case (scope_of text home scope) refl e
    where
      by_case : (o : Option Shape) → scope_of text home scope ≡ o → if_there (class_at order (clocks_of text) (spot_of text home scope)) o ≡ Some c → IsSized (option_map form c)
      by_case None f h = subst (λ x. IsSized (option_map form x)) (same_Some None c h) tt
      by_case (Some s) f h =
          let k = mapped (λ b. Some b) (class_at order (clocks_of text) (spot_of text home scope) s) c h in
          subst (λ x. IsSized (option_map form x)) k.2 (class_widths order (clocks_of text) (spot_of text home scope) s k.0 (scope_of_sized text home scope s f) k.1)

  abbrev IsWide : EventClass → Type 0
  IsWide c = IsSized (option_map form c.context) × HasWidths (form c.fields)

  event_widths : (k : ℕ) (entries : List BlockEntry) (c : EventClass) → event_class text order k entries ≡ Some c → IsWide c
  event_widths k entries c e =
      let id = bound _ (id_of entries) c e in
      let name = bound _ (option_and_then text_of (value_at entries (codes "name"))) c id.2 in
      let own = bound _ (scope_class text order (home_of_event text k entries) EventContext) c name.2 in
      let fields = bound _ (option_and_then (λ (f : Option Class). f) (scope_class text order (home_of_event text k entries) EventFields)) c own.2 in
      let whole = bound (λ (f : Option Class). f) (scope_class text order (home_of_event text k entries) EventFields) fields.0 fields.1 in
      subst IsWide (same_Some _ c fields.2) (
        scope_widths (home_of_event text k entries) EventContext own.0 own.1,
        scope_widths (home_of_event text k entries) EventFields (Some fields.0) (whole.1 ∙ ap (λ f. Some f) whole.2),
      )

  abbrev IsWideIn : Option EventClass → Type 0
  IsWideIn o = (y : EventClass) → o ≡ Some y → IsWide y

  declared_widths : (id : ℕ) (q : ℕ × Declaration) (o : Option EventClass) → event_in text order id q ≡ Some o → IsWideIn o
  declared_widths id (k, Block Event entries) o e y f = by_case (is_in_stream text id entries) e
    where
      by_case : (b : Bool) → cond b (Some (event_class text order k entries)) None ≡ Some o → IsWide y
      by_case true g = event_widths k entries y (same_Some (event_class text order k entries) o g ∙ f)
      by_case false g = absurd (none-some o g)
  declared_widths id (k, Block Trace entries) o e y f = absurd (none-some o e)
  declared_widths id (k, Block StreamKind entries) o e y f = absurd (none-some o e)
  declared_widths id (k, Table kind settings) o e y f = absurd (none-some o e)
  declared_widths id (k, Names item) o e y f = absurd (none-some o e)

  stream_widths : (shift : Shift) (stream : Stream) (c : StreamClass) → stream_class text order stream ≡ Some c → StreamSized (stream_form shift c)
  stream_widths shift stream c e =
      let home = home_of_stream text stream.block in
      let context = bound _ (scope_class text order home PacketContext) c e in
      let event = bound _ (scope_class text order home EventHeader) c context.2 in
      let shared = bound _ (scope_class text order home StreamEventContext) c event.2 in
      let events = bound _ (all_there (filter_map (event_in text order stream.id) (numbered text))) c shared.2 in
      let each = there_each IsWide (filter_map (event_in text order stream.id) (numbered text)) events.0
      (filtered_each IsWideIn (event_in text order stream.id) (numbered text)
      (each_all (λ q. (o : Option EventClass) → event_in text order stream.id q ≡ Some o → IsWideIn o) (λ q. declared_widths stream.id q) (numbered text))) events.1 in
      subst (λ (x : StreamClass). StreamSized (stream_form shift x)) (same_Some _ c events.2)
      (record {
        packet_context = scope_widths home PacketContext context.0 context.1;
        event_header = scope_widths home EventHeader event.0 event.1;
        event_context = scope_widths home StreamEventContext shared.0 shared.1;
        events = all_of EventSized (map (event_form _) events.0)
            (each_mapped EventSized (event_form _) events.0 (each_map IsWide (λ y. EventSized (event_form _ y)) (λ y l. record { context = l.0; fields = l.1 }) events.0 each));
      })

-- the classes of a trace
pub denoted_sized : (tree : Tree) (t : TraceClass) (shift : Shift) → Denotes tree t → TraceSized (trace_form shift t)
denoted_sized tree t shift d =
    let text = written tree in
    let entries = bound (trace_class text) (first (filter_map trace_entries text)) t d.1 in
    let order = bound _ (option_and_then trace_order_of (value_at entries.0 (codes "byte_order"))) t entries.2 in
    let header = bound _ (scope_class text order.0 (home_of_stream text None) PacketHeader) t order.2 in
    let streams_are = bound _ (all_there (map (stream_class text order.0) (streams text))) t header.2 in
    let each : Each (λ c. StreamSized (stream_form shift c)) streams_are.0 =
    there_each (λ c. StreamSized (stream_form shift c)) (map (stream_class text order.0) (streams text)) streams_are.0
    (each_mapped (λ o. (c : StreamClass) → o ≡ Some c → StreamSized (stream_form shift c)) (stream_class text order.0) (streams text)
    (each_all (λ s. (c : StreamClass) → stream_class text order.0 s ≡ Some c → StreamSized (stream_form shift c)) (λ s c f. stream_widths text order.0 shift s c f) (streams text))) streams_are.1 in
    subst (λ (x : TraceClass). TraceSized (trace_form shift x)) (same_Some _ t streams_are.2)
    (record {
      packet_header = scope_widths text order.0 (home_of_stream text None) PacketHeader header.0 header.1;
      streams = all_of StreamSized (map (stream_form shift) streams_are.0) (each_mapped StreamSized (stream_form shift) streams_are.0 each);
    })
