-- The event classes, the stream classes and the trace class of a text without faults are there.
use Rattle.std.proofs.Common.{◌≡◌, ◌⊎◌, inl, inr, ℕ, ◌+◌, false, List, [], ◌∷◌, ◌++◌, map, Option, Some, None, refl, ap, sym, ◌∙◌, subst, arith}
use Rattle.std.specs.Prelude.{flat_map, filter_map, find, option_map, option_and_then, is_none, not, codes, if◌then◌else◌, Contains}
use Rattle.std.specs.List.{enumerate_from, cons_option}
use Rattle.std.specs.Option.{option_map_or}
use Rattle.tsdl_tree.specs.declared.tree.Tree.{Tree}
use Rattle.tsdl_tree.specs.declared.tree.BlockKind.TheVariants.{Trace, Stream, Event}
use Rattle.tsdl_tree.specs.declared.tree.Value.{Value}
use Rattle.ctf_bits.specs.declared.number.Order.{Order}
use Rattle.ctf_class.specs.declared.route.Scope.TheVariants.{PacketHeader, PacketContext, EventHeader, StreamEventContext, EventContext, EventFields}
use Rattle.ctf_class.specs.declared.trace.EventClass.{EventClass}
use Rattle.ctf_class.specs.declared.trace.TraceClass.{TraceClass}
use Rattle.ctf_meaning.specs.declared.fault.ResolveFault.{ResolveFault}
use Rattle.ctf_meaning.specs.declared.fault.ResolveFault.TheVariants.{Attribute, Clock as SeveralClocks}
use Rattle.ctf_meaning.specs.Written.{BlockEntry, Declaration, Block, Table, Names}
use Rattle.ctf_meaning.specs.Reading.{written}
use Rattle.ctf_meaning.specs.Settings.{when, wrong, is_count, count_of, text_of, trace_order_of}
use Rattle.ctf_meaning.specs.Shapes.{struct, no_member}
use Rattle.ctf_meaning.specs.Names.{entries_in}
use Rattle.ctf_meaning.specs.There.{first, if_there, all_there}
use Rattle.ctf_meaning.specs.Links.{link_faults_at, class_at}
use Rattle.ctf_meaning.specs.Blocks.{value_at, uuid_of, id_of, class_entries, entry_name, clocks_of, is_trace, entry_faults, trace_faults, event_faults}
use Rattle.ctf_meaning.specs.Scopes.{Home, scope_of, spot_of}
use Rattle.ctf_meaning.specs.Streams.{Stream as StreamAt, numbered, trace_of, streams, or_plain, stream_by, is_in_stream, home_of_event, home_of_stream}
use Rattle.ctf_meaning.specs.Faults.{faults, scope_links, event_links, clocks_moved, has_other}
use Rattle.ctf_meaning.specs.Denotes.{scope_class, event_class, event_in, stream_class, trace_class, trace_entries, class_of_text, Denotes, Faulty}
use Rattle.ctf_meaning.proofs.Lists.{Each, IsThere, each_map, each_mapped, filtered_each, append_left, append_right, all_there_each, there_unless, then_there, some_same, chosen_first}
use Rattle.ctf_meaning.proofs.Shaped.{Shaped, when_not}
use Rattle.ctf_meaning.proofs.Linked.{linked_there}
use Rattle.ctf_meaning.proofs.Clean.{Clean, all_clean, whole_none, clean_shaped}
use Rattle.ctf_meaning.proofs.Complete.{classes_shaped, first_there, first_solid, none_solid, fields_solid, shape_in, names_solid, scope_of-block, scope_there, links_each}

-- what is read of a setting that is not wrong, or a default
read_there : {A : Type 0} (read : Value → Option A) (value : Option Value) (default : A) → wrong read value ≡ [] → IsThere (option_map_or read value (Some default))
read_there read None default h = (default, refl)
read_there read (Some v) default h = there_unless (read v) (when_not (is_none (read v)) Attribute h)

-- a scope that is declared and can be made
declared_there : {X Y : Type 0} (make : X → Option Y) (o : Option X) → IsThere o → ((x : X) → o ≡ Some x → IsThere (make x)) → IsThere (option_and_then (λ c. c) (if_there make o))
declared_there make o t h =
    let made = h t.0 t.1 in
    (made.0, ap (λ p. option_and_then (λ c. c) (if_there make p)) t.1 ∙ ap (λ q. option_and_then (λ c. c) (option_map (λ y. Some y) q)) made.1)

module _ (text : List Declaration) (shaped : Each Shaped (entries_in text)) (order : Order) where
  event_there : (k : ℕ) (es : List BlockEntry) → Clean text (k, Block Event es) → IsThere (event_class text order k es)
  event_there k es c =
      let home : Home = home_of_event text k es in
      let faulty_name : List ResolveFault = when (is_none (option_and_then text_of (value_at es (codes "name")))) Attribute in
      let faulty_id : List ResolveFault = wrong count_of (value_at es (codes "id")) in
      let faulty_stream : List ResolveFault = wrong count_of (value_at es (codes "stream_id")) in
      let settings : faulty_name ++ faulty_id ++ faulty_stream ≡ [] = append_right (entry_faults Event es) (event_faults es) c.block in
      let two : faulty_name ++ faulty_id ≡ [] = append_left (faulty_name ++ faulty_id) faulty_stream settings in
      let name : IsThere (option_and_then text_of (value_at es (codes "name"))) =
      there_unless (option_and_then text_of (value_at es (codes "name"))) (when_not (is_none (option_and_then text_of (value_at es (codes "name")))) Attribute (append_left faulty_name faulty_id two)) in
      let id : IsThere (id_of es) = read_there count_of (value_at es (codes "id")) 0 (append_right faulty_name faulty_id two) in
      let links = links_each text home Event (append_right (event_links text k es) (scope_links text home Event) c.links) in
      let solid = names_solid text k Event es c in
      let context : IsThere (scope_class text order home EventContext) =
      scope_there text order home EventContext
      (λ s e. first_solid (shape_in text k) (class_entries es (entry_name EventContext)) None solid.0 none_solid s (sym (scope_of-block text k (Block Event es) EventContext c.number) ∙ e))
      links.0 in
      let fields_shape : IsThere (scope_of text home EventFields) =
      let there = first_there (shape_in text k) (class_entries es (entry_name EventFields)) (Some (struct 1 no_member)) (classes_shaped text shaped k Event es c (entry_name EventFields)) (_, refl) in
      (there.0, scope_of-block text k (Block Event es) EventFields c.number ∙ there.1) in
      let fields : IsThere (option_and_then (λ c. c) (scope_class text order home EventFields)) =
      declared_there (class_at order (clocks_of text) (spot_of text home EventFields)) (scope_of text home EventFields) fields_shape
      (λ s e. linked_there order (clocks_of text) (spot_of text home EventFields) s
      (first_solid (shape_in text k) (class_entries es (entry_name EventFields)) (Some (struct 1 no_member)) solid.1.0 fields_solid s (sym (scope_of-block text k (Block Event es) EventFields c.number) ∙ e))
      (ap (λ o. option_map_or (link_faults_at (clocks_of text) (spot_of text home EventFields)) o []) (sym e) ∙ links.1.0)) in
      then_there _ (id_of es) id
      (then_there _ (option_and_then text_of (value_at es (codes "name"))) name
      (then_there _ (scope_class text order home EventContext) context
      (then_there _ (option_and_then (λ c. c) (scope_class text order home EventFields)) fields (_, refl))))

  event_in_there : (stream : ℕ) (p : ℕ × Declaration) → Clean text p → (o : Option EventClass) → event_in text order stream p ≡ Some o → IsThere o
  event_in_there stream (k, Block Event es) c o e = subst IsThere (chosen_first (is_in_stream text stream es) (event_class text order k es) o e) (event_there k es c)
  event_in_there stream (k, Block Trace es) c o e = absurd (grind (arith, e))
  event_in_there stream (k, Block Stream es) c o e = absurd (grind (arith, e))
  event_in_there stream (k, Table kind settings) c o e = absurd (grind (arith, e))
  event_in_there stream (k, Names item) c o e = absurd (grind (arith, e))

  events_there : (stream : ℕ) → Each (Clean text) (numbered text) → IsThere (all_there (filter_map (event_in text order stream) (numbered text)))
  events_there stream clean =
      all_there_each (filter_map (event_in text order stream) (numbered text))
      (filtered_each IsThere (event_in text order stream) (numbered text)
      (each_map (Clean text) (λ p. (o : Option EventClass) → event_in text order stream p ≡ Some o → IsThere o) (λ p c. event_in_there stream p c) (numbered text) clean))

  -- a stream class from its scopes
  stream_by_scopes : (s : StreamAt) → Each (Clean text) (numbered text) →
      IsThere (scope_class text order (home_of_stream text s.block) PacketContext) →
      IsThere (scope_class text order (home_of_stream text s.block) EventHeader) →
      IsThere (scope_class text order (home_of_stream text s.block) StreamEventContext) →
      IsThere (stream_class text order s)
  stream_by_scopes s clean context header events =
      then_there _ (scope_class text order (home_of_stream text s.block) PacketContext) context
      (then_there _ (scope_class text order (home_of_stream text s.block) EventHeader) header
      (then_there _ (scope_class text order (home_of_stream text s.block) StreamEventContext) events
      (then_there _ (all_there (filter_map (event_in text order s.id) (numbered text))) (events_there s.id clean) (_, refl))))

  stream_there : (k : ℕ) (es : List BlockEntry) (id : ℕ) → Each (Clean text) (numbered text) → Clean text (k, Block Stream es) → IsThere (stream_class text order (record { block = Some k; id = id }))
  stream_there k es id clean c =
      let home : Home = home_of_stream text (Some k) in
      let links = links_each text home Stream c.links in
      let solid = names_solid text k Stream es c in
      stream_by_scopes (record { block = Some k; id = id }) clean
      (scope_there text order home PacketContext
      (λ s e. first_solid (shape_in text k) (class_entries es (entry_name PacketContext)) None solid.0 none_solid s (sym (scope_of-block text k (Block Stream es) PacketContext c.number) ∙ e)) links.0)
      (scope_there text order home EventHeader
      (λ s e. first_solid (shape_in text k) (class_entries es (entry_name EventHeader)) None solid.1.0 none_solid s (sym (scope_of-block text k (Block Stream es) EventHeader c.number) ∙ e)) links.1.0)
      (scope_there text order home StreamEventContext
      (λ s e. first_solid (shape_in text k) (class_entries es (entry_name StreamEventContext)) None solid.1.1.0 none_solid s (sym (scope_of-block text k (Block Stream es) StreamEventContext c.number) ∙ e)) links.1.1.0)

  by_id : (k : ℕ) (es : List BlockEntry) (o : Option ℕ) → Each (Clean text) (numbered text) → Clean text (k, Block Stream es) → (s : StreamAt) →
      option_map (λ id. record { block = Some k; id = id }) o ≡ Some s → IsThere (stream_class text order s)
  by_id k es None clean c s e = absurd (grind (arith, e))
  by_id k es (Some id) clean c s e = subst (λ t. IsThere (stream_class text order t)) (some_same (record { block = Some k; id = id }) s e) (stream_there k es id clean c)

  stream_by_there : Each (Clean text) (numbered text) → (p : ℕ × Declaration) → Clean text p → (s : StreamAt) → stream_by p ≡ Some s → IsThere (stream_class text order s)
  stream_by_there clean (k, Block Stream es) c s e = by_id k es (id_of es) clean c s e
  stream_by_there clean (k, Block Trace es) c s e = absurd (grind (arith, e))
  stream_by_there clean (k, Block Event es) c s e = absurd (grind (arith, e))
  stream_by_there clean (k, Table kind settings) c s e = absurd (grind (arith, e))
  stream_by_there clean (k, Names item) c s e = absurd (grind (arith, e))

  or_plain_each : (P : StreamAt → Type 0) (ss : List StreamAt) → P (record { block = None; id = 0 }) → Each P ss → Each P (or_plain ss)
  or_plain_each P [] plain h = (plain, tt)
  or_plain_each P (s ∷ more) plain h = h

  streams_there : Each (Clean text) (numbered text) → IsThere (all_there (map (stream_class text order) (streams text)))
  streams_there clean =
      all_there_each (map (stream_class text order) (streams text))
      (each_mapped IsThere (stream_class text order) (streams text)
      (or_plain_each (λ s. IsThere (stream_class text order s)) (filter_map stream_by (numbered text))
      (stream_by_scopes (record { block = None; id = 0 }) clean (None, refl) (None, refl) (None, refl))
      (filtered_each (λ s. IsThere (stream_class text order s)) stream_by (numbered text)
      (each_map (Clean text) (λ p. (s : StreamAt) → stream_by p ≡ Some s → IsThere (stream_class text order s)) (stream_by_there clean) (numbered text) clean))))

-- the first trace block of a list of declarations
record FirstTrace (P : ℕ × Declaration → Type 0) (n : ℕ) (ds : List Declaration) : Type 0 where
  pub number : ℕ
  pub entries : List BlockEntry
  pub numbered : option_map (λ p. p.0) (find (λ p. is_trace p.1) (enumerate_from n ds)) ≡ Some number
  pub first : first (filter_map trace_entries ds) ≡ Some entries
  pub holds : P (number, Block Trace entries)

later_trace : (P : ℕ × Declaration → Type 0) (n : ℕ) (d : Declaration) (ds : List Declaration) → is_trace d ≡ false → trace_entries d ≡ None → FirstTrace P (n + 1) ds → FirstTrace P n (d ∷ ds)
later_trace P n d ds other none t = record {
  number = t.number;
  entries = t.entries;
  numbered = ap (λ b. option_map (λ p. p.0) (if b then Some (n, d) else find (λ p. is_trace p.1) (enumerate_from (n + 1) ds))) other ∙ t.numbered;
  first = ap (λ o. first (cons_option o (filter_map trace_entries ds))) none ∙ t.first;
  holds = t.holds;
}

first_trace : (P : ℕ × Declaration → Type 0) (n : ℕ) (ds : List Declaration) → Each P (enumerate_from n ds) →
    is_none (option_map (λ p. p.0) (find (λ p. is_trace p.1) (enumerate_from n ds))) ≡ false → FirstTrace P n ds
first_trace P n [] h some = absurd (grind (arith, some))
first_trace P n (Block Trace es ∷ ds) h some = record { number = n; entries = es; numbered = refl; first = refl; holds = h.0 }
first_trace P n (Block Stream es ∷ ds) h some = later_trace P n (Block Stream es) ds refl refl (first_trace P (n + 1) ds h.1 some)
first_trace P n (Block Event es ∷ ds) h some = later_trace P n (Block Event es) ds refl refl (first_trace P (n + 1) ds h.1 some)
first_trace P n (Table kind settings ∷ ds) h some = later_trace P n (Table kind settings) ds refl refl (first_trace P (n + 1) ds h.1 some)
first_trace P n (Names item ∷ ds) h some = later_trace P n (Names item) ds refl refl (first_trace P (n + 1) ds h.1 some)

module _ (text : List Declaration) where
  header_there : (k : ℕ) (es : List BlockEntry) (order : Order) → Clean text (k, Block Trace es) → trace_of text ≡ Some k → IsThere (scope_class text order (home_of_stream text None) PacketHeader)
  header_there k es order c here =
      let home : Home = record { trace = Some k; stream = None; event = None } in
      let links = links_each text home Trace c.links in
      let solid = names_solid text k Trace es c in
      let there : IsThere (scope_class text order home PacketHeader) =
      scope_there text order home PacketHeader
      (λ s e. first_solid (shape_in text k) (class_entries es (entry_name PacketHeader)) None solid.0 none_solid s (sym (scope_of-block text k (Block Trace es) PacketHeader c.number) ∙ e)) links.0 in
      subst (λ t. IsThere (scope_class text order (record { trace = t; stream = None; event = None }) PacketHeader)) (sym here) there

  order_there : (k : ℕ) (es : List BlockEntry) → Clean text (k, Block Trace es) → IsThere (option_and_then trace_order_of (value_at es (codes "byte_order")))
  order_there k es c =
      let major : List ResolveFault = when (not (option_map_or (is_count 1) (value_at es (codes "major")) false)) Attribute in
      let minor : List ResolveFault = when (not (option_map_or (is_count 8) (value_at es (codes "minor")) false)) Attribute in
      let orders : List ResolveFault = when (is_none (option_and_then trace_order_of (value_at es (codes "byte_order")))) Attribute in
      let uuids : List ResolveFault = wrong uuid_of (value_at es (codes "uuid")) in
      let settings : major ++ minor ++ orders ++ uuids ≡ [] = append_right (entry_faults Trace es) (trace_faults es) c.block in
      there_unless (option_and_then trace_order_of (value_at es (codes "byte_order")))
      (when_not (is_none (option_and_then trace_order_of (value_at es (codes "byte_order")))) Attribute
      (append_right (major ++ minor) orders (append_left (major ++ minor ++ orders) uuids settings)))

  -- A text without faults has a trace class.
  pub class_of_text_there : faults text ≡ [] → IsThere (class_of_text text)
  class_of_text_there h =
      let clean : Each (Clean text) (numbered text) = all_clean text h in
      let shaped : Each Shaped (entries_in text) = clean_shaped text clean in
      let no_trace : List ResolveFault = when (is_none (trace_of text)) Attribute in
      let several : List ResolveFault = flat_map (λ s. when (has_other (clocks_moved text s.block)) SeveralClocks) (streams text) in
      let found : FirstTrace (Clean text) 0 text =
      first_trace (Clean text) 0 text clean (when_not (is_none (trace_of text)) Attribute (append_left no_trace several (whole_none text h))) in
      let order : IsThere (option_and_then trace_order_of (value_at found.entries (codes "byte_order"))) = order_there found.number found.entries found.holds in
      then_there (trace_class text) (first (filter_map trace_entries text)) (found.entries, found.first)
      (then_there _ (option_and_then trace_order_of (value_at found.entries (codes "byte_order"))) order
      (then_there _ (scope_class text order.0 (home_of_stream text None) PacketHeader) (header_there found.number found.entries order.0 found.holds found.numbered)
      (then_there _ (all_there (map (stream_class text order.0) (streams text))) (streams_there text shaped order.0 clean) (_, refl))))

-- There is no fault, or one that is reported.
none_or_one : (fs : List ResolveFault) → (fs ≡ []) ⊎ ((f : ResolveFault) × Contains fs f)
none_or_one [] = inl refl
none_or_one (f ∷ fs) = inr (f, (0, omega arith, refl))

pub class_or_fault : (tree : Tree) → ((t : TraceClass) × Denotes tree t) ⊎ ((f : ResolveFault) × Faulty tree f)
class_or_fault tree =
    elim (none_or_one (faults (written tree))) as (λ _. ((t : TraceClass) × Denotes tree t) ⊎ ((f : ResolveFault) × Faulty tree f)) [
      | inl none ↦ (let t = class_of_text_there (written tree) none in inl (t.0, (none, t.1)))
      | inr told ↦ inr told
    ]
