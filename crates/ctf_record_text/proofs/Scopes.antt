-- The scopes after the header of an event record, one after the other, and their texts.
use Rattle.std.proofs.Common.{◌≡◌, ℕ, ◌<◌, List, [], ◌∷◌, ◌++◌, length, Option, Some, None, Result, Ok, Err, false, codes, option_map, refl, sym, ap, ◌∙◌, append_assoc, append-nil, arith}
use Rattle.std.specs.List.{flat_map}
use Rattle.std.specs.Result.{OnOk, is_err}
use Rattle.ctf_class.specs.HostAndName.{heading_text}
use Rattle.ctf_class.specs.Records.{ScopeClass, and_scope, scopes_of}
use Rattle.ctf_class.specs.declared.class.Class.{Class}
use Rattle.ctf_class.specs.declared.route.Route.{Route}
use Rattle.ctf_class.specs.declared.route.Scope.{Scope}
use Rattle.ctf_class.specs.declared.route.Scope.TheVariants.{PacketHeader, PacketContext, EventHeader, StreamEventContext, EventContext, EventFields}
use Rattle.ctf_class.specs.declared.trace.EventClass.{EventClass}
use Rattle.ctf_class.specs.Streams.{StreamClass}
use Rattle.ctf_decode.specs.Known.{Known}
use Rattle.ctf_decode.specs.Values.{Val}
use Rattle.ctf_decode.specs.Views.{form}
use Rattle.ctf_decode.specs.Walk.{walk}
use Rattle.ctf_record_text.specs.Making.{PutsBody}
use Rattle.ctf_record_text.specs.Texts.{values_text}
use Rattle.ctf_packet.specs.Views.{packet_values}
use Rattle.ctf_packet.specs.Records.{Body, bodied}
use Rattle.ctf_packet.specs.Scopes.{◌>>=◌, Values, Stood, stood, scope_at, input_of, value_in, put, fault_in_record}
use Rattle.ctf_packet.specs.declared.fault.StreamFault.{StreamFault}
use Rattle.ctf_format.specs.Found.{SharesPacket}
use Rattle.ctf_format.specs.Lines.{if_shown, scope_texts}
use Rattle.ctf_format.specs.Kept.{BeginsWith, PutsScopes}
use Rattle.ctf_format.specs.Records.{ScopesFollow, turn_of}
use Rattle.ctf_format.specs.Standing.{among}
use Rattle.ctf_format.specs.Texts.{value_text}
use Rattle.ctf_format.specs.declared.standing.Last.{Last}
use Rattle.ctf_format.proofs.LinesLemmas.{followed, record_chain}

module _ (stream : StreamClass) (event : EventClass) (part bytes : List ℕ) (content : ℕ) where
  abbrev after_own : Values → Stood → Result Body StreamFault
  after_own v own =
      let with_own = put EventContext own.value v in
      scope_at fault_in_record (Some (form event.fields)) (input_of bytes content with_own) own.end own.spent >>= (λ fields. Ok (record { values = put EventFields fields.value with_own; end = fields.end }))

  abbrev after_shared : Values → Stood → Result Body StreamFault
  after_shared v shared =
      let with_shared = put StreamEventContext shared.value v in
      scope_at fault_in_record (option_map form event.context) (input_of bytes content with_shared) shared.end shared.spent >>= after_own with_shared

  opens : (values : Values) (place spent : ℕ) → bodied (option_map form stream.event_context) (option_map form event.context) (form event.fields) bytes content values place spent ≡ (scope_at fault_in_record (option_map form stream.event_context) (input_of bytes content values) place spent >>= after_shared values)
  unfolding bodied
  opens values place spent = refl

  -- The scopes of an event record, each after those before it, are its body.
  pub scopes_join : (values : Values) (shared own : Stood) (v : Val) (place spent end total : ℕ) (front first second text : List ℕ) → front ≡ heading_text event.heading ++ flat_map followed (if_shown part)
      → scope_at fault_in_record (option_map form stream.event_context) (input_of bytes content values) place spent ≡ Ok shared
      → first ≡ front ++ flat_map followed (scope_texts stream.event_context shared.value)
      → scope_at fault_in_record (option_map form event.context) (input_of bytes content (put StreamEventContext shared.value values)) shared.end shared.spent ≡ Ok own
      → second ≡ first ++ flat_map followed (scope_texts event.context own.value)
      → walk (form event.fields) (among bytes content (value_in (put EventContext own.value (put StreamEventContext shared.value values)))) [] own.end own.spent ≡ Ok (v, end, total)
      → text ≡ second ++ value_text event.fields v
      → (b : Body) × (bodied (option_map form stream.event_context) (option_map form event.context) (form event.fields) bytes content values place spent ≡ Ok b) × (end ≡ b.end) × (packet_values b.values ≡ packet_values values) × (text ≡ values_text part stream event b.values)
  scopes_join values shared own v place spent end total front first second text wrote at_shared first_is at_own second_is at_fields text_is =
      let with_shared = put StreamEventContext shared.value values in
      let with_own = put EventContext own.value with_shared in
      let body : Body = record { values = put EventFields (Some v) with_own; end = end } in
      let fields_there : scope_at fault_in_record (Some (form event.fields)) (input_of bytes content with_own) own.end own.spent ≡ Ok (record { value = Some v; end = end; spent = total }) = ap (stood fault_in_record) at_fields in
      let is : bodied (option_map form stream.event_context) (option_map form event.context) (form event.fields) bytes content values place spent ≡ Ok body =
      opens values place spent ∙ ap (λ r. r >>= after_shared values) at_shared ∙ ap (λ r. r >>= after_own with_shared) at_own
      ∙ ap (λ r. r >>= (λ (fields : Stood). Ok (record { values = put EventFields fields.value with_own; end = fields.end }))) fields_there
      in
      let chain = record_chain [] (heading_text event.heading) (value_text event.fields v) (heading_text event.heading) front first second (if_shown part) (scope_texts stream.event_context shared.value) (scope_texts event.context own.value) refl wrote first_is second_is in
      (body, is, refl, refl, text_is ∙ chain)

-- what holds of a value holds where none is refused
pub not_failed : {T E P : Type 0} (r : Result T E) → is_err r ≡ false → OnOk r P → P
not_failed (Ok x) fine holds = holds
not_failed (Err e) fine holds = absurd (cc)

-- in the scopes before one this is found
abbrev SeenBefore : Scope → Values → (Scope → Option Val) → Type 0
SeenBefore scope values later = (other : Scope) → turn_of other < turn_of scope → later other ≡ value_in values other

-- the first of some scopes, and the others where its value is found
scope_step : (scope : Scope) (o : Option Class) (ks : List ScopeClass) (values : Values) (bytes : List ℕ) (content place spent end total : ℕ) (before after : List ℕ) → 0 < length ks → ((later : Scope → Option Val) → SeenBefore scope values later → ScopesFollow (and_scope scope o ks) later bytes content place spent end total before after)
    → (s : Stood) × (scope_at fault_in_record (option_map form o) (input_of bytes content values) place spent ≡ Ok s)
    × (text : List ℕ) × (text ≡ before ++ flat_map followed (scope_texts o s.value))
    × ((later : Scope → Option Val) → later scope ≡ s.value → SeenBefore scope values later → ScopesFollow ks later bytes content s.end s.spent end total text after)
scope_step scope None ks values bytes content place spent end total before after some follow =
    let none : Stood = record { value = None; end = place; spent = spent } in
    (none, refl, before, sym (append-nil before), λ later is seen. follow later seen)
scope_step scope (Some k) [] values bytes content place spent end total before after some follow = absurd (omega (arith, some))
scope_step scope (Some k) (l ∷ ks) values bytes content place spent end total before after some follow =
    let p = follow (value_in values) (λ other turn. refl) in
    let shown = value_text k p.0 in
    let there : Stood = record { value = Some p.0; end = p.1; spent = p.2 } in
    let text_is : (before ++ shown) ++ codes ", " ≡ before ++ flat_map followed (scope_texts (Some k) (Some p.0)) = append_assoc before shown (codes ", ") ∙ ap (λ xs. before ++ xs) (sym (append-nil (followed shown))) in
    (there, ap (stood fault_in_record) p.3, (before ++ shown) ++ codes ", ", text_is, λ later is seen. p.4 later (is, seen))

-- the value of a context is not found in the scopes before it
below_shared : (value : Option Val) (values : Values) → SeenBefore StreamEventContext values (value_in (put StreamEventContext value values))
below_shared value values PacketHeader turn = refl
below_shared value values PacketContext turn = refl
below_shared value values EventHeader turn = refl
below_shared value values StreamEventContext turn = absurd (omega (arith, turn))
below_shared value values EventContext turn = absurd (omega (arith, turn))
below_shared value values EventFields turn = absurd (omega (arith, turn))

below_own : (value : Option Val) (values : Values) → SeenBefore EventContext values (value_in (put EventContext value values))
below_own value values PacketHeader turn = refl
below_own value values PacketContext turn = refl
below_own value values EventHeader turn = refl
below_own value values StreamEventContext turn = refl
below_own value values EventContext turn = absurd (omega (arith, turn))
below_own value values EventFields turn = absurd (omega (arith, turn))

some_scope : (o : Option Class) (k : Class) → 0 < length (and_scope EventContext o ((EventFields, k) ∷ []))
some_scope None k = omega arith
some_scope (Some l) k = omega arith

pub planned_body : (known : Known) (given : List Route) (ns : List Last) (stream : StreamClass) (event : EventClass) (part bytes : List ℕ) (content place spent end total : ℕ) (front text : List ℕ) → front ≡ heading_text event.heading ++ flat_map followed (if_shown part)
    → ((earlier : Scope → Option Val) → SharesPacket known earlier → BeginsWith given ns earlier) → PutsScopes given ns (scopes_of stream.event_context event.context event.fields) bytes content place spent end total front text → PutsBody known stream event part bytes content place spent end text
planned_body known given ns stream event part bytes content place spent end total front text wrote begins puts values shares =
    let fields = (EventFields, event.fields) ∷ [] in
    let a = scope_step StreamEventContext stream.event_context (and_scope EventContext event.context fields) values bytes content place spent end total front text (some_scope event.context event.fields) (λ later seen. puts later (begins later (seen PacketHeader (omega arith) ∙ shares.0, seen PacketContext (omega arith) ∙ shares.1))) in
    let with_shared = put StreamEventContext a.0.value values in
    let b = scope_step EventContext event.context fields with_shared bytes content a.0.end a.0.spent end total a.2 text (omega arith)
    (λ later seen. a.4 later (seen StreamEventContext (omega arith)) (λ other turn. seen other (omega (arith, turn)) ∙ below_shared a.0.value values other turn)) in
    let with_own = put EventContext b.0.value with_shared in
    let f = b.4 (value_in with_own) refl (below_own b.0.value with_shared) in
    scopes_join stream event part bytes content values a.0 b.0 f.0 place spent end total front a.2 b.2 text wrote a.1 a.3 b.1 b.3 f.1 f.2
