-- The faults of the scopes of a block, one after another.
use Rattle.std.proofs.Common.{◌≡◌, ℕ, List, [], ◌++◌, Option, Some, None, refl, ap, ◌∙◌, inl, inr, ◌⊎◌, subst}
use Rattle.std.specs.Prelude.{Contains}
use Rattle.std.proofs.lemmas.List.Elements.{Contains-append_left as in_front, Contains-append_right as after}
use Rattle.tsdl_tree.specs.declared.tree.BlockKind.TheVariants as kind
use Rattle.ctf_bits.specs.declared.number.Order.{Order}
use Rattle.ctf_class.specs.declared.class.Class.{Class}
use Rattle.ctf_class.specs.declared.route.Scope.TheVariants.{PacketHeader, PacketContext, EventHeader, StreamEventContext, EventContext, EventFields}
use Rattle.ctf_meaning.specs.declared.fault.ResolveFault.{ResolveFault}
use Rattle.ctf_meaning.specs.declared.fault.ResolveFault.TheVariants.{NoMemory}
use Rattle.ctf_meaning.specs.Written.{Declaration}
use Rattle.ctf_meaning.specs.Scopes.{Home}
use Rattle.ctf_meaning.specs.Streams.{home_of_stream, trace_of}
use Rattle.ctf_meaning.specs.Faults.{scope_links}
use Rattle.ctf_types.specs.declared.link.MovedClock.{MovedClock}
use Rattle.ctf_types.specs.Links.{HasHead, IsHeader, IsMoved}
use Rattle.ctf_types.specs.Texts.{IsScopeLinked, scope_fails}

pub widened : {Q R : Type 0} (f : ResolveFault) → (Q → R) → (f ≡ NoMemory) ⊎ Q → (f ≡ NoMemory) ⊎ R
widened f more (inl none) = inl none
widened f more (inr told) = inr (more told)

pub none_of : {X : Type 0} (xs ys : List X) → xs ≡ [] → ys ≡ [] → xs ++ ys ≡ []
none_of xs ys h k = ap (λ zs. zs ++ ys) h ∙ k

module _ (text : List Declaration) (order : Order) (k : ℕ) where
  abbrev home : Home
  home = home_of_stream text (Some k)

  -- by the number of the trace block that the code has
  abbrev home_at : Option ℕ → Home
  home_at trace = record { trace = trace; stream = Some k; event = None }

  pub head_made : (trace : Option ℕ) (id : ℕ) (context header events : Option Class) (moved : MovedClock) → trace ≡ trace_of text →
      IsScopeLinked text order (home_at trace) PacketContext context → IsScopeLinked text order (home_at trace) EventHeader header →
      IsScopeLinked text order (home_at trace) StreamEventContext events → IsMoved text k moved →
      HasHead text order k id (record { id = id; packet_context = context; event_header = header; event_context = events; clock = moved.clock; has_several = moved.has_several })
  head_made trace id context header events moved traced x y z m =
      let a = subst (λ t. IsScopeLinked text order (home_at t) PacketContext context) traced x in
      let b = subst (λ t. IsScopeLinked text order (home_at t) EventHeader header) traced y in
      let c = subst (λ t. IsScopeLinked text order (home_at t) StreamEventContext events) traced z in
      record {
        clean = none_of (scope_fails text home PacketContext) (scope_fails text home EventHeader ++ (scope_fails text home StreamEventContext ++ [])) a.clean
            (none_of (scope_fails text home EventHeader) (scope_fails text home StreamEventContext ++ []) b.clean (none_of (scope_fails text home StreamEventContext) [] c.clean refl));
        head = record { id = refl; packet_context = a.made; event_header = b.made; event_context = c.made; clock = m.clock; several = m.several };
      }

  pub context_fails : (trace : Option ℕ) → trace ≡ trace_of text → (f : ResolveFault) → Contains (scope_fails text (home_at trace) PacketContext) f → Contains (scope_links text home kind.Stream) f
  context_fails trace traced f h =
      in_front (scope_fails text home PacketContext) (scope_fails text home EventHeader ++ (scope_fails text home StreamEventContext ++ [])) f
      (subst (λ t. Contains (scope_fails text (home_at t) PacketContext) f) traced h)

  pub header_fails : (trace : Option ℕ) → trace ≡ trace_of text → (f : ResolveFault) → Contains (scope_fails text (home_at trace) EventHeader) f → Contains (scope_links text home kind.Stream) f
  header_fails trace traced f h =
      after (scope_fails text home PacketContext) (scope_fails text home EventHeader ++ (scope_fails text home StreamEventContext ++ [])) f
      (in_front (scope_fails text home EventHeader) (scope_fails text home StreamEventContext ++ []) f
      (subst (λ t. Contains (scope_fails text (home_at t) EventHeader) f) traced h))

  pub events_fail : (trace : Option ℕ) → trace ≡ trace_of text → (f : ResolveFault) → Contains (scope_fails text (home_at trace) StreamEventContext) f → Contains (scope_links text home kind.Stream) f
  events_fail trace traced f h =
      after (scope_fails text home PacketContext) (scope_fails text home EventHeader ++ (scope_fails text home StreamEventContext ++ [])) f
      (after (scope_fails text home EventHeader) (scope_fails text home StreamEventContext ++ []) f
      (in_front (scope_fails text home StreamEventContext) [] f (subst (λ t. Contains (scope_fails text (home_at t) StreamEventContext) f) traced h)))

  -- the packet header, by a trace block
  pub header_made : (c : Option Class) → IsScopeLinked text order (record { trace = Some k; stream = None; event = None }) PacketHeader c → IsHeader text order k c
  header_made c l = record { clean = none_of (scope_fails text (record { trace = Some k; stream = None; event = None }) PacketHeader) [] l.clean refl; made = l.made }

  pub packet_fails : (f : ResolveFault) → Contains (scope_fails text (record { trace = Some k; stream = None; event = None }) PacketHeader) f →
      Contains (scope_links text (record { trace = Some k; stream = None; event = None }) kind.Trace) f
  packet_fails f h = in_front (scope_fails text (record { trace = Some k; stream = None; event = None }) PacketHeader) [] f h

-- the classes of an event block
module _ (text : List Declaration) (order : Order) (home : Home) where
  pub event_clean : (context : Option Class) (fields : Option Class) → IsScopeLinked text order home EventContext context → IsScopeLinked text order home EventFields fields → scope_links text home kind.Event ≡ []
  event_clean context fields a b =
      none_of (scope_fails text home EventContext) (scope_fails text home EventFields ++ []) a.clean (none_of (scope_fails text home EventFields) [] b.clean refl)

  pub event_context_fails : (f : ResolveFault) → Contains (scope_fails text home EventContext) f → Contains (scope_links text home kind.Event) f
  event_context_fails f h = in_front (scope_fails text home EventContext) (scope_fails text home EventFields ++ []) f h

  pub fields_fail : (f : ResolveFault) → Contains (scope_fails text home EventFields) f → Contains (scope_links text home kind.Event) f
  fields_fail f h = after (scope_fails text home EventContext) (scope_fails text home EventFields ++ []) f (in_front (scope_fails text home EventFields) [] f h)
