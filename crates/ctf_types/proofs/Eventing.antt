-- What an event block gives, and which of its faults is reported.
use Rattle.std.proofs.Common.{◌≡◌, ℕ, zero, suc, ◌+◌, ◌<◌, ◌^◌, Bool, true, false, ◌&&◌, ◌||◌, nat_eq, List, [], ◌∷◌, ◌++◌, map, take, Option, Some, None, refl, sym, ap, ◌∙◌, subst, arith, inl, inr, ◌⊎◌}
use Rattle.std.specs.Prelude.{Contains, option_map, option_and_then, slice_get, codes}
use Rattle.std.specs.Option.{option_map_or}
use Rattle.std.specs.List.{list_any}
use Rattle.std.proofs.lemmas.List.Elements.{Contains-append_left as in_front, Contains-append_right as after}
use Rattle.std.proofs.lemmas.List.Folds.{list_any-append}
use Rattle.std.proofs.lemmas.Option.{slice_get_within, slice_get-map}
use Rattle.tsdl_tree.specs.declared.tree.BlockKind.TheVariants.{Trace, Stream as StreamKind, Event}
use Rattle.ctf_bits.specs.declared.number.Order.{Order}
use Rattle.ctf_class.specs.declared.route.Scope.TheVariants.{EventContext, EventFields}
use Rattle.ctf_class.specs.declared.trace.EventClass.{EventClass}
use Rattle.ctf_meaning.specs.declared.fault.ResolveFault.{ResolveFault}
use Rattle.ctf_meaning.specs.declared.fault.ResolveFault.TheVariants.{NoMemory, Attribute, Twice}
use Rattle.ctf_meaning.specs.Written.{BlockEntry, Declaration, Block, Table, Names}
use Rattle.ctf_meaning.specs.There.{first}
use Rattle.ctf_meaning.specs.Settings.{when, text_of}
use Rattle.ctf_meaning.specs.Blocks.{value_at, id_of}
use Rattle.ctf_meaning.specs.Scopes.{Home}
use Rattle.ctf_meaning.specs.Streams.{Stream, streams, stream_said, stream_of, is_event, trace_of, home_of_event}
use Rattle.ctf_meaning.specs.Faults.{scope_links, event_links, link_faults}
use Rattle.ctf_meaning.specs.Denotes.{scope_class}
use Rattle.ctf_attributes.specs.declared.event.EventSettings.{EventSettings}
use Rattle.ctf_attributes.specs.Settled.{IsEvent}
use Rattle.ctf_types.specs.declared.ids.Ids.{Ids}
use Rattle.ctf_types.specs.declared.linked.Linked.TheVariants as linked
use Rattle.ctf_types.specs.declared.streams.StreamAt.{StreamAt}
use Rattle.ctf_types.specs.Events.{IsEventOf, IsRow}
use Rattle.ctf_types.specs.Ids.{has, AreIds}
use Rattle.ctf_types.specs.Whole.{ArePlaced, stream_at}
use Rattle.ctf_types.proofs.Found.{place_is}
use Rattle.ctf_types.proofs.Heads.{none_of}
use Rattle.ctf_meaning.proofs.Lists.{some_same}

then_is : {A B : Type 0} (f : A → Option B) (o : Option A) (a : A) → o ≡ Some a → option_and_then f o ≡ f a
then_is f o a e = ap (option_and_then f) e

-- settings in which nothing is wrong report no fault
pub no_fault : {R : Type 0} (faults : List ResolveFault) (f : ResolveFault) → faults ≡ [] → (f ≡ NoMemory) ⊎ (first faults ≡ Some f) → (f ≡ NoMemory) ⊎ R
no_fault faults f none (inl refused) = inl refused
no_fault faults f none (inr told) = absurd (grind (arith, ap first none, told))

-- the stream that the settings say
pub said : (text : List Declaration) (es : List BlockEntry) (event : EventSettings) (ss : List StreamAt) (r : Option Stream) → IsEvent es event → map stream_at ss ≡ streams text →
    r ≡ stream_said (map stream_at ss) event.stream_id → stream_of text es ≡ r
said text es event ss r is all e = sym (e ∙ (λ j. stream_said (all j) (is.stream_id j)))

take_next : {X : Type 0} (xs : List X) (k : ℕ) (x : X) → slice_get xs k ≡ Some x → take (k + 1) xs ≡ take k xs ++ x ∷ []
take_next [] k x e = absurd (grind (arith, e))
take_next (y ∷ ys) zero x e = ap (λ z. z ∷ []) (some_same y x e)
take_next (y ∷ ys) (suc k) x e =
    let one : suc k + 1 ≡ suc (k + 1) = omega arith in
    ap (λ n. take n (y ∷ ys)) one ∙ ap (λ zs. y ∷ zs) (take_next ys k x e)

module _ (text : List Declaration) (k : ℕ) (es : List BlockEntry) where
  pub unknown_stream : stream_of text es ≡ None → Contains (link_faults text (k, Block Event es)) Attribute
  unknown_stream e =
      in_front (event_links text k es) (scope_links text (home_of_event text k es) Event) Attribute
      (subst (λ o. Contains (option_map_or (λ s. option_map_or (λ id. when (list_any (is_event text s.id id) (take k text)) Twice) (id_of es) []) o (Attribute ∷ [])) Attribute) (sym e) (0, omega arith, refl))

  links_are : (s : Stream) (id : ℕ) → stream_of text es ≡ Some s → id_of es ≡ Some id → event_links text k es ≡ when (list_any (is_event text s.id id) (take k text)) Twice
  links_are s id e i =
      ap (λ o. option_map_or (λ t. option_map_or (λ n. when (list_any (is_event text t.id n) (take k text)) Twice) (id_of es) []) o (Attribute ∷ [])) e
      ∙ ap (λ o. option_map_or (λ n. when (list_any (is_event text s.id n) (take k text)) Twice) o []) i

  pub second_of_id : (s : Stream) (id : ℕ) → stream_of text es ≡ Some s → id_of es ≡ Some id → list_any (is_event text s.id id) (take k text) ≡ true →
      Contains (link_faults text (k, Block Event es)) Twice
  second_of_id s id e i any =
      in_front (event_links text k es) (scope_links text (home_of_event text k es) Event) Twice
      (subst (λ fs. Contains fs Twice) (sym (links_are s id e i ∙ ap (λ b. when b Twice) any)) (0, omega arith, refl))

  pub new_in_stream : (s : Stream) (id : ℕ) → stream_of text es ≡ Some s → id_of es ≡ Some id → list_any (is_event text s.id id) (take k text) ≡ false → event_links text k es ≡ []
  new_in_stream s id e i any = links_are s id e i ∙ ap (λ b. when b Twice) any

  -- where the scopes of the event are declared
  pub home_is : (trace block : Option ℕ) (s : Stream) → trace ≡ trace_of text → stream_of text es ≡ Some s → s.block ≡ block →
      record { trace = trace; stream = block; event = Some k } ≡ home_of_event text k es
  home_is trace block s traced e b = λ j. record { trace = traced j; stream = (sym b ∙ sym (ap (option_and_then (λ t. t.block)) e)) j; event = Some k }

  pub class_fails : (home : Home) (f : ResolveFault) → home ≡ home_of_event text k es → Contains (scope_links text home Event) f → Contains (link_faults text (k, Block Event es)) f
  class_fails home f same h =
      after (event_links text k es) (scope_links text (home_of_event text k es) Event) f (subst (λ x. Contains (scope_links text x Event) f) same h)

  pub row_made : (order : Order) (home : Home) (event : EventSettings) (ss : List StreamAt) (st : StreamAt) (e : EventClass) (j : ℕ) →
      home ≡ home_of_event text k es → IsEvent es event → map stream_at ss ≡ streams text → ArePlaced ss →
      stream_of text es ≡ Some (stream_at st) → slice_get ss j ≡ Some st → event_links text k es ≡ [] →
      IsEventOf text order home event.id event.name e → IsRow text order (k, Block Event es) (linked.Event st.place e)
  row_made order home event ss st e j same is all placed stream at none made =
      let place : st.place ≡ j = place_is 0 ss j st placed at ∙ (let z : 0 + j ≡ j = omega arith in z) in
      let stands : slice_get (streams text) st.place ≡ Some (stream_at st) =
      subst (λ n. slice_get (streams text) n ≡ Some (stream_at st)) (sym place)
      (subst (λ xs. slice_get xs j ≡ Some (stream_at st)) all (slice_get-map stream_at ss j ∙ ap (option_map stream_at) at)) in
      let here = subst (λ x. IsEventOf text order x event.id event.name e) same made in
      record {
        linked = record {
          gives = (
            es,
            refl,
            record {
              s = stream_at st;
              stream = stream;
              stands = stands;
              made = then_is _ (id_of es) event.id is.id
                  ∙ then_is _ (option_and_then text_of (value_at es (codes "name"))) event.name is.name
                  ∙ then_is _ (scope_class text order (home_of_event text k es) EventContext) e.context here.context
                  ∙ then_is _ (option_and_then (λ c. c) (scope_class text order (home_of_event text k es) EventFields)) e.fields (ap (option_and_then (λ c. c)) here.fields)
                  ∙ (λ i. Some (record { id = sym here.ids i; heading = sym here.heading i; context = e.context; fields = e.fields }));
            },
          );
          clean = none_of (event_links text k es) (scope_links text (home_of_event text k es) Event) none here.clean;
        };
        below = slice_get_within (streams text) st.place (stream_at st) stands;
      }

  -- the ids with those of this event
  pub more_ids : (old new : Ids) (st : StreamAt) (id : ℕ) → slice_get text k ≡ Some (Block Event es) → stream_of text es ≡ Some (stream_at st) → id_of es ≡ Some id → AreIds text k old →
      ((s i : ℕ) → i < 2 ^ 64 → has new s i ≡ ((nat_eq st.id s && nat_eq i id) || has old s i)) → AreIds text (k + 1) new
  more_ids old new st id at stream ided before kept s i l =
      kept s i l ∙ ap (λ b. (nat_eq st.id s && nat_eq i id) || b) (before s i l)
      ∙ turned (nat_eq st.id s && nat_eq i id) (list_any (is_event text s i) (take k text))
      ∙ ap (λ b. list_any (is_event text s i) (take k text) || b) (sym one)
      ∙ sym (list_any-append (is_event text s i) (take k text) (Block Event es ∷ []))
      ∙ ap (list_any (is_event text s i)) (sym (take_next text k (Block Event es) at))
    where
      turned : (a b : Bool) → (a || b) ≡ (b || a)
      turned true true = refl
      turned true false = refl
      turned false true = refl
      turned false false = refl

      or_false : (b : Bool) → (b || false) ≡ b
      or_false true = refl
      or_false false = refl

      one : list_any (is_event text s i) (Block Event es ∷ []) ≡ (nat_eq st.id s && nat_eq i id)
      one = or_false (is_event text s i (Block Event es)) ∙ (λ j. option_map_or (λ t. nat_eq t.id s) (stream j) false && option_map_or (nat_eq i) (ided j) false)

-- a declaration that is no event leaves the ids as they are
pub same_ids : (text : List Declaration) (k : ℕ) (d : Declaration) (ids : Ids) → slice_get text k ≡ Some d → ((es : List BlockEntry) → d ≡ Block Event es → ⊥) → AreIds text k ids → AreIds text (k + 1) ids
same_ids text k d ids at other before s i l =
    before s i l ∙ sym (or_false (list_any (is_event text s i) (take k text)))
    ∙ ap (λ b. list_any (is_event text s i) (take k text) || b) (sym (none d other))
    ∙ sym (list_any-append (is_event text s i) (take k text) (d ∷ []))
    ∙ ap (list_any (is_event text s i)) (sym (take_next text k d at))
  where
    or_false : (b : Bool) → (b || false) ≡ b
    or_false true = refl
    or_false false = refl

    none : (x : Declaration) → ((es : List BlockEntry) → x ≡ Block Event es → ⊥) → list_any (is_event text s i) (x ∷ []) ≡ false
    none (Block Trace es) h = refl
    none (Block StreamKind es) h = refl
    none (Block Event es) h = absurd (h es refl)
    none (Table kind settings) h = refl
    none (Names item) h = refl
