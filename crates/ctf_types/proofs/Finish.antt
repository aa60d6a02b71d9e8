-- The faults of the whole, and the trace class where there are none.
use Rattle.std.proofs.Common.{◌≡◌, ℕ, suc, ◌<◌, Bool, true, false, ◌||◌, List, [], ◌∷◌, ◌++◌, length, get_or, Option, Some, None, refl, sym, ap, ◌∙◌, subst, arith}
use Rattle.std.specs.Prelude.{Contains, flat_map, filter_map, slice_get, is_none, option_and_then}
use Rattle.std.specs.List.{list_any}
use Rattle.std.proofs.lemmas.List.Elements.{Contains-append_left as in_front, Contains-append_right as after}
use Rattle.std.proofs.lemmas.Option.{slice_get_within}
use Rattle.ctf_bits.specs.declared.number.Order.{Order}
use Rattle.ctf_class.specs.declared.trace.EventClass.{EventClass}
use Rattle.ctf_meaning.specs.declared.fault.ResolveFault.{ResolveFault}
use Rattle.ctf_meaning.specs.declared.fault.ResolveFault.TheVariants.{Attribute, Clock as SeveralClocks}
use Rattle.ctf_meaning.specs.Name.{Word}
use Rattle.ctf_meaning.specs.Written.{Declaration}
use Rattle.ctf_meaning.specs.There.{first, all_there}
use Rattle.ctf_meaning.specs.Settings.{when}
use Rattle.ctf_meaning.specs.Streams.{Stream, numbered, streams, stream_by, trace_of}
use Rattle.ctf_meaning.specs.Faults.{clocks_moved, has_other, faults}
use Rattle.ctf_meaning.specs.Denotes.{event_in, class_of_text}
use Rattle.ctf_types.specs.declared.gather.TraceParts.{TraceParts}
use Rattle.ctf_types.specs.declared.linked.StreamHead.{StreamHead}
use Rattle.ctf_types.specs.declared.trace.TraceAt.{TraceAt}
use Rattle.ctf_types.specs.Gathered.{joined_all, heads_in}
use Rattle.ctf_types.specs.Resolved.{IsFinished, or_plain_head}
use Rattle.ctf_types.specs.Whole.{IsTraceOf}
use Rattle.ctf_types.proofs.Distinct.{streams_distinct, alone}
use Rattle.ctf_types.proofs.Firsts.{HasNoLinkFault, whole_told, none_told}
use Rattle.ctf_types.proofs.Gathering.{AreHeads, heads_are, events_are}
use Rattle.ctf_types.proofs.Going.{linked_clean}
use Rattle.ctf_types.proofs.Wholes.{AreEvents, or_plain_heads, class_is}

module _ (text : List Declaration) (order : Order) where
  abbrev several : Stream → List ResolveFault
  several s = when (has_other (clocks_moved text s.block)) SeveralClocks

  some_several : (ss : List Stream) (hs : List StreamHead) → AreHeads text order ss hs → list_any (λ h. h.has_several) hs ≡ true → Contains (flat_map several ss) SeveralClocks
  some_several [] [] h any = absurd (grind (arith, any))
  some_several [] (x ∷ hs) h any = absurd h
  some_several (s ∷ ss) [] h any = absurd h
  some_several (s ∷ ss) (x ∷ hs) h any = by_this x.has_several refl any (some_several ss hs h.1)
    where
      by_this : (b : Bool) → x.has_several ≡ b → (b || list_any (λ h. h.has_several) hs) ≡ true → (list_any (λ h. h.has_several) hs ≡ true → Contains (flat_map several ss) SeveralClocks) →
          Contains (several s ++ flat_map several ss) SeveralClocks
      by_this true is any later =
          in_front (several s) (flat_map several ss) SeveralClocks (subst (λ b. Contains (when b SeveralClocks) SeveralClocks) (sym is ∙ h.0.several) (0, omega arith, refl))
      by_this false is any later = after (several s) (flat_map several ss) SeveralClocks (later any)

  none_several : (ss : List Stream) (hs : List StreamHead) → AreHeads text order ss hs → list_any (λ h. h.has_several) hs ≡ false → flat_map several ss ≡ []
  none_several [] [] h any = refl
  none_several [] (x ∷ hs) h any = absurd h
  none_several (s ∷ ss) [] h any = absurd h
  none_several (s ∷ ss) (x ∷ hs) h any = by_this x.has_several refl any (none_several ss hs h.1)
    where
      by_this : (b : Bool) → x.has_several ≡ b → (b || list_any (λ h. h.has_several) hs) ≡ false → (list_any (λ h. h.has_several) hs ≡ false → flat_map several ss ≡ []) →
          several s ++ flat_map several ss ≡ []
      by_this true is any later = absurd (grind (arith, any))
      by_this false is any later = ap (λ b. when b SeveralClocks ++ flat_map several ss) (sym h.0.several ∙ is) ∙ later any

  are_events : (ss : List Stream) (ess : List (List EventClass)) → length ess ≡ length ss →
      ((j : ℕ) (s : Stream) → slice_get ss j ≡ Some s → all_there (filter_map (event_in text order s.id) (numbered text)) ≡ Some (get_or ess j [])) → AreEvents text order ss ess
  are_events [] [] l h = tt
  are_events [] (es ∷ ess) l h = absurd (grind (arith, l))
  are_events (s ∷ ss) [] l h = absurd (grind (arith, l))
  are_events (s ∷ ss) (es ∷ ess) l h = (h 0 s refl, are_events ss ess (let z : length ess ≡ length ss = grind (arith, l) in z) (λ j t e. h (suc j) t e))

-- the parts of a text whose declarations have no faults
module _ (text : List Declaration) (trace : Option TraceAt) (host : Option Word) (parts : TraceParts) (f : IsFinished text trace host parts) where
  pub links : HasNoLinkFault text
  links = linked_clean text f.order (numbered text) f.given.rows f.given.linked

  pub heads : AreHeads text f.order (streams text) (or_plain_head parts.heads)
  heads =
      subst (λ hs. AreHeads text f.order (streams text) (or_plain_head hs)) (sym f.given.parted.heads)
      (or_plain_heads text f.order (filter_map stream_by (numbered text)) (heads_in f.given.rows) (heads_are text f.order (numbered text) f.given.rows f.given.linked))

  pub no_trace : trace_of text ≡ None → Contains (faults text) Attribute
  no_trace none =
      whole_told text f.own links Attribute
      (in_front (when (is_none (trace_of text)) Attribute) (flat_map (several text f.order) (streams text)) Attribute (subst (λ o. Contains (when (is_none o) Attribute) Attribute) (sym none) (0, omega arith, refl)))

  pub several_clocks : list_any (λ h. h.has_several) (or_plain_head parts.heads) ≡ true → Contains (faults text) SeveralClocks
  several_clocks any =
      whole_told text f.own links SeveralClocks
      (after (when (is_none (trace_of text)) Attribute) (flat_map (several text f.order) (streams text)) SeveralClocks (some_several text f.order (streams text) (or_plain_head parts.heads) heads any))

  pub no_faults : (n : ℕ) → trace_of text ≡ Some n → list_any (λ h. h.has_several) (or_plain_head parts.heads) ≡ false → faults text ≡ []
  no_faults n traced any =
      none_told text f.own links
      (ap (λ o. when (is_none o) Attribute ++ flat_map (several text f.order) (streams text)) traced ∙ none_several text f.order (streams text) (or_plain_head parts.heads) heads any)

  events : AreEvents text f.order (streams text) parts.events
  events = are_events text f.order (streams text) parts.events f.given.lists
      (λ j s at.
      events_are text f.order j s (λ place t e. alone (streams text) place j t s (streams_distinct text f.own) e at) (numbered text) f.given.rows f.given.linked
      ∙ ap (λ es. Some es) (sym (f.given.parted.events j (subst (λ n. j < n) (sym f.given.lists) (slice_get_within (streams text) j s at)))))

  pub class_made : (t : TraceAt) → trace ≡ Some t →
      class_of_text text ≡ Some (record { uuid = t.settings.uuid; host = host; packet_header = option_and_then (λ h. h) (first parts.headers); streams = joined_all (or_plain_head parts.heads) parts.events })
  class_made t some =
      let traced = subst (IsTraceOf text) some f.traced in
      class_is text f.order traced.0 t.number f.given.rows (or_plain_head parts.heads) parts.events traced.2
      (traced.3.order ∙ ap (λ o. Some o) (f.ordered t some)) traced.1 f.given.linked heads events
      ∙ (λ j. Some (record {
        uuid = sym traced.3.uuid j;
        host = sym f.hosted j;
        packet_header = option_and_then (λ h. h) (first (sym f.given.parted.headers j));
        streams = joined_all (or_plain_head parts.heads) parts.events;
      }))
