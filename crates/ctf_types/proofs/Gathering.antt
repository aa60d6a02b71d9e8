-- What the declarations give makes the trace class of the text.
use Rattle.std.proofs.Common.{◌≡◌, ℕ, Bool, true, false, cond, nat_eq, List, [], ◌∷◌, Some, None, refl, sym, ap, ◌∙◌, subst, arith}
use Rattle.std.specs.Prelude.{filter_map, find, slice_get, option_map, if◌then◌else◌}
use Rattle.std.specs.List.{cons_option}
use Rattle.std.specs.Option.{option_map_or}
use Rattle.tsdl_tree.specs.declared.tree.BlockKind.TheVariants.{Trace, Stream as StreamKind, Event}
use Rattle.ctf_bits.specs.declared.number.Order.{Order}
use Rattle.ctf_class.specs.declared.route.Scope.TheVariants.{PacketHeader}
use Rattle.ctf_class.specs.declared.trace.EventClass.{EventClass}
use Rattle.ctf_meaning.specs.Written.{BlockEntry, Declaration, Block, Table, Names}
use Rattle.ctf_meaning.specs.There.{all_there}
use Rattle.ctf_meaning.specs.Blocks.{is_trace}
use Rattle.ctf_meaning.specs.Streams.{Stream, stream_by, streams}
use Rattle.ctf_meaning.specs.Denotes.{scope_class, event_class, event_in, trace_entries}
use Rattle.ctf_meaning.proofs.Lists.{some_same}
use Rattle.ctf_types.specs.declared.linked.StreamHead.{StreamHead}
use Rattle.ctf_types.specs.declared.linked.Linked.{Linked}
use Rattle.ctf_types.specs.declared.linked.Linked.TheVariants as linked
use Rattle.ctf_types.specs.Gathered.{heads_in, events_at, header_of, IsHead, IsEventAt, AreLinked}

module _ (text : List Declaration) (order : Order) where
  abbrev pub AreHeads : List Stream → List StreamHead → Type 0
  AreHeads [] [] = Unit {0}
  AreHeads (s ∷ ss) (h ∷ hs) = IsHead text order s h × AreHeads ss hs
  AreHeads _ _ = ⊥

  -- the heads are those of the streams
  pub heads_are : (ps : List (ℕ × Declaration)) (rows : List Linked) → AreLinked text order ps rows → AreHeads (filter_map stream_by ps) (heads_in rows)
  heads_are [] [] h = tt
  heads_are [] (l ∷ ls) h = absurd h
  heads_are (p ∷ ps) [] h = absurd h
  heads_are (p ∷ ps) (linked.Stream head ∷ ls) h =
      let g = h.0.gives in
      subst (λ o. AreHeads (cons_option o (filter_map stream_by ps)) (head ∷ heads_in ls)) (sym g.1) (g.2, heads_are ps ls h.1)
  heads_are ((k, d) ∷ ps) (linked.Trace header ∷ ls) h =
      let g = h.0.gives in
      subst (λ o. AreHeads (cons_option o (filter_map stream_by ps)) (heads_in ls)) (sym (no_stream k d g.0 g.1)) (heads_are ps ls h.1)
    where
      no_stream : (n : ℕ) (e : Declaration) (es : List BlockEntry) → trace_entries e ≡ Some es → stream_by (n, e) ≡ None
      no_stream n (Block Trace fs) es t = refl
      no_stream n (Block StreamKind fs) es t = absurd (grind (arith, t))
      no_stream n (Block Event fs) es t = absurd (grind (arith, t))
      no_stream n (Table kind settings) es t = absurd (grind (arith, t))
      no_stream n (Names item) es t = absurd (grind (arith, t))
  heads_are ((k, d) ∷ ps) (linked.Event place e ∷ ls) h =
      let g = h.0.gives in
      subst (λ (x : Declaration). AreHeads (cons_option (stream_by (k, x)) (filter_map stream_by ps)) (heads_in ls)) (sym g.1) (heads_are ps ls h.1)
  heads_are ((k, d) ∷ ps) (linked.Other ∷ ls) h =
      subst (λ o. AreHeads (cons_option o (filter_map stream_by ps)) (heads_in ls)) (sym h.0.gives.1) (heads_are ps ls h.1)

  -- the header is that of the first trace block
  pub header_is : (ps : List (ℕ × Declaration)) (rows : List Linked) (n : ℕ) → AreLinked text order ps rows → option_map (λ p. p.0) (find (λ p. is_trace p.1) ps) ≡ Some n →
      scope_class text order (record { trace = Some n; stream = None; event = None }) PacketHeader ≡ Some (header_of rows)
  header_is [] rows n h e = absurd (grind (arith, e))
  header_is (p ∷ ps) [] n h e = absurd h
  header_is ((k, d) ∷ ps) (linked.Trace header ∷ ls) n h e =
      let g = h.0.gives in
      let same : k ≡ n = some_same k n (ap (λ b. option_map (λ p. p.0) (cond b (Some (k, d)) (find (λ p. is_trace p.1) ps))) (sym (traced d g.0 g.1)) ∙ e) in
      subst (λ m. scope_class text order (record { trace = Some m; stream = None; event = None }) PacketHeader ≡ Some header) same g.2
    where
      traced : (x : Declaration) (es : List BlockEntry) → trace_entries x ≡ Some es → is_trace x ≡ true
      traced (Block Trace fs) es t = refl
      traced (Block StreamKind fs) es t = absurd (grind (arith, t))
      traced (Block Event fs) es t = absurd (grind (arith, t))
      traced (Table kind settings) es t = absurd (grind (arith, t))
      traced (Names item) es t = absurd (grind (arith, t))
  header_is ((k, d) ∷ ps) (linked.Stream head ∷ ls) n h e =
      let g = h.0.gives in
      header_is ps ls n h.1 (ap (λ b. option_map (λ p. p.0) (cond b (Some (k, d)) (find (λ p. is_trace p.1) ps))) (sym (other k d g.0 g.1)) ∙ e)
    where
      other : (m : ℕ) (x : Declaration) (s : Stream) → stream_by (m, x) ≡ Some s → is_trace x ≡ false
      other m (Block Trace fs) s t = absurd (grind (arith, t))
      other m (Block StreamKind fs) s t = refl
      other m (Block Event fs) s t = refl
      other m (Table kind settings) s t = refl
      other m (Names item) s t = refl
  header_is ((k, d) ∷ ps) (linked.Event place ev ∷ ls) n h e =
      let g = h.0.gives in
      header_is ps ls n h.1 (ap (λ (x : Declaration). option_map (λ p. p.0) (cond (is_trace x) (Some (k, d)) (find (λ p. is_trace p.1) ps))) (sym g.1) ∙ e)
  header_is ((k, d) ∷ ps) (linked.Other ∷ ls) n h e =
      header_is ps ls n h.1 (ap (λ b. option_map (λ p. p.0) (cond b (Some (k, d)) (find (λ p. is_trace p.1) ps))) (sym (other d h.0.gives.0)) ∙ e)
    where
      other : (x : Declaration) → trace_entries x ≡ None → is_trace x ≡ false
      other (Block Trace fs) t = absurd (grind (arith, t))
      other (Block StreamKind fs) t = refl
      other (Block Event fs) t = refl
      other (Table kind settings) t = refl
      other (Names item) t = refl

  -- the events of the stream at a place, which alone has its id
  module _ (j : ℕ) (s : Stream) (alone : (place : ℕ) (t : Stream) → slice_get (streams text) place ≡ Some t → nat_eq t.id s.id ≡ nat_eq place j) where
    no_event : (k : ℕ) (d : Declaration) → ((entries : List BlockEntry) → d ≡ Block Event entries → ⊥) → event_in text order s.id (k, d) ≡ None
    no_event k (Block Trace es) h = refl
    no_event k (Block StreamKind es) h = refl
    no_event k (Block Event es) h = absurd (h es refl)
    no_event k (Table kind settings) h = refl
    no_event k (Names item) h = refl

    not_trace : (d : Declaration) (es : List BlockEntry) → trace_entries d ≡ Some es → (entries : List BlockEntry) → d ≡ Block Event entries → ⊥
    not_trace d es t entries e = grind (arith, ap trace_entries e, t)

    not_stream : (k : ℕ) (d : Declaration) (t : Stream) → stream_by (k, d) ≡ Some t → (entries : List BlockEntry) → d ≡ Block Event entries → ⊥
    not_stream k d t is entries e = grind (arith, ap (λ (x : Declaration). stream_by (k, x)) e, is)

    chosen : (k : ℕ) (es : List BlockEntry) (place : ℕ) (e : EventClass) → IsEventAt text order k es place e →
        event_in text order s.id (k, Block Event es) ≡ (if nat_eq place j then Some (Some e) else None)
    chosen k es place e g =
        ap (λ o. if option_map_or (λ t. nat_eq t.id s.id) o false then Some (event_class text order k es) else None) g.stream
        ∙ ap (λ b. if b then Some (event_class text order k es) else None) (alone place g.s g.stands)
        ∙ ap (λ o. if nat_eq place j then Some o else None) g.made

    pub events_are : (ps : List (ℕ × Declaration)) (rows : List Linked) → AreLinked text order ps rows →
        all_there (filter_map (event_in text order s.id) ps) ≡ Some (events_at j rows)
    events_are [] [] h = refl
    events_are [] (l ∷ ls) h = absurd h
    events_are (p ∷ ps) [] h = absurd h
    events_are ((k, d) ∷ ps) (linked.Trace header ∷ ls) h =
        let g = h.0.gives in
        ap (λ o. all_there (cons_option o (filter_map (event_in text order s.id) ps))) (no_event k d (not_trace d g.0 g.1)) ∙ events_are ps ls h.1
    events_are ((k, d) ∷ ps) (linked.Stream head ∷ ls) h =
        let g = h.0.gives in
        ap (λ o. all_there (cons_option o (filter_map (event_in text order s.id) ps))) (no_event k d (not_stream k d g.0 g.1)) ∙ events_are ps ls h.1
    events_are ((k, d) ∷ ps) (linked.Other ∷ ls) h =
        ap (λ o. all_there (cons_option o (filter_map (event_in text order s.id) ps))) (no_event k d h.0.gives.2) ∙ events_are ps ls h.1
    events_are ((k, d) ∷ ps) (linked.Event place e ∷ ls) h =
        let g = h.0.gives in
        ap (λ (x : Declaration). all_there (cons_option (event_in text order s.id (k, x)) (filter_map (event_in text order s.id) ps))) g.1
        ∙ ap (λ o. all_there (cons_option o (filter_map (event_in text order s.id) ps))) (chosen k g.0 place e g.2)
        ∙ by_place (nat_eq place j) (events_are ps ls h.1)
      where
        by_place : (b : Bool) → all_there (filter_map (event_in text order s.id) ps) ≡ Some (events_at j ls) →
            all_there (cons_option (if b then Some (Some e) else None) (filter_map (event_in text order s.id) ps)) ≡ Some (cons_option (if b then Some e else None) (events_at j ls))
        by_place true rest = ap (option_map (λ others. e ∷ others)) rest
        by_place false rest = rest
