-- Steps of a read state.
use Rattle.std.proofs.Common.{◌≡◌, ℕ, Bool, true, false, List, [], ◌∷◌, Option, Some, None, Ok, inl, inr, refl, sym, ap, subst, ◌∙◌}
use Rattle.std.specs.Prelude.{IfNone}
use Rattle.ctf_bits.specs.declared.source.Ending.{Ending}
use Rattle.ctf_class.specs.declared.trace.TraceClass.{TraceClass}
use Rattle.ctf_clock.specs.declared.moment.Moment.{Moment}
use Rattle.ctf_clock.specs.declared.moment.Shift.{Shift}
use Rattle.ctf_decode.specs.Known.{Known}
use Rattle.ctf_packet.specs.Classes.{Classes, trace_form}
use Rattle.ctf_packet.specs.Scopes.{Values}
use Rattle.ctf_packet.specs.Packets as packets
use Rattle.ctf_packet.specs.Items.{Run, stops, before, from_bytes}
use Rattle.ctf_packet.specs.Views.{values_of, packet_values, opened_of}
use Rattle.ctf_packet.specs.declared.fault.StreamFault.{StreamFault}
use Rattle.ctf_packet.specs.declared.reached.Reached.{Reached}
use Rattle.ctf_stream.specs.Coming.{opened_in, left_in, item_in, TakesItem}
use Rattle.ctf_fetch.specs.Fetching.{OrNoMemory, after_packet}
use Rattle.ctf_stream.specs.Reader.{after_ahead, with_ahead}
use Rattle.ctf_stream.specs.Standing.{item_at}
use Rattle.ctf_stream.specs.ReadState.{trace_of, coming_at, Inside, StandsAt, coming_of, between, stepped, StepsWithin, Enters, Advances, ReadsNext}
use Rattle.ctf_stream.specs.declared.read_state.ReadState.{ReadState}
use Rattle.ctf_fetch.specs.Headers.{KnowsHeader}
use Rattle.ctf_fetch.specs.declared.packet_scratch.PacketScratch.{PacketScratch}
use Rattle.ctf_fetch.specs.declared.packet_start.PacketStart.{PacketStart}
use Rattle.ctf_stream.specs.declared.packet.PacketReader.{PacketReader}
use Rattle.ctf_stream.specs.declared.packet.PacketItem.{PacketItem}

module _ (cut : PacketStart) (ending : Ending) (left : List ℕ) (bytes : List ℕ) where
  abbrev pub follows : Known → PacketReader → Option Moment → Run Classes
  follows known p = after_packet (trace_of cut) ending (opened_in cut.shift known p.opened) left

  same_follows : (known after : Known) (p q : PacketReader) → q.opened ≡ p.opened → packet_values (values_of after) ≡ packet_values (values_of known) → follows known p ≡ follows after q
  same_follows known after p q same values =
      ap (λ v. after_packet (trace_of cut) ending (opened_of cut.shift v p.opened) left) (sym values) ∙ ap (λ o. after_packet (trace_of cut) ending (opened_in cut.shift after o) left) (sym same)

  -- the packet at hand as it is
  pub inside : (taken : ℕ) (held : Option PacketReader) (p : PacketReader) → held ≡ Some p → StandsAt cut bytes taken held → Inside cut bytes taken p
  inside taken held p is stands = subst (StandsAt cut bytes taken) is stands

  -- an item of the packet at hand
  pub takes_item : (held : Option PacketReader) (known after : Known) (p q : PacketReader) (found : Option PacketItem) (front : PacketItem) → held ≡ Some p → q.opened ≡ p.opened → packet_values (values_of after) ≡ packet_values (values_of known) → found ≡ Some front
      → TakesItem cut.shift (follows known p) (left_in cut.shift known bytes (follows known p) p) q after bytes (Ok found)
      → coming_at cut ending left known bytes held ≡ before (item_in cut.shift after bytes q front ∷ []) (coming_at cut ending left after bytes (Some q))
  takes_item held known after p q found front is same values item takes =
      let taken = subst (λ o. TakesItem cut.shift (follows known p) (left_in cut.shift known bytes (follows known p) p) q after bytes (Ok o)) item takes in
      ap (coming_at cut ending left known bytes) is ∙ taken ∙ ap (λ f. before (item_in cut.shift after bytes q front ∷ []) (left_in cut.shift after bytes f q)) (same_follows known after p q same values)

  -- the packet at hand is over
  pub is_over : (next : PacketStart) (held : Option PacketReader) (known after : Known) (p q : PacketReader) (found : Option PacketItem) (reached : Reached) → held ≡ Some p → q.opened ≡ p.opened → found ≡ None
      → TakesItem cut.shift (follows known p) (left_in cut.shift known bytes (follows known p) p) q after bytes (Ok found)
      → ((shift : Shift) (values : Values) → reached ≡ packets.reached_after (opened_of shift values q.opened) q.clock)
      → next.trace ≡ cut.trace → next.shift ≡ cut.shift → next.reached ≡ Some reached → next.at ≡ p.opened.end
      → coming_at cut ending left known bytes held ≡ from_bytes (trace_of next) ending next.reached next.at left
  is_over next held known after p q found reached is same over takes later trace shift was at =
      let taken : left_in cut.shift known bytes (follows known p) p ≡ follows known p q.clock =
      subst (λ o. TakesItem cut.shift (follows known p) (left_in cut.shift known bytes (follows known p) p) q after bytes (Ok o)) over takes in
      let said : packets.reached_after (opened_in cut.shift known p.opened) q.clock ≡ reached = ap (λ o. packets.reached_after (opened_in cut.shift known o) q.clock) (sym same) ∙ sym (later cut.shift (packet_values (values_of known))) in
      let forms : trace_of cut ≡ trace_of next = (λ i. trace_form (sym shift i) ((sym trace i).now)) in
      ap (coming_at cut ending left known bytes) is ∙ taken
      ∙ ap (λ r. from_bytes (trace_of cut) ending (Some r) p.opened.end left) said
      ∙ ap (λ r. from_bytes (trace_of cut) ending r p.opened.end left) (sym was)
      ∙ ap (λ n. from_bytes (trace_of cut) ending next.reached n left) (sym at)
      ∙ ap (λ t. from_bytes t ending next.reached next.at left) forms

-- an item after steps that kept what is to come
pub advanced : (old middle new : Run Classes) (cut : PacketStart) (known : Known) (bytes : List ℕ) (packet : Option PacketReader) (left : List ℕ) (front : PacketItem) → old ≡ middle
    → StepsWithin middle new cut known bytes packet (Ok (Some front)) → Advances old new cut known bytes packet left (Ok (Some front))
advanced old middle new cut known bytes (Some p) left front same steps = same ∙ steps
advanced old middle new cut known bytes None left front same steps = absurd steps

-- the state after steps that found an item
pub found_at : (ending : Ending) (rest : List ℕ) (start : Run Classes) (c : ReadState) (found : Option PacketItem) (front : PacketItem) → found ≡ Some front
    → (let new = stepped (Ok found) c in StepsWithin start (coming_of ending rest new) new.cut new.scopes new.buffer new.packet (Ok found))
    → StepsWithin start (coming_of ending rest c) c.cut c.scopes c.buffer c.packet (Ok (Some front))
found_at ending rest start c found front is steps =
    subst (λ o. let new = stepped (Ok o) c in StepsWithin start (coming_of ending rest new) new.cut new.scopes new.buffer new.packet (Ok o)) is steps

-- steps that kept what is to come, before steps that give the item
pub also_before : (old middle new : Run Classes) (cut : PacketStart) (known : Known) (bytes : List ℕ) (packet : Option PacketReader) (left : List ℕ) (front : PacketItem) → old ≡ middle → Advances middle new cut known bytes packet left (Ok (Some front)) → Advances old new cut known bytes packet left (Ok (Some front))
also_before old middle new cut known bytes (Some p) left front same goes = same ∙ goes
also_before old middle new cut known bytes None left front same goes = absurd goes

-- what holds where nothing was written
pub if_none : (written : Option PacketItem) (P : Type 0) → written ≡ None → IfNone written P → P
if_none None P is holds = holds
if_none (Some front) P is holds = absurd (cc)

-- what comes after an item is what its read state gives next
pub after_item : (c : ReadState) (packet : Option PacketReader) (front : PacketItem) (at : ℕ) (run : Run Classes) → after_ahead (item_at c packet front) at run ≡ run
after_item c (Some p) front at run = refl
after_item c None front at run = refl

-- the item that was found is the current one, and what is to come begins with it
pub comes : (old new : Run Classes) (c : ReadState) (packet : Option PacketReader) (left : List ℕ) (front : PacketItem) (at : ℕ) → Advances old new c.cut c.scopes c.buffer packet left (Ok (Some front))
    → with_ahead (item_at c packet front) (after_ahead (item_at c packet front) at new) ≡ old
comes old new c (Some p) left front at goes = sym goes
comes old new c None left front at goes = absurd goes

-- nothing was left of the packet at hand
pub left_over : (ending : Ending) (rest : List ℕ) (old start : Run Classes) (c : ReadState) (found : Option PacketItem) → old ≡ start → found ≡ None
    → (let new = stepped (Ok found) c in StepsWithin start (coming_of ending rest new) new.cut new.scopes new.buffer new.packet (Ok found))
    → old ≡ coming_of ending rest (between c)
left_over ending rest old start c found same is steps =
    let took = subst (λ o. let new = stepped (Ok o) c in StepsWithin start (coming_of ending rest new) new.cut new.scopes new.buffer new.packet (Ok o)) is steps in same ∙ took.0

pub at_fault : (old middle : Run Classes) (at : ℕ) (fault : StreamFault) → old ≡ middle → OrNoMemory (λ f. middle ≡ stops (Some f) at) fault → OrNoMemory (λ f. old ≡ stops (Some f) at) fault
at_fault old middle at fault same told = elim told [ inl refused ↦ inl refused | inr is ↦ inr (same ∙ is) ]

pub entered : (old ending : Ending) (left after : List ℕ) (middle next : ReadState) (found : Bool) → old ≡ ending → found ≡ true → Enters (coming_of old left middle) (coming_of old after next) next.cut after (Ok found) → coming_of ending left middle ≡ coming_of ending after next
entered old ending left after middle next found is test enters =
    subst (λ e. coming_of e left middle ≡ coming_of e after next) is (subst (λ b. Enters (coming_of old left middle) (coming_of old after next) next.cut after (Ok b)) test enters)

pub ended : (old ending : Ending) (left after : List ℕ) (middle next : ReadState) (found : Bool) → old ≡ ending → found ≡ false → Enters (coming_of old left middle) (coming_of old after next) next.cut after (Ok found) → (coming_of ending left middle ≡ stops None next.cut.at) × (after ≡ [])
ended old ending left after middle next found is test enters =
    subst (λ e. (coming_of e left middle ≡ stops None next.cut.at) × (after ≡ [])) is (subst (λ b. Enters (coming_of old left middle) (coming_of old after next) next.cut after (Ok b)) test enters)

-- a header that is known stays so where nothing of it changes
pub still_known : (trace next : TraceClass) (scratch after : PacketScratch) (old new : Values) → next ≡ trace → after ≡ scratch → new ≡ old → KnowsHeader trace scratch old.packet_header → KnowsHeader next after new.packet_header
still_known trace next scratch after old new t s v known =
    subst (λ x. KnowsHeader x after new.packet_header) (sym t) (subst (λ x. KnowsHeader trace x new.packet_header) (sym s) (subst (λ (x : Values). KnowsHeader trace scratch x.packet_header) (sym v) known))

-- where only the line was another one before, it is another one still
pub reads_after : (old middle new : ReadState) (result : Option PacketItem) → middle ≡ record old { line = middle.line } → ReadsNext middle new result → ReadsNext old new result
reads_after old middle new result same writes =
    let w = subst (λ c. ReadsNext c new result) same writes in
    record {
      advances = w.advances;
      stands = w.stands;
      shared = w.shared;
      found = w.found;
      holds = w.holds;
      room = w.room;
      taken = w.taken;
      writes = w.writes;
      cut = w.cut;
      buffer = w.buffer;
      none = w.none;
    }
