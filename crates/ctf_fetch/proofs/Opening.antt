-- A packet that is opened while its bytes come.
use Rattle.std.proofs.Common.{◌≡◌, ℕ, ◌+◌, ◌*◌, ◌≤◌, List, [], ◌++◌, length, Option, Some, None, Result, Ok, Err, IfOk, ◌⊎◌, inl, inr, refl, sym, ap, ◌∙◌, arith}
use Rattle.std.specs.Prelude.{min, max}
use Rattle.ctf_bits.specs.declared.source.Ending.{Ending}
use Rattle.ctf_class.specs.declared.route.Scope.{Scope}
use Rattle.ctf_class.specs.declared.route.Scope.TheVariants.{PacketHeader, PacketContext, EventHeader, StreamEventContext, EventContext, EventFields}
use Rattle.ctf_decode.specs.Values.{Val}
use Rattle.ctf_decode.specs.Forms.{Form}
use Rattle.ctf_decode.specs.Input.{Input}
use Rattle.ctf_decode.specs.Breaks.{Fault}
use Rattle.ctf_decode.specs.Known.{Known, with_value, with_spent}
use Rattle.ctf_decode.specs.Views.{val, earlier}
use Rattle.ctf_decode.specs.Walk.{Step, walk}
use Rattle.ctf_decode.specs.declared.scopes.TheConstants.{MOST_VALUES}
use Rattle.ctf_decode.specs.declared.value.Value.{Value}
use Rattle.ctf_packet.specs.Classes.{Classes, StreamForm, TraceForm}
use Rattle.ctf_packet.specs.Scopes.{no_values, value_in, Stood, stood, scope_at, longest, fault_in_front}
use Rattle.ctf_packet.specs.Packets.{front, stream_checked, open_at}
use Rattle.ctf_packet.specs.Views.{values_of, PutsValue}
use Rattle.ctf_packet.specs.declared.fault.StreamFault.{StreamFault}
use Rattle.ctf_packet.specs.declared.fault.StreamFault.TheVariants as faults
use Rattle.ctf_packet.specs.declared.reached.Reached.{Reached}
use Rattle.ctf_packet.specs.declared.sizes.Sizes.{Sizes}
use Rattle.ctf_packet.proofs.Measures.{possible}
use Rattle.ctf_packet.proofs.Opening as opening
use Rattle.ctf_packet.proofs.Standing.{form_of, with_is}
use Rattle.ctf_packet_demand.specs.Wants.{Begun, Want, whole, faulty, asked, asked_at, wanted}
use Rattle.ctf_packet_demand.specs.Gives.{PutsAsked}
use Rattle.ctf_packet_demand.specs.Laws.{WantsTell}
use Rattle.ctf_packet_demand.proofs.Asking.{at_ok}
use Rattle.ctf_packet_demand.proofs.Beginning as beginning
use Rattle.ctf_packet_demand.proofs.Telling.{wants_tell}
use Rattle.ctf_fetch.specs.Fetching.{OrNoMemory}
use Rattle.ctf_fetch.specs.Demand.{there, Failed}
use Rattle.ctf_fetch.specs.Asking.{scope_asked, scope_found}
use Rattle.ctf_fetch.specs.Failing.{FailsAs}
use Rattle.ctf_fetch.specs.declared.scope.NextScope.{NextScope}
use Rattle.ctf_fetch.proofs.Parts.{found_more}

laws : WantsTell Classes
laws = wants_tell

same_value : (known : Known) (scope : Scope) → earlier known scope ≡ value_in (values_of known) scope
same_value known PacketHeader = refl
same_value known PacketContext = refl
same_value known EventHeader = refl
same_value known StreamEventContext = refl
same_value known EventContext = refl
same_value known EventFields = refl

-- what is there, as the definition of a packet has it
there_is : (bytes : List ℕ) (known : Known) → there bytes known ≡ front bytes (values_of known)
there_is bytes known =
    λ i. record { packet = bytes; content = min (8 * length bytes) longest; earlier = λ scope. same_value known scope i; limit = MOST_VALUES }

-- what was asked for and is there is what the definition says
abbrev pub stood_or : Stood → Result Stood (Want Classes) → Stood
stood_or d (Ok x) = x
stood_or d (Err want) = d

-- and it was found
pub asked_found : (step : Step Val) (s : Stood) (q : ℕ) → asked {C = Classes} step ≡ Ok s → q ≡ s.end → (x : Val × ℕ × ℕ) × (step ≡ Ok x) × (x.1 ≡ q)
asked_found (Ok x) s q e same = (x, refl, ap (λ r. (stood_or s r).end) e ∙ sym same)
asked_found (Err f) s q e same = absurd (cc)

module _ (next : NextScope) (k : Form) (is : form_of next.class ≡ Some k) (known : Known) (bytes : List ℕ) where
  pub scope_short : (ending : Ending) (fault : StreamFault) → OrNoMemory (Failed ending (walk k (there bytes known) [] next.end known.spent)) fault → OrNoMemory (FailsAs (scope_found ending next bytes known)) fault
  scope_short ending fault (inl refused) = inl refused
  scope_short ending fault (inr h) =
      let found : walk k (front bytes (values_of known)) [] next.end known.spent ≡ Err h.0 = ap (λ c. walk k c [] next.end known.spent) (sym (there_is bytes known)) ∙ h.1 in
      inr (ap (λ o. scope_at (fault_in_front ending) o (front bytes (values_of known)) next.end known.spent) is ∙ ap (stood (fault_in_front ending)) found ∙ ap Err (sym h.2))

  pub scope_puts : (value : Value) (q t : ℕ) (after : Known) → walk k (there bytes known) [] next.end known.spent ≡ Ok (val value, q, t) → after ≡ with_spent (with_value known next.scope value) t
      → PutsAsked next.scope (values_of known) (scope_asked next bytes known) q after
  scope_puts value q t after found put_is =
      let spent : after.spent ≡ t = ap (λ (x : Known). x.spent) put_is in
      let at_place = ap (λ c. walk k c [] next.end known.spent) (sym (there_is bytes known)) ∙ found ∙ ap (λ n. Ok (val value, q, n)) (sym spent) in
      at_ok (form_of next.class) k (front bytes (values_of known)) next.scope (values_of known) next.end known.spent q (val value) after is at_place (ap values_of put_is ∙ with_is known next.scope value)

  -- the value that was put there is the one that is found
  pub found_there : (q : ℕ) (after : Known) (h : PutsValue next.scope (values_of known) (walk k (front bytes (values_of known)) [] next.end known.spent) (Ok q) after)
      → walk k (there bytes known) [] next.end known.spent ≡ Ok (h.0, q, after.spent)
  found_there q after h = ap (λ c. walk k c [] next.end known.spent) (there_is bytes known) ∙ h.1

  -- it is there in all bytes that begin with these
  pub scope_put : (more : List ℕ) (q : ℕ) (after : Known) → PutsValue next.scope (values_of known) (walk k (front bytes (values_of known)) [] next.end known.spent) (Ok q) after
      → PutsAsked next.scope (values_of known) (scope_asked next (bytes ++ more) known) q after
  scope_put more q after h =
      let also = found_more k [] known next.end known.spent bytes more (h.0, q, after.spent) (found_there q after h) in
      let at_place = ap (λ c. walk k c [] next.end known.spent) (sym (there_is (bytes ++ more) known)) ∙ also in
      at_ok (form_of next.class) k (front (bytes ++ more) (values_of known)) next.scope (values_of known) next.end known.spent q h.0 after is at_place h.2

  -- a value that was asked for is the one that is found
  pub put_found : (q : ℕ) (after : Known) → PutsAsked next.scope (values_of known) (scope_asked next bytes known) q after
      → (x : Val × ℕ × ℕ) × (walk k (there bytes known) [] next.end known.spent ≡ Ok x) × (x.1 ≡ q)
  put_found q after h =
      let asks = ap (λ (o : Option Form). asked_at {C = Classes} o (front bytes (values_of known)) next.end known.spent) (sym is) ∙ h.1 in
      let found = asked_found (walk k (front bytes (values_of known)) [] next.end known.spent) h.0 q asks h.2 in
      (found.0, ap (λ c. walk k c [] next.end known.spent) (there_is bytes known) ∙ found.1, found.2)

  -- bytes up to a place are no more than the value needs, where it ends no earlier than that place
  pub near_put : (least before between now : ℕ) → ((x : Val × ℕ × ℕ) → walk k (there bytes known) [] next.end known.spent ≡ Ok x → least ≤ x.1) → between ≤ max before (least + 7)
      → (result : Result ℕ StreamFault) (after : Known) → IfOk result (λ end. PutsAsked next.scope (values_of known) (scope_asked next bytes known) end after)
      → IfOk result (λ end. now ≤ max between (end + 7)) → IfOk result (λ end. now ≤ max before (end + 7))
  near_put least before between now ends few (Ok q) after put near =
      let found = put_found q after put in
      let after = ends found.0 found.1 in
      let same = found.2 in
      omega (arith, after, same, few, near)
  near_put least before between now ends few (Err fault) after put near = tt

stands_asked : (told : Fault → StreamFault) (step : Step Val) (x : Stood) → asked {C = Classes} step ≡ Ok x → stood told step ≡ Ok x
stands_asked told (Ok y) x e = ap (λ r. Ok (stood_or x r)) e
stands_asked told (Err f) x e = absurd (cc)

pub scope_stands : (told : Fault → StreamFault) (k : Option Form) (input : Input) (p s : ℕ) (x : Stood) → asked_at {C = Classes} k input p s ≡ Ok x → scope_at told k input p s ≡ Ok x
scope_stands told None input p s x e = ap (λ r. Ok (stood_or x r)) e
scope_stands told (Some k) input p s x e = stands_asked told (walk k input [] p s) x e

or_refused : (P : StreamFault → Type 0) (fault : StreamFault) → P fault ⊎ (fault ≡ faults.NoMemory) → OrNoMemory P fault
or_refused P fault (inl h) = inr h
or_refused P fault (inr h) = inl h

module _ (trace : TraceForm Classes) (ending : Ending) (reached : Option Reached) (at : ℕ) where
  abbrev pub Opens : List ℕ → StreamFault → Type 0
  Opens all fault = open_at trace ending reached at all ≡ Err fault

  pub header_short : (all : List ℕ) (known : Known) (fault : StreamFault) → OrNoMemory (λ f. scope_at (fault_in_front ending) trace.packet_header (front all no_values) 0 0 ≡ Err f) fault → OrNoMemory (Opens all) fault
  header_short all known fault (inl refused) = inl refused
  header_short all known fault (inr h) = or_refused (Opens all) fault (opening.no_header trace ending reached at all fault known (inl h))

  pub stream_refused : (have left : List ℕ) (end : ℕ) (known : Known) (fault : StreamFault) → beginning.Header trace reached have end known → stream_checked trace reached (values_of known).packet_header ≡ Err fault → Opens (have ++ left) fault
  stream_refused have left end known fault header stream =
      laws.faulty trace ending reached at have left fault (beginning.no_stream trace reached have fault end known header stream)

  pub asked_refused : (have left : List ℕ) (fault : StreamFault) → wanted trace reached have ≡ faulty fault → Opens (have ++ left) fault
  asked_refused have left fault asks = laws.faulty trace ending reached at have left fault asks

  -- the header, where all of the stream is looked at
  whole_header : (all : List ℕ) (end : ℕ) (known : Known) → beginning.Header trace reached all end known → opening.Header trace ending reached at all (Ok end) known
  whole_header all end known h =
      (h.0, scope_stands (fault_in_front ending) trace.packet_header (front all no_values) 0 0 h.0 h.1, h.2, h.3, h.4)

  pub context_short : (all : List ℕ) (end : ℕ) (known after : Known) (fault : StreamFault) (stream : StreamForm Classes) → beginning.Header trace reached all end known → stream_checked trace reached (values_of known).packet_header ≡ Ok stream
      → OrNoMemory (λ f. scope_at (fault_in_front ending) stream.packet_context (front all (values_of known)) end known.spent ≡ Err f) fault → OrNoMemory (Opens all) fault
  context_short all end known after fault stream header checked (inl refused) = inl refused
  context_short all end known after fault stream header checked (inr h) =
      or_refused (Opens all) fault (opening.no_context trace ending reached at all fault end known after (whole_header all end known header) stream checked (inl h))

-- the bytes that came are no more than the packet has
pub fits : (trace : TraceForm Classes) (reached : Option Reached) (bytes : List ℕ) (begun : Begun Classes) (sizes : Sizes) (before : ℕ) → wanted trace reached bytes ≡ whole begun sizes → before ≤ 1
    → 8 * length bytes ≤ max (8 * before) (begun.first + 7) → 8 * length bytes ≤ sizes.packet
fits trace reached bytes begun sizes before asks few near =
    let can = possible sizes begun.first (laws.possible trace reached bytes begun sizes asks) in
    omega (arith, few, near, can.0, can.1, can.2, can.3, can.4)
