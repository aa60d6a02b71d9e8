-- A packet opened step by step.
use Rattle.std.proofs.Common.{◌≡◌, ℕ, ◌*◌, List, length, Option, Result, Ok, Err, ◌⊎◌, inl, inr, refl, sym, ap, ◌∙◌, subst, codes}
use Rattle.ctf_bits.specs.declared.source.Ending.{Ending}
use Rattle.ctf_class.specs.declared.route.Scope.TheVariants.{PacketHeader, PacketContext}
use Rattle.ctf_decode.specs.Known.{Known}
use Rattle.ctf_decode.specs.Forms.{Form}
use Rattle.ctf_packet.specs.Classes.{StreamForm, TraceForm}
use Rattle.ctf_packet.specs.Scopes.{◌>>=◌, Values, no_values, put, Stood, scope_at, fault_in_front}
use Rattle.ctf_packet.specs.Roles.{role, number_in}
use Rattle.ctf_packet.specs.Packets.{Opened, front, stream_checked, sizes_checked, placed, open_at}
use Rattle.ctf_packet.specs.Gives.{Exactly, OrRefused}
use Rattle.ctf_packet.specs.Views.{values_of, PutsScope}
use Rattle.ctf_packet.specs.declared.fault.StreamFault.{StreamFault}
use Rattle.ctf_packet.specs.declared.fault.StreamFault.TheVariants as faults
use Rattle.ctf_packet.specs.declared.reached.Reached.{Reached}
use Rattle.ctf_packet.specs.declared.sizes.Sizes.{Sizes}

module _ {C : Type 0} (trace : TraceForm C) (ending : Ending) (reached : Option Reached) (start : ℕ) (left : List ℕ) where
  -- what follows from the context
  abbrev pub after_context : StreamForm C → Values → Stood → Result (Opened C) StreamFault
  after_context stream known context =
      let size = λ (name : List ℕ). number_in (role name stream.packet_context context.value) in
      sizes_checked (size (codes "packet_size")) (size (codes "content_size")) ending (8 * length left) context.end >>= (λ sizes. placed stream reached start (put PacketContext context.value known) context.end sizes)

  -- what follows from the header, and from the stream class
  abbrev pub after_stream : Stood → StreamForm C → Result (Opened C) StreamFault
  after_stream header stream =
      let known = put PacketHeader header.value no_values in
      scope_at (fault_in_front ending) stream.packet_context (front left known) header.end header.spent >>= after_context stream known

  abbrev pub after_header : Stood → Result (Opened C) StreamFault
  after_header header = stream_checked trace reached header.value >>= after_stream header

  pub opens : open_at trace ending reached start left ≡ (scope_at (fault_in_front ending) trace.packet_header (front left no_values) 0 0 >>= after_header)
  unfolding open_at
  opens = refl

  abbrev pub Refuses : StreamFault → Type 0
  Refuses f = (open_at trace ending reached start left ≡ Err f) ⊎ (f ≡ faults.NoMemory)

  -- the header, as the code puts it
  abbrev pub Header : Result ℕ StreamFault → Known → Type 0
  Header end known = PutsScope PacketHeader no_values (scope_at (fault_in_front ending) trace.packet_header (front left no_values) 0 0) end known

  pub no_header : (f : StreamFault) (known : Known) → Header (Err f) known → Refuses f
  no_header f known (inl e) = inl (opens ∙ ap (λ r. r >>= after_header) e)
  no_header f known (inr e) = inr e

  pub no_stream : (f : StreamFault) (end : ℕ) (known : Known) → Header (Ok end) known → stream_checked trace reached (values_of known).packet_header ≡ Err f → Refuses f
  no_stream f end known h e =
      let header = h.0 in
      let same : header.value ≡ (values_of known).packet_header = sym (ap (λ (v : Values). v.packet_header) h.4) in
      inl (opens ∙ (ap (λ r. r >>= after_header) h.1 ∙ ap (λ r. r >>= after_stream header) (ap (stream_checked trace reached) same ∙ e)))

  -- the context, as the code puts it
  abbrev pub Context : StreamForm C → ℕ → Known → Result ℕ StreamFault → Known → Type 0
  Context stream place known end after =
      let before = values_of known in
      PutsScope PacketContext before (scope_at (fault_in_front ending) stream.packet_context (front left before) place known.spent) end after

  to_stream : (end : ℕ) (known : Known) (h : Header (Ok end) known) (stream : StreamForm C) → stream_checked trace reached (values_of known).packet_header ≡ Ok stream → open_at trace ending reached start left ≡ after_stream h.0 stream
  to_stream end known h stream e =
      let header = h.0 in
      let same : header.value ≡ (values_of known).packet_header = sym (ap (λ (v : Values). v.packet_header) h.4) in
      opens ∙ (ap (λ r. r >>= after_header) h.1 ∙ ap (λ r. r >>= after_stream header) (ap (stream_checked trace reached) same ∙ e))

  -- the context is where the definition looks for it
  same_context : (end : ℕ) (known : Known) (h : Header (Ok end) known) (k : Option Form)
      → scope_at (fault_in_front ending) k (front left (values_of known)) end known.spent ≡ scope_at (fault_in_front ending) k (front left (put PacketHeader (h.0).value no_values)) (h.0).end (h.0).spent
  same_context end known h k = λ i. scope_at (fault_in_front ending) k (front left (h.4 i)) (h.2 i) (h.3 i)

  pub no_context : (f : StreamFault) (end : ℕ) (known after : Known) → (h : Header (Ok end) known) (stream : StreamForm C) → stream_checked trace reached (values_of known).packet_header ≡ Ok stream → Context stream end known (Err f) after → Refuses f
  no_context f end known after h stream e (inl g) =
      inl (to_stream end known h stream e ∙ ap (λ r. r >>= after_context stream (put PacketHeader (h.0).value no_values)) (sym (same_context end known h stream.packet_context) ∙ g))
  no_context f end known after h stream e (inr g) = inr g

  -- the rest, from what the code holds
  pub to_sizes : (end place : ℕ) (known after : Known) (h : Header (Ok end) known) (stream : StreamForm C) → stream_checked trace reached (values_of known).packet_header ≡ Ok stream → Context stream end known (Ok place) after
      → open_at trace ending reached start left
      ≡ (sizes_checked (number_in (role (codes "packet_size") stream.packet_context (values_of after).packet_context)) (number_in (role (codes "content_size") stream.packet_context (values_of after).packet_context)) ending (8 * length left) place
      >>= (λ sizes. placed stream reached start (values_of after) place sizes))
  to_sizes end place known after h stream e g =
      let context = g.0 in
      let header = put PacketHeader (h.0).value no_values in
      let value : context.value ≡ (values_of after).packet_context = sym (ap (λ (v : Values). v.packet_context) g.4) in
      let all : put PacketContext context.value header ≡ values_of after = (λ i. put PacketContext context.value (sym h.4 i)) ∙ sym g.4 in
      to_stream end known h stream e
      ∙ (ap (λ r. r >>= after_context stream header) (sym (same_context end known h stream.packet_context) ∙ g.1)
      ∙ (λ i. sizes_checked (number_in (role (codes "packet_size") stream.packet_context (value i))) (number_in (role (codes "content_size") stream.packet_context (value i))) ending (8 * length left) (sym g.2 i) >>= (λ sizes. placed stream reached start (all i) (sym g.2 i) sizes)))

  abbrev pub Checked : Result Sizes StreamFault → ℕ → Known → StreamForm C → Type 0
  Checked r place after stream =
      r ≡ sizes_checked (number_in (role (codes "packet_size") stream.packet_context (values_of after).packet_context)) (number_in (role (codes "content_size") stream.packet_context (values_of after).packet_context)) ending (8 * length left) place

  pub no_sizes : (f : StreamFault) (end place : ℕ) (known after : Known) (h : Header (Ok end) known) (stream : StreamForm C) → stream_checked trace reached (values_of known).packet_header ≡ Ok stream → Context stream end known (Ok place) after
      → Checked (Err f) place after stream → Refuses f
  no_sizes f end place known after h stream e g k =
      inl (to_sizes end place known after h stream e g ∙ ap (λ r. r >>= (λ sizes. placed stream reached start (values_of after) place sizes)) (sym k))

  pub with_sizes : (sizes : Sizes) (end place : ℕ) (known after : Known) (h : Header (Ok end) known) (stream : StreamForm C) → stream_checked trace reached (values_of known).packet_header ≡ Ok stream → Context stream end known (Ok place) after
      → Checked (Ok sizes) place after stream → open_at trace ending reached start left ≡ placed stream reached start (values_of after) place sizes
  with_sizes sizes end place known after h stream e g k =
      to_sizes end place known after h stream e g ∙ ap (λ r. r >>= (λ z. placed stream reached start (values_of after) place z)) (sym k)

pub refused : {A B : Type 0} (view : A → B) (x : Result A StreamFault) (f : StreamFault) (r : Result B StreamFault) → x ≡ Err f → (r ≡ Err f) ⊎ (f ≡ faults.NoMemory) → OrRefused view x r
refused view x f r e h = subst (λ y. OrRefused view y r) (sym e) h

-- the packet once its sizes are known
pub placed_or : {A B : Type 0} (view : A → B) (x : Result A StreamFault) (r s : Result B StreamFault) → r ≡ s → Exactly view x s → OrRefused view x r
placed_or view (Ok y) r s e h = e ∙ h
placed_or view (Err f) r s e h = inl (e ∙ h)
