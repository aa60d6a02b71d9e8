-- What a packet asks for, step by step.
use Rattle.std.proofs.Common.{◌≡◌, ℕ, ◌*◌, ◌<◌, Bool, true, false, List, [], length, if◌then◌else◌, Option, Some, None, Result, Ok, Err, refl, sym, subst, arith, codes}
use Rattle.std.specs.Prelude.{min}
use Rattle.ctf_decode.specs.Forms.{Form}
use Rattle.ctf_decode.specs.Values.{Val}
use Rattle.ctf_decode.specs.Breaks.{too_many, past, no_option}
use Rattle.ctf_decode.specs.Walk.{Step, walk}
use Rattle.ctf_decode.specs.declared.scopes.TheConstants.{MOST_VALUES}
use Rattle.ctf_class.specs.declared.route.Scope.TheVariants.{PacketHeader, PacketContext}
use Rattle.ctf_packet.specs.Classes.{StreamForm, TraceForm}
use Rattle.ctf_packet.specs.Scopes.{Values, no_values, value_in, put, Stood, longest}
use Rattle.ctf_packet.specs.Roles.{role, number_in}
use Rattle.ctf_packet.specs.Packets.{front, stream_checked, sizes_of, are_possible}
use Rattle.ctf_packet.specs.declared.reached.Reached.{Reached}
use Rattle.ctf_packet.specs.declared.sizes.Sizes.{Sizes}
use Rattle.ctf_packet.specs.declared.fault.StreamFault.{StreamFault}
use Rattle.ctf_packet.specs.declared.fault.StreamFault.TheVariants as faults
use Rattle.ctf_packet_demand.specs.Wants.{Begun, Want, more, whole, rest, faulty, ◌>>=◌, asked, asked_at, or_faulty, sized, wanted}
use Rattle.ctf_packet_demand.proofs.Lasting.{walk_beyond}

abbrev pub follow : {A C : Type 0} → Result A (Want C) → (A → Want C) → Want C
follow r next = r >>= next

module _ {C : Type 0} (trace : TraceForm C) (reached : Option Reached) (have : List ℕ) where
  -- what follows from the context, from the stream class, and from the header
  abbrev pub after_context : StreamForm C → Values → Stood → Want C
  after_context stream known context =
      let size = λ (name : List ℕ). number_in (role name stream.packet_context context.value) in
      sized (record { stream = stream; values = put PacketContext context.value known; first = context.end }) (size (codes "packet_size")) (size (codes "content_size"))

  abbrev pub after_stream : Stood → StreamForm C → Want C
  after_stream header stream =
      let known = put PacketHeader header.value no_values in
      follow (asked_at stream.packet_context (front have known) header.end header.spent) (after_context stream known)

  abbrev pub after_header : Stood → Want C
  after_header header = follow (or_faulty (stream_checked trace reached header.value)) (after_stream header)

  pub wants : wanted trace reached have ≡ follow (asked_at trace.packet_header (front have no_values) 0 0) after_header
  unfolding wanted
  wants = refl

-- more is asked for than so many bits, and sizes that are decoded can be
abbrev pub Sound : {C : Type 0} → ℕ → Want C → Type 0
Sound n (more bits) = n < bits
Sound n (whole begun sizes) = are_possible sizes begun.first ≡ true
Sound n (rest begun) = Unit {0}
Sound n (faulty fault) = Unit {0}

abbrev Fine : {A C : Type 0} → ℕ → Result A (Want C) → Type 0
Fine n (Ok x) = Unit {0}
Fine n (Err want) = Sound n want

sound_then : {A C : Type 0} (n : ℕ) (r : Result A (Want C)) (next : A → Want C) → Fine n r → ((x : A) → Sound n (next x)) → Sound n (follow r next)
sound_then n (Ok x) next h k = k x
sound_then n (Err want) next h k = h

fine_step : (C : Type 0) (n : ℕ) (r : Step Val) → ((e : ℕ) → r ≡ Err (past e) → n < e) → Fine {C = C} n (asked r)
fine_step C n (Ok x) h = tt
fine_step C n (Err too_many) h = tt
fine_step C n (Err no_option) h = tt
fine_step C n (Err (past e)) h = h e refl

fine_checked : (C : Type 0) {A : Type 0} (n : ℕ) (r : Result A StreamFault) → Fine {C = C} n (or_faulty r)
fine_checked C n (Ok x) = tt
fine_checked C n (Err fault) = tt

-- how many bits of a packet's front are there
abbrev content_of : List ℕ → ℕ
content_of have = min (8 * length have) longest

module _ (C : Type 0) (have : List ℕ) where
  fine_scope : (k : Option Form) (known : Values) (place spent : ℕ) → Fine {C = C} (content_of have) (asked_at k (front have known) place spent)
  fine_scope None known place spent = tt
  fine_scope (Some k) known place spent =
      fine_step C (content_of have) (walk k (front have known) [] place spent)
      (λ e h. walk_beyond have [] (content_of have) (content_of have) MOST_VALUES (value_in known) (omega arith) (omega arith) k [] place spent e h)

  sound_possible : (begun : Begun C) (sizes : Sizes) (b : Bool) → are_possible sizes begun.first ≡ b → Sound (content_of have) (if b then whole begun sizes else faulty faults.ImpossibleSizes)
  sound_possible begun sizes true h = h
  sound_possible begun sizes false h = tt

  sound_sized : (begun : Begun C) (p q : Option ℕ) → Sound (content_of have) (sized begun p q)
  sound_sized begun None None = tt
  sound_sized begun (Some p) q = let s = sizes_of (Some p) q 0 in sound_possible begun s (are_possible s begun.first) refl
  sound_sized begun None (Some q) = let s = sizes_of None (Some q) 0 in sound_possible begun s (are_possible s begun.first) refl

  pub sound : (trace : TraceForm C) (reached : Option Reached) → Sound (content_of have) (wanted trace reached have)
  sound trace reached =
      subst (Sound (content_of have)) (sym (wants trace reached have))
      (sound_then (content_of have) (asked_at trace.packet_header (front have no_values) 0 0) (after_header trace reached have) (fine_scope trace.packet_header no_values 0 0)
      (λ header.
      let known = put PacketHeader header.value no_values in
      sound_then (content_of have) (or_faulty (stream_checked trace reached header.value)) (after_stream trace reached have header) (fine_checked C (content_of have) (stream_checked trace reached header.value))
      (λ stream. sound_then (content_of have) (asked_at stream.packet_context (front have known) header.end header.spent) (after_context trace reached have stream known) (fine_scope stream.packet_context known header.end header.spent)
      (λ context. sound_sized (record { stream = stream; values = put PacketContext context.value known; first = context.end }) (number_in (role (codes "packet_size") stream.packet_context context.value)) (number_in (role (codes "content_size") stream.packet_context context.value))))))
