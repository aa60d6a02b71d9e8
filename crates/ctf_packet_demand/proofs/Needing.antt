-- Where a packet that asked for more begins its event records.
use Rattle.std.proofs.Common.{◌≡◌, ℕ, ◌*◌, ◌≤◌, Bool, true, false, List, [], ◌++◌, length, if◌then◌else◌, Option, Some, None, Result, Ok, Err, inl, inr, refl, sym, subst, arith, codes, length-append}
use Rattle.std.specs.Prelude.{min, max}
use Rattle.ctf_class.specs.declared.route.Scope.{Scope}
use Rattle.ctf_class.specs.declared.route.Scope.TheVariants.{PacketHeader, PacketContext}
use Rattle.ctf_decode.specs.Forms.{Form}
use Rattle.ctf_decode.specs.Values.{Val}
use Rattle.ctf_decode.specs.Input.{Input, Env}
use Rattle.ctf_decode.specs.Breaks.{too_many, past, no_option}
use Rattle.ctf_decode.specs.Walk.{Step, walk}
use Rattle.ctf_decode.specs.Laws.{Is, input_of}
use Rattle.ctf_decode.specs.declared.scopes.TheConstants.{MOST_VALUES}
use Rattle.ctf_decode.proofs.Sound.{test, walk_is}
use Rattle.ctf_decode.proofs.Needs.{needs}
use Rattle.ctf_packet.specs.Classes.{StreamForm, TraceForm}
use Rattle.ctf_packet.specs.Scopes.{Values, no_values, value_in, put, Stood, longest}
use Rattle.ctf_packet.specs.Roles.{role, number_in}
use Rattle.ctf_packet.specs.Packets.{front, stream_checked, sizes_of, are_possible}
use Rattle.ctf_packet.specs.Views.{packet_values}
use Rattle.ctf_packet.specs.declared.reached.Reached.{Reached}
use Rattle.ctf_packet.specs.declared.sizes.Sizes.{Sizes}
use Rattle.ctf_packet.specs.declared.fault.StreamFault.{StreamFault}
use Rattle.ctf_packet.specs.declared.fault.StreamFault.TheVariants as faults
use Rattle.ctf_packet.proofs.Forward.{forward}
use Rattle.ctf_packet_demand.specs.Wants.{Begun, Want, more, whole, rest, faulty, asked, asked_at, or_faulty, sized, wanted}
use Rattle.ctf_packet_demand.proofs.Lasting.{Answers, walk_more, walk_beyond}
use Rattle.ctf_packet_demand.proofs.Shorter.{stands_to}
use Rattle.ctf_packet_demand.proofs.Following.{follow, after_context, after_stream, after_header, wants}

module _ (packet more_bytes : List ℕ) (content whole_content limit : ℕ) (earlier : Scope → Option Val) (longer : content ≤ whole_content) (held : content ≤ 8 * length packet) where
  abbrev c : Input
  c = input_of packet content earlier limit

  abbrev d : Input
  d = input_of (packet ++ more_bytes) whole_content earlier limit

  -- a value ends no earlier than each place that a beginning asked for
  pub walk_needs : (k : Form) (env : Env) (p s e : ℕ) (x : Val × ℕ × ℕ) → walk k c env p s ≡ Err (past e) → walk k d env p s ≡ Ok x → e ≤ x.1
  walk_needs k env p s e x asks gives =
      let beyond = walk_beyond packet more_bytes content whole_content limit earlier longer held k env p s e asks in
      let breaks = subst (Is k c env p s) asks (walk_is k c env p s) in
      let stands = (subst (Is k d env p s) gives (walk_is k d env p s)).0 in
      elim (test whole_content x.1) [
        | inl t ↦ (let fits = needs packet more_bytes content whole_content limit earlier longer held k env p s e x.0 x.1 breaks stands in omega (arith, t.1, fits))
        | inr t ↦
            let w = max content x.1 in
            let there = stands_to (packet ++ more_bytes) whole_content w limit earlier (omega (arith, longer, t.1)) k env p x.0 x.1 stands (omega arith) in
            let fits = needs packet more_bytes content w limit earlier (omega arith) held k env p s e x.0 x.1 breaks there in
            omega (arith, fits, beyond)
      ]

-- the event records begin at this bit or later
abbrev pub From : {C : Type 0} → ℕ → Want C → Type 0
From n (more bits) = Unit {0}
From n (whole begun sizes) = n ≤ begun.first
From n (rest begun) = n ≤ begun.first
From n (faulty fault) = Unit {0}

from_less : {C : Type 0} (m n : ℕ) (w : Want C) → m ≤ n → From n w → From m w
from_less m n (more bits) l h = tt
from_less m n (whole begun sizes) l h = omega (arith, l, h)
from_less m n (rest begun) l h = omega (arith, l, h)
from_less m n (faulty fault) l h = tt

from_step : {C : Type 0} (k : Form) (c : Input) (p s : ℕ) (r : Step Val) (next : Stood → Want C) → Is k c [] p s r → ((x : Stood) → p ≤ x.end → From p (next x)) → From p (follow (asked r) next)
from_step k c p s (Ok x) next is h = h (record { value = Some x.0; end = x.1; spent = x.2 }) (forward k c [] p x.0 x.1 is.0)
from_step k c p s (Err too_many) next is h = tt
from_step k c p s (Err no_option) next is h = tt
from_step k c p s (Err (past e)) next is h = tt

from_asked : {C : Type 0} (k : Option Form) (input : Input) (place spent : ℕ) (next : Stood → Want C) → ((x : Stood) → place ≤ x.end → From place (next x)) → From place (follow (asked_at k input place spent) next)
from_asked None input place spent next h = h (record { value = None; end = place; spent = spent }) (omega arith)
from_asked (Some k) input place spent next h = from_step k input place spent (walk k input [] place spent) next (walk_is k input [] place spent) h

from_checked : {A C : Type 0} (n : ℕ) (r : Result A StreamFault) (next : A → Want C) → ((x : A) → From n (next x)) → From n (follow (or_faulty r) next)
from_checked n (Ok x) next h = h x
from_checked n (Err fault) next h = tt

from_possible : {C : Type 0} (begun : Begun C) (sizes : Sizes) (b : Bool) → From begun.first (if b then whole begun sizes else faulty faults.ImpossibleSizes)
from_possible begun sizes true = omega arith
from_possible begun sizes false = tt

from_sized : {C : Type 0} (begun : Begun C) (p q : Option ℕ) → From begun.first (sized begun p q)
from_sized begun None None = omega arith
from_sized begun (Some p) q = let s = sizes_of (Some p) q 0 in from_possible begun s (are_possible s begun.first)
from_sized begun None (Some q) = let s = sizes_of None (Some q) 0 in from_possible begun s (are_possible s begun.first)

module _ {C : Type 0} (trace : TraceForm C) (reached : Option Reached) (have : List ℕ) where
  from_context : (stream : StreamForm C) (known : Values) (context : Stood) → From context.end (after_context trace reached have stream known context)
  from_context stream known context =
      from_sized (record { stream = stream; values = put PacketContext context.value known; first = context.end }) (number_in (role (codes "packet_size") stream.packet_context context.value)) (number_in (role (codes "content_size") stream.packet_context context.value))

  from_header : (header : Stood) → From header.end (after_header trace reached have header)
  from_header header =
      from_checked header.end (stream_checked trace reached header.value) (after_stream trace reached have header)
      (λ stream. let known = put PacketHeader header.value no_values in
      from_asked stream.packet_context (front have known) header.end header.spent (after_context trace reached have stream known)
      (λ context l. from_less header.end context.end (after_context trace reached have stream known context) l (from_context stream known context)))

-- where so many bits were asked for, event records begin no earlier than their end
abbrev pub Needs : {C : Type 0} → Want C → Want C → Type 0
Needs (more bits) w = From bits w
Needs (whole begun sizes) w = Unit {0}
Needs (rest begun) w = Unit {0}
Needs (faulty fault) w = Unit {0}

needs_step : {C : Type 0} (m e : ℕ) (s : Step Val) (next : Stood → Want C) → ((x : Val × ℕ × ℕ) → s ≡ Ok x → e ≤ x.1) → ((x : Stood) → From x.end (next x)) → From e (follow (asked s) next)
needs_step m e (Ok x) next h on = from_less e x.1 (next (record { value = Some x.0; end = x.1; spent = x.2 })) (h x refl) (on (record { value = Some x.0; end = x.1; spent = x.2 }))
needs_step m e (Err too_many) next h on = tt
needs_step m e (Err no_option) next h on = tt
needs_step m e (Err (past n)) next h on = tt

needs_walk : {C : Type 0} (m : ℕ) (r s : Step Val) (next after : Stood → Want C) → Answers m r s → ((e : ℕ) (x : Val × ℕ × ℕ) → r ≡ Err (past e) → s ≡ Ok x → e ≤ x.1)
    → ((x : Stood) → Needs (next x) (after x)) → ((x : Stood) → From x.end (after x)) → Needs (follow (asked r) next) (follow (asked s) after)
needs_walk m (Ok x) s next after answers h go on = subst (λ t. Needs (next (record { value = Some x.0; end = x.1; spent = x.2 })) (follow (asked t) after)) (sym answers) (go (record { value = Some x.0; end = x.1; spent = x.2 }))
needs_walk m (Err too_many) s next after answers h go on = tt
needs_walk m (Err no_option) s next after answers h go on = tt
needs_walk m (Err (past e)) s next after answers h go on = needs_step m e s after (λ x g. h e x refl g) on

module _ (have more_bytes : List ℕ) where
  abbrev all : List ℕ
  all = have ++ more_bytes

  needs_asked : {C : Type 0} (k : Option Form) (known : Values) (place spent : ℕ) (next after : Stood → Want C) → ((x : Stood) → Needs (next x) (after x)) → ((x : Stood) → From x.end (after x))
      → Needs (follow (asked_at k (front have known) place spent) next) (follow (asked_at k (front all known) place spent) after)
  needs_asked None known place spent next after go on = go (record { value = None; end = place; spent = spent })
  needs_asked (Some k) known place spent next after go on =
      let l = length-append have more_bytes in
      let n = min (8 * length have) longest in
      let m = min (8 * length all) longest in
      needs_walk m (walk k (front have known) [] place spent) (walk k (front all known) [] place spent) next after
      (walk_more have more_bytes n m MOST_VALUES (value_in known) (omega (arith, l)) (omega arith) k [] place spent)
      (λ e x. walk_needs have more_bytes n m MOST_VALUES (value_in known) (omega (arith, l)) (omega arith) k [] place spent e x) go on

  needs_checked : {A C : Type 0} (r : Result A StreamFault) (next after : A → Want C) → ((x : A) → Needs (next x) (after x)) → Needs (follow (or_faulty r) next) (follow (or_faulty r) after)
  needs_checked (Ok x) next after go = go x
  needs_checked (Err fault) next after go = tt

  same_possible : {C : Type 0} (begun : Begun C) (sizes : Sizes) (b : Bool) (w : Want C) → Needs (if b then whole begun sizes else faulty faults.ImpossibleSizes) w
  same_possible begun sizes true w = tt
  same_possible begun sizes false w = tt

  same_sized : {C : Type 0} (begun : Begun C) (p q : Option ℕ) (w : Want C) → Needs (sized begun p q) w
  same_sized begun None None w = tt
  same_sized begun (Some p) q w = let s = sizes_of (Some p) q 0 in same_possible begun s (are_possible s begun.first) w
  same_sized begun None (Some q) w = let s = sizes_of None (Some q) 0 in same_possible begun s (are_possible s begun.first) w

  pub begins_after : {C : Type 0} (trace : TraceForm C) (reached : Option Reached) → Needs (wanted trace reached have) (wanted trace reached all)
  begins_after trace reached =
      subst (λ w. Needs w (wanted trace reached all)) (sym (wants trace reached have))
      (subst (Needs (follow (asked_at trace.packet_header (front have no_values) 0 0) (after_header trace reached have))) (sym (wants trace reached all))
      (needs_asked trace.packet_header no_values 0 0 (after_header trace reached have) (after_header trace reached all)
      (λ header. let known = put PacketHeader header.value no_values in
      needs_checked (stream_checked trace reached header.value) (after_stream trace reached have header) (after_stream trace reached all header)
      (λ stream. needs_asked stream.packet_context known header.end header.spent (after_context trace reached have stream known) (after_context trace reached all stream known)
      (λ context. same_sized (record { stream = stream; values = put PacketContext context.value known; first = context.end }) (number_in (role (codes "packet_size") stream.packet_context context.value)) (number_in (role (codes "content_size") stream.packet_context context.value)) (after_context trace reached all stream known context))
      (from_context trace reached all stream known)))
      (from_header trace reached all)))

-- a packet that was begun has no other values than those of its header and context
abbrev pub IsAlone : {C : Type 0} → Want C → Type 0
IsAlone (more bits) = Unit {0}
IsAlone (whole begun sizes) = packet_values begun.values ≡ begun.values
IsAlone (rest begun) = packet_values begun.values ≡ begun.values
IsAlone (faulty fault) = Unit {0}

module _ {C : Type 0} where
  alone_step : (r : Step Val) (next : Stood → Want C) → ((x : Stood) → IsAlone (next x)) → IsAlone (follow (asked r) next)
  alone_step (Ok x) next h = h (record { value = Some x.0; end = x.1; spent = x.2 })
  alone_step (Err too_many) next h = tt
  alone_step (Err no_option) next h = tt
  alone_step (Err (past e)) next h = tt

  alone_asked : (k : Option Form) (input : Input) (place spent : ℕ) (next : Stood → Want C) → ((x : Stood) → IsAlone (next x)) → IsAlone (follow (asked_at k input place spent) next)
  alone_asked None input place spent next h = h (record { value = None; end = place; spent = spent })
  alone_asked (Some k) input place spent next h = alone_step (walk k input [] place spent) next h

  alone_checked : {A : Type 0} (r : Result A StreamFault) (next : A → Want C) → ((x : A) → IsAlone (next x)) → IsAlone (follow (or_faulty r) next)
  alone_checked (Ok x) next h = h x
  alone_checked (Err fault) next h = tt

  alone_possible : (begun : Begun C) (sizes : Sizes) (b : Bool) → packet_values begun.values ≡ begun.values → IsAlone (if b then whole begun sizes else faulty faults.ImpossibleSizes)
  alone_possible begun sizes true h = h
  alone_possible begun sizes false h = tt

  alone_sized : (begun : Begun C) (p q : Option ℕ) → packet_values begun.values ≡ begun.values → IsAlone (sized begun p q)
  alone_sized begun None None h = h
  alone_sized begun (Some p) q h = let s = sizes_of (Some p) q 0 in alone_possible begun s (are_possible s begun.first) h
  alone_sized begun None (Some q) h = let s = sizes_of None (Some q) 0 in alone_possible begun s (are_possible s begun.first) h

  pub is_alone : (trace : TraceForm C) (reached : Option Reached) (have : List ℕ) → IsAlone (wanted trace reached have)
  is_alone trace reached have =
      subst IsAlone (sym (wants trace reached have))
      (alone_asked trace.packet_header (front have no_values) 0 0 (after_header trace reached have)
      (λ header. let known = put PacketHeader header.value no_values in
      alone_checked (stream_checked trace reached header.value) (after_stream trace reached have header)
      (λ stream. alone_asked stream.packet_context (front have known) header.end header.spent (after_context trace reached have stream known)
      (λ context. alone_sized (record { stream = stream; values = put PacketContext context.value known; first = context.end }) (number_in (role (codes "packet_size") stream.packet_context context.value)) (number_in (role (codes "content_size") stream.packet_context context.value)) refl))))
