-- What headers and contexts of packets take at least.
use Rattle.std.proofs.Common.{◌≡◌, ◌==◌, ℕ, ◌+◌, ◌*◌, ◌≤◌, Bool, true, false, List, [], ◌∷◌, map, Option, Some, None, Ok, option_map, if◌then◌else◌, refl, sym, ap, subst, ◌∙◌, arith}
use Rattle.std.specs.Option.{option_and_then}
use Rattle.std.specs.Prelude.{codes, unwrap_or, IfSome}
use Rattle.ctf_class.specs.Items.{only_item}
use Rattle.ctf_class.specs.Streams.{StreamClass}
use Rattle.ctf_class.specs.declared.class.Class.{Class}
use Rattle.ctf_class.specs.declared.trace.TraceClass.{TraceClass}
use Rattle.ctf_clock.specs.declared.moment.Shift.{Shift}
use Rattle.ctf_decode.specs.Forms.{Form}
use Rattle.ctf_decode.specs.Input.{Input, Env}
use Rattle.ctf_decode.specs.Known.{Known}
use Rattle.ctf_decode.specs.Laws.{Is}
use Rattle.ctf_decode.specs.Stands.{Stands}
use Rattle.ctf_decode.specs.Values.{Val}
use Rattle.ctf_decode.specs.Views.{form}
use Rattle.ctf_decode.specs.Walk.{walk}
use Rattle.ctf_decode.proofs.Sound.{walk_is}
use Rattle.ctf_packet.specs.Classes.{Classes, StreamForm, TraceForm, stream_form, trace_form}
use Rattle.ctf_packet.specs.Packets.{front, unless, or_fault, same_stream, stream_named, stream_of, stream_checked}
use Rattle.ctf_packet.specs.Roles.{role, number_in, is_magic, uuid_field, is_of_trace}
use Rattle.ctf_packet.specs.Scopes.{◌>>=◌, no_values}
use Rattle.ctf_packet.specs.Views.{values_of}
use Rattle.ctf_packet.specs.declared.fault.StreamFault.TheVariants as faults
use Rattle.ctf_packet.specs.declared.reached.Reached.{Reached}
use Rattle.ctf_packet.proofs.Forward.{forward}
use Rattle.ctf_packet.proofs.Streams.{only_stream}
use Rattle.ctf_packet_demand.specs.Wants.{asked_at}
use Rattle.ctf_packet_demand.proofs.Beginning as beginning
use Rattle.ctf_fetch.specs.Demand.{TakesAtLeast, ScopeTakes, ContextTakes, FrontTakes}
use Rattle.ctf_fetch.proofs.Opening.{stood_or, asked_found}

form_takes : (k : Form) (n : ℕ) → ((c : Input) (e : Env) (p : ℕ) (v : Val) (q : ℕ) → Stands k c e p v q → p + n ≤ q) → ScopeTakes (Some k) n
form_takes k n takes c p s x found =
    let y = asked_found (walk k c [] p s) x x.end found refl in
    let stands = subst (Is k c [] p s) y.1 (walk_is k c [] p s) in
    let all = takes c [] p y.0.0 y.0.1 stands.0 in
    let same = y.2 in
    omega (arith, all, same)

class_takes : (class : Class) (n : ℕ) → TakesAtLeast class n → ScopeTakes (Some (form class)) n
class_takes class n takes = form_takes (form class) n takes

-- no scope ends before it begins
pub scope_forward : (k : Option Form) → ScopeTakes k 0
scope_forward None c p s x found = let same : p ≡ x.end = ap (λ r. (stood_or x r).end) found in omega (arith, same)
scope_forward (Some k) c p s x found =
    form_takes k 0 (λ c e p v q stands. let l = forward k c e p v q stands in omega (arith, l)) c p s x found

-- so many bits, if they are known
pub known_takes : (class : Class) (o : Option ℕ) → IfSome o (TakesAtLeast class) → ScopeTakes (Some (form class)) (unwrap_or o 0)
known_takes class None takes = scope_forward (Some (form class))
known_takes class (Some n) takes = class_takes class n takes

-- where a trace has one stream class, that is the one that each packet names
only_named : (streams : List (StreamForm Classes)) (only s : StreamForm Classes) (id : Option ℕ) → only_item streams ≡ Some only → stream_named streams id ≡ Some s → s ≡ only
only_named [] only s id one named = absurd (cc)
only_named (x ∷ []) only s None one named = some_is s only (sym named ∙ one)
  where
    some_is : (a b : StreamForm Classes) → Some a ≡ Some b → a ≡ b
    some_is a b e = cc
only_named (x ∷ []) only s (Some id) one named = picked (x.id == id) named
  where
    picked : (b : Bool) → (if b then Some x else None) ≡ Some s → s ≡ only
    picked true e = cc
    picked false e = absurd (cc)
only_named (x ∷ y ∷ rest) only s id one named = absurd (cc)

module _ (trace : TraceClass) where
  pub only_takes : (only : StreamClass) (n : ℕ) → only_item trace.streams ≡ Some only → ScopeTakes (option_map form only.packet_context) n → ContextTakes trace n
  only_takes only n is takes shift id stream named =
      let one : only_item (map (stream_form shift) trace.streams) ≡ Some (stream_form shift only) = sym (only_stream shift trace.streams) ∙ ap (option_map (stream_form shift)) is in
      subst (λ (s : StreamForm Classes). ScopeTakes s.packet_context n) (sym (only_named (map (stream_form shift) trace.streams) (stream_form shift only) stream id one named)) takes

  pub any_takes : ContextTakes trace 0
  any_takes shift id stream named = scope_forward stream.packet_context

  pub front_takes : (header context bytes : ℕ) → ScopeTakes (option_map form trace.packet_header) header → ContextTakes trace context → 8 * bytes ≤ header + context → FrontTakes trace bytes
  front_takes header context bytes first second few shift id stream named c d s t x y found also =
      let one = first c 0 s x found in
      let two = second shift id stream named d x.end t y also in
      omega (arith, one, two, few)

-- the stream class of a packet is one that a packet may name
same_there : (reached : Option Reached) (o : Option (StreamForm Classes)) (s : StreamForm Classes) → option_and_then (same_stream reached) o ≡ Some s → o ≡ Some s
same_there reached None s e = absurd (cc)
same_there None (Some t) s e = e
same_there (Some r) (Some t) s e = by_id (t.id == r.stream) e
  where
    by_id : (b : Bool) → (if b then Some t else None) ≡ Some s → Some t ≡ Some s
    by_id true e = e
    by_id false e = absurd (cc)

checked_there : (magic uuid : Bool) (o : Option (StreamForm Classes)) (s : StreamForm Classes)
    → (unless faults.WrongMagic magic >>= (λ _. unless faults.OtherTrace uuid >>= (λ _. or_fault faults.UnknownStream o))) ≡ Ok s → o ≡ Some s
checked_there true true (Some t) s e = cc
checked_there true true None s e = absurd (cc)
checked_there true false o s e = absurd (cc)
checked_there false uuid o s e = absurd (cc)

module _ (trace : TraceForm Classes) (reached : Option Reached) where
  checked_named : (header : Option Val) (s : StreamForm Classes) → stream_checked trace reached header ≡ Ok s → stream_named trace.streams (number_in (role (codes "stream_id") trace.packet_header header)) ≡ Some s
  unfolding stream_checked
  checked_named header s checked =
      let named = stream_named trace.streams (number_in (role (codes "stream_id") trace.packet_header header)) in
      same_there reached named s (checked_there (is_magic (role (codes "magic") trace.packet_header header)) (is_of_trace trace.uuid (uuid_field trace.packet_header header)) (stream_of trace reached header) s checked)

-- a packet's context ends no earlier than the bytes that each header and context take
pub front_ends : (trace : TraceClass) (shift : Shift) (reached : Option Reached) (bytes : ℕ) (have : List ℕ) (end first : ℕ) (known after : Known) (s : StreamForm Classes) → FrontTakes trace bytes
    → beginning.Header (trace_form shift trace) reached have end known → stream_checked (trace_form shift trace) reached (values_of known).packet_header ≡ Ok s
    → beginning.Context (trace_form shift trace) reached have s end known first after → 8 * bytes ≤ first
front_ends trace shift reached bytes have end first known after s takes h checked g =
    let tr = trace_form shift trace in
    let named = checked_named tr reached (values_of known).packet_header s checked in
    let there = subst (λ p. asked_at {C = Classes} s.packet_context (front have (values_of known)) p known.spent ≡ Ok g.0) h.2 g.1 in
    let all = takes shift (number_in (role (codes "stream_id") tr.packet_header (values_of known).packet_header)) s named (front have no_values) (front have (values_of known)) 0 known.spent h.0 g.0 h.1 there in
    let same = g.2 in
    omega (arith, all, same)
