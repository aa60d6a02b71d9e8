-- All packets of a stream have one stream class.
use Rattle.std.proofs.Common.{◌≡◌, ◌==◌, ℕ, Bool, true, false, List, [], ◌∷◌, Option, Some, None, option_and_then, Ok, codes, if◌then◌else◌, refl, sym, ap, subst, ◌∙◌, arith}
use Rattle.std.proofs.lemmas.Bool.Decides.{nat_tests}
use Rattle.ctf_class.specs.Items.{first_of_id, only_item}
use Rattle.ctf_decode.specs.Values.{Val}
use Rattle.ctf_packet.specs.Classes.{StreamForm, TraceForm}
use Rattle.ctf_packet.specs.Roles.{role, number_in, is_magic, uuid_field, is_of_trace}
use Rattle.ctf_packet.specs.Packets.{unless, or_fault, stream_named, same_stream, stream_of, stream_checked}
use Rattle.ctf_packet.specs.declared.reached.Reached.{Reached}
use Rattle.ctf_packet.specs.declared.fault.StreamFault.{StreamFault}
use Rattle.ctf_packet.specs.declared.fault.StreamFault.TheVariants as faults
use Rattle.ctf_packet.proofs.Going.{first}

itself : (n : ℕ) → (n == n) ≡ true
itself n = grind (arith, nat_tests)

module _ {C : Type 0} where
  -- the stream class that its number finds
  abbrev pub IsNamed : List (StreamForm C) → StreamForm C → Type 0
  IsNamed streams s = first_of_id (λ (stream : StreamForm C). stream.id) s.id streams ≡ Some s

  found : (id : ℕ) (streams : List (StreamForm C)) (s : StreamForm C) → first_of_id (λ (stream : StreamForm C). stream.id) id streams ≡ Some s → s.id ≡ id
  found id [] s h = cc
  found id (t ∷ ts) s h = one (t.id == id) refl (found id ts s) h
    where
      one : (b : Bool) → (t.id == id) ≡ b → (first_of_id (λ (stream : StreamForm C). stream.id) id ts ≡ Some s → s.id ≡ id) → (if b then Some t else first_of_id (λ (stream : StreamForm C). stream.id) id ts) ≡ Some s → s.id ≡ id
      one true e go g =
          let i : t ≡ s = cc in
          let j : t.id ≡ s.id = ap (λ (x : StreamForm C). x.id) i in
          let k : t.id ≡ id = grind (arith, nat_tests) in
          sym j ∙ k
      one false e go g = go g

  only : (streams : List (StreamForm C)) (s : StreamForm C) → only_item streams ≡ Some s → IsNamed streams s
  only [] s h = cc
  only (t ∷ []) s h =
      let i : t ≡ s = cc in
      subst (λ (x : StreamForm C). first_of_id (λ (stream : StreamForm C). stream.id) x.id (t ∷ []) ≡ Some x) i (ap (λ b. if b then Some t else None) (itself t.id))
  only (t ∷ u ∷ us) s h = cc

  named : (streams : List (StreamForm C)) (id : Option ℕ) (s : StreamForm C) → stream_named streams id ≡ Some s → IsNamed streams s
  named streams (Some id) s h = ap (λ n. first_of_id (λ (stream : StreamForm C). stream.id) n streams) (found id streams s h) ∙ h
  named streams None s h = only streams s h

  -- the stream class that was reached
  abbrev pub IsSame : Option Reached → StreamForm C → Type 0
  IsSame None s = Unit {0}
  IsSame (Some r) s = s.id ≡ r.stream

  pub same : (reached : Option Reached) (s t : StreamForm C) → same_stream reached s ≡ Some t → (s ≡ t) × IsSame reached t
  same None s t h = (cc, tt)
  same (Some r) s t h = one (s.id == r.stream) refl h
    where
      one : (b : Bool) → (s.id == r.stream) ≡ b → (if b then Some s else None) ≡ Some t → (s ≡ t) × (t.id ≡ r.stream)
      one true e g =
          let i : s ≡ t = cc in
          let j : s.id ≡ t.id = ap (λ (x : StreamForm C). x.id) i in
          let k : s.id ≡ r.stream = grind (arith, nat_tests) in
          (i, sym j ∙ k)
      one false e g = cc

  both : (streams : List (StreamForm C)) (id : Option ℕ) (reached : Option Reached) (s : StreamForm C) (o : Option (StreamForm C)) → stream_named streams id ≡ o → option_and_then (same_stream reached) o ≡ Some s → IsNamed streams s × IsSame reached s
  both streams id reached s None e h = cc
  both streams id reached s (Some t) e h =
      let g = same reached t s h in
      (subst (IsNamed streams) g.0 (named streams id t e), g.1)

  pub there : (f : StreamFault) (o : Option (StreamForm C)) (s : StreamForm C) → or_fault f o ≡ Ok s → o ≡ Some s
  there f None s h = cc
  there f (Some t) s h = cc

  -- a stream class that was checked
  pub checked : (trace : TraceForm C) (reached : Option Reached) (header : Option Val) (s : StreamForm C) → stream_checked trace reached header ≡ Ok s → IsNamed trace.streams s × IsSame reached s
  unfolding stream_checked
  checked trace reached header s h =
      let a = first (unless faults.WrongMagic (is_magic (role (codes "magic") trace.packet_header header))) _ s h in
      let b = first (unless faults.OtherTrace (is_of_trace trace.uuid (uuid_field trace.packet_header header))) _ s a.2 in
      both trace.streams (number_in (role (codes "stream_id") trace.packet_header header)) reached s _ refl (there faults.UnknownStream (stream_of trace reached header) s b.2)
