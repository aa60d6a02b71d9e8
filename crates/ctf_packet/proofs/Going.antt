-- Event records go on, whatever bounds their number.
use Rattle.std.proofs.Common.{◌≡◌, ◌==◌, ℕ, zero, suc, ◌-◌, ◌<◌, ◌≤◌, Bool, true, false, not, List, [], ◌∷◌, Option, Some, None, Result, Ok, Err, nat_lt, if◌then◌else◌, refl, sym, ap, ◌∙◌, arith}
use Rattle.std.proofs.lemmas.Bool.Decides.{nat_tests}
use Rattle.std.specs.List.{last_or}
use Rattle.ctf_clock.specs.declared.moment.Moment.{Moment}
use Rattle.ctf_class.specs.declared.route.Scope.TheVariants.{EventHeader, StreamEventContext, EventContext, EventFields}
use Rattle.ctf_decode.specs.Values.{Val}
use Rattle.ctf_decode.specs.Forms.{Form}
use Rattle.ctf_decode.specs.Input.{Input}
use Rattle.ctf_decode.specs.Breaks.{Fault}
use Rattle.ctf_decode.specs.Laws.{Is}
use Rattle.ctf_decode.specs.Walk.{Step, walk}
use Rattle.ctf_decode.proofs.Sound.{walk_is}
use Rattle.ctf_packet.specs.Classes.{StreamForm}
use Rattle.ctf_packet.specs.Scopes.{◌>>=◌, Values, put, input_of, Stood, stood, scope_at, fault_in_record}
use Rattle.ctf_packet.specs.Packets.{Opened, unless, or_fault, moves, clock_after}
use Rattle.ctf_packet.specs.Records.{Headed, headed, Body, bodied, Recorded, record_at, event_named, ids_in}
use Rattle.ctf_packet.specs.Items.{Run, before, item_of, recorded, from_record, from_place}
use Rattle.ctf_packet.specs.declared.fault.StreamFault.{StreamFault}
use Rattle.ctf_packet.specs.declared.fault.StreamFault.TheVariants as faults
use Rattle.ctf_packet.proofs.Forward.{forward}

-- what a chain gave, its first step gave
pub first : {A B : Type 0} (m : Result A StreamFault) (f : A → Result B StreamFault) (y : B) → (m >>= f) ≡ Ok y → (x : A) × (m ≡ Ok x) × (f x ≡ Ok y)
first (Ok x) f y h = (x, refl, h)
first (Err e) f y h = cc

walked : (k : Form) (c : Input) (p s : ℕ) (told : Fault → StreamFault) (r : Step Val) (w : Stood) → Is k c [] p s r → stood told r ≡ Ok w → p ≤ w.end
walked k c p s told (Ok x) w h e =
    let l : p ≤ x.1 = forward k c [] p x.0 x.1 h.0 in
    let g : record { value = Some x.0; end = x.1; spent = x.2 } ≡ w = cc in
    let i : x.1 ≡ w.end = ap (λ (z : Stood). z.end) g in omega arith
walked k c p s told (Err f) w h e = cc

pub scope_forward : (told : Fault → StreamFault) (k : Option Form) (c : Input) (p s : ℕ) (w : Stood) → scope_at told k c p s ≡ Ok w → p ≤ w.end
scope_forward told None c p s w e =
    let g : record { value = None; end = p; spent = s } ≡ w = cc in
    let i : p ≡ w.end = ap (λ (z : Stood). z.end) g in omega arith
scope_forward told (Some k) c p s w e = walked k c p s told (walk k c [] p s) w (walk_is k c [] p s) e

head_forward : {C : Type 0} (stream : StreamForm C) (bytes : List ℕ) (content : ℕ) (values : Values) (clock : Option Moment) (place : ℕ) (h : Headed C) → headed stream bytes content values clock place ≡ Ok h → place ≤ h.header.end
unfolding headed
head_forward {C} stream bytes content values clock place h e =
    let a = first (scope_at fault_in_record stream.event_header (input_of bytes content values) place 0) _ h e in
    let b = first (clock_after stream.line clock (moves stream.event_header (a.0).value)) _ h a.2 in
    let d = first (or_fault faults.UnknownEvent (event_named stream.events (last_or None (ids_in stream.event_header (a.0).value)))) _ h b.2 in
    let g : ◌≡◌ {A = Headed C} (record { event = d.0; clock = b.0; header = a.0 }) h = cc (d.2) in
    let i : (a.0).end ≡ h.header.end = ap (λ (z : Headed C). z.header.end) g in
    let l = scope_forward fault_in_record stream.event_header (input_of bytes content values) place 0 a.0 a.1 in omega arith

body_forward : (k l : Option Form) (m : Form) (bytes : List ℕ) (content : ℕ) (values : Values) (place spent : ℕ) (b : Body) → bodied k l m bytes content values place spent ≡ Ok b → place ≤ b.end
unfolding bodied
body_forward k l m bytes content values place spent b e =
    let x = first (scope_at fault_in_record k (input_of bytes content values) place spent) _ b e in
    let with_shared = put StreamEventContext (x.0).value values in
    let y = first (scope_at fault_in_record l (input_of bytes content with_shared) (x.0).end (x.0).spent) _ b x.2 in
    let with_own = put EventContext (y.0).value with_shared in
    let z = first (scope_at fault_in_record (Some m) (input_of bytes content with_own) (y.0).end (y.0).spent) _ b y.2 in
    let g : ◌≡◌ {A = Body} (record { values = put EventFields (z.0).value with_own; end = (z.0).end }) b = cc (z.2) in
    let i : (z.0).end ≡ b.end = ap (λ (w : Body). w.end) g in
    let p = scope_forward fault_in_record k (input_of bytes content values) place spent x.0 x.1 in
    let q = scope_forward fault_in_record l (input_of bytes content with_shared) (x.0).end (x.0).spent y.0 y.1 in
    let r = scope_forward fault_in_record (Some m) (input_of bytes content with_own) (y.0).end (y.0).spent z.0 z.1 in
    omega arith

some_bits : (a b : ℕ) (x : Bool) → unless faults.EmptyEvent (not (a == b)) ≡ Ok x → a ≡ b → ⊥
some_bits a b x h e = let t : (a == b) ≡ true = grind (arith, nat_tests) in let g : unless faults.EmptyEvent (not true) ≡ Ok x = ap (λ y. unless faults.EmptyEvent (not y)) (sym t) ∙ h in cc

-- a record ends after the place where it begins
pub record_forward : {C : Type 0} (packet : Opened C) (bytes : List ℕ) (clock : Option Moment) (place : ℕ) (r : Recorded C) → record_at packet bytes clock place ≡ Ok r → place < r.end
unfolding record_at
record_forward {C} packet bytes clock place r e =
    let a = first (headed packet.stream bytes packet.content packet.values clock place) _ r e in
    let head = a.0 in
    let v = put EventHeader head.header.value packet.values in
    let b = first (bodied packet.stream.event_context head.event.context head.event.fields bytes packet.content v head.header.end head.header.spent) _ r a.2 in
    let d = first (unless faults.EmptyEvent (not ((b.0).end == place))) _ r b.2 in
    let g : ◌≡◌ {A = Recorded C} (record { event = head.event; clock = head.clock; values = (b.0).values; end = (b.0).end }) r = cc (d.2) in
    let i : (b.0).end ≡ r.end = ap (λ (w : Recorded C). w.end) g in
    let p = head_forward packet.stream bytes packet.content packet.values clock place head a.1 in
    let q = body_forward packet.stream.event_context head.event.context head.event.fields bytes packet.content v head.header.end head.header.spent b.0 b.1 in
    let n = some_bits (b.0).end place d.0 d.1 in
    omega (arith, n)

module _ {C : Type 0} (packet : Opened C) (bytes : List ℕ) (follows : Option Moment → Run C) where
  ended : (n : ℕ) (clock : Option Moment) (place : ℕ) → packet.content ≤ place → from_record n packet bytes clock place follows ≡ follows clock
  ended zero clock place h = refl
  ended (suc n) clock place h =
      let t : nat_lt place packet.content ≡ false = grind (arith, nat_tests) in
      ap (λ b. if b then recorded packet (λ next end. from_record n packet bytes next end follows) (record_at packet bytes clock place) else follows clock) t

  same : (m n : ℕ) (ih : (clock : Option Moment) (place : ℕ) → packet.content - place ≤ m → packet.content - place ≤ n → from_record m packet bytes clock place follows ≡ from_record n packet bytes clock place follows) (clock : Option Moment) (place : ℕ)
      → packet.content - place ≤ suc m → packet.content - place ≤ suc n → (r : Result (Recorded C) StreamFault) → record_at packet bytes clock place ≡ r
      → recorded packet (λ next end. from_record m packet bytes next end follows) r ≡ recorded packet (λ next end. from_record n packet bytes next end follows) r
  same m n ih clock place h g (Err f) e = refl
  same m n ih clock place h g (Ok r) e =
      let l : place < r.end = record_forward packet bytes clock place r e in
      ap (before (item_of packet r ∷ [])) (ih r.clock r.end (omega arith) (omega arith))

  -- any bound that is large enough will do
  pub enough : (m n : ℕ) (clock : Option Moment) (place : ℕ) → packet.content - place ≤ m → packet.content - place ≤ n → from_record m packet bytes clock place follows ≡ from_record n packet bytes clock place follows
  enough zero n clock place h g = sym (ended n clock place (omega arith))
  enough (suc m) zero clock place h g = ended (suc m) clock place (omega arith)
  enough (suc m) (suc n) clock place h g =
      ap (λ x. if nat_lt place packet.content then x else follows clock) (same m n (λ c p x y. enough m n c p x y) clock place h g (record_at packet bytes clock place) refl)

  step : (m : ℕ) (clock : Option Moment) (place : ℕ) → packet.content - place ≤ suc m → (r : Result (Recorded C) StreamFault) → record_at packet bytes clock place ≡ r
      → recorded packet (λ next end. from_record m packet bytes next end follows) r ≡ recorded packet (λ next end. from_place packet bytes next end follows) r
  step m clock place h (Err f) e = refl
  step m clock place h (Ok r) e =
      let l : place < r.end = record_forward packet bytes clock place r e in
      ap (before (item_of packet r ∷ [])) (enough m (packet.content - r.end) r.clock r.end (omega arith) (omega arith))

  pub goes_on : (clock : Option Moment) (place : ℕ) → place < packet.content → from_place packet bytes clock place follows ≡ recorded packet (λ next end. from_place packet bytes next end follows) (record_at packet bytes clock place)
  goes_on clock place h =
      let m = packet.content - place - 1 in
      let e : packet.content - place ≡ suc m = omega arith in
      let t : nat_lt place packet.content ≡ true = grind (arith, nat_tests) in
      ap (λ n. from_record n packet bytes clock place follows) e
      ∙ (ap (λ b. if b then recorded packet (λ next end. from_record m packet bytes next end follows) (record_at packet bytes clock place) else follows clock) t
      ∙ step m clock place (omega arith) (record_at packet bytes clock place) refl)

  pub ends : (clock : Option Moment) (place : ℕ) → packet.content ≤ place → from_place packet bytes clock place follows ≡ follows clock
  ends clock place h = ended (packet.content - place) clock place h
