-- Stream classes and event classes as data, found by their numbers.
use Rattle.std.proofs.Common.{◌≡◌, ◌==◌, ℕ, ℤ, pos, negsuc, ◌<ℤ◌, ◌≤ℤ◌, nat_abs, ◌<◌, ◌^◌, nat_lt, sym, ◌∙◌, arith, Bool, true, false, List, [], ◌∷◌, map, Option, Some, None, option_map, if◌then◌else◌, refl, ap}
use Rattle.std.proofs.lemmas.Int.{ints}
use Rattle.std.proofs.lemmas.Bool.Decides.{nat_tests}
use Rattle.ctf_packet.specs.Records.{event_numbered}
use Rattle.ctf_class.specs.Items.{first_of_id, only_item}
use Rattle.ctf_class.specs.declared.trace.EventClass.{EventClass}
use Rattle.ctf_class.specs.Streams.{StreamClass}
use Rattle.ctf_clock.specs.declared.moment.Shift.{Shift}
use Rattle.ctf_packet.specs.Classes.{StreamForm, EventForm, Classes, stream_form, event_form}

pub first_stream : (shift : Shift) (id : ℕ) (streams : List StreamClass)
    → option_map (stream_form shift) (first_of_id (λ (s : StreamClass). s.id) id streams) ≡ first_of_id (λ (s : StreamForm Classes). s.id) id (map (stream_form shift) streams)
first_stream shift id [] = refl
first_stream shift id (s ∷ ss) = one (s.id == id) _ _ (first_stream shift id ss)
  where
    one : (b : Bool) (m : Option StreamClass) (n : Option (StreamForm Classes)) → option_map (stream_form shift) m ≡ n → option_map (stream_form shift) (if b then Some s else m) ≡ (if b then Some (stream_form shift s) else n)
    one true m n e = refl
    one false m n e = e

pub only_stream : (shift : Shift) (streams : List StreamClass) → option_map (stream_form shift) (only_item streams) ≡ only_item (map (stream_form shift) streams)
only_stream shift [] = refl
only_stream shift (s ∷ []) = refl
only_stream shift (s ∷ t ∷ ss) = refl

pub first_event : (stream : StreamClass) (id : ℕ) (events : List EventClass)
    → option_map (event_form stream) (first_of_id (λ (s : EventClass). s.id) id events) ≡ first_of_id (λ (s : EventForm Classes). s.id) id (map (event_form stream) events)
first_event stream id [] = refl
first_event stream id (s ∷ ss) = one (s.id == id) _ _ (first_event stream id ss)
  where
    one : (b : Bool) (m : Option EventClass) (n : Option (EventForm Classes)) → option_map (event_form stream) m ≡ n → option_map (event_form stream) (if b then Some s else m) ≡ (if b then Some (event_form stream s) else n)
    one true m n e = refl
    one false m n e = e

pub only_event : (stream : StreamClass) (events : List EventClass) → option_map (event_form stream) (only_item events) ≡ only_item (map (event_form stream) events)
only_event stream [] = refl
only_event stream (s ∷ []) = refl
only_event stream (s ∷ t ∷ ss) = refl

abbrev forms : StreamClass → List (EventForm Classes)
forms stream = map (event_form stream) stream.events

pub number_below : (stream : StreamClass) (z : ℤ) → z <ℤ pos 0 → None ≡ event_numbered (forms stream) z
number_below stream (pos n) h = absurd (omega (arith, ints))
number_below stream (negsuc n) h = refl

pub number_beyond : (stream : StreamClass) (z : ℤ) → pos 18446744073709551615 <ℤ z → None ≡ event_numbered (forms stream) z
number_beyond stream (pos n) h =
    let t : nat_lt n (2 ^ 64) ≡ false = grind (arith, ints, nat_tests) in
    sym (ap (λ b. if b then first_of_id (λ (s : EventForm Classes). s.id) n (forms stream) else None) t)
number_beyond stream (negsuc n) h = absurd (omega (arith, ints))

pub number_within : (stream : StreamClass) (z : ℤ) (n : ℕ) → z ≡ pos n → n < 2 ^ 64 → option_map (event_form stream) (first_of_id (λ (s : EventClass). s.id) n stream.events) ≡ event_numbered (forms stream) z
number_within stream z n e h =
    let t : nat_lt n (2 ^ 64) ≡ true = grind (arith, nat_tests) in
    first_event stream n stream.events
    ∙ (sym (ap (λ b. if b then first_of_id (λ (s : EventForm Classes). s.id) n (forms stream) else None) t)
    ∙ ap (event_numbered (forms stream)) (sym e))

pub number_told : (stream : StreamClass) (z w : ℤ) → w ≡ z → pos 0 ≤ℤ z → z ≤ℤ pos 18446744073709551615 → option_map (event_form stream) (first_of_id (λ (s : EventClass). s.id) (nat_abs w) stream.events) ≡ event_numbered (forms stream) z
number_told stream (pos n) w e low high =
    ap (λ x. option_map (event_form stream) (first_of_id (λ (s : EventClass). s.id) (nat_abs x) stream.events)) e ∙ number_within stream (pos n) n refl (omega (arith, ints))
number_told stream (negsuc n) w e low high = absurd (omega (arith, ints))
