-- What is in a scope, by the function on lists.
use Rattle.std.proofs.Common.{◌≡◌, ℕ, ◌+◌, ◌≤◌, List, [], Option, Some, None, Ok, Err, option_map, option_copied, Bor, inl, inr, refl, sym, ap, ◌∙◌, subst}
use Rattle.ctf_class.specs.declared.class.Class.{Class}
use Rattle.ctf_class.specs.declared.route.Scope.{Scope}
use Rattle.ctf_class.specs.declared.route.Scope.TheVariants.{PacketHeader, PacketContext, EventHeader, StreamEventContext, EventContext, EventFields}
use Rattle.ctf_decode.specs.Values.{Val, count}
use Rattle.ctf_decode.specs.Forms.{Form}
use Rattle.ctf_decode.specs.Known.{Known, with_value, without_value, with_spent}
use Rattle.ctf_decode.specs.Stands.{Stands}
use Rattle.ctf_decode.specs.Breaks.{Fault, Breaks, past, no_option, too_many}
use Rattle.ctf_decode.specs.Walk.{Step, walk}
use Rattle.ctf_decode.specs.Gives.{Fails, Told}
use Rattle.ctf_decode.specs.Input.{Input}
use Rattle.ctf_decode.specs.Views.{form, val, earlier, input_in}
use Rattle.ctf_decode.specs.declared.scopes.TheConstants.{MOST_VALUES}
use Rattle.ctf_decode.specs.declared.value.Value.{Value}
use Rattle.ctf_decode.specs.declared.fault.DecodeFault.{DecodeFault}
use Rattle.ctf_decode.specs.declared.fault.DecodeFault.TheVariants.{ContentEnds, NoOption, TooManyValues, NoMemory}
use Rattle.ctf_decode.proofs.Only.{walk_only}
use Rattle.ctf_packet.specs.Scopes.{Values, value_in, input_of, put, stood, scope_at}
use Rattle.ctf_packet.specs.Views.{values_of, IsTold, PutsValue, PutsScope}
use Rattle.ctf_packet.specs.declared.fault.StreamFault.{StreamFault}

same_value : (known : Known) (scope : Scope) → earlier known scope ≡ value_in (values_of known) scope
same_value known PacketHeader = refl
same_value known PacketContext = refl
same_value known EventHeader = refl
same_value known StreamEventContext = refl
same_value known EventContext = refl
same_value known EventFields = refl

same_input : (bytes : List ℕ) (content : ℕ) (known : Known) → input_in bytes content known ≡ input_of bytes content (values_of known)
same_input bytes content known = λ i. record { packet = bytes; content = content; earlier = λ scope. same_value known scope i; limit = MOST_VALUES }

pub without_is : (known : Known) (scope : Scope) → values_of (without_value known scope) ≡ put scope None (values_of known)
without_is known PacketHeader = refl
without_is known PacketContext = refl
without_is known EventHeader = refl
without_is known StreamEventContext = refl
without_is known EventContext = refl
without_is known EventFields = refl

pub without_spent : (known : Known) (scope : Scope) → (without_value known scope).spent ≡ known.spent
without_spent known PacketHeader = refl
without_spent known PacketContext = refl
without_spent known EventHeader = refl
without_spent known StreamEventContext = refl
without_spent known EventContext = refl
without_spent known EventFields = refl

pub with_is : (known : Known) (scope : Scope) (value : Value) → values_of (with_value known scope value) ≡ put scope (Some (val value)) (values_of known)
with_is known PacketHeader value = refl
with_is known PacketContext value = refl
with_is known EventHeader value = refl
with_is known StreamEventContext value = refl
with_is known EventContext value = refl
with_is known EventFields value = refl

walked_ok : (k : Form) (bytes : List ℕ) (content : ℕ) (known : Known) (place : ℕ) (v : Val) (q t : ℕ) → Stands k (input_in bytes content known) [] place v q → t ≡ known.spent + count v → t ≤ MOST_VALUES
    → walk k (input_of bytes content (values_of known)) [] place known.spent ≡ Ok (v, q, t)
walked_ok k bytes content known place v q t h e l =
    let c = input_in bytes content known in
    ap (λ (x : Input). walk k x [] place known.spent) (sym (same_input bytes content known)) ∙ sym (walk_only k c [] place known.spent (Ok (v, q, t)) (h, e, l))

walked_err : (k : Form) (bytes : List ℕ) (content : ℕ) (known : Known) (place : ℕ) (f : DecodeFault) → Told (Breaks k (input_in bytes content known) [] place known.spent) f
    → Fails f (walk k (input_of bytes content (values_of known)) [] place known.spent)
walked_err k bytes content known place (ContentEnds e) h =
    ap (λ (x : Input). walk k x [] place known.spent) (sym (same_input bytes content known)) ∙ sym (walk_only k (input_in bytes content known) [] place known.spent (Err (past e)) h)
walked_err k bytes content known place NoOption h =
    ap (λ (x : Input). walk k x [] place known.spent) (sym (same_input bytes content known)) ∙ sym (walk_only k (input_in bytes content known) [] place known.spent (Err no_option) h)
walked_err k bytes content known place TooManyValues h =
    ap (λ (x : Input). walk k x [] place known.spent) (sym (same_input bytes content known)) ∙ sym (walk_only k (input_in bytes content known) [] place known.spent (Err too_many) h)
walked_err k bytes content known place NoMemory h = tt

-- the value at a place, put into its scope
pub puts_ok : (k : Form) (bytes : List ℕ) (content : ℕ) (old after : Known) (scope : Scope) (place : ℕ) (value : Value) (q t : ℕ)
    → Stands k (input_in bytes content old) [] place (val value) q → t ≡ old.spent + count (val value) → t ≤ MOST_VALUES → after ≡ with_spent (with_value old scope value) t
    → PutsValue scope (values_of old) (walk k (input_of bytes content (values_of old)) [] place old.spent) (Ok q) after
puts_ok k bytes content old after scope place value q t h f l g =
    let count-after : t ≡ after.spent = sym (ap (λ (x : Known). x.spent) g) in
    (val value, walked_ok k bytes content old place (val value) q t h f l ∙ ap (λ x. Ok (val value, q, x)) count-after, ap values_of g ∙ with_is old scope value)

pub puts_err : (k : Form) (bytes : List ℕ) (content : ℕ) (old after : Known) (scope : Scope) (place : ℕ) (f : DecodeFault) → Told (Breaks k (input_in bytes content old) [] place old.spent) f
    → PutsValue scope (values_of old) (walk k (input_of bytes content (values_of old)) [] place old.spent) (Err f) after
puts_err k bytes content old after scope place f h = walked_err k bytes content old place f h

-- the same with the stream's faults
pub told_ok : (told : Fault → StreamFault) (scope : Scope) (before : Values) (step : Step Val) (q : ℕ) (after : Known) → PutsValue scope before step (Ok q) after → PutsScope scope before (stood told step) (Ok q) after
told_ok told scope before step q after h =
    (record { value = Some h.0; end = q; spent = after.spent }, ap (stood told) h.1, refl, refl, h.2)

pub told_err : (told : Fault → StreamFault) (scope : Scope) (before : Values) (step : Step Val) (f : DecodeFault) (fault : StreamFault) (after : Known) → PutsValue scope before step (Err f) after → IsTold told f fault
    → PutsScope scope before (stood told step) (Err fault) after
told_err told scope before step (ContentEnds e) fault after h g = inl (ap (stood told) h ∙ ap Err (sym g))
told_err told scope before step NoOption fault after h g = inl (ap (stood told) h ∙ ap Err (sym g))
told_err told scope before step TooManyValues fault after h g = inl (ap (stood told) h ∙ ap Err (sym g))
told_err told scope before step NoMemory fault after h g = inr g

-- a scope without a class
pub told_none : (scope : Scope) (old after : Known) (place : ℕ) → after ≡ without_value old scope
    → PutsScope scope (values_of old) (Ok (record { value = None; end = place; spent = old.spent })) (Ok place) after
told_none scope old after place e =
    (record { value = None; end = place; spent = old.spent }, refl, refl, ap (λ (x : Known). x.spent) e ∙ without_spent old scope, ap values_of e ∙ without_is old scope)

-- a class behind a reference
abbrev pub form_of : Option (Bor Class) → Option Form
form_of class = option_map form (option_copied class)

pub at_none : (told : Fault → StreamFault) (k : Option Form) (input : Input) (scope : Scope) (old after : Known) (place : ℕ) → k ≡ None → after ≡ without_value old scope
    → PutsScope scope (values_of old) (scope_at told k input place old.spent) (Ok place) after
at_none told k input scope old after place e h =
    subst (λ (x : Option Form). PutsScope scope (values_of old) (scope_at told x input place old.spent) (Ok place) after) (sym e) (told_none scope old after place h)

pub at_ok : (told : Fault → StreamFault) (k : Option Form) (f : Form) (near input : Input) (scope : Scope) (before : Values) (place spent q : ℕ) (after : Known) → k ≡ Some f → near ≡ input
    → PutsValue scope before (walk f near [] place spent) (Ok q) after → PutsScope scope before (scope_at told k input place spent) (Ok q) after
at_ok told k f near input scope before place spent q after e g h =
    subst (λ (x : Option Form). PutsScope scope before (scope_at told x input place spent) (Ok q) after) (sym e)
    (subst (λ (x : Input). PutsScope scope before (scope_at told (Some f) x place spent) (Ok q) after) g (told_ok told scope before (walk f near [] place spent) q after h))

pub at_err : (told : Fault → StreamFault) (k : Option Form) (f : Form) (near input : Input) (scope : Scope) (before : Values) (place spent : ℕ) (d : DecodeFault) (fault : StreamFault) (after : Known) → k ≡ Some f → near ≡ input
    → PutsValue scope before (walk f near [] place spent) (Err d) after → IsTold told d fault → PutsScope scope before (scope_at told k input place spent) (Err fault) after
at_err told k f near input scope before place spent d fault after e g h i =
    subst (λ (x : Option Form). PutsScope scope before (scope_at told x input place spent) (Err fault) after) (sym e)
    (subst (λ (x : Input). PutsScope scope before (scope_at told (Some f) x place spent) (Err fault) after) g (told_err told scope before (walk f near [] place spent) d fault after h i))
