-- What is decoded while the bytes of a packet come.
use Rattle.std.specs.Prelude.{◌≡◌, ℕ, ◌+◌, ◌*◌, ◌<◌, ◌≤◌, min, max, List, [], ◌++◌, length, map, Option, Some, Ok, Err}
use Rattle.std.specs.Int.{next_multiple_of}
use Rattle.ctf_bits.specs.declared.source.Ending.{Ending}
use Rattle.ctf_class.specs.declared.class.Class.{Class}
use Rattle.ctf_class.specs.declared.class.Member.{Member}
use Rattle.ctf_class.specs.declared.trace.TraceClass.{TraceClass}
use Rattle.ctf_clock.specs.declared.moment.Shift.{Shift}
use Rattle.ctf_decode.specs.Values.{Val}
use Rattle.ctf_decode.specs.Forms.{Form, parts_of}
use Rattle.ctf_decode.specs.Input.{Input, Env}
use Rattle.ctf_decode.specs.Stands.{Stands, StandsRow, StandsMembers}
use Rattle.ctf_decode.specs.Breaks.{Fault}
use Rattle.ctf_decode.specs.Known.{Known}
use Rattle.ctf_decode.specs.Views.{form, member_part, val, env, input_in}
use Rattle.ctf_decode.specs.Walk.{Step, and_then, begin, open_at, repeat, with_option, as_group, as_list, as_choice, string_at, walk, walk_members, walk_option}
use Rattle.ctf_decode.specs.declared.decoding.Decoded.{Decoded}
use Rattle.ctf_decode.specs.declared.scopes.TheConstants.{MOST_VALUES}
use Rattle.ctf_packet.specs.Classes.{Classes, StreamForm, trace_form}
use Rattle.ctf_packet.specs.Packets.{stream_named}
use Rattle.ctf_packet.specs.Scopes.{Stood, longest, fault_in_front}
use Rattle.ctf_packet.specs.declared.fault.StreamFault.{StreamFault}
use Rattle.ctf_packet_demand.specs.Wants.{asked_at}
use Rattle.ctf_fetch.specs.declared.demand.ValuePlace.{ValuePlace}

-- the first bytes of a packet, as far as one may reach, and the values of the scopes before
abbrev pub there : List ℕ → Known → Input
there bytes known = input_in bytes (min (8 * length bytes) longest) known

abbrev pub input_at : ValuePlace → List ℕ → Input
input_at place bytes = there bytes place.scopes.now

-- what the function on lists finds at a place in these bytes: of a class
abbrev pub found_at : Class → ValuePlace → List ℕ → Step Val
found_at class place bytes =
    walk (form class) (input_at place bytes) (env place.frame.now) place.end place.spent

-- of the members of a structure that was opened
abbrev pub members_at : List Member → ValuePlace → List ℕ → Step Val
members_at members place bytes =
    and_then
    (walk_members (parts_of (map member_part members)) (input_at place bytes)
    (env place.frame.now) [] place.end place.spent) as_group

-- of so many elements of an array that was opened
abbrev pub elements_at : Class → ℕ → ValuePlace → List ℕ → Step Val
elements_at element count place bytes =
    and_then
    (repeat (walk (form element) (input_at place bytes) (env place.frame.now)) count [] place.end
    place.spent) as_list

-- of the options of a variant, of which one was chosen or none
abbrev pub option_in : List Member → ℕ → ValuePlace → List ℕ → Step Val
option_in options i place bytes =
    and_then
    (walk_option (parts_of (map member_part options)) i (input_at place bytes)
    (env place.frame.now) place.end (place.spent + 1)) (as_choice i)

abbrev pub options_at : List Member → Option ℕ → ValuePlace → List ℕ → Step Val
options_at options chosen place bytes =
    begin (input_at place bytes) place.spent
    (with_option chosen (λ i. option_in options i place bytes))

-- of a string, of which a value was begun
abbrev pub text_at : ValuePlace → List ℕ → Step Val
text_at place bytes = string_at (input_at place bytes) (next_multiple_of place.end 8) place.spent

-- whatever follows them, a string that is there ends in the last of these bytes or after them, but for so many that
-- were there before
abbrev pub EndsNear : ValuePlace → ℕ → List ℕ → Type 0
EndsNear place before bytes =
    (more : List ℕ) (x : Val × ℕ × ℕ) → text_at place (bytes ++ more) ≡ Ok x
    → 8 * length bytes ≤ max (8 * before) (x.1 + 7)

-- it was found
abbrev pub IsFound : Step Val → Decoded → Type 0
IsFound step d = step ≡ Ok (val d.value, d.end, d.spent)

-- a step that has this fault, as the stream's
abbrev pub Failed : {A : Type 0} → Ending → Step A → StreamFault → Type 0
Failed ending step fault = (f : Fault) × (step ≡ Err f) × (fault ≡ fault_in_front ending f)

-- a place after the opening of a structure or an array, which is at a bit
pub record IsOpened (place : ValuePlace) (b : ℕ) (inner : ValuePlace) : Type 0 where
  pub begun : place.spent < MOST_VALUES
  pub end : inner.end ≡ b
  pub spent : inner.spent ≡ place.spent + 1
  pub scopes : inner.scopes.now ≡ place.scopes.now
  pub frame : inner.frame.now ≡ place.frame.now

-- the fault of what would be opened at a bit, whatever its parts are
abbrev pub FailsToOpen : Ending → ValuePlace → ℕ → List ℕ → StreamFault → Type 0
FailsToOpen ending place b bytes fault =
    (parts : Step Val)
    → Failed ending
    (begin (input_at place bytes) place.spent (open_at (input_at place bytes) b parts)) fault

-- wherever a value of this class is, it takes so many bits at least
abbrev pub TakesAtLeast : Class → ℕ → Type 0
TakesAtLeast class n =
    (c : Input) (e : Env) (p : ℕ) (v : Val) (q : ℕ) → Stands (form class) c e p v q → p + n ≤ q

-- so do all these members of a structure
abbrev pub MembersTake : List Member → ℕ → Type 0
MembersTake members n =
    (c : Input) (e : Env) (done : List Val) (p : ℕ) (vs : List Val) (q : ℕ)
    → StandsMembers (parts_of (map member_part members)) c e done p vs q → p + n ≤ q

-- and so many elements of an array
abbrev pub ElementsTake : Class → ℕ → ℕ → Type 0
ElementsTake element count n =
    (c : Input) (e : Env) (done : List Val) (p : ℕ) (vs : List Val) (q : ℕ)
    → StandsRow (Stands (form element) c e) count done p vs q → p + n ≤ q

-- a scope of this class, or of none, takes so many bits at least
abbrev pub ScopeTakes : Option Form → ℕ → Type 0
ScopeTakes k n =
    (c : Input) (p s : ℕ) (x : Stood) → asked_at {C = Classes} k c p s ≡ Ok x → p + n ≤ x.end

-- so does the context of each packet of a trace
abbrev pub ContextTakes : TraceClass → ℕ → Type 0
ContextTakes trace n =
    (shift : Shift) (id : Option ℕ) (stream : StreamForm Classes)
    → stream_named (trace_form shift trace).streams id ≡ Some stream
    → ScopeTakes stream.packet_context n

-- the header and the context of each packet of a trace take so many bytes at least
abbrev pub FrontTakes : TraceClass → ℕ → Type 0
FrontTakes trace bytes =
    (shift : Shift) (id : Option ℕ) (stream : StreamForm Classes)
    → stream_named (trace_form shift trace).streams id ≡ Some stream
    → (c d : Input) (s t : ℕ) (x y : Stood)
    → asked_at {C = Classes} (trace_form shift trace).packet_header c 0 s ≡ Ok x
    → asked_at {C = Classes} stream.packet_context d x.end t ≡ Ok y → 8 * bytes ≤ y.end

-- whatever bytes are there, a value of this class at a place takes so many bits at least
abbrev pub TakesAt : Class → ValuePlace → ℕ → Type 0
TakesAt class place n =
    (bytes : List ℕ) (v : Val) (q : ℕ)
    → Stands (form class) (input_at place bytes) (env place.frame.now) place.end v q
    → place.end + n ≤ q

-- and ends at this bit at least
abbrev pub EndsAtLeast : Class → ValuePlace → ℕ → Type 0
EndsAtLeast class place end =
    (bytes : List ℕ) (x : Val × ℕ × ℕ) → found_at class place bytes ≡ Ok x → end ≤ x.1
