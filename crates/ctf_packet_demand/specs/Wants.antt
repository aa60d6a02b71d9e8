-- What the first bytes of a packet ask for.
use Rattle.std.specs.Prelude.{ℕ, List, [], Option, Some, None, Result, Ok, Err, if◌then◌else◌, codes}
use Rattle.ctf_decode.specs.Forms.{Form}
use Rattle.ctf_decode.specs.Input.{Input}
use Rattle.ctf_decode.specs.Values.{Val}
use Rattle.ctf_decode.specs.Breaks.{Fault, too_many, past, no_option}
use Rattle.ctf_decode.specs.Walk.{Step, walk}
use Rattle.ctf_packet.specs.Classes.{StreamForm, TraceForm}
use Rattle.ctf_packet.specs.Scopes.{Values, no_values, Stood}
use Rattle.ctf_packet.specs.Roles.{role, number_in}
use Rattle.ctf_packet.specs.Packets.{front, stream_checked, sizes_of, are_possible}
use Rattle.ctf_packet.specs.declared.reached.Reached.{Reached}
use Rattle.ctf_packet.specs.declared.sizes.Sizes.{Sizes}
use Rattle.ctf_packet.specs.declared.fault.StreamFault.{StreamFault}
use Rattle.ctf_packet.specs.declared.fault.StreamFault.TheVariants as faults

-- a packet whose header and context were decoded: its stream class, the values of both, and the bit at which the
-- context ends
pub record Begun (C : Type 0) : Type 0 where
  pub stream : StreamForm C
  pub values : Values
  pub first : ℕ

-- what a packet asks for, of which some first bytes are there
pub data Want (C : Type 0) : Type 0 where
  -- a packet of at least so many bits: its header or context goes on
  more : ℕ → Want C
  -- the packet, of these sizes
  whole : Begun C → Sizes → Want C
  -- all that is left of the stream
  rest : Begun C → Want C
  -- nothing: this fault is there
  faulty : StreamFault → Want C

-- what is found, and what follows from it; or what is wanted for it
infixl 10 ◌>>=◌
abbrev pub ◌>>=◌ : {A C : Type 0} → Result A (Want C) → (A → Want C) → Want C
Ok x >>= next = next x
Err want >>= next = want

-- what a header or a context that has a fault asks for (own)
abbrev pub missing : {C : Type 0} → Fault → Want C
missing too_many = faulty faults.TooManyValues
missing no_option = faulty faults.NoOption
missing (past e) = more e

abbrev pub asked : {C : Type 0} → Step Val → Result Stood (Want C)
asked (Ok x) = Ok (record { value = Some x.0; end = x.1; spent = x.2 })
asked (Err fault) = Err (missing fault)

-- the value of a header or a context at a place, after so many values, or what it asks for; without a class it is
-- empty
abbrev pub asked_at : {C : Type 0} → Option Form → Input → ℕ → ℕ → Result Stood (Want C)
asked_at None input place spent = Ok (record { value = None; end = place; spent = spent })
asked_at (Some class) input place spent = asked (walk class input [] place spent)

-- go on with what was found
abbrev pub or_faulty : {A C : Type 0} → Result A StreamFault → Result A (Want C)
or_faulty (Ok x) = Ok x
or_faulty (Err fault) = Err (faulty fault)

-- a packet of sizes that can be
abbrev pub if_possible : {C : Type 0} → Begun C → Sizes → Want C
if_possible begun sizes =
    if are_possible sizes begun.first then whole begun sizes else faulty faults.ImpossibleSizes

-- a packet that gives a size or two; with neither it is the rest of the stream (CTF 1.8.3, section 5.2)
abbrev pub sized : {C : Type 0} → Begun C → Option ℕ → Option ℕ → Want C
sized begun None None = rest begun
sized begun (Some packet) content = if_possible begun (sizes_of (Some packet) content 0)
sized begun None (Some content) = if_possible begun (sizes_of None (Some content) 0)

-- What a packet asks for that begins with these bytes, where its stream has come so far: its header, its stream class,
-- its context and its sizes are judged in this order (CTF 1.8.3, section 5; the order is own).
unfoldable pub wanted : {C : Type 0} → TraceForm C → Option Reached → List ℕ → Want C
wanted trace reached have = do
  header ← asked_at trace.packet_header (front have no_values) 0 0
  stream ← or_faulty (stream_checked trace reached header.value)
  let known = record no_values { packet_header = header.value }
  context ← asked_at stream.packet_context (front have known) header.end header.spent
  let size = λ (name : List ℕ). number_in (role name stream.packet_context context.value)
  sized
      (record {
        stream = stream;
        values = record known { packet_context = context.value };
        first = context.end;
      })
      (size (codes "packet_size")) (size (codes "content_size"))
