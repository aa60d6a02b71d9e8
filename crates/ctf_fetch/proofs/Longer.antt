-- Bytes after a packet's content are in none of its event records.
use Rattle.std.proofs.Common.{◌≡◌, ℕ, ◌*◌, ◌≤◌, not, List, [], arith, ◌++◌, length, take, drop, Option, Some, None, Ok, Err, refl, sym, ap, ◌∙◌}
use Rattle.std.specs.Prelude.{◌==◌}
use Rattle.std.specs.List.{last_or}
use Rattle.std.proofs.lemmas.List.{take-append-drop}
use Rattle.ctf_class.specs.declared.route.Scope.TheVariants.{EventHeader, StreamEventContext, EventContext, EventFields}
use Rattle.ctf_clock.specs.declared.moment.Moment.{Moment}
use Rattle.ctf_decode.specs.Values.{Val}
use Rattle.ctf_decode.specs.Forms.{Form}
use Rattle.ctf_decode.specs.Breaks.{Fault, too_many, past, no_option}
use Rattle.ctf_decode.specs.Walk.{Step, walk}
use Rattle.ctf_decode.specs.declared.scopes.TheConstants.{MOST_VALUES}
use Rattle.ctf_packet.specs.Classes.{StreamForm}
use Rattle.ctf_packet.specs.Packets.{Opened, unless, or_fault, moves, clock_after}
use Rattle.ctf_packet.specs.Records.{event_named, ids_in, headed, bodied, record_at}
use Rattle.ctf_packet.specs.Scopes.{◌>>=◌, Values, input_of, value_in, put, stood, scope_at, fault_in_record}
use Rattle.ctf_packet.specs.declared.fault.StreamFault.TheVariants as faults
use Rattle.ctf_packet_demand.proofs.Lasting.{Answers, Lasts, walk_more, walk_beyond}

module _ (bytes more : List ℕ) (content : ℕ) (held : content ≤ 8 * length bytes) where
  -- a place that a value needs lies past the content, whatever bytes there are
  walk_longer : (k : Form) (values : Values) (place spent : ℕ) → walk k (input_of (bytes ++ more) content values) [] place spent ≡ walk k (input_of bytes content values) [] place spent
  walk_longer k values place spent = same (walk k (input_of bytes content values) [] place spent) refl (walk_more bytes more content content MOST_VALUES (value_in values) (omega arith) held k [] place spent)
    where
      longer : Step Val
      longer = walk k (input_of (bytes ++ more) content values) [] place spent

      lasts : (f : Fault) → walk k (input_of bytes content values) [] place spent ≡ Err f → Lasts content f
      lasts too_many is = tt
      lasts no_option is = tt
      lasts (past e) is = walk_beyond bytes more content content MOST_VALUES (value_in values) (omega arith) held k [] place spent e is

      same : (r : Step Val) → walk k (input_of bytes content values) [] place spent ≡ r → Answers content r longer → longer ≡ r
      same (Ok x) is answers = answers
      same (Err f) is answers = answers (lasts f is)

  scope_longer : (k : Option Form) (values : Values) (place spent : ℕ) → scope_at fault_in_record k (input_of (bytes ++ more) content values) place spent ≡ scope_at fault_in_record k (input_of bytes content values) place spent
  scope_longer None values place spent = refl
  scope_longer (Some k) values place spent = ap (stood fault_in_record) (walk_longer k values place spent)

  headed_longer : {C : Type 0} (stream : StreamForm C) (values : Values) (clock : Option Moment) (place : ℕ) → headed stream (bytes ++ more) content values clock place ≡ headed stream bytes content values clock place
  unfolding headed
  headed_longer stream values clock place = λ i. do
    header ← scope_longer stream.event_header values place 0 i
    next ← clock_after stream.line clock (moves stream.event_header header.value)
    event ← or_fault faults.UnknownEvent (event_named stream.events (last_or None (ids_in stream.event_header header.value)))
    Ok (record { event = event; clock = next; header = header })

  bodied_longer : (shared_class own_class : Option Form) (fields_class : Form) (values : Values) (place spent : ℕ) → bodied shared_class own_class fields_class (bytes ++ more) content values place spent ≡ bodied shared_class own_class fields_class bytes content values place spent
  unfolding bodied
  bodied_longer shared_class own_class fields_class values place spent = λ i. do
    shared ← scope_longer shared_class values place spent i
    let with_shared = put StreamEventContext shared.value values
    own ← scope_longer own_class with_shared shared.end shared.spent i
    let with_own = put EventContext own.value with_shared
    fields ← scope_longer (Some fields_class) with_own own.end own.spent i
    Ok (record { values = put EventFields fields.value with_own; end = fields.end })

record_longer : {C : Type 0} (packet : Opened C) (bytes more : List ℕ) → packet.content ≤ 8 * length bytes → (clock : Option Moment) (place : ℕ) → record_at packet (bytes ++ more) clock place ≡ record_at packet bytes clock place
unfolding record_at
record_longer packet bytes more held clock place = λ i. do
  let stream = packet.stream
  head ← headed_longer bytes more packet.content held stream packet.values clock place i
  let values = put EventHeader head.header.value packet.values
  body ← bodied_longer bytes more packet.content held stream.event_context head.event.context head.event.fields values head.header.end head.header.spent i
  some_bits ← unless faults.EmptyEvent (not (body.end == place))
  Ok (record { event = head.event; clock = head.clock; values = body.values; end = body.end })

-- what bytes that begin with those of a packet are
begun_with : (bytes padded : List ℕ) → take (length bytes) padded ≡ bytes → padded ≡ bytes ++ drop (length bytes) padded
begun_with bytes padded begins = sym (take-append-drop (length bytes) padded) ∙ ap (λ xs. xs ++ drop (length bytes) padded) begins

-- they have its values
pub walk_held : (k : Form) (values : Values) (bytes padded : List ℕ) (content : ℕ) → content ≤ 8 * length bytes → take (length bytes) padded ≡ bytes → (place spent : ℕ) → walk k (input_of padded content values) [] place spent ≡ walk k (input_of bytes content values) [] place spent
walk_held k values bytes padded content held begins place spent =
    ap (λ xs. walk k (input_of xs content values) [] place spent) (begun_with bytes padded begins) ∙ walk_longer bytes (drop (length bytes) padded) content held k values place spent

-- they have its event records
pub record_held : {C : Type 0} (packet : Opened C) (bytes padded : List ℕ) → packet.content ≤ 8 * length bytes → take (length bytes) padded ≡ bytes → (clock : Option Moment) (place : ℕ) → record_at packet padded clock place ≡ record_at packet bytes clock place
record_held packet bytes padded held begins clock place =
    ap (λ xs. record_at packet xs clock place) (begun_with bytes padded begins) ∙ record_longer packet bytes (drop (length bytes) padded) held clock place
