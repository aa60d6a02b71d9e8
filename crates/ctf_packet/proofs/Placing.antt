-- A packet from its parts.
use Rattle.std.proofs.Common.{◌≡◌, ℕ, ◌+◌, ◌/◌, Option, Result, Ok, sym, ap, ◌∙◌, codes}
use Rattle.std.specs.Prelude.{option_and_then}
use Rattle.ctf_clock.specs.declared.moment.Moment.{Moment}
use Rattle.ctf_clock.specs.Counting.{discarded_between, lost_between}
use Rattle.ctf_decode.specs.Values.{Val}
use Rattle.ctf_packet.specs.Classes.{StreamForm}
use Rattle.ctf_packet.specs.Scopes.{◌>>=◌, Values}
use Rattle.ctf_packet.specs.Roles.{role, number_in}
use Rattle.ctf_packet.specs.Packets.{Opened, clock_before, clock_after, clock_until, moves, since, placed}
use Rattle.ctf_packet.specs.declared.fault.StreamFault.{StreamFault}
use Rattle.ctf_packet.specs.declared.reached.Reached.{Reached}
use Rattle.ctf_packet.specs.declared.sizes.Sizes.{Sizes}

abbrev pub opened : {C : Type 0} → StreamForm C → ℕ → Values → ℕ → Sizes → Option Moment → Option Moment → Option Moment → Option ℕ → Option ℕ → Option ℕ → Option ℕ → Opened C
opened stream start values first sizes before clock until lost dropped discarded number =
    record {
      stream = stream;
      values = values;
      start = start;
      end = start + sizes.packet / 8;
      first = first;
      content = sizes.content;
      before = before;
      clock = clock;
      until = until;
      lost = lost;
      dropped = dropped;
      discarded = discarded;
      number = number;
    }

-- what a packet's context says of it
pub record Says {C : Type 0} (stream : StreamForm C) (reached : Option Reached) (context : Option Val) (lost dropped discarded number : Option ℕ) : Type 0 where
  pub gone : lost ≡ since lost_between (option_and_then (λ (r : Reached). r.number) reached) (role (codes "packet_seq_num") stream.packet_context context)
  pub left_out : dropped ≡ since discarded_between (option_and_then (λ (r : Reached). r.discarded) reached) (role (codes "events_discarded") stream.packet_context context)
  pub count : discarded ≡ number_in (role (codes "events_discarded") stream.packet_context context)
  pub sequence : number ≡ number_in (role (codes "packet_seq_num") stream.packet_context context)

pub placed_ok : {C : Type 0} (stream : StreamForm C) (reached : Option Reached) (start : ℕ) (values : Values) (first : ℕ) (sizes : Sizes) (context : Option Val) (before clock : Option Moment) (lost dropped discarded number : Option ℕ)
    → values.packet_context ≡ context → Ok before ≡ clock_before stream.line reached → Ok clock ≡ clock_after stream.line before (moves stream.packet_context context)
    → Says stream reached context lost dropped discarded number
    → placed stream reached start values first sizes ≡ Ok (opened stream start values first sizes before clock (clock_until stream.line clock (role (codes "timestamp_end") stream.packet_context values.packet_context)) lost dropped discarded number)
unfolding placed
placed_ok {C} stream reached start values first sizes context before clock lost dropped discarded number e f g h =
    let last = λ (x : Option Val) (b k : Option Moment).
    let result : Result (Opened C) StreamFault = Ok (opened stream start values first sizes b k
    (clock_until stream.line k (role (codes "timestamp_end") stream.packet_context x))
    (since lost_between (option_and_then (λ (r : Reached). r.number) reached) (role (codes "packet_seq_num") stream.packet_context x))
    (since discarded_between (option_and_then (λ (r : Reached). r.discarded) reached) (role (codes "events_discarded") stream.packet_context x))
    (number_in (role (codes "events_discarded") stream.packet_context x))
    (number_in (role (codes "packet_seq_num") stream.packet_context x))) in result in
    let second = λ (x : Option Val) (b : Option Moment). clock_after stream.line b (moves stream.packet_context x) >>= (λ k. last x b k) in
    let whole = λ (x : Option Val). clock_before stream.line reached >>= (λ b. second x b) in
    ap whole e
    ∙ (ap (λ r. r >>= (λ b. second context b)) (sym f)
    ∙ (ap (λ r. r >>= (λ k. last context before k)) (sym g)
    ∙ (λ i. Ok (opened stream start values first sizes before clock (clock_until stream.line clock (role (codes "timestamp_end") stream.packet_context (sym e i))) (sym h.gone i) (sym h.left_out i) (sym h.count i) (sym h.sequence i)))))
