use Rattle.std.proofs.Common.{◌≡◌, ◌-◌, [], length, option_map, ap, sym, ◌∙◌, arith}
use Rattle.ctf_bits.specs.declared.source.Ending.TheVariants.{Clean}
use Rattle.ctf_decode.specs.Views.{val}
use Rattle.ctf_packet.specs.Items.{discarded}
use Rattle.ctf_packet.specs.Views.{values_of, packet_values}
use Rattle.ctf_stream.specs.Owned.{gap_of}
use Rattle.ctf_stream.specs.Reader.{item}
use Rattle.ctf_stream.specs.Standing.{item_at}
use Rattle.ctf_stream.proofs.ReadStates.{inside}
use Rattle.ctf_stream.proofs.read_state.ReadState.give.Goals as goal

pub returns-in_ok-gap-in-Discarded-clause-given : goal.returns-in_ok-gap-in-Discarded-clause-given
returns-in_ok-gap-in-Discarded-clause-given c =
    let read_state = c.args.self.now in
    let p = c.in-Some.packet in
    let stands = inside read_state.cut Clean [] read_state.buffer read_state.taken read_state.packet p c.in-Some.is c.requires.stands in
    let told = c.clock_at_end.ensures (packet_values (values_of read_state.scopes)) (ap (option_map val) (sym c.get.ensures)) in
    let size : p.opened.end - p.opened.start ≡ length read_state.buffer = omega (arith, stands.fetched.starts, stands.fetched.ends) in
    (λ i. item_at read_state (c.in-Some.is i) (c.in-Discarded.is i))
    ∙ (λ i. item (discarded (record {
      count = c.in-Discarded.count;
      clock = p.opened.clock;
      from = p.opened.before;
      to = sym told i;
      packet_end = sym stands.here i;
      packet_length = size i;
    })))
    ∙ ap (λ g. item (discarded (gap_of g read_state.taken (length read_state.buffer)))) (sym c.in_ok-gap-in-Discarded.ensures)
