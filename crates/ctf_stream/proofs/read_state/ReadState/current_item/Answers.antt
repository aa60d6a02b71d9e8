use Rattle.std.proofs.Common.{◌-◌, Option, Some, option_map, take, ap, refl, subst, sym, ◌∙◌}
use Rattle.ctf_clock.specs.declared.moment.Moment.{Moment}
use Rattle.ctf_decode.specs.Views.{val}
use Rattle.ctf_packet.specs.Items.{discarded, gap_of}
use Rattle.ctf_packet.specs.Views.{values_of, packet_values}
use Rattle.ctf_stream.specs.Coming.{opened_in}
use Rattle.ctf_stream.specs.ReadState.{IsPartOf, HoldsIn}
use Rattle.ctf_stream.specs.Reader.{item_ahead}
use Rattle.ctf_stream.specs.Standing.{item_at}
use Rattle.ctf_stream.proofs.Written.{the_event, text_is}
use Rattle.ctf_stream.proofs.read_state.ReadState.current_item.Goals as goal

pub returns-in-Event-clause-tells : goal.returns-in-Event-clause-tells
returns-in-Event-clause-tells c =
    let p = c.in-Some.packet.opened in
    let read_state = c.args.self.now in
    let made = subst (IsPartOf (packet_values (values_of read_state.scopes)) read_state.line.part) c.in-Some.is c.requires.part in
    let holds = subst (HoldsIn read_state (Some c.in-Some.packet)) c.in-Event.is (subst (λ o. HoldsIn read_state o c.args.front.now) c.in-Some.is c.requires.holds) in
    ((p.end, (p.end - p.start, (λ i. item_ahead (item_at read_state (c.in-Some.is i) (c.in-Event.is i))))), (refl, c.as_slice.ensures ∙ made holds))

pub returns-in-Written-clause-tells : goal.returns-in-Written-clause-tells
returns-in-Written-clause-tells c =
    let read_state = c.args.self.now in
    let p = c.in-Some.packet in
    let w = c.in-Written.written in
    let made = subst (IsPartOf (packet_values (values_of read_state.scopes)) read_state.line.part) c.in-Some.is c.requires.part in
    let holds = subst (HoldsIn read_state (Some p)) c.in-Written.is (subst (λ o. HoldsIn read_state o c.args.front.now) c.in-Some.is c.requires.holds) in
    (the_event read_state.cut.shift read_state.scopes read_state.buffer p w.read, (λ i. item_ahead (item_at read_state (c.in-Some.is i) (c.in-Written.is i))), refl, ap (take w.end) c.deref.ensures.value ∙ text_is read_state.writes read_state.cut.shift read_state.scopes read_state.buffer read_state.line.part read_state.line.bytes.items p w holds.1 holds.0 made)

pub returns-in-Passed-clause-tells : goal.returns-in-Passed-clause-tells
returns-in-Passed-clause-tells c =
    let read_state = c.args.self.now in
    (the_event read_state.cut.shift read_state.scopes read_state.buffer c.in-Some.packet c.in-Passed.read, (λ i. item_ahead (item_at read_state (c.in-Some.is i) (c.in-Passed.is i))), refl)

pub returns-in-Discarded-clause-tells : goal.returns-in-Discarded-clause-tells
returns-in-Discarded-clause-tells c =
    let read_state = c.args.self.now in
    let p = c.in-Some.packet.opened in
    let told = c.clock_at_end.ensures (packet_values (values_of read_state.scopes)) (ap (option_map val) (sym c.get.ensures)) in
    let gap = λ (to : Option Moment). Some (discarded (gap_of (opened_in read_state.cut.shift read_state.scopes p) c.in-Discarded.count to)) in
    ((p.end, (p.end - p.start, (λ i. item_ahead (item_at read_state (c.in-Some.is i) (c.in-Discarded.is i))) ∙ ap gap (sym told))), refl)

pub returns-in-Lost-clause-tells : goal.returns-in-Lost-clause-tells
returns-in-Lost-clause-tells c =
    let p = c.in-Some.packet.opened in
    ((p.end, (p.end - p.start, (λ i. item_ahead (item_at c.args.self.now (c.in-Some.is i) (c.in-Lost.is i))))), refl)
