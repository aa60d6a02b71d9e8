use Rattle.std.proofs.Common.{◌≡◌, ◌∙◌, option_map, option_copied, ap, codes, List, ℕ}
use Rattle.ctf_clock.specs.Counting as counting
use Rattle.ctf_decode.specs.Views.{form, val}
use Rattle.ctf_packet.specs.Classes.{stream_form}
use Rattle.ctf_packet.specs.Roles as roles
use Rattle.ctf_packet.specs.Packets as packets
use Rattle.ctf_packet.proofs.Placing.{placed_ok}
use Rattle.ctf_packet.proofs.packet.packet_of_sizes.Goals as goal

pub returns-clause-exactly : goal.returns-clause-exactly
returns-clause-exactly c = λ values e.
    let place = c.args.place.now in
    let s = stream_form place.shift c.args.stream.now in
    let context = option_map val (option_copied c.args.context) in
    let front : option_copied c.context_front-front.result ≡ c.args.stream.now.packet_context = c.context_front-front.ensures in
    let line : option_copied c.as_ref.result ≡ s.line = c.as_ref.ensures.value ∙ c.timeline_of-timeline.ensures in
    let line-2 : option_copied c.as_ref-2.result ≡ s.line = c.as_ref-2.ensures.value ∙ c.timeline_of-timeline.ensures in
    let role = λ (name : List ℕ). ap (λ k. roles.role name (option_map form k) context) front in
    let before = c.in_ok-before.ensures ∙ ap (λ l. packets.clock_before l (option_copied place.reached)) line in
    let clock = c.in_ok-clock.ensures ∙ (λ i. packets.clock_after (line-2 i) c.in_ok-before.before (packets.moves (option_map form (front i)) context)) in
    let gone = c.lost_since.ensures ∙ (λ i. packets.since counting.lost_between (c.number_before.ensures i) ((c.fields_of_roles-counts.ensures.first ∙ role (codes "packet_seq_num")) i)) in
    let left_out = c.discarded_since.ensures ∙ (λ i. packets.since counting.discarded_between (c.discarded_before.ensures i) ((c.fields_of_roles-counts.ensures.second ∙ role (codes "events_discarded")) i)) in
    let count = c.number_in-discarded.ensures ∙ ap roles.number_in (c.fields_of_roles-counts.ensures.second ∙ role (codes "events_discarded")) in
    let sequence = c.number_in-sequence.ensures ∙ ap roles.number_in (c.fields_of_roles-counts.ensures.first ∙ role (codes "packet_seq_num")) in
    placed_ok s (option_copied place.reached) place.start values c.args.first c.args.sizes context c.in_ok-before.before c.in_ok-clock.clock c.lost_since.result c.discarded_since.result c.number_in-discarded.result c.number_in-sequence.result e before clock (record { gone = gone; left_out = left_out; count = count; sequence = sequence })
