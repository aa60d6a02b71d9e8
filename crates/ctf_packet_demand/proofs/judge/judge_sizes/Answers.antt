use Rattle.std.proofs.Common.{◌≡◌, ◌∙◌, Err, rules, option_map, option_copied, ap, sym, codes}
use Rattle.ctf_decode.specs.Views.{form, val}
use Rattle.ctf_packet.specs.Roles as roles
use Rattle.ctf_packet_demand.specs.Wants as wants
use Rattle.ctf_packet_demand.specs.Gives.{begun_of}
use Rattle.ctf_packet_demand.proofs.Sizing.{none_told, some_told, none_possible}
use Rattle.ctf_packet_demand.proofs.judge.judge_sizes.Goals as goal
use Rattle.ctf_packet_demand.proofs.judge.judge_sizes.Goals.{in-None, in-Some}

pub returns-in_err-told_sizes-clause-judged : goal.returns-in_err-told_sizes-clause-judged
returns-in_err-told_sizes-clause-judged c = λ shift values.
    let begun = begun_of shift values c.args.begun in
    let packet = c.number_in-packet.ensures ∙ ap roles.number_in (c.fields_of_roles-sizes.ensures.first ∙ (λ i. roles.role (codes "packet_size") (option_map form (c.context_front-front.ensures i)) (option_map val (option_copied c.args.context)))) in
    let content = c.number_in-content.ensures ∙ ap roles.number_in (c.fields_of_roles-sizes.ensures.second ∙ (λ i. roles.role (codes "content_size") (option_map form (c.context_front-front.ensures i)) (option_map val (option_copied c.args.context)))) in
    let fault = c.in_err-told_sizes.field-0.0 in
    let e : c.from_residual.result ≡ Err fault = search rules in
    rw (e) (sym (λ i. wants.sized begun (packet i) (content i)) ∙ none_possible begun c.number_in-packet.result c.number_in-content.result fault (c.in_err-told_sizes.ensures 0))

pub returns-clause-judged : goal.returns-clause-judged
returns-clause-judged c = λ shift values.
    let begun = begun_of shift values c.args.begun in
    let packet = c.number_in-packet.ensures ∙ ap roles.number_in (c.fields_of_roles-sizes.ensures.first ∙ (λ i. roles.role (codes "packet_size") (option_map form (c.context_front-front.ensures i)) (option_map val (option_copied c.args.context)))) in
    let content = c.number_in-content.ensures ∙ ap roles.number_in (c.fields_of_roles-sizes.ensures.second ∙ (λ i. roles.role (codes "content_size") (option_map form (c.context_front-front.ensures i)) (option_map val (option_copied c.args.context)))) in
    let asks = sym (λ i. wants.sized begun (packet i) (content i)) in
    elim c.match-branch-2.branch [
      | in-None w ↦ rw (w.result-is) (asks ∙ none_told begun c.number_in-packet.result c.number_in-content.result ((rw w.in-None.is at c.in_ok-told_sizes.ensures) 0))
      | in-Some w ↦ rw (w.result-is) (asks ∙ some_told begun c.number_in-packet.result c.number_in-content.result w.in-Some.sizes ((rw w.in-Some.is at c.in_ok-told_sizes.ensures) 0))
    ]
