use Rattle.std.proofs.Common.{[], ◌≡◌, ◌++◌, ◌∙◌, IsTrue, map, option_copied, ap, rules, subst}
use Rattle.ctf_class.specs.PlanBuilding.{IsMadeOf, moved_by}
use Rattle.ctf_class.specs.Records.{and_scope, scopes_of}
use Rattle.ctf_class.specs.declared.known.Move.TheVariants.{Within}
use Rattle.ctf_class.specs.declared.route.Scope.TheVariants.{StreamEventContext, EventContext}
use Rattle.ctf_class.proofs.RecordsLemmas.{finished, moved_within, scopes_are}
use Rattle.ctf_class.proofs.record_plan.RecordPlan.new.Goals as goal

pub returns-then-branch-3 : goal.returns-then-branch-3
returns-then-branch-3 c =
    let given = c.in_ok-given.given in
    let packets = c.in_ok-given.ensures in
    let same : c.in_ok-known.known ≡ given = c.in_ok-known.ensures ∙ ap (map (moved_by Within)) c.as_slice.ensures ∙ moved_within given in
    let none : IsMadeOf given [] c.new-builder.result = subst (λ rs. IsMadeOf rs [] c.new-builder.result) same c.new-builder.ensures.made in
    let stream_context = option_copied c.args.stream_context in
    let event_context = option_copied c.args.event_context in
    let fields = c.args.fields.now in
    let one : IsTrue c.in_ok-add_optional.field-0 = search rules in
    let two : IsTrue c.in_ok-add_optional-2.field-0 = search rules in
    let three : IsTrue c.in_ok-add_scope.field-0 = search rules in
    let first = c.in_ok-add_optional.ensures.made one given [] none in
    let second = c.in_ok-add_optional-2.ensures.made two given (and_scope StreamEventContext stream_context []) first in
    let third = c.in_ok-add_scope.ensures.made three given (and_scope StreamEventContext stream_context [] ++ and_scope EventContext event_context []) second in
    let all : IsMadeOf given (scopes_of stream_context event_context fields) c.add_scope.new.self = subst (λ ks. IsMadeOf given ks c.add_scope.new.self) (scopes_are stream_context event_context fields) third in
    let ks = scopes_of stream_context event_context fields in
    finished given ks c.add_scope.new.self c.finish.result packets all c.finish.ensures.fields c.finish.ensures.given c.finish.ensures.count c.finish.ensures.ended
