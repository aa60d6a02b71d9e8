use Rattle.std.proofs.Common.{◌≡◌, ◌+◌, ◌<◌, ◌≤◌, ◌++◌, [], None, take, length, sym, ap, subst, ◌∙◌, append-nil, rules, arith}
use Rattle.std.proofs.lemmas.List.{length-take-le}
use Rattle.ctf_class.specs.Records.{all_slots, ended_last, ends, scopes_of, values_in}
use Rattle.ctf_decode.specs.declared.scopes.TheConstants.{MOST_VALUES}
use Rattle.ctf_format.specs.Branches.{come}
use Rattle.ctf_format.specs.Records.{ScopesFollow}
use Rattle.ctf_format.proofs.KeptLemmas.{before_given, knows_first}
use Rattle.ctf_format.proofs.RecordsLemmas.{numbers_to, scopes_ordered, scopes_puts, scopes_some}
use Rattle.ctf_format.proofs.planned_record.put_planned_record.Goals as goal

pub put_record_fields-requires-clause-is : goal.put_record_fields-requires-clause-is
put_record_fields-requires-clause-is c =
    let plan = c.args.plan.now in
    let some : 0 < length plan.runs = search (rules, arith) in
    let is = c.requires.plan.1 some in
    record { depth = is.1.4; slots = all_slots [] plan.given is.1.0; are = is.1.5 }

pub returns-clause-puts : goal.returns-clause-puts
returns-clause-puts c = λ shared own fields planned earlier begins.
    let classes = scopes_of shared own fields in
    let plan = c.args.plan.now in
    let bytes = c.args.packet.now.bytes.now in
    let content = c.args.packet.now.end in
    let place = c.args.from.place in
    let spent = c.args.from.spent in
    let to = c.in_ok-ends.ends in
    let before = take c.args.from.end c.args.buffer.now.items in
    let after = take c.in_ok-end.end c.put_ends.new.buffer.items in
    let some : 0 < length plan.runs = search (rules, arith) in
    let packets = (planned some).0 in
    let is = (planned some).1 in
    let given = plan.given in
    let kept = c.args.kept.now.numbers in
    let ns = take (length given) kept in
    let slots = all_slots [] given is.0 in
    let puts = c.in_ok-ends.ensures.puts is.4 slots is.5 in
    let line = puts.1 in
    let whole = scopes_puts classes is.0 2 [] given bytes content spent (numbers_to place 0 None before) (come to line) ns puts.0 (scopes_some shared own fields) is.1 (scopes_ordered shared own fields) (before_given given packets) (sym (length-take-le (length given) kept begins.0)) puts.2 in
    let count = c.from.result + to.more in
    let sum : count ≡ plan.count + to.more = search rules in
    let total : spent + values_in is.0 + whole.0 ≡ spent + count = omega (arith, is.2, whole.1, sum) in
    let few : spent + count ≤ MOST_VALUES = search (rules, arith) in
    let closed = line ++ ends (ended_last 0 is.0) in
    let text : closed ≡ after = ap (λ n. line ++ ends n) (sym is.3) ∙ sym (c.in_ok-end.ensures.puts line puts.3) in
    subst (λ n. ScopesFollow classes earlier bytes content place spent to.place n before after) total
    (subst (λ xs. ScopesFollow classes earlier bytes content place spent to.place (spent + values_in is.0 + whole.0) before xs) text
    (subst (λ xs. ScopesFollow classes earlier bytes content place spent to.place (spent + values_in is.0 + whole.0) xs closed) (append-nil before) (whole.2 (omega (arith, few, total)) earlier (knows_first given kept earlier [] begins.1))))
