use Rattle.std.proofs.Common.{rules, ◌≡◌, Some, ap, subst, sym, ◌∙◌}
use Rattle.ctf_packet.specs.Items.{stops}
use Rattle.ctf_fetch.specs.Fetching.{OrNoMemory}
use Rattle.ctf_stream.specs.ReadState.{coming_of, between}
use Rattle.ctf_stream.proofs.ReadStates.{advanced, also_before, if_none, found_at, left_over, at_fault, entered, ended}
use Rattle.ctf_stream.proofs.read_state.ReadState.advance.Goals as goal

pub returns-in-Ok-Some-clause-advances : goal.returns-in-Ok-Some-clause-advances
returns-in-Ok-Some-clause-advances g c = λ tells.
    let ending = g.S.Source.ending c.args.source.now in
    let left = g.S.Source.left c.loop-fault.source in
    let new = c.step_within.new.self in
    advanced _ (coming_of ending left c.loop-fault.self) (coming_of ending left new) new.cut new.scopes new.buffer new.packet left c.in-Ok-Some.front (c.loop-fault.invariant.coming tells)
    (found_at ending left (coming_of ending left c.loop-fault.self) new c.in-Ok-Some.field-0 c.in-Ok-Some.front c.in-Ok-Some.field-0-is (c.in-Ok-Some.ensures.steps ending left))

pub returns-in-Err-enter-clause-advances : goal.returns-in-Err-enter-clause-advances
returns-in-Err-enter-clause-advances g c = λ tells.
    let ending = g.S.Source.ending c.args.source.now in
    let left = g.S.Source.left c.loop-fault.source in
    let middle = c.step_within.new.self in
    let before = c.loop-fault.invariant in
    let steps = left_over ending left _ (coming_of ending left c.loop-fault.self) middle c.in-Ok-None.field-0 (before.coming tells) c.in-Ok-None.field-0-is (c.in-Ok-None.ensures.steps ending left) in
    at_fault _ (coming_of ending left (between middle)) c.enter.new.self.cut.at c.in-Err-enter.fault steps
    (subst (λ e. OrNoMemory (λ f. coming_of e left (between middle) ≡ stops (Some f) c.enter.new.self.cut.at) c.in-Err-enter.fault) (before.ending tells) (c.in-Err-enter.ensures.enters (before.tells tells)))

pub returns-in-Some-clause-advances : goal.returns-in-Some-clause-advances
returns-in-Some-clause-advances g c = λ tells.
    let ending = g.S.Source.ending c.args.source.now in
    let left = g.S.Source.left c.loop-fault.source in
    let middle = c.step_within.new.self in
    let entered_at = c.enter.new.self in
    let after = g.S.Source.left c.enter.new.source in
    let new = c.next_written.new.self in
    let before = c.loop-fault.invariant in
    let steps = left_over ending left _ (coming_of ending left c.loop-fault.self) middle c.in-Ok-None.field-0 (before.coming tells) c.in-Ok-None.field-0-is (c.in-Ok-None.ensures.steps ending left) in
    let enters = entered (g.S.Source.ending c.loop-fault.source) ending left after (between middle) entered_at c.in-Ok-true.field-0 (before.ending tells) c.in-Ok-true.field-0-test (c.in-Ok-true.ensures.enters (before.tells tells)) in
    also_before _ (coming_of ending after entered_at) (coming_of ending after new) new.cut new.scopes new.buffer new.packet after c.in-Some.front (steps ∙ enters) (c.in-Some.ensures.advances ending after)

pub returns-in-Some-next_seldom-clause-advances : goal.returns-in-Some-next_seldom-clause-advances
returns-in-Some-next_seldom-clause-advances g c = λ tells.
    let ending = g.S.Source.ending c.args.source.now in
    let left = g.S.Source.left c.loop-fault.source in
    let middle = c.step_within.new.self in
    let entered_at = c.enter.new.self in
    let after = g.S.Source.left c.enter.new.source in
    let new = c.next_seldom.new.self in
    let before = c.loop-fault.invariant in
    let steps = left_over ending left _ (coming_of ending left c.loop-fault.self) middle c.in-Ok-None.field-0 (before.coming tells) c.in-Ok-None.field-0-is (c.in-Ok-None.ensures.steps ending left) in
    let enters = entered (g.S.Source.ending c.loop-fault.source) ending left after (between middle) entered_at c.in-Ok-true.field-0 (before.ending tells) c.in-Ok-true.field-0-test (c.in-Ok-true.ensures.enters (before.tells tells)) in
    let tried = ap (coming_of ending after) (sym (if_none c.next_written.result _ c.in_default.is c.next_written.ensures.none)) in
    also_before _ (coming_of ending after c.next_written.new.self) (coming_of ending after new) new.cut new.scopes new.buffer new.packet after c.in-Some-next_seldom.front (steps ∙ enters ∙ tried) (c.in-Some-next_seldom.ensures.advances ending after)

pub loop-fault-preserved : goal.loop-fault-preserved
loop-fault-preserved g c =
    let ending = g.S.Source.ending c.args.source.now in
    let left = g.S.Source.left c.loop-fault.source in
    let middle = c.step_within.new.self in
    let new = c.enter.new.self in
    let after = g.S.Source.left c.enter.new.source in
    let before = c.loop-fault.invariant in
    record {
      tells = λ h. c.enter.ensures.tells (before.tells h);
      ending = λ h. c.enter.ensures.same_end (before.tells h) ∙ before.ending h;
      coming = (λ h.
          let steps = left_over ending left _ (coming_of ending left c.loop-fault.self) middle c.in-Ok-None.field-0 (before.coming h) c.in-Ok-None.field-0-is (c.in-Ok-None.ensures.steps ending left) in
          steps ∙ entered (g.S.Source.ending c.loop-fault.source) ending left after (between middle) new c.in-Ok-true.field-0 (before.ending h) c.in-Ok-true.field-0-test (c.in-Ok-true.ensures.enters (before.tells h)) ∙ ap (coming_of ending after) (sym (if_none c.next_written.result _ c.in_default.is c.next_written.ensures.none)) ∙ ap (coming_of ending after) (sym (if_none c.next_seldom.result _ c.in_default-next_seldom.is c.next_seldom.ensures.none)));
      counted = (λ h. search rules);
      forward = search rules;
      trace = search rules;
      stands = search rules;
      shared = search rules;
      writes = search rules;
      room = search rules;
    }

pub returns-in-Ok-false-clause-advances : goal.returns-in-Ok-false-clause-advances
returns-in-Ok-false-clause-advances g c = λ tells.
    let ending = g.S.Source.ending c.args.source.now in
    let left = g.S.Source.left c.loop-fault.source in
    let middle = c.step_within.new.self in
    let new = c.enter.new.self in
    let before = c.loop-fault.invariant in
    let steps = left_over ending left _ (coming_of ending left c.loop-fault.self) middle c.in-Ok-None.field-0 (before.coming tells) c.in-Ok-None.field-0-is (c.in-Ok-None.ensures.steps ending left) in
    let over = ended (g.S.Source.ending c.loop-fault.source) ending left (g.S.Source.left c.enter.new.source) (between middle) new c.in-Ok-false.field-0 (before.ending tells) c.in-Ok-false.field-0-test (c.in-Ok-false.ensures.enters (before.tells tells)) in
    (steps ∙ over.0, over.1)
