use Rattle.std.proofs.Common.{◌≡◌, ap, refl, subst, ◌∙◌}
use Rattle.ctf_packet.specs.Views.{values_of, packet_values}
use Rattle.ctf_stream.specs.ReadState.{coming_at, StandsAt}
use Rattle.ctf_stream.proofs.ReadStates.{follows, inside, takes_item, is_over, still_known}
use Rattle.ctf_stream.proofs.read_state.ReadState.step_within.Goals as goal

pub returns-in-Ok-Some-clause-steps : goal.returns-in-Ok-Some-clause-steps
returns-in-Ok-Some-clause-steps c = λ ending left.
    let old = c.args.self.now in
    let p = c.in-Some.packet in
    let stands = inside old.cut ending left old.buffer old.taken old.packet p c.in-Some.is c.requires.stands in
    takes_item old.cut ending left old.buffer old.packet old.scopes c.next.new.scopes p c.next.new.self c.in-Ok-Some.field-0 c.in-Ok-Some.front c.in-Some.is c.next.ensures.opened c.in-Ok-Some.ensures.packet c.in-Ok-Some.field-0-is
    (c.in-Ok-Some.ensures.takes old.cut.shift (follows old.cut ending left old.buffer old.scopes p) stands.fetched.line)

pub returns-in-Ok-None-clause-steps : goal.returns-in-Ok-None-clause-steps
returns-in-Ok-None-clause-steps c = λ ending left.
    let old = c.args.self.now in
    let new = c.leave.new.self in
    let p = c.in-Some.packet in
    let stands = inside old.cut ending left old.buffer old.taken old.packet p c.in-Some.is c.requires.stands in
    let over = is_over old.cut ending left old.buffer new.cut old.packet old.scopes c.next.new.scopes p c.next.new.self c.in-Ok-None.field-0 c.reached_after-reached.result c.in-Some.is c.next.ensures.opened c.in-Ok-None.field-0-is
    (c.in-Ok-None.ensures.takes old.cut.shift (follows old.cut ending left old.buffer old.scopes p) stands.fetched.line)
    c.reached_after-reached.ensures c.leave.ensures.trace c.leave.ensures.shift c.leave.ensures.reached (c.leave.ensures.at ∙ stands.here) in
    (over, refl)

pub returns-in-Ok-None-clause-shared : goal.returns-in-Ok-None-clause-shared
returns-in-Ok-None-clause-shared c =
    let old = c.args.self.now in
    let new = c.leave.new.self in
    let values : packet_values (values_of new.scopes) ≡ packet_values (values_of old.scopes) = ap (λ k. packet_values (values_of k)) c.leave.ensures.scopes ∙ c.in-Ok-None.ensures.packet in
    record {
      part = tt;
      header = still_known old.cut.trace.now new.cut.trace.now old.packet_scratch new.packet_scratch (packet_values (values_of old.scopes)) (packet_values (values_of new.scopes)) (ap (λ t. t.now) c.leave.ensures.trace) c.leave.ensures.scratch values c.requires.shared.header;
    }

pub returns-in-None-clause-steps : goal.returns-in-None-clause-steps
returns-in-None-clause-steps c = λ ending left.
    let old = c.args.self.now in
    (ap (coming_at old.cut ending left old.scopes old.buffer) c.in-None.is, refl)

pub returns-in-None-clause-stands : goal.returns-in-None-clause-stands
returns-in-None-clause-stands c =
    let old = c.args.self.now in
    subst (StandsAt old.cut old.buffer old.taken) c.in-None.is c.requires.stands
