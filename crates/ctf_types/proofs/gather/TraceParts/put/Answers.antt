use Rattle.std.proofs.Common.{length, subst}
use Rattle.ctf_types.specs.Parted.{IsBelow}
use Rattle.ctf_types.proofs.Parting.{with_trace, with_stream, with_event, with_other, on_ok}
use Rattle.ctf_types.proofs.gather.TraceParts.put.Goals as goal

pub returns-in_ok-push-in-Trace-clause-parted : goal.returns-in_ok-push-in-Trace-clause-parted
returns-in_ok-push-in-Trace-clause-parted c rows parted = rw c.in-Trace.is (rw c.in_ok-push-in-Trace.ensures.ok (with_trace rows c.in-Trace.header c.args.self.now parted))

pub returns-in_ok-push-in-Stream-clause-parted : goal.returns-in_ok-push-in-Stream-clause-parted
returns-in_ok-push-in-Stream-clause-parted c rows parted = rw c.in-Stream.is (rw c.in_ok-push-in-Stream.ensures.ok (with_stream rows c.in-Stream.head c.args.self.now parted))

pub returns-in-Event-clause-parted : goal.returns-in-Event-clause-parted
returns-in-Event-clause-parted c rows parted =
    rw c.in-Event.is (on_ok _ _ (λ t e. rw e (with_event rows c.in-Event.place c.in-Event.event c.args.self.now (subst (IsBelow (length c.args.self.now.events)) c.in-Event.is c.requires) parted)) c.push_at.result c.push_at.ensures)

pub returns-in-Other-clause-parted : goal.returns-in-Other-clause-parted
returns-in-Other-clause-parted c rows parted = rw c.in-Other.is (with_other rows c.args.self.now parted)
