use Rattle.std.proofs.Common.{◌+◌, ◌≤◌, option_copied, take}
use Rattle.ctf_class.specs.Streams.{ArePlans, planned_classes}
use Rattle.ctf_class.proofs.trace.plans_of.Given as goal

abbrev pub invariant-loop-event : goal.invariant-loop-event
invariant-loop-event l = record {
  plans : ArePlans (option_copied l.context) (take l.event-index l.events) l.plans;
  less : l.room.left ≤ l.initial.room.left;
  paid : l.room.left + planned_classes (option_copied l.context) (take l.event-index l.events) l.plans ≤ l.initial.room.left;
}
