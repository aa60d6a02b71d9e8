use Rattle.std.proofs.Common.{◌+◌, ◌/◌, ◌-◌, ◌≤◌, length}
use Rattle.std.specs.Prelude.{max}
use Rattle.ctf_fetch.specs.Demand.{EndsNear}
use Rattle.ctf_fetch.specs.Fetching.{longest_bytes}
use Rattle.ctf_fetch.specs.Keeping.{Keeps}
use Rattle.ctf_fetch.proofs.Parts.{first_bit, NoZero}
use Rattle.ctf_fetch.proofs.needed.take_text.Given as goal

abbrev pub invariant-loop-next : goal.invariant-loop-next
invariant-loop-next g l = record {
  keeps : Keeps g.S.Source l.initial.intake l.intake;
  few : length l.intake.buffer.now ≤ longest_bytes;
  after : first_bit l.place / 8 ≤ l.next;
  within : l.next ≤ max (length l.intake.buffer.now) (first_bit l.place / 8);
  none : NoZero l.place l.intake.buffer.now l.next;
  near : EndsNear l.place (length l.initial.intake.buffer.now) l.intake.buffer.now;
}

abbrev pub decreases-loop-next : goal.decreases-loop-next
decreases-loop-next g l = longest_bytes + 1 - l.next
