use Rattle.std.proofs.Common.{◌≡◌, ◌≤◌}
use Rattle.ctf_class.specs.Records.{IsShown}
use Rattle.ctf_class.specs.declared.class.Class.{Class}
use Rattle.ctf_decode.specs.declared.scopes.TheConstants.{MOST_VALUES}
use Rattle.ctf_format.specs.Branches.{Anywhere}
use Rattle.ctf_format.proofs.BranchesLemmas.{PassesGoing}
use Rattle.ctf_format.proofs.passed_row.pass_shown_row.Given as goal

abbrev pub invariant-loop-i : goal.invariant-loop-i
invariant-loop-i l = record {
  within : l.at ≤ l.packet.end;
  few : l.more ≤ MOST_VALUES;
  begun : l.i ≡ 0 → l.at ≡ l.place;
  none : l.i ≡ 0 → l.more ≡ 0;
  going : (k : Class) → IsShown 0 k l.shown → PassesGoing Anywhere k l.count l.packet l.place l.i l.at l.more;
}
