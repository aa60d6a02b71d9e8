use Rattle.std.proofs.Common.{◌≡◌, ◌+◌, ◌*◌, ◌-◌, ◌≤◌, ◌++◌, length, ℕ, List, Ok}
use Rattle.std.specs.Prelude.{max}
use Rattle.ctf_decode.specs.Values.{Val}
use Rattle.ctf_fetch.specs.Demand.{found_at}
use Rattle.ctf_fetch.specs.Fetching.{longest_bytes}
use Rattle.ctf_fetch.specs.Keeping.{Keeps}
use Rattle.ctf_fetch.proofs.needed.leaf_on_demand.Given as goal

abbrev pub invariant-loop-decoded : goal.invariant-loop-decoded
invariant-loop-decoded g l = record {
  keeps : Keeps g.S.Source l.initial.intake l.intake;
  few : length l.intake.buffer.now ≤ longest_bytes;
  near : (more : List ℕ) (x : Val × ℕ × ℕ) → found_at l.class l.place (l.intake.buffer.now ++ more) ≡ Ok x → 8 * length l.intake.buffer.now ≤ max (8 * length l.initial.intake.buffer.now) (x.1 + 7);
}

abbrev pub decreases-loop-decoded : goal.decreases-loop-decoded
decreases-loop-decoded g l = longest_bytes - length l.intake.buffer.now
