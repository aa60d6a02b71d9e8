use Rattle.std.proofs.Common.{◌+◌, map, Some}
use Rattle.ctf_paths.specs.Spots.{earlier_by}
use Rattle.ctf_paths.proofs.Names.{name_of-Member}
use Rattle.ctf_paths.proofs.spot.Spot.member.Goals as goal

pub returns : goal.returns
returns c = λ earlier around i. record {
  scope = c.args.self.now.scope;
  around = around i;
  before = map earlier_by c.args.self.now.before.now;
  member = Some c.args.word.now;
  is_top = c.is_outside.ensures i;
  name = name_of-Member c.args.word record { ref_ptr = (c.args.self.ref_ptr.0, c.args.self.ref_ptr.1 + 64); now = c.args.self.now.name } i;
}
