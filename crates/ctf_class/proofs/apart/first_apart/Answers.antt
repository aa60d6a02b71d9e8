use Rattle.std.proofs.Common.{arith}
use Rattle.std.proofs.Math.Facts.{to_z-of_z}
use Rattle.ctf_class.proofs.LabelsLemmas.{only_shown}
use Rattle.ctf_class.proofs.apart.first_apart.Goals as goal

pub returns-in-Some : goal.returns-in-Some
returns-in-Some c =
    only_shown c.args.labels.now c.args.order.now c.args.number 0 c.in-Some.place c.requires.apart c.requires.ranks (rw (to_z-of_z c.ranges.number) at c.in-Some.ensures).here (omega arith)
