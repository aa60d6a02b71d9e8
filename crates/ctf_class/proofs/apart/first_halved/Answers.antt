use Rattle.std.proofs.Math.Facts.{to_z-of_z}
use Rattle.ctf_class.proofs.LabelsLemmas.{first_of_ranks}
use Rattle.ctf_class.proofs.apart.first_halved.Goals as goal

pub returns : goal.returns
returns c =
    first_of_ranks c.args.labels.now c.args.order.now c.args.number c.requires.apart c.requires.ranks c.halved_label.result (rw (to_z-of_z c.ranges.number) at c.halved_label.ensures)
