use Rattle.std.proofs.Common.{take, codes}
use Rattle.std.proofs.Math.Facts.{to_z-of_z}
use Rattle.ctf_format.specs.Numbers.{number_text}
use Rattle.ctf_format.proofs.Chains.{three}
use Rattle.ctf_format.proofs.label.put_container.Goals as goal

pub returns-clause-text : goal.returns-clause-text
returns-clause-text c =
    let number = rw (to_z-of_z c.ranges.number) at c.put_contained-end.ensures.text in
    three (take c.args.at c.args.line.now) (codes " : container = ") (number_text c.args.container.now c.args.number) (codes " )") _ _ _ c.put_short_bytes-begin.ensures.text number c.put_after_space.ensures.text
