use Rattle.std.proofs.Common.{arith}
use Rattle.std.proofs.lemmas.List.{length-set}
use Rattle.ctf_format.proofs.DigitsLemmas.{length_octal}
use Rattle.ctf_format.proofs.number.put_number.Goals as goal

pub put_octal-requires : goal.put_octal-requires
put_octal-requires c =
    let zero_written = length-set c.args.line.now c.args.at 48 in
    omega (arith, length_octal c.pattern-in-Octal.result (omega arith))
