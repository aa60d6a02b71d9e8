use Rattle.std.proofs.Common.{arith}
use Rattle.std.proofs.lemmas.List.FromFn.{get_or-map-range_with_len}
use Rattle.ctf_digits.specs.Fours.{few}
use Rattle.ctf_digits.proofs.fours.few_digits.Goals as goal

-- the table is the list of the digits of 0 to 9999
pub returns : goal.returns
returns c = get_or-map-range_with_len few 0 10000 c.args.number c.args.number 0 c.requires (omega arith)
