use Rattle.std.proofs.Common.{arith}
use Rattle.std.proofs.lemmas.List.FromFn.{get_or-map-range_with_len}
use Rattle.ctf_digits.specs.Pairs.{pair}
use Rattle.ctf_digits.proofs.pairs.two_digits.Goals as goal

-- the table is the list of the pairs of 0 to 99
pub returns : goal.returns
returns c = get_or-map-range_with_len pair 0 100 c.args.number c.args.number 0 c.requires (omega arith)
