use Rattle.std.proofs.Common.{arith}
use Rattle.std.proofs.lemmas.List.FromFn.{get_or-map-range_with_len}
use Rattle.ctf_digits.specs.Triples.{triple}
use Rattle.ctf_digits.proofs.triples.three_digits.Goals as goal

-- the table is the list of the triples of 0 to 999
pub returns : goal.returns
returns c = get_or-map-range_with_len triple 0 1000 c.args.number c.args.number 0 c.requires (omega arith)
