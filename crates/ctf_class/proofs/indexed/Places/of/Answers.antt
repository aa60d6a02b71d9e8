use Rattle.std.proofs.Common.{rules}
use Rattle.ctf_class.proofs.PlacesLemmas.{counted-firsts}
use Rattle.ctf_class.proofs.indexed.Places.of.Goals as goal

pub returns-then-are_counted : goal.returns-then-are_counted
returns-then-are_counted g c =
    record { firsts = λ id. counted-firsts g.T.HasId.id_of c.args.items.now id (c.if-are_counted.ensures (search rules)) }
