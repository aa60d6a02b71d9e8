use Rattle.ctf_format.proofs.Chains.{of_ok}
use Rattle.ctf_format.proofs.array.put_row.Goals as goal

pub returns-in_ok-text-in-Some-clause-puts : goal.returns-in_ok-text-in-Some-clause-puts
returns-in_ok-text-in-Some-clause-puts c =
    let is = c.in-Some.ensures in
    rw (← c.end.ensures, is.integer, is.align, is.packet, is.count, is.begins) at (of_ok _ _ c.in_ok-text-in-Some.ensures.value c.put_row.ensures.puts)
