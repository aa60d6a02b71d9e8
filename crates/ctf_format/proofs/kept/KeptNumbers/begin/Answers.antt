use Rattle.ctf_format.proofs.kept.KeptNumbers.begin.Goals as goal

pub returns : goal.returns
returns c = rw c.as_slice.ensures at c.keep_given.ensures
