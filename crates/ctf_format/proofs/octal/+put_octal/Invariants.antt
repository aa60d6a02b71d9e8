use Rattle.ctf_format.proofs.octal.+put_octal.Given as goal

abbrev pub decreases-put_octal : goal.decreases-put_octal
decreases-put_octal l = l.number
