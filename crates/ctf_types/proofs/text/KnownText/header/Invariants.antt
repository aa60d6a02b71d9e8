use Rattle.ctf_types.proofs.text.KnownText.header.Given as goal

abbrev pub ghost-class : goal.ghost-class
ghost-class g a = g.text
