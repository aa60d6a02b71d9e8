use Rattle.ctf_types.proofs.text.KnownText.event.Given as goal

abbrev pub ghost-class : goal.ghost-class
ghost-class g a = g.text
