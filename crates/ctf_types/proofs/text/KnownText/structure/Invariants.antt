use Rattle.ctf_types.proofs.text.KnownText.structure.Given as goal

abbrev pub ghost-shape : goal.ghost-shape
ghost-shape g a = g.text
