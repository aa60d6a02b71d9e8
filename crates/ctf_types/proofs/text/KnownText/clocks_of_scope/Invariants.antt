use Rattle.ctf_types.proofs.text.KnownText.clocks_of_scope.Given as goal

abbrev pub ghost-shape : goal.ghost-shape
ghost-shape g a = g.text

abbrev pub ghost-before : goal.ghost-before
ghost-before g a = g.text
