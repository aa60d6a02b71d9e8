use Rattle.ctf_types.proofs.text.KnownText.moved_clock.Given as goal

abbrev pub ghost-clocks_of_scope : goal.ghost-clocks_of_scope
ghost-clocks_of_scope g a = g.text
