use Rattle.ctf_types.proofs.text.KnownText.head.Given as goal

abbrev pub ghost-class : goal.ghost-class
ghost-class g a = g.text

abbrev pub ghost-moved_clock : goal.ghost-moved_clock
ghost-moved_clock g a = g.text
