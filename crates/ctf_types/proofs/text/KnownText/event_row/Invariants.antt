use Rattle.ctf_types.proofs.text.KnownText.event_row.Given as goal

abbrev pub ghost-event : goal.ghost-event
ghost-event g a = g.text
