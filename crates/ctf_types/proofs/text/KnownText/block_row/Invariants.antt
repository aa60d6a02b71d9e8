use Rattle.ctf_types.proofs.text.KnownText.block_row.Given as goal

abbrev pub ghost-header : goal.ghost-header
ghost-header g a = g.text

abbrev pub ghost-head : goal.ghost-head
ghost-head g a = g.text

abbrev pub ghost-event_row : goal.ghost-event_row
ghost-event_row g a = g.text
