use Rattle.ctf_types.proofs.text.KnownText.row.Given as goal

abbrev pub ghost-block_row : goal.ghost-block_row
ghost-block_row g a = g.text
