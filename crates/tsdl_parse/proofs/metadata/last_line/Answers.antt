use Rattle.tsdl_parse.proofs.Ends.{last_line_is}
use Rattle.tsdl_parse.proofs.metadata.last_line.Goals as goal

pub returns-in-len1-up : goal.returns-in-len1-up
returns-in-len1-up c = last_line_is c.args.tokens.now c.last-item.result c.in-len1-up.len_at_least c.last-item.is
