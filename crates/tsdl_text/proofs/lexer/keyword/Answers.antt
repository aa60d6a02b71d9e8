use Rattle.tsdl_text.proofs.ScanLemmas.{keyword_of-empty}
use Rattle.tsdl_text.proofs.lexer.keyword.Goals as goal

pub returns-in_default : goal.returns-in_default
returns-in_default c = keyword_of-empty c.args.word.now c.in_default.len_below
