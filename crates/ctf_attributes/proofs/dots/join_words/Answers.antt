use Rattle.std.proofs.Common.{◌∙◌}
use Rattle.ctf_attributes.proofs.DottedLemmas.{joined-made}
use Rattle.ctf_attributes.proofs.dots.join_words.Goals as goal

pub returns : goal.returns
returns c = joined-made c.args.words.now c.first-item.result c.in_ok-text.text c.put_dotted.new.text c.in-len1-up.len_at_least c.first-item.is (c.in_ok-text.ensures ∙ c.as_slice.ensures) c.in_ok-put_dotted.ensures
