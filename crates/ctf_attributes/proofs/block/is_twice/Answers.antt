use Rattle.std.proofs.Common.{nat_lt, ◌||◌, ap, ◌∙◌}
use Rattle.ctf_meaning.specs.Blocks.{is_value_of, is_class_of}
use Rattle.ctf_meaning.specs.Reading.{entry_of}
use Rattle.ctf_attributes.specs.EntryNames.{words_of}
use Rattle.ctf_attributes.proofs.EntryLemmas.{length-filter-map}
use Rattle.ctf_attributes.proofs.block.is_twice.Goals as goal

pub returns : goal.returns
returns c =
    let name = words_of c.args.name in
    ap (nat_lt 1) (c.count.ensures ∙ length-filter-map (λ e. is_value_of name e || is_class_of name e) entry_of c.args.entries.now)
