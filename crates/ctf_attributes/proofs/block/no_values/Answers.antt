use Rattle.std.proofs.Common.{map, sym, ap, ◌∙◌}
use Rattle.std.specs.List.{list_any}
use Rattle.ctf_meaning.specs.declared.fault.ResolveFault.TheVariants.{Attribute}
use Rattle.ctf_meaning.specs.Reading.{entry_of}
use Rattle.ctf_meaning.specs.Settings.{when}
use Rattle.ctf_meaning.specs.There.{first}
use Rattle.ctf_meaning.specs.Blocks.{is_value_of}
use Rattle.ctf_attributes.proofs.EntryLemmas.{name-first, name-clean}
use Rattle.ctf_attributes.proofs.block.no_values.Goals as goal

pub returns-then-has_value : goal.returns-then-has_value
returns-then-has_value c =
    record { told = name-first (λ name. when (list_any (is_value_of name) (map entry_of c.args.entries.now)) Attribute) c.args.names.now c.loop-name.name-index _ Attribute c.loop-name-test.true c.loop-name.invariant (ap (λ b. first (when b Attribute)) (sym c.has_value.ensures ∙ c.if-has_value.true)) }

pub loop-name-preserved : goal.loop-name-preserved
loop-name-preserved c =
    name-clean (λ name. when (list_any (is_value_of name) (map entry_of c.args.entries.now)) Attribute) c.args.names.now c.loop-name.name-index _ c.loop-name-test.true c.loop-name.invariant (ap (λ b. when b Attribute) (sym c.has_value.ensures ∙ c.if-has_value.false))
