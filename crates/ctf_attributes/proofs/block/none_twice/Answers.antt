use Rattle.std.proofs.Common.{map, sym, ap, ◌∙◌}
use Rattle.ctf_meaning.specs.declared.fault.ResolveFault.TheVariants.{Attribute}
use Rattle.ctf_meaning.specs.Reading.{entry_of}
use Rattle.ctf_meaning.specs.Settings.{when}
use Rattle.ctf_meaning.specs.There.{first}
use Rattle.ctf_meaning.specs.Blocks.{stands_twice}
use Rattle.ctf_attributes.proofs.EntryLemmas.{name-first, name-clean}
use Rattle.ctf_attributes.proofs.block.none_twice.Goals as goal

pub returns-then-is_twice : goal.returns-then-is_twice
returns-then-is_twice c =
    record { told = name-first (λ name. when (stands_twice (map entry_of c.args.entries.now) name) Attribute) c.args.names.now c.loop-name.name-index _ Attribute c.loop-name-test.true c.loop-name.invariant (ap (λ b. first (when b Attribute)) (sym c.is_twice.ensures ∙ c.if-is_twice.true)) }

pub loop-name-preserved : goal.loop-name-preserved
loop-name-preserved c =
    name-clean (λ name. when (stands_twice (map entry_of c.args.entries.now) name) Attribute) c.args.names.now c.loop-name.name-index _ c.loop-name-test.true c.loop-name.invariant (ap (λ b. when b Attribute) (sym c.is_twice.ensures ∙ c.if-is_twice.false))
