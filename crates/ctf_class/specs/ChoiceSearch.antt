-- How the choices of a variant are kept.
use Rattle.std.specs.Prelude.{List, take}
use Rattle.ctf_class.specs.declared.choices.KeptChoices.{KeptChoices}
use Rattle.ctf_class.specs.declared.choices.KeptChoices.TheVariants as kept
use Rattle.ctf_class.specs.declared.choices.Named.{Named}
use Rattle.ctf_class.specs.declared.span.Choice.{Choice}
use Rattle.ctf_class.specs.Choices.{choices_by}

-- those that labels make among the first of some names
abbrev pub choices_named : Named → List Choice
choices_named named = choices_by (take named.count named.names) named.labels

abbrev pub choices_kept : KeptChoices → List Choice
choices_kept (kept.Listed choices) = choices.list
choices_kept (kept.Named named) = choices_named named
