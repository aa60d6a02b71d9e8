-- Which option of a variant a number of its tag chooses.
use Rattle.std.specs.Prelude.{ℕ, ℤ, List, Option, option_map, filter_map, position}
use Rattle.std.specs.List.{find}
use Rattle.std.specs.Str.{bytes_eq}
use Rattle.ctf_class.specs.declared.span.Choice.{Choice}
use Rattle.ctf_class.specs.declared.span.Label.{Label}
use Rattle.ctf_class.specs.Labels.{covers}

-- the option of a name
abbrev pub option_named : List (List ℕ) → List ℕ → Option ℕ
option_named names name = position (λ option. bytes_eq option name) names

-- the choice that a label makes: the option of its name, if there is one
abbrev pub choice_by : List (List ℕ) → Label → Option Choice
choice_by names label =
    option_map (λ option. record { span = label.span; option = option })
    (option_named names label.name)

-- the choices that labels make among options of these names
abbrev pub choices_by : List (List ℕ) → List Label → List Choice
choices_by names labels = filter_map (choice_by names) labels

-- the option of the first choice that covers a number
abbrev pub chosen : List Choice → ℤ → Option ℕ
chosen choices z =
    option_map (λ (choice : Choice). choice.option)
    (find (λ (choice : Choice). covers choice.span z) choices)
