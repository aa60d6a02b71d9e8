-- Choices whose numbers are one after the other.
use Rattle.std.specs.Prelude.{ℕ, pos, List, length, get_or}
use Rattle.ctf_class.specs.declared.span.Choice.{Choice}
use Rattle.ctf_class.specs.Spans.{AreInOrder}

-- a choice that covers no number
abbrev pub no_choice : Choice
no_choice = record { span = record { first = pos 1; last = pos 0 }; option = 0 }

-- the choice at a place
abbrev pub choice_at : List Choice → ℕ → Choice
choice_at choices place = get_or choices place no_choice

-- the numbers of choices are one after the other
abbrev pub ChoicesApart : List Choice → Type 0
ChoicesApart choices = AreInOrder (λ place. (choice_at choices place).span) (length choices)
