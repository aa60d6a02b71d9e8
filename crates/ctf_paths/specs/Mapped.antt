-- Mappings of integers to clocks.
use Rattle.std.specs.Prelude.{Bool, false, List, Option, is_none}
use Rattle.std.specs.Option.{option_map_or}
use Rattle.ctf_class.specs.declared.trace.Clock.{Clock}
use Rattle.ctf_meaning.specs.Name.{Word}
use Rattle.ctf_meaning.specs.Clocks.{clock_named}

-- the name of a clock, if there is one, is that of none of these
abbrev pub is_unknown : List Clock → Option Word → Bool
is_unknown clocks name = option_map_or (λ n. is_none (clock_named clocks n)) name false
