-- How names of a list are found.
use Rattle.std.specs.Prelude.{ℕ, List, ⊤}
use Rattle.ctf_class.specs.NameFirsts.{IsIndex}
use Rattle.ctf_class.specs.NameRanks.{AreAscending}
use Rattle.ctf_class.specs.Ranks.{HasRanks}
use Rattle.ctf_class.specs.declared.names.Places.{Places}
use Rattle.ctf_class.specs.declared.names.Places.TheVariants.{Few, Ranked, Sorted}

-- what is kept finds the names
abbrev pub FindsNames : List (List ℕ) → Places → Type 0
FindsNames names Few = ⊤
FindsNames names (Ranked order) = AreAscending names order × HasRanks names order
FindsNames names (Sorted firsts) = IsIndex names firsts
