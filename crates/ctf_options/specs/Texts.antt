-- The lines that are printed where words give no options (own).
use Rattle.std.specs.Prelude.{ℕ, List, ◌++◌, ◌∷◌, [], codes}
use Rattle.ctf_options.specs.declared.usage.Usage.{Usage}
use Rattle.ctf_options.specs.declared.usage.Usage.TheVariants.{Help, Bad, NoMemory}

abbrev newline : List ℕ
newline = 10 ∷ []

-- how the program is used, or why it is not run
abbrev pub usage_text : Usage → List ℕ
usage_text Help = codes "usage: bt-ctf [OPTIONS] DIR..." ++ newline
usage_text Bad = codes "ERROR: U1: bad arguments" ++ newline
usage_text NoMemory = codes "ERROR: O2: no memory" ++ newline
